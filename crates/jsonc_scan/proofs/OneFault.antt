-- A lexeme is refused in one way.
use Rattle.std.proofs.Common.{ℕ, ◌≡◌, ◌∙◌, sym, ap, refl, Bool, true, false, not, List, [], ◌∷◌, Some, IsTrue, arith, ◌==◌, ◌||◌, ◌&&◌}
use Rattle.jsonc_text.specs.declared.errors.ParseErrorKind.{ParseErrorKind}
use Rattle.jsonc_text.specs.declared.errors.ParseErrorKind.TheVariants as kind
use Rattle.jsonc_text.specs.declared.errors.ParseStringErrorKind.{ParseStringErrorKind}
use Rattle.jsonc_text.specs.Gaps.{UpToBlockEnd}
use Rattle.jsonc_text.specs.Lexemes.{is_punctuation}
use Rattle.jsonc_text.specs.string.Faults as told
use Rattle.jsonc_text.specs.string.Faults.{StringFaultAt as TellsOfString}
use Rattle.jsonc_text.specs.Numbers.{Sign}
use Rattle.jsonc_text.specs.Options.{Options}
use Rattle.jsonc_text.specs.Strings.{IsQuote}
use Rattle.jsonc_text.specs.Text.{next, starts, is_digit}
use Rattle.jsonc_text.specs.Words.{begins_word}
use Rattle.jsonc_scan.specs.Laws.{HasOneFault}
use Rattle.jsonc_scan.specs.Faults as t
use Rattle.jsonc_scan.specs.Faults.{IsNext, IsName, LexemeFault, BarePoint, Mantissa, BreaksExponent, BreaksWord, GoesOnNoNumber, begins_digits, begins_other}
use Rattle.jsonc_text.proofs.Basics.{clash, heads, tails, no_both, starts_also, or_left, or_right, test_eq}
use Rattle.jsonc_text.proofs.UniqueGaps.{many_unique}
use Rattle.jsonc_text.proofs.Begins.{is_quote, begins_plain_number, quote_word, plain_number_word}
use Rattle.jsonc_text.proofs.lemmas.string.OneFault.{fault_unique}
use Rattle.jsonc_scan.proofs.NoLexemes.{slash_word}
use Rattle.jsonc_scan.proofs.OneNumberFault.{Same, NumberTells, after, never, false_of, number_tells_one, point_tells, exponent_tells, sign_tells, hex_digits_tells, hexadecimal_tells, name_tells}

-- what a refused lexeme begins as, by its first characters
pub data Group : Type 0 where
  comment : Group
  string : Group
  quote : Group
  plus : Group
  number : Group
  word : Group
  nothing : Group

abbrev pub group : (slash star opens quoted plus allowed digits word : Bool) → Group
group true true o q p a d w = comment
group true false o q p a d w = nothing
group false s true q p a d w = string
group false s false true p a d w = quote
group false s false false true true d w = number
group false s false false true false d w = plus
group false s false false false a true w = number
group false s false false false a false true = word
group false s false false false a false false = nothing

abbrev pub group_of : Options → List ℕ → Group
group_of o [] = nothing
group_of o (c ∷ s) =
    group (c == 0x2F) (starts (λ d. d == 0x2A) (next s)) (c == 0x22 || (c == 0x27 && o.single_quoted_strings)) (c == 0x27) (c == 0x2B) o.unary_plus_numbers (begins_digits (c ∷ s) || c == 0x2D) (begins_word c)

-- an error, by what it begins as
pub data Grouped (o : Options) (s : List ℕ) : Group → ParseErrorKind → List ℕ → List ℕ → Type 0 where
  of_comment : {r : List ℕ} → s ≡ 0x2F ∷ 0x2A ∷ r → ((u : List ℕ) → UpToBlockEnd r u → ⊥) → Grouped o s comment kind.UnterminatedCommentBlock s []
  of_string : {q : ℕ} {k : ParseStringErrorKind} {t r : List ℕ} → TellsOfString o.extended_escapes q k s t r → Grouped o s string (kind.String k) t r
  of_quote : {r : List ℕ} → s ≡ 0x27 ∷ r → Grouped o s quote kind.SingleQuotedStringsNotAllowed s r
  of_plus : {r : List ℕ} → s ≡ 0x2B ∷ r → Grouped o s plus kind.UnaryPlusNumbersNotAllowed s r
  of_number : {k : ParseErrorKind} {t r : List ℕ} → NumberTells o s k t r → Grouped o s number k t r
  of_word : {r : List ℕ} → BreaksWord o s r → Grouped o s word kind.UnexpectedToken s r
  of_nothing : {c : ℕ} {r : List ℕ} → s ≡ c ∷ r → IsTrue (not (begins_other (c ∷ r))) → Grouped o s nothing kind.UnexpectedToken s r

pub string_begins : {taken : Bool} {q : ℕ} {k : ParseStringErrorKind} {s t r : List ℕ} → TellsOfString taken q k s t r → (u : List ℕ) × (s ≡ q ∷ u)
string_begins (told.escape {s = u} p x) = (u, refl)
string_begins (told.unterminated {s = u} p x) = (u, refl)

strings_one : {taken : Bool} {p q : ℕ} {k l : ParseStringErrorKind} {s t u r v : List ℕ} → TellsOfString taken p k s t r → TellsOfString taken q l s u v → Same (kind.String k) (kind.String l) t u r v
strings_one {taken} {p} {q} {k} {l} {s} {t} {u} {r} {v} x y =
    let same : p ≡ q = heads (sym (string_begins x).1 ∙ (string_begins y).1) in
    let one = fault_unique taken p k l s t u r v x (rw same y) in
    (ap kind.String one.0, one.1, one.2)

grouped_one : {o : Options} {s : List ℕ} {g : Group} {k l : ParseErrorKind} {t u r v : List ℕ} → Grouped o s g k t r → Grouped o s g l u v → Same k l t u r v
grouped_one (of_comment e f) (of_comment g h) = (refl, refl, refl)
grouped_one (of_string x) (of_string y) = strings_one x y
grouped_one (of_quote e) (of_quote f) = (refl, refl, tails (sym e ∙ f))
grouped_one (of_plus e) (of_plus f) = (refl, refl, tails (sym e ∙ f))
grouped_one (of_number x) (of_number y) = number_tells_one x y
grouped_one (of_word x) (of_word y) = (refl, refl, many_unique x.goes_on y.goes_on x.all y.all)
grouped_one (of_nothing e h) (of_nothing f g) = (refl, refl, tails (sym e ∙ f))

-- the group of each
pub number_group : (c : ℕ) (o : Options) (s : List ℕ) → IsTrue (begins_digits (c ∷ s)) → group_of o (c ∷ s) ≡ number
number_group c o s h = go (c == 0x2F) (starts (λ d. d == 0x2A) (next s)) (c == 0x22 || (c == 0x27 && o.single_quoted_strings)) (c == 0x27) (c == 0x2B) o.unary_plus_numbers (begins_digits (c ∷ s) || c == 0x2D) (begins_word c) (false_of _ (no_slash c s h)) (false_of _ (no_open c o.single_quoted_strings s h)) (false_of _ (no_quote c s h)) (false_of _ (no_plus c s h)) (or_left (begins_digits (c ∷ s)) (c == 0x2D) h)
  where
    go : (a b c d e f g h : Bool) → a ≡ false → c ≡ false → d ≡ false → e ≡ false → IsTrue g → group a b c d e f g h ≡ number
    go a b c d e f g h p q r s t = rw (p, q, r, s, t) refl

    no_slash : (c : ℕ) (s : List ℕ) → IsTrue (begins_digits (c ∷ s)) → IsTrue (c == 0x2F) → ⊥
    no_slash c s h e = grind arith

    no_open : (c : ℕ) (b : Bool) (s : List ℕ) → IsTrue (begins_digits (c ∷ s)) → IsTrue (c == 0x22 || (c == 0x27 && b)) → ⊥
    no_open c true s h e = grind arith
    no_open c false s h e = grind arith

    no_quote : (c : ℕ) (s : List ℕ) → IsTrue (begins_digits (c ∷ s)) → IsTrue (c == 0x27) → ⊥
    no_quote c s h e = grind arith

    no_plus : (c : ℕ) (s : List ℕ) → IsTrue (begins_digits (c ∷ s)) → IsTrue (c == 0x2B) → ⊥
    no_plus c s h e = grind arith

pub signed_group : {o : Options} {b : Bool} {s m : List ℕ} → Sign o b s m → (b ≡ false → IsTrue (begins_digits m)) → group_of o s ≡ number
signed_group {o = o} (Sign.none {r = []}) f = absurd (never (f refl))
signed_group {o = o} (Sign.none {r = c ∷ m}) f = number_group c o m (f refl)
signed_group Sign.minus f = refl
signed_group (Sign.plus p) f = rw p refl

pub string_group : (o : Options) (q : ℕ) (s : List ℕ) → IsQuote o q → group_of o (q ∷ s) ≡ string
string_group o q s h = go (q == 0x2F) (starts (λ d. d == 0x2A) (next s)) (q == 0x22 || (q == 0x27 && o.single_quoted_strings)) (q == 0x27) (q == 0x2B) o.unary_plus_numbers (begins_digits (q ∷ s) || q == 0x2D) (begins_word q) (false_of _ (no_slash q o.single_quoted_strings h)) h
  where
    go : (a b c d e f g h : Bool) → a ≡ false → IsTrue c → group a b c d e f g h ≡ string
    go a b c d e f g h p q = rw (p, q) refl

    no_slash : (q : ℕ) (b : Bool) → IsTrue (q == 0x22 || (q == 0x27 && b)) → IsTrue (q == 0x2F) → ⊥
    no_slash q true h e = grind arith
    no_slash q false h e = grind arith

pub word_group : (o : Options) (c : ℕ) (s : List ℕ) → IsTrue (begins_word c) → group_of o (c ∷ s) ≡ word
unfolding begins_plain_number
word_group o c s h = go (c == 0x2F) (starts (λ d. d == 0x2A) (next s)) (c == 0x22 || (c == 0x27 && o.single_quoted_strings)) (c == 0x27) (c == 0x2B) o.unary_plus_numbers (begins_digits (c ∷ s) || c == 0x2D) (begins_word c) (false_of _ no_slash) (false_of _ (λ e. word_no_quote (open_quote c o.single_quoted_strings e))) (false_of _ (λ e. word_no_quote (single_quote c e))) (false_of _ (λ e. word_no_number (plain_plus c e))) (false_of _ (λ e. word_no_number (plain_digits c s e))) h
  where
    go : (a b c d e f g h : Bool) → a ≡ false → c ≡ false → d ≡ false → e ≡ false → g ≡ false → IsTrue h → group a b c d e f g h ≡ word
    go a b c d e f g h p q r s t u = rw (p, q, r, s, t, u) refl

    no_slash : IsTrue (c == 0x2F) → ⊥
    no_slash e = clash (begins_word 0x2F) slash_word (rw (test_eq c 0x2F e) at h)

    word_no_quote : IsTrue (is_quote c) → ⊥
    word_no_quote e = no_both is_quote begins_word quote_word (Some c) e h

    word_no_number : IsTrue (begins_plain_number c) → ⊥
    word_no_number e = no_both begins_plain_number begins_word plain_number_word (Some c) e h

    open_quote : (c : ℕ) (b : Bool) → IsTrue (c == 0x22 || (c == 0x27 && b)) → IsTrue (is_quote c)
    open_quote c true e = grind arith
    open_quote c false e = grind arith

    single_quote : (c : ℕ) → IsTrue (c == 0x27) → IsTrue (is_quote c)
    single_quote c e = grind arith

    plain_plus : (c : ℕ) → IsTrue (c == 0x2B) → IsTrue (begins_plain_number c)
    plain_plus c e = grind arith

    plain_digits : (c : ℕ) (s : List ℕ) → IsTrue (begins_digits (c ∷ s) || c == 0x2D) → IsTrue (begins_plain_number c)
    plain_digits c s e = grind arith

nothing_group : (o : Options) (c : ℕ) (s : List ℕ) → IsTrue (not (begins_word c)) → IsTrue (not (begins_other (c ∷ s))) → group_of o (c ∷ s) ≡ nothing
nothing_group o c s w h = go (c == 0x2F) (starts (λ d. d == 0x2A) (next s)) (starts (λ d. d == 0x2F || d == 0x2A) (next s)) (is_punctuation c) (c == 0x22) (c == 0x27) o.single_quoted_strings (c == 0x2B) (c == 0x2D) (is_digit c) (c == 0x2E && starts is_digit (next s)) o.unary_plus_numbers (begins_word c) (λ e. starts_also (λ d. d == 0x2A) (λ d. d == 0x2F || d == 0x2A) (λ d g. or_right (d == 0x2F) (d == 0x2A) g) (next s) e) w h
  where
    go : (slash star any p x y one sum dash d e f w : Bool) → (IsTrue star → IsTrue any) → IsTrue (not w) → IsTrue (not (p || x || y || (d || sum || dash || e) || (slash && any))) → group slash star (x || (y && one)) y sum f ((d || e) || dash) w ≡ nothing
    go slash star any true x y one sum dash d e f w a b h = cc
    go slash star any false true y one sum dash d e f w a b h = cc
    go slash star any false false true one sum dash d e f w a b h = cc
    go slash star any false false false one sum dash true e f w a b h = cc
    go slash star any false false false one true dash false e f w a b h = cc
    go slash star any false false false one false true false e f w a b h = cc
    go slash star any false false false one false false false true f w a b h = cc
    go slash star any false false false one false false false false f true a b h = cc
    go true true true false false false one false false false false f false a b h = cc
    go true true false false false false one false false false false f false a b h = absurd (never (a refl))
    go true false any false false false one false false false false f false a b h = refl
    go false star any false false false one false false false false f false a b h = refl

by_number : {o : Options} {k : ParseErrorKind} {s t r : List ℕ} → NumberTells o s k t r → Grouped o s (group_of o s) k t r
by_number (after a f x) = rw (signed_group a f) (of_number (after a f x))

by_word : (o : Options) (s : List ℕ) {r : List ℕ} → BreaksWord o s r → Grouped o s (group_of o s) kind.UnexpectedToken s r
by_word o [] b = absurd (never b.begins)
by_word o (c ∷ s) b = rw (word_group o c s b.begins) (of_word b)

by_string : {o : Options} {q : ℕ} {k : ParseStringErrorKind} {s t r : List ℕ} → (u : List ℕ) × (s ≡ q ∷ u) → IsQuote o q → TellsOfString o.extended_escapes q k s t r → Grouped o s (group_of o s) (kind.String k) t r
by_string {o = o} {q = q} {s = s} (u, e) a x =
    let string_here : group_of o s ≡ string = ap (group_of o) e ∙ string_group o q u a in
    rw string_here (of_string x)

pub grouped : {o : Options} {k : ParseErrorKind} {s t r : List ℕ} → LexemeFault o k s t r → Grouped o s (group_of o s) k t r
grouped (t.bare_point f b) = by_number (point_tells f b)
grouped (t.lone_sign s g n) = by_number (sign_tells s g n)
grouped (t.hex_digits a s h n c) = by_number (hex_digits_tells a s h n c)
grouped (t.exponent s m b n) = by_number (exponent_tells s m b n)
grouped (t.hexadecimal f s h) = by_number (hexadecimal_tells f s h)
grouped (t.non_finite f s n) = by_number (name_tells f s n)
grouped (t.unary_plus f) = rw f (of_plus refl)
grouped (t.single_quote f) = rw f (of_quote refl)
grouped {o = o} (t.broken_word {t = s} b) = by_word o s b
grouped {o = o} (t.lone_character {c = c} {r = r} b w h) = rw (nothing_group o c r w h) (of_nothing refl h)
grouped (t.open_block f) = of_comment refl f
grouped (t.string_fault a x) = by_string (string_begins x) a x

pub one_fault : (o : Options) (s : List ℕ) → HasOneFault o s
one_fault o s k l t u r v x y = grouped_one (grouped x) (grouped y)
