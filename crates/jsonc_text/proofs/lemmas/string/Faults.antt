-- Faults of strings, and the text that they are told of.
use Rattle.std.proofs.Common.{ℕ, ◌+◌, ◌≡◌, ◌≢◌, ◌∙◌, sym, ap, refl, List, [], ◌∷◌, ◌==◌, ◌&&◌, ◌||◌, IsTrue, Bool, true, false, not, IsUtf8, arith, ◌⊎◌, inl, inr, nat_lt, ◌++◌, chars, slice_range, Option, None, Some}
use Rattle.jsonc_text.specs.declared.string.escape.StringFault.{StringFault}
use Rattle.jsonc_text.specs.declared.errors.ParseStringErrorKind.{ParseStringErrorKind}
use Rattle.jsonc_text.specs.declared.errors.ParseStringErrorKind.TheVariants as kind
use Rattle.jsonc_text.specs.declared.errors.SurrogateFault.TheVariants as surrogate
use Rattle.jsonc_text.specs.Options.{all_on}
use Rattle.jsonc_text.specs.Text.{rest, next, no, starts, is_digit, is_hex_digit, Many}
use Rattle.jsonc_text.specs.Chars.{Steps}
use Rattle.jsonc_text.specs.Strings.{Meaning, meaning, refused, AreHex4, hex4, is_high_surrogate, is_low_surrogate, IsQuote}
use Rattle.jsonc_text.proofs.Basics.{or_cases, and_both, test_eq, eq_test}
use Rattle.jsonc_text.specs.string.Between.{LacksAt, Reaches, is_neither}
use Rattle.jsonc_text.specs.string.Escapes.{is_plain}
use Rattle.jsonc_text.specs.string.Faults.{past, FewDigits, missing, digit, Writes, writes, LacksFour, of_one, of_second, LacksTwo, of_byte, LacksUnit, no_backslash, no_u, unknown, decimal, octal, EscapeFaultAt, Ends, at_once, within, within_longer, escape, unterminated, IsStringFault, ReadTo, IsEscapeFault, IsStringFaultAnyhow}
use Rattle.jsonc_text.proofs.lemmas.string.Escapes.{leads, two, five, not_taken}
use Rattle.jsonc_text.proofs.lemmas.string.Decoding.{Decoding, decoded_run, plain_run, run_ends}

-- a hex digit is missing at a place, at once or after others
pub few_at : (n : ℕ) (bytes : List ℕ) (i : ℕ) → LacksAt is_hex_digit bytes i → FewDigits (n + 1) (rest bytes i) (past (rest bytes i))
few_at n bytes i l = missing (omega arith) (l, refl)

pub few_after : (n : ℕ) (bytes : List ℕ) (i j c : ℕ) {r : List ℕ} → Steps bytes i c (i + 1) → i + 1 ≡ j → IsTrue (is_hex_digit c) → FewDigits n (rest bytes j) r → FewDigits (n + 1) (rest bytes i) r
few_after n bytes i j c s e h f = rw (leads bytes i c (i + 1) j s e).0 (digit refl h f)

-- a unit with a number of this kind
pub writes_such : (p : ℕ → Bool) (v : ℕ) {ds t r : List ℕ} → IsTrue (p v) → Writes (λ n. n == v) ds t r → Writes p ds t r
writes_such p v h (writes {a = a} {b = b} {c = c} {d = d} k e) = writes k (let same : hex4 a b c d ≡ v = test_eq (hex4 a b c d) v e in rw same h)

-- a unit as it is written
pub written : (bytes : List ℕ) (i n a b c d : ℕ) → Steps bytes i 0x5C (i + 1) → Steps bytes (i + 1) 0x75 (i + 2) → Steps bytes (i + 2) a (i + 2 + 1) → Steps bytes (i + 3) b (i + 3 + 1) → Steps bytes (i + 4) c (i + 4 + 1) → Steps bytes (i + 5) d (i + 5 + 1)
    → IsTrue (is_hex_digit a) → IsTrue (is_hex_digit b) → IsTrue (is_hex_digit c) → IsTrue (is_hex_digit d) → n ≡ hex4 a b c d → Writes (λ m. m == n) (a ∷ b ∷ c ∷ d ∷ []) (rest bytes i) (rest bytes (i + 6))
written bytes i n a b c d s u sa sb sc sd ha hb hc hd e =
    let all : AreHex4 a b c d = rw (ha, hb, hc) hd in
    let text : rest bytes i ≡ 0x5C ∷ 0x75 ∷ a ∷ b ∷ c ∷ d ∷ rest bytes (i + 6) = rw (five bytes i 0x5C 0x75 a b c s u sa sb sc, (leads bytes (i + 5) d (i + 5 + 1) (i + 6) sd (omega arith)).0) refl in
    rw text (writes all (eq_test (hex4 a b c d) n (sym e)))

-- what follows a character
pub past_step : (bytes : List ℕ) (i c j : ℕ) → Steps bytes i c (i + 1) → i + 1 ≡ j → past (rest bytes i) ≡ rest bytes j
past_step bytes i c j s e = ap past (leads bytes i c (i + 1) j s e).0

-- the end of the character at a place, or the place itself at the end
pub past_end : (bytes : List ℕ) (i j : ℕ) → (rest bytes i ≡ [] → j ≡ i) → ((c : ℕ) (r : List ℕ) → rest bytes i ≡ c ∷ r → Steps bytes i c j) → rest bytes j ≡ past (rest bytes i)
past_end bytes i j none some = go (rest bytes i) refl
  where
    go : (t : List ℕ) → rest bytes i ≡ t → rest bytes j ≡ past (rest bytes i)
    go [] e = let same : j ≡ i = none e in rw (same, e) refl
    go (c ∷ t) e = rw (some c t e).0 refl

-- a fault whose parts are known
pub told_escape : (taken : Bool) (q : ℕ) (bytes : List ℕ) (i : ℕ) (fault : StringFault) (k : ParseStringErrorKind) (r : List ℕ) → fault.range.start ≡ i → rest bytes fault.range.end ≡ r → fault.kind ≡ k → EscapeFaultAt taken q k (rest bytes i) r → IsEscapeFault taken q bytes i fault
told_escape taken q bytes i fault k r s e f h = record { start = s; tells = rw (e, f) h }

-- an escape's fault is the string's
pub told_after : (taken : Bool) (q : ℕ) (bytes : List ℕ) (start i : ℕ) (fault : StringFault) → IsEscapeFault taken q bytes i fault → ReadTo taken q bytes start i → IsStringFault taken q bytes start fault
told_after taken q bytes start i fault t (s, v, a, e, p) memory = rw (e, t.start) (escape p t.tells)

pub told_end : (taken : Bool) (q : ℕ) (bytes : List ℕ) (start i : ℕ) (fault : StringFault) → fault.range.start ≡ start → rest bytes fault.range.end ≡ [] → fault.kind ≡ kind.UnterminatedStringLiteral → Ends taken (rest bytes i) → ReadTo taken q bytes start i → IsStringFault taken q bytes start fault
told_end taken q bytes start i fault s e k h (t, v, a, f, p) memory = rw (s, e, k, f) (unterminated p h)

-- `\u` and `\x` without all of their digits
pub lacks_four : (bytes : List ℕ) (i : ℕ) {r : List ℕ} → Steps bytes i 0x5C (i + 1) → Steps bytes (i + 1) 0x75 (i + 2) → FewDigits 4 (rest bytes (i + 2)) r → LacksFour (rest bytes i) r
lacks_four bytes i s u f = rw (two bytes i 0x5C 0x75 s u) (of_one f)

pub lacks_second : (bytes : List ℕ) (i j k m v : ℕ) {ds r : List ℕ} → IsTrue (is_high_surrogate v) → Writes (λ n. n == v) ds (rest bytes i) (rest bytes j) → Steps bytes j 0x5C (j + 1) → j + 1 ≡ k → Steps bytes k 0x75 (k + 1) → k + 1 ≡ m → FewDigits 4 (rest bytes m) r → LacksFour (rest bytes i) r
lacks_second bytes i j k m v h w s e u f g =
    let marks : rest bytes j ≡ 0x5C ∷ 0x75 ∷ rest bytes m = (leads bytes j 0x5C (j + 1) k s e).0 ∙ ap (λ t. 0x5C ∷ t) (leads bytes k 0x75 (k + 1) m u f).0 in
    of_second (rw marks at (writes_such is_high_surrogate v h w)) g

pub lacks_two : (bytes : List ℕ) (i : ℕ) {r : List ℕ} → Steps bytes i 0x5C (i + 1) → Steps bytes (i + 1) 0x78 (i + 2) → FewDigits 2 (rest bytes (i + 2)) r → LacksTwo true (rest bytes i) r
lacks_two bytes i s u f = rw (two bytes i 0x5C 0x78 s u) (of_byte refl f)

pub told_two : (q : ℕ) (bytes : List ℕ) (i stop : ℕ) (fault : StringFault) → fault.range.start ≡ i → rest bytes fault.range.end ≡ past (rest bytes stop) → fault.kind ≡ kind.ExpectedTwoHexDigits → Steps bytes i 0x5C (i + 1) → Steps bytes (i + 1) 0x78 (i + 2) → FewDigits 2 (rest bytes (i + 2)) (past (rest bytes stop)) → IsEscapeFault true q bytes i fault
told_two q bytes i stop fault a b k s u f = told_escape true q bytes i fault kind.ExpectedTwoHexDigits (past (rest bytes stop)) a b k (lacks_two bytes i s u f)

pub told_four : (bytes : List ℕ) (i stop : ℕ) (fault : StringFault) → fault.range.start ≡ i → rest bytes fault.range.end ≡ past (rest bytes stop) → fault.kind ≡ kind.ExpectedFourHexDigits → LacksFour (rest bytes i) (past (rest bytes stop)) → IsStringFaultAnyhow bytes i fault
told_four bytes i stop fault a b k f taken q = told_escape taken q bytes i fault kind.ExpectedFourHexDigits (past (rest bytes stop)) a b k f

-- a surrogate without its other half
pub told_low : (bytes ds : List ℕ) (i v : ℕ) (fault : StringFault) → fault.range.start ≡ i → rest bytes fault.range.end ≡ past (rest bytes (i + 5)) → past (rest bytes (i + 5)) ≡ rest bytes (i + 6) → fault.kind ≡ kind.InvalidUnicodeEscapeSequence ds surrogate.UnpairedLowSurrogate
    → Writes (λ n. n == v) ds (rest bytes i) (rest bytes (i + 6)) → IsTrue (is_low_surrogate v) → IsStringFaultAnyhow bytes i fault
told_low bytes ds i v fault a b e k w h taken q = told_escape taken q bytes i fault (kind.InvalidUnicodeEscapeSequence ds surrogate.UnpairedLowSurrogate) (rest bytes (i + 6)) a (b ∙ e) k (writes_such is_low_surrogate v h w)

pub told_high : (bytes ds : List ℕ) (i j stop v : ℕ) (fault : StringFault) → fault.range.start ≡ i → rest bytes fault.range.end ≡ past (rest bytes stop) → fault.kind ≡ kind.InvalidUnicodeEscapeSequence ds surrogate.UnpairedHighSurrogate
    → Writes (λ n. n == v) ds (rest bytes i) (rest bytes j) → IsTrue (is_high_surrogate v) → LacksUnit (rest bytes j) (past (rest bytes stop)) → IsStringFaultAnyhow bytes i fault
told_high bytes ds i j stop v fault a b k w h l taken q =
    told_escape taken q bytes i fault (kind.InvalidUnicodeEscapeSequence ds surrogate.UnpairedHighSurrogate) (past (rest bytes stop)) a b k (rest bytes j, writes_such is_high_surrogate v h w, l)

pub lacks_backslash : (bytes : List ℕ) (j : ℕ) → LacksAt (λ c. c == 0x5C) bytes j → LacksUnit (rest bytes j) (past (rest bytes j))
lacks_backslash bytes j l = no_backslash (l, refl)

pub lacks_u : (bytes : List ℕ) (j k : ℕ) → Steps bytes j 0x5C (j + 1) → j + 1 ≡ k → LacksAt (λ c. c == 0x75) bytes k → LacksUnit (rest bytes j) (past (rest bytes k))
lacks_u bytes j k s e l = rw (leads bytes j 0x5C (j + 1) k s e).0 (no_u (l, refl))

not_low : (n : ℕ) → IsTrue (nat_lt n 0xDC00 || nat_lt 0xDFFF n) → IsTrue (not (is_low_surrogate n))
not_low n h = grind arith

pub told_other : (bytes ds es : List ℕ) (i j k l stop v w : ℕ) (fault : StringFault) → fault.range.start ≡ i → rest bytes fault.range.end ≡ past (rest bytes stop) → fault.kind ≡ kind.InvalidUnicodeEscapeSequence ds surrogate.HighSurrogateNotFollowedByLowSurrogate
    → Writes (λ n. n == v) ds (rest bytes i) (rest bytes j) → IsTrue (is_high_surrogate v) → Writes (λ n. n == w) es (rest bytes j) (rest bytes k) → IsTrue (nat_lt w 0xDC00 || nat_lt 0xDFFF w) → past (rest bytes l) ≡ rest bytes k → l ≡ stop → IsStringFaultAnyhow bytes i fault
told_other bytes ds es i j k l stop v w fault a b f x h y m e g taken q =
    let end : past (rest bytes stop) ≡ rest bytes k = rw g at e in
    told_escape taken q bytes i fault (kind.InvalidUnicodeEscapeSequence ds surrogate.HighSurrogateNotFollowedByLowSurrogate) (rest bytes k) a (b ∙ end) f (rest bytes j, es, writes_such is_high_surrogate v h x, writes_such (λ n. not (is_low_surrogate n)) w (not_low w m) y)

-- `\0` before a digit
pub told_octal : (q : ℕ) (bytes : List ℕ) (i c j : ℕ) (fault : StringFault) → fault.range.start ≡ i → rest bytes fault.range.end ≡ past (rest bytes (i + 1)) → fault.kind ≡ kind.InvalidEscape → Steps bytes i 0x5C (i + 1) → Steps bytes (i + 1) 0x30 (i + 2) → Steps bytes (i + 2) c j → is_digit c ≡ true → IsEscapeFault true q bytes i fault
told_octal q bytes i c j fault a b k s u t h =
    let follows : IsTrue (starts is_digit (next (rest bytes (i + 2)))) = rw t.0 h in
    let stands : EscapeFaultAt true q kind.InvalidEscape (rest bytes i) (rest bytes (i + 2)) = rw (two bytes i 0x5C 0x30 s u) (octal refl follows) in
    told_escape true q bytes i fault kind.InvalidEscape (rest bytes (i + 2)) a (b ∙ ap past u.0) k stands

-- where the text ends within an escape
pub ends_within : (taken : Bool) (bytes : List ℕ) (i : ℕ) → Steps bytes i 0x5C (i + 1) → rest bytes (i + 1) ≡ [] → Ends taken (rest bytes i)
ends_within taken bytes i s e = rw (s.0, e) within

pub ends_longer : (bytes : List ℕ) (i c : ℕ) → IsTrue (c == 0x30 || c == 0x0D) → Steps bytes i 0x5C (i + 1) → Steps bytes (i + 1) c (i + 2) → rest bytes (i + 2) ≡ [] → Ends true (rest bytes i)
ends_longer bytes i c h s u e = rw (two bytes i 0x5C c s u, e) (within_longer refl h)

-- a digit that is no escape
pub told_decimal : (taken : Bool) (q : ℕ) (bytes : List ℕ) (i c j : ℕ) (fault : StringFault) → fault.range.start ≡ i → rest bytes fault.range.end ≡ past (rest bytes (i + 1)) → fault.kind ≡ kind.InvalidEscape → IsTrue taken → refused ≡ meaning q c → Steps bytes i 0x5C (i + 1) → Steps bytes (i + 1) c j → IsEscapeFault taken q bytes i fault
told_decimal taken q bytes i c j fault a b k h e s u =
    let stands : EscapeFaultAt taken q kind.InvalidEscape (rest bytes i) (rest bytes j) = rw (s.0, u.0) (decimal h (sym e)) in
    told_escape taken q bytes i fault kind.InvalidEscape (rest bytes j) a (b ∙ ap past u.0) k stands

-- an escape that is not taken
quote_cases : (q : ℕ) → IsQuote all_on q → (q ≡ 0x22) ⊎ (q ≡ 0x27)
quote_cases q h = go (or_cases (q == 0x22) (q == 0x27 && true) h)
  where
    go : IsTrue (q == 0x22) ⊎ IsTrue (q == 0x27 && true) → (q ≡ 0x22) ⊎ (q ≡ 0x27)
    go (inl x) = inl (test_eq q 0x22 x)
    go (inr x) = inr (test_eq q 0x27 (and_both (q == 0x27) true x).0)

-- the other quote, where the escape of the quote that encloses is taken
other_quote : (q c d : ℕ) → (q ≡ c) ⊎ (q ≡ d) → (q ≡ c → is_plain (meaning q c) ≡ true) → is_plain (meaning q c) ≡ false → q ≡ d
other_quote q c d (inl e) f h = absurd (let both : true ≡ false = sym (f e) ∙ h in cc)
other_quote q c d (inr e) f h = e

swap : {A B : Type 0} → A ⊎ B → B ⊎ A
swap (inl x) = inr x
swap (inr x) = inl x

abbrev KindOf : ℕ → ParseStringErrorKind → Type 0
KindOf c k = (c ≡ 0x22 → k ≡ kind.InvalidEscapeInSingleQuoteString) × (c ≡ 0x27 → k ≡ kind.InvalidEscapeInDoubleQuoteString) × (c ≢ 0x22 → c ≢ 0x27 → k ≡ kind.InvalidEscape)

is_no : (b : Bool) → b ≡ false → IsTrue (not b)
is_no true h = cc
is_no false h = refl

tells_not_taken : (taken : Bool) (q c : ℕ) (k : ParseStringErrorKind) (r : List ℕ) → IsQuote all_on q → taken ≡ false → is_plain (meaning q c) ≡ false → KindOf c k → EscapeFaultAt taken q k (0x5C ∷ c ∷ r) r
tells_not_taken taken q c k r quote n p (double, single, other) = go (c == 0x22) (c == 0x27) refl refl
  where
    go : (x y : Bool) → (c == 0x22) ≡ x → (c == 0x27) ≡ y → EscapeFaultAt taken q k (0x5C ∷ c ∷ r) r
    go true y e f =
        let same : c ≡ 0x22 = test_eq c 0x22 e in
        let stands : q ≡ 0x27 = other_quote q 0x22 0x27 (quote_cases q quote) (λ g. rw g refl) (rw same at p) in
        rw (double same, same) (is_no taken n, stands, refl)
    go false true e f =
        let same : c ≡ 0x27 = test_eq c 0x27 f in
        let stands : q ≡ 0x22 = other_quote q 0x27 0x22 (swap (quote_cases q quote)) (λ g. rw g refl) (rw same at p) in
        rw (single same, same) (is_no taken n, stands, refl)
    go false false e f =
        let neither : IsTrue (not (c == 0x22 || c == 0x27)) = rw (e, f) refl in
        let last : k ≡ kind.InvalidEscape = other (λ g. let h = eq_test c 0x22 g in cc) (λ g. let h = eq_test c 0x27 g in cc) in
        rw last (unknown (is_no taken n) (is_no (is_plain (meaning q c)) p) neither)

pub told_not_taken : (taken : Bool) (q : ℕ) (bytes : List ℕ) (start i c j : ℕ) (m : Meaning) (fault : StringFault) (k : ParseStringErrorKind) → fault.range.start ≡ i → rest bytes fault.range.end ≡ past (rest bytes (i + 1)) → fault.kind ≡ k → (is_plain m || taken) ≡ false → m ≡ meaning q c → KindOf c k
    → Steps bytes i 0x5C (i + 1) → Steps bytes (i + 1) c j → ReadTo taken q bytes start i → IsStringFault taken q bytes start fault
told_not_taken taken q bytes start i c j m fault k a b f h e kinds s u read =
    let both = not_taken (is_plain m) taken h in
    let stands : EscapeFaultAt taken q k (rest bytes i) (rest bytes j) = rw (s.0, u.0) (tells_not_taken taken q c k (rest bytes j) read.2 both.1 (ap is_plain (sym e) ∙ both.0) kinds) in
    told_after taken q bytes start i fault (told_escape taken q bytes i fault k (rest bytes j) a (b ∙ ap past u.0) f stands) read

-- extended escapes, where they are taken
pub told_taken : (taken : Bool) (q : ℕ) (bytes : List ℕ) (start i : ℕ) (fault : StringFault) → IsTrue taken → IsEscapeFault true q bytes i fault → ReadTo taken q bytes start i → IsStringFault taken q bytes start fault
told_taken true q bytes start i fault h t read = told_after true q bytes start i fault t read
told_taken false q bytes start i fault h t read = cc

pub end_taken : (taken : Bool) (q : ℕ) (bytes : List ℕ) (start i : ℕ) (fault : StringFault) → IsTrue taken → (ReadTo true q bytes start i → IsStringFault true q bytes start fault) → ReadTo taken q bytes start i → IsStringFault taken q bytes start fault
end_taken true q bytes start i fault h f read = f read
end_taken false q bytes start i fault h f read = cc

-- what was read of a string, as a run of other characters or as a copy
pub read_run : (taken : Bool) (q : ℕ) (bytes : List ℕ) (start place : ℕ) → IsQuote all_on q → Steps bytes start q (start + 1) → Reaches (Many (is_neither q 0x5C)) bytes (start + 1) place → ReadTo taken q bytes start place
read_run taken q bytes start place quote s run = let part = plain_run taken q bytes (start + 1) place run in (rest bytes (start + 1), part.0, quote, s.0, part.1)

pub read_decoding : (taken : Bool) (q : ℕ) (bytes copy : List ℕ) (start from place : ℕ) → IsUtf8 bytes → IsQuote all_on q → Steps bytes start q (start + 1) → Decoding taken q bytes (start + 1) from place copy → ReadTo taken q bytes start place
read_decoding taken q bytes copy start from place u quote s d =
    (rest bytes (start + 1), chars copy ++ chars (slice_range bytes from place), quote, s.0, decoded_run taken q bytes copy (slice_range bytes from place) (start + 1) from place u d refl)

-- a string that no quote closes
pub told_unclosed : (taken : Bool) (q : ℕ) (bytes : List ℕ) (start place : ℕ) (fault : StringFault) → fault.range.start ≡ start → rest bytes fault.range.end ≡ [] → fault.kind ≡ kind.UnterminatedStringLiteral → ReadTo taken q bytes start place
    → LacksAt (is_neither q 0x5C) bytes place → LacksAt (λ c. c == q) bytes place → LacksAt (λ c. c == 0x5C) bytes place → IsStringFault taken q bytes start fault
told_unclosed taken q bytes start place fault a b k read stops lacks none =
    let ends : Ends taken (rest bytes place) = rw (run_ends q (rest bytes place) stops lacks none) at_once in
    told_end taken q bytes start place fault a b k ends read

-- the two quotes, where both are allowed
pub no_either : (n : Option ℕ) → IsTrue (no (λ c. c == 0x22 || (c == 0x27 && true)) n) → IsTrue (no (λ c. c == 0x22 || c == 0x27) n)
no_either None h = refl
no_either (Some c) h = go (c == 0x22) (c == 0x27) h
  where
    go : (x y : Bool) → IsTrue (not (x || (y && true))) → IsTrue (not (x || y))
    go true y h = h
    go false true h = h
    go false false h = h
