-- What each fault of a word, a comment, a quote and a string says is true.
use Rattle.std.proofs.Common.{ℕ, ◌+◌, ◌≡◌, ◌∙◌, ap, refl, Bool, true, false, not, List, [], ◌∷◌, length, IsTrue, arith, ◌==◌, ◌||◌, ◌&&◌, IsUtf8, IsCharBoundary}
use Rattle.jsonc_text.specs.declared.errors.ParseError.{ParseError}
use Rattle.jsonc_text.specs.declared.errors.ParseErrorKind.TheVariants as kind
use Rattle.jsonc_text.specs.Chars.{Steps}
use Rattle.jsonc_text.specs.Faults.{kind_of}
use Rattle.jsonc_text.specs.Gaps.{is_blank, UpToBlockEnd}
use Rattle.jsonc_text.specs.Options.{Options}
use Rattle.jsonc_text.specs.Text.{rest, next, starts, Many, step, is_digit}
use Rattle.jsonc_text.specs.Words.{begins_word, is_in_word, EndsWord}
use Rattle.jsonc_text.specs.Strings.{IsQuote}
use Rattle.jsonc_text.specs.declared.string.escape.StringFault.{StringFault}
use Rattle.jsonc_text.specs.string.Faults.{StringFaultAt as TellsOfString}
use Rattle.jsonc_text.specs.string.Between.{LacksAt, NoneFrom}
use Rattle.jsonc_text.specs.string.Quotes.{OpensNoString}
use Rattle.jsonc_text.specs.Lexemes.{is_punctuation}
use Rattle.jsonc_scan.specs.Reads.{begins_number, NoName}
use Rattle.jsonc_scan.specs.Refusals.{IsFaultError, IsFaultOfNext, IsFaultOfStringToken, BeginsNoOther}
use Rattle.jsonc_scan.specs.Faults as t
use Rattle.jsonc_scan.specs.Faults.{IsNext, LexemeFault, IsTrueOf, BreaksWord, begins_other}
use Rattle.jsonc_text.proofs.Basics.{or_left}
use Rattle.jsonc_text.proofs.Cuts.{end_place}
use Rattle.jsonc_text.proofs.CharacterSteps.{rest_end}
use Rattle.jsonc_scan.proofs.NoLexemes.{slash_word, number_name}
use Rattle.jsonc_scan.proofs.NumberFaults.{told_from, told_next, next_of, no_either, not_starts}

not_number : (t : List ℕ) → IsTrue (not (begins_other t)) → begins_number t ≡ false
not_number [] h = refl
not_number (c ∷ t) h = go (is_punctuation c) (c == 0x22) (c == 0x27) (begins_number (c ∷ t)) (c == 0x2F && starts (λ d. d == 0x2F || d == 0x2A) (next t)) h
  where
    go : (p x y n z : Bool) → IsTrue (not (p || x || y || n || z)) → n ≡ false
    go true x y n z h = cc
    go false true y n z h = cc
    go false false true n z h = cc
    go false false false true z h = cc
    go false false false false z h = refl

-- a word that breaks off
broken_word : (o : Options) (bytes : List ℕ) (i j k c : ℕ) → IsTrue (begins_word c) → Steps bytes i c j → Many is_in_word (rest bytes j) (rest bytes k) → LacksAt is_in_word bytes k → (EndsWord (next (rest bytes k)) → ⊥) → BeginsNoOther bytes i → NoName o bytes i → BreaksWord o (rest bytes i) (rest bytes k)
broken_word o bytes i j k c h s many all f b n =
    let within : IsTrue (is_in_word c) = or_left (begins_word c || is_digit c) (c == 0x2D) (or_left (begins_word c) (is_digit c) h) in
    record { begins = rw s.0 h; goes_on = rw s.0 (step within many); all = all; no_end = f; no_keyword = b.keyword; no_number = λ u x. number_name (not_number (rest bytes i) b.other) (λ a. (n a).0) (λ a. (n a).1) x }

pub word_told : (bytes : List ℕ) (i j k c : ℕ) (e : ParseError) → IsTrue (begins_word c) → Steps bytes i c j → Many is_in_word (rest bytes j) (rest bytes k) → LacksAt is_in_word bytes k → (EndsWord (next (rest bytes k)) → ⊥) → IsFaultError i k kind.UnexpectedToken e → BeginsNoOther bytes i → (o : Options) → NoName o bytes i → IsTrueOf o bytes i e
word_told bytes i j k c e h s many all f x b o n = told_from o bytes i i k _ e x (t.broken_word (broken_word o bytes i j k c h s many all f b n))

lone_tells : {o : Options} {c : ℕ} {s u r : List ℕ} → s ≡ c ∷ u → IsTrue (not (is_blank c)) → IsTrue (not (begins_word c)) → IsTrue (not (begins_other (c ∷ u))) → IsNext s r → LexemeFault o kind.UnexpectedToken s s r
lone_tells e b w h n = rw (e, next_of (rw e at n)) (t.lone_character b w h)

-- a character with which nothing begins
pub character_told : (bytes : List ℕ) (i : ℕ) (e : ParseError) → IsUtf8 bytes → IsCharBoundary bytes i → LacksAt begins_word bytes i → kind_of e ≡ kind.UnexpectedToken → IsFaultOfNext bytes i e → BeginsNoOther bytes i → (o : Options) → NoName o bytes i → IsTrueOf o bytes i e
character_told bytes i e u b w k n h o names = go (rest bytes i) refl
  where
    go : (t : List ℕ) → rest bytes i ≡ t → IsTrueOf o bytes i e
    go [] z = let last = end_place bytes i u b z in absurd (omega (arith, h.inside, last))
    go (c ∷ t) z = told_next o bytes i i _ e k n (λ x. lone_tells z (rw z at h.blank) (rw z at w) (rw z at h.other) x)

-- a slash that begins no comment
pub slash_told : (bytes : List ℕ) (i : ℕ) (e : ParseError) → Steps bytes i 0x2F (i + 1) → LacksAt (λ c. c == 0x2F) bytes (i + 1) → LacksAt (λ c. c == 0x2A) bytes (i + 1) → IsFaultError i (i + 1) kind.UnexpectedToken e → (o : Options) → IsTrueOf o bytes i e
slash_told bytes i e s a b x o =
    let n = next (rest bytes (i + 1)) in
    let alone = not_starts (λ c. c == 0x2F || c == 0x2A) n (no_either (λ c. c == 0x2F) (λ c. c == 0x2A) n a b) in
    told_from o bytes i i (i + 1) _ e x (rw s.0 (t.lone_character refl slash_word alone))

-- a block comment that does not end
pub block_told : (bytes : List ℕ) (i : ℕ) (e : ParseError) → Steps bytes i 0x2F (i + 1) → Steps bytes (i + 1) 0x2A (i + 1 + 1) → NoneFrom UpToBlockEnd bytes (i + 2) → IsFaultError i (length bytes) kind.UnterminatedCommentBlock e → (o : Options) → IsTrueOf o bytes i e
block_told bytes i e s d n x o =
    let two : i + 1 + 1 ≡ i + 2 = omega arith in
    let star = rw two at d in
    let opening : rest bytes i ≡ 0x2F ∷ 0x2A ∷ rest bytes (i + 2) = s.0 ∙ ap (λ t. 0x2F ∷ t) star.0 in
    told_from o bytes i i (length bytes) _ e x (rw (opening, rest_end bytes (length bytes) (omega arith)) (t.open_block n))

-- a single quote where it opens no string
quote_off : (b : Bool) → IsTrue (not b) → b ≡ false
quote_off true h = cc
quote_off false h = refl

pub quote_told : (o : Options) (bytes : List ℕ) (i : ℕ) (e : ParseError) → Steps bytes i 0x27 (i + 1) → OpensNoString o bytes i → IsFaultError i (i + 1) kind.SingleQuotedStringsNotAllowed e → IsTrueOf o bytes i e
quote_told o bytes i e s n x =
    told_from o bytes i i (i + 1) _ e x (rw s.0 (t.single_quote (quote_off o.single_quoted_strings (rw s.0 at n))))

-- a string's fault
pub string_told : (o : Options) (bytes : List ℕ) (i q : ℕ) (fault : StringFault) (e : ParseError) → IsQuote o q → TellsOfString o.extended_escapes q fault.kind (rest bytes i) (rest bytes fault.range.start) (rest bytes fault.range.end) → IsFaultOfStringToken fault e → IsTrueOf o bytes i e
string_told o bytes i q fault e a s x =
    told_from o bytes i fault.range.start fault.range.end _ e x (t.string_fault a s)
