-- A lexeme that stands before a text stands before it with more after it.
use Rattle.std.proofs.Common.{ℕ, ◌<◌, ◌≤◌, subst, Bool, true, false, List, [], ◌∷◌, ◌++◌, length, arith, IsTrue}
use Rattle.std.proofs.lemmas.List.{append_assoc}
use Rattle.jsonc_text.specs.Options.{Options, all_on}
use Rattle.jsonc_text.specs.Text.{next, no, end_or, Many, stop, step, AllOf, all_of}
use Rattle.jsonc_text.specs.Numbers.{Sign, Whole, Fraction, Exponent, Unsigned, Number, EndsName, MayFollow}
use Rattle.jsonc_text.specs.Lexemes as lexemes
use Rattle.jsonc_text.specs.Lexemes.{LexemeKind, Lexeme, lexeme, CanEndBefore}
use Rattle.jsonc_text.proofs.LexemesAlone.{scanned_alone, scanned_before}
use Rattle.jsonc_text.proofs.UniqueWords.{many_more}

-- where something follows, more after it changes nothing
no_more : (p : ℕ → Bool) (u y : List ℕ) → 0 < length u → IsTrue (no p (next u)) → IsTrue (no p (next (u ++ y)))
no_more p [] y l h = absurd (omega (arith, l))
no_more p (c ∷ u) y l h = h

end_more : (p : ℕ → Bool) (u y : List ℕ) → 0 < length u → IsTrue (end_or p (next u)) → IsTrue (end_or p (next (u ++ y)))
end_more p [] y l h = absurd (omega (arith, l))
end_more p (c ∷ u) y l h = h

pub many_length : {p : ℕ → Bool} {t r : List ℕ} → Many p t r → length r ≤ length t
many_length stop = omega arith
many_length (step h g) = omega (arith, many_length g)

all_length : {p : ℕ → Bool} {t r : List ℕ} → AllOf p t r → length r ≤ length t
all_length (all_of h g n) = omega (arith, many_length g)

exponent_length : {t r : List ℕ} → Exponent t r → length r ≤ length t
exponent_length (Exponent.none n) = omega arith
exponent_length (Exponent.digits h g) = omega (arith, all_length g)
exponent_length (Exponent.signed h k g) = omega (arith, all_length g)

fraction_length : {o : Options} {t r : List ℕ} → Fraction o t r → length r ≤ length t
fraction_length (Fraction.none n) = omega arith
fraction_length (Fraction.point g) = omega (arith, all_length g)
fraction_length (Fraction.bare_point p n) = omega arith

all_more : {p : ℕ → Bool} {t r : List ℕ} (y : List ℕ) → 0 < length r → AllOf p t r → AllOf p (t ++ y) (r ++ y)
all_more {p} {r = r} y l (all_of h g n) = all_of h (many_more g y) (no_more p r y l n)

sign_more : {o : Options} {b : Bool} {t r : List ℕ} (y : List ℕ) → Sign o b t r → Sign o b (t ++ y) (r ++ y)
sign_more y Sign.none = Sign.none
sign_more y Sign.minus = Sign.minus
sign_more y (Sign.plus p) = Sign.plus p

whole_more : {t r : List ℕ} (y : List ℕ) → 0 < length r → Whole t r → Whole (t ++ y) (r ++ y)
whole_more {r = r} y l (Whole.zero n) = Whole.zero (no_more _ r y l n)
whole_more {r = r} y l (Whole.digits h g n) = Whole.digits h (many_more g y) (no_more _ r y l n)

fraction_more : {o : Options} {t r : List ℕ} (y : List ℕ) → 0 < length r → Fraction o t r → Fraction o (t ++ y) (r ++ y)
fraction_more {r = r} y l (Fraction.none n) = Fraction.none (no_more _ r y l n)
fraction_more y l (Fraction.point g) = Fraction.point (all_more y l g)
fraction_more {r = r} y l (Fraction.bare_point p n) = Fraction.bare_point p (no_more _ r y l n)

exponent_more : {t r : List ℕ} (y : List ℕ) → 0 < length r → Exponent t r → Exponent (t ++ y) (r ++ y)
exponent_more {r = r} y l (Exponent.none n) = Exponent.none (no_more _ r y l n)
exponent_more y l (Exponent.digits h g) = Exponent.digits h (all_more y l g)
exponent_more y l (Exponent.signed h k g) = Exponent.signed h k (all_more y l g)

name_more : (b : Bool) (r y : List ℕ) → 0 < length r → EndsName b (next r) → EndsName b (next (r ++ y))
name_more true r y l n = no_more _ r y l n
name_more false r y l n = no_more _ r y l n

unsigned_more : {o : Options} {b : Bool} {t r : List ℕ} (y : List ℕ) → 0 < length r → Unsigned o b t r → Unsigned o b (t ++ y) (r ++ y)
unsigned_more y l (Unsigned.hex p q g) = Unsigned.hex p q (all_more y l g)
unsigned_more y l (Unsigned.decimal w f z) =
    Unsigned.decimal (whole_more y (omega (arith, l, exponent_length z, fraction_length f)) w) (fraction_more y (omega (arith, l, exponent_length z)) f) (exponent_more y l z)
unsigned_more y l (Unsigned.bare_point p g z) = Unsigned.bare_point p (all_more y (omega (arith, l, exponent_length z)) g) (exponent_more y l z)
unsigned_more {b = b} {r = r} y l (Unsigned.infinity p n) = Unsigned.infinity p (name_more b r y l n)
unsigned_more {b = b} {r = r} y l (Unsigned.nan p n) = Unsigned.nan p (name_more b r y l n)

may_follow_more : (s r y : List ℕ) → 0 < length r → MayFollow s r → MayFollow s (r ++ y)
may_follow_more s r y l (b, u, g, n) = subst (λ t. Number all_on t (r ++ y)) (append_assoc s r y) (b, u ++ y, sign_more y g, unsigned_more y l n)

ends_more : (k : LexemeKind) (s r y : List ℕ) → 0 < length r → CanEndBefore (lexeme k) s r → CanEndBefore (lexeme k) s (r ++ y)
ends_more (lexemes.string v) s r y l h = tt
ends_more (lexemes.number n) s r y l h = may_follow_more s r y l h
ends_more (lexemes.word n) s r y l h = end_more _ r y l h
ends_more (lexemes.keyword k) s r y l h = no_more _ r y l h
ends_more (lexemes.punctuation c) s r y l h = tt

pub lexeme_more : (o : Options) (k : LexemeKind) (s r y : List ℕ) → 0 < length r → Lexeme o k (s ++ r) r → Lexeme o k (s ++ (r ++ y)) (r ++ y)
lexeme_more o k s r y l h =
    let alone = scanned_alone o (lexeme k) s r h in
    scanned_before o (lexeme k) s (r ++ y) alone.0 (ends_more k s r y l alone.1)
