-- Texts without their blanks.
use Rattle.std.specs.List.{suffix_len, prefix_len}
use Rattle.std.proofs.Common.{ℕ, ◌<◌, ◌≡◌, ◌∙◌, sym, ap, refl, subst, Bool, true, false, not, List, [], ◌∷◌, ◌++◌, length, reverse, filter, Some, IsTrue, append_assoc, arith}
use Rattle.std.proofs.lemmas.List.{reverse-append}
use Rattle.jsonc_text.specs.Gaps.{is_blank}
use Rattle.jsonc_text.specs.Text.{Many, stop, step, next, no}
use Rattle.jsonc_changes.specs.Changes.{DifferInBlanks, is_no_blank}

-- blanks leave nothing
pub unblanked : {t r : List ℕ} → Many is_blank t r → filter is_no_blank t ≡ filter is_no_blank r
unblanked stop = refl
unblanked (step {c = c} h m) = rw h (unblanked m)

-- other characters stay
all_stay : (r : List ℕ) {s e : List ℕ} → Many is_no_blank s e → e ≡ [] → filter is_no_blank (s ++ r) ≡ s ++ filter is_no_blank r
all_stay r stop e = rw e refl
all_stay r (step {c = c} h m) e = rw h (ap (λ t. c ∷ t) (all_stay r m e))

pub others_stay : (s r : List ℕ) → Many is_no_blank s [] → filter is_no_blank (s ++ r) ≡ s ++ filter is_no_blank r
others_stay s r m = all_stay r m refl

first_stays : (c : ℕ) (t : List ℕ) → IsTrue (not (is_blank c)) → filter is_no_blank (c ∷ t) ≡ c ∷ filter is_no_blank t
first_stays c t h = rw h refl

none_of : (b : Bool) → b ≡ true → not b ≡ true → ⊥
none_of b p q = let e : not true ≡ true = sym (ap not p) ∙ q in cc

-- where two texts differ in blanks, and none begins with one, they begin with the same character or end
pub both_end : (t u : List ℕ) → DifferInBlanks t u → IsTrue (no is_blank (next t)) → IsTrue (no is_blank (next u))
    → ((c : ℕ) → next t ≡ Some c → next u ≡ Some c → IsTrue (is_blank c)) → (t ≡ []) × (u ≡ [])
both_end [] [] d a b s = (refl, refl)
both_end [] (c ∷ u) d a b s = let e : [] ≡ c ∷ filter is_no_blank u = d ∙ first_stays c u b in absurd cc
both_end (c ∷ t) [] d a b s = let e : [] ≡ c ∷ filter is_no_blank t = sym d ∙ first_stays c t a in absurd cc
both_end (c ∷ t) (e ∷ u) d a b s =
    let same : c ∷ filter is_no_blank t ≡ e ∷ filter is_no_blank u = sym (first_stays c t a) ∙ d ∙ first_stays e u b in
    let one : e ≡ c = cc in
    absurd (none_of (is_blank c) (s c refl (ap Some one)) a)

first_of : (p : ℕ → Bool) (c : ℕ) (s : List ℕ) {t e : List ℕ} → Many p t e → e ≡ [] → t ≡ c ∷ s → IsTrue (p c) × Many p s []
first_of p c s stop e f = let z : [] ≡ c ∷ s = sym e ∙ f in absurd cc
first_of p c s (step {c = d} {t = t} {r = r} h m) e f =
    let one : d ≡ c = cc in
    let more : t ≡ s = cc in
    (subst (λ x. IsTrue (p x)) one h, subst (λ x. Many p x []) more (subst (λ x. Many p t x) e m))

not_true : (b : Bool) → not b ≡ true → b ≡ false
not_true true k = absurd cc
not_true false k = refl

turned : (c : ℕ) (u y : List ℕ) → reverse (c ∷ u) ++ y ≡ reverse u ++ (c ∷ y)
turned c u y = ap (λ v. v ++ y) (reverse-append (c ∷ []) u) ∙ append_assoc (reverse u) (c ∷ []) y

no_blank_first : (c : ℕ) (y : List ℕ) → IsTrue (not (is_blank c)) → prefix_len is_blank (c ∷ y) ≡ 0
no_blank_first c y h = let e = not_true (is_blank c) h in rw e refl

none_back : (s y : List ℕ) → Many is_no_blank s [] → 0 < length s → prefix_len is_blank (reverse s ++ y) ≡ 0
none_back [] y m l = absurd (omega (arith, l))
none_back (c ∷ []) y m l = ap (prefix_len is_blank) (turned c [] y) ∙ no_blank_first c y (first_of is_no_blank c [] m refl refl).0
none_back (c ∷ d ∷ s) y m l =
    ap (prefix_len is_blank) (turned c (d ∷ s) y) ∙ none_back (d ∷ s) (c ∷ y) (first_of is_no_blank c (d ∷ s) m refl refl).1 (omega arith)

-- no blank ends a text that ends in other characters
pub ends_in_others : (x s : List ℕ) → Many is_no_blank s [] → 0 < length s → suffix_len is_blank (x ++ s) ≡ 0
ends_in_others x s m l = ap (prefix_len is_blank) (reverse-append x s) ∙ none_back s (reverse x) m l
