-- Tests of a character and of what follows, and lists by their first elements.
use Rattle.std.proofs.Common.{ℕ, ◌≡◌, ◌∙◌, sym, ap, Bool, true, false, not, ◌||◌, ◌&&◌, ◌==◌, refl, List, [], ◌∷◌, ◌++◌, Option, Some, None, IsTrue, arith, inl, inr, ◌⊎◌}
use Rattle.std.proofs.lemmas.List.{append_cancel_right}
use Rattle.jsonc_text.specs.Text.{next, no, starts}

pub clash : (b : Bool) → IsTrue (not b) → IsTrue b → ⊥
clash true h g = cc
clash false h g = cc

pub or_cases : (x y : Bool) → IsTrue (x || y) → IsTrue x ⊎ IsTrue y
or_cases true y h = inl refl
or_cases false y h = inr h

pub or_right : (x y : Bool) → IsTrue y → IsTrue (x || y)
or_right true y h = refl
or_right false y h = h

pub or_left : (x y : Bool) → IsTrue x → IsTrue (x || y)
or_left true y h = refl
or_left false y h = cc

pub and_both : (x y : Bool) → IsTrue (x && y) → IsTrue x × IsTrue y
and_both true y h = (refl, h)
and_both false y h = cc

pub test_eq : (c d : ℕ) → IsTrue (c == d) → c ≡ d
test_eq c d h = grind arith

pub eq_test : (c d : ℕ) → c ≡ d → IsTrue (c == d)
eq_test c d e = grind arith

pub heads : {c d : ℕ} {r s : List ℕ} → c ∷ r ≡ d ∷ s → c ≡ d
heads p = cc

pub tails : {c d : ℕ} {r s : List ℕ} → c ∷ r ≡ d ∷ s → r ≡ s
tails p = cc

-- two lists that begin otherwise
pub apart : {c d : ℕ} {t u : List ℕ} → IsTrue (not (c == d)) → c ∷ t ≡ d ∷ u → ⊥
apart {c} {d} h p = let e : c ≡ d = cc in grind arith

-- what stands before equal ends is equal
pub front_same : {n m r s : List ℕ} → r ≡ s → n ++ r ≡ m ++ s → n ≡ m
front_same {n} {m} {r} {s} p q = append_cancel_right n m s (ap (λ x. n ++ x) (sym p) ∙ q)

pub text_same : {s u t r x : List ℕ} → t ≡ s ++ r → t ≡ u ++ x → r ≡ x → s ≡ u
text_same a b p = front_same p (sym a ∙ b)

-- a test that one list's first element passes, where another begins with that list
pub starts_front : (p : ℕ → Bool) (s r : List ℕ) {t : List ℕ} → t ≡ s ++ r → IsTrue (starts p (next s)) → IsTrue (starts p (next t))
starts_front p [] r e h = cc
starts_front p (c ∷ s) r e h = rw e h

pub no_front : (p : ℕ → Bool) (s r : List ℕ) {t : List ℕ} → t ≡ s ++ r → IsTrue (no p (next t)) → IsTrue (no p (next s))
no_front p [] r e h = refl
no_front p (c ∷ s) r e h = rw e at h

pub no_starts : (p : ℕ → Bool) (n : Option ℕ) → IsTrue (no p n) → IsTrue (starts p n) → ⊥
no_starts p None g h = cc
no_starts p (Some c) g h = clash (p c) g h

pub starts_also : (p q : ℕ → Bool) → ((c : ℕ) → IsTrue (p c) → IsTrue (q c)) → (n : Option ℕ) → IsTrue (starts p n) → IsTrue (starts q n)
starts_also p q f None h = h
starts_also p q f (Some c) h = f c h

-- two tests that no character passes
unfoldable pub Apart : (ℕ → Bool) → (ℕ → Bool) → Type 0
Apart p q = (c : ℕ) → IsTrue (p c) → IsTrue (q c) → ⊥

pub no_both : (p q : ℕ → Bool) → Apart p q → (n : Option ℕ) → IsTrue (starts p n) → IsTrue (starts q n) → ⊥
unfolding Apart
no_both p q a None g h = cc
no_both p q a (Some c) g h = a c g h
