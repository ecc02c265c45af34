-- Of equal names the last value at the first place: a member more is an insertion.
use Rattle.std.proofs.Common.{ℕ, ◌≡◌, ◌∙◌, sym, ap, subst, refl, Bool, true, false, cond, List, true≢false}
use Rattle.std.specs.Bool.{Decides}
use Rattle.std.specs.Str.{bytes_eq}
use Rattle.std.proofs.lemmas.Slice.Eq.{bytes_eq-Decides}
use Rattle.jsonc_text.specs.Plain.{Plain, Members, no_members, member, last_of, without, collapse, collapse_members}

-- two names are the same, or differ
pub data Compared (n m : List ℕ) : Type 0 where
  same : n ≡ m → bytes_eq n m ≡ true → bytes_eq m n ≡ true → Compared n m
  differ : bytes_eq n m ≡ false → bytes_eq m n ≡ false → Compared n m

compare : (n m : List ℕ) → Compared n m
compare n m = go (bytes_eq n m) (bytes_eq m n) (bytes_eq-Decides n m) (bytes_eq-Decides m n) refl refl
  where
    go : (b c : Bool) → Decides b (n ≡ m) → Decides c (m ≡ n) → bytes_eq n m ≡ b → bytes_eq m n ≡ c → Compared n m
    go true c d e p q = same (d.0 refl) p (q ∙ e.1 (sym (d.0 refl)))
    go false true d e p q = absurd (true≢false (sym (d.1 (sym (e.0 refl)))))
    go false false d e p q = differ p q

-- the members, and then one more
abbrev pub push : Members → List ℕ → Plain → Members
push no_members n v = member n v no_members
push (member m w ms) n v = member m w (push ms n v)

-- the value at the place of its name, or last where the name is new
abbrev pub put : List ℕ → Plain → Members → Members
put n v no_members = member n v no_members
put n v (member m w ms) = cond (bytes_eq n m) (member m v ms) (member m w (put n v ms))

-- no member has the name
abbrev Lacks : List ℕ → Members → Type 0
Lacks n no_members = Unit {0}
Lacks n (member m w ms) = (bytes_eq m n ≡ false) × Lacks n ms

-- no two have one name
abbrev AreDistinct : Members → Type 0
AreDistinct no_members = Unit {0}
AreDistinct (member m w ms) = Lacks m ms × AreDistinct ms

without_lacks : (n : List ℕ) (ms : Members) → Lacks n (without n ms)
without_lacks n no_members = tt
without_lacks n (member m w ms) = go (bytes_eq m n) refl (without_lacks n ms)
  where
    go : (b : Bool) → bytes_eq m n ≡ b → Lacks n (without n ms) → Lacks n (cond b (without n ms) (member m w (without n ms)))
    go true e h = h
    go false e h = (e, h)

without_stays : (k n : List ℕ) (ms : Members) → Lacks k ms → Lacks k (without n ms)
without_stays k n no_members h = tt
without_stays k n (member m w ms) h = go (bytes_eq m n) (without_stays k n ms h.1)
  where
    go : (b : Bool) → Lacks k (without n ms) → Lacks k (cond b (without n ms) (member m w (without n ms)))
    go true l = l
    go false l = (h.0, l)

without_distinct : (n : List ℕ) (ms : Members) → AreDistinct ms → AreDistinct (without n ms)
without_distinct n no_members h = tt
without_distinct n (member m w ms) h = go (bytes_eq m n) (without_distinct n ms h.1)
  where
    go : (b : Bool) → AreDistinct (without n ms) → AreDistinct (cond b (without n ms) (member m w (without n ms)))
    go true d = d
    go false d = (without_stays m n ms h.0, d)

collapse_distinct : (ms : Members) → AreDistinct (collapse_members ms)
collapse_distinct no_members = tt
collapse_distinct (member m w ms) = (without_lacks m (collapse_members ms), without_distinct m (collapse_members ms) (collapse_distinct ms))

last_of_lacks : (n : List ℕ) (v : Plain) (ms : Members) → Lacks n ms → last_of n v ms ≡ v
last_of_lacks n v no_members h = refl
last_of_lacks n v (member m w ms) h = rw h.0 (last_of_lacks n v ms h.1)

-- the value that was put is the last of its name
last_put : (n : List ℕ) (v w : Plain) (ms : Members) → AreDistinct ms → bytes_eq n n ≡ true → last_of n w (put n v ms) ≡ v
last_put n v w no_members d e = rw e refl
last_put n v w (member m x ms) d e =
    elim (compare n m) [
      | same p a b ↦ rw a (ap (λ c. last_of n (cond c v w) ms) b ∙ last_of_lacks n v ms (subst (λ k. Lacks k ms) (sym p) d.0))
      | differ a b ↦ rw a (ap (λ c. last_of n (cond c x w) (put n v ms)) b ∙ last_put n v w ms d.1 e)
    ]

-- and changes no other name's
last_other : (n m : List ℕ) (v w : Plain) (ms : Members) → bytes_eq n m ≡ false → last_of m w (put n v ms) ≡ last_of m w ms
last_other n m v w no_members e = rw e refl
last_other n m v w (member k x ms) e =
    elim (compare n k) [
      | same p a b ↦ let f : bytes_eq k m ≡ false = sym (ap (λ l. bytes_eq l m) p) ∙ e in rw a (ap (λ c. last_of m (cond c v w) ms) f ∙ sym (ap (λ c. last_of m (cond c x w) ms) f))
      | differ a b ↦ rw a (last_other n m v (cond (bytes_eq k m) x w) ms e)
    ]

without_put : (n : List ℕ) (v : Plain) (ms : Members) → bytes_eq n n ≡ true → without n (put n v ms) ≡ without n ms
without_put n v no_members e = rw e refl
without_put n v (member m x ms) e =
    elim (compare n m) [
      | same p a b ↦ rw a (rw b refl)
      | differ a b ↦ rw a (rw b (ap (member m x) (without_put n v ms e)))
    ]

without_other : (n m : List ℕ) (v : Plain) (ms : Members) → bytes_eq n m ≡ false → without m (put n v ms) ≡ put n v (without m ms)
without_other n m v no_members e = rw e refl
without_other n m v (member k x ms) e =
    elim (compare n k) [
      | same p a b ↦ let f : bytes_eq k m ≡ false = sym (ap (λ l. bytes_eq l m) p) ∙ e in rw a (rw f (rw a refl))
      | differ a b ↦
          elim (compare k m) [
            | same q c d ↦ rw a (rw c (without_other n m v ms e))
            | differ c d ↦ rw a (rw c (rw a (ap (member k x) (without_other n m v ms e))))
          ]
    ]

equal_self : (n : List ℕ) → bytes_eq n n ≡ true
equal_self n = (bytes_eq-Decides n n).1 refl

-- collapsing one member more puts its value
pub collapse_push : (ms : Members) (n : List ℕ) (v : Plain) → collapse_members (push ms n v) ≡ put n (collapse v) (collapse_members ms)
collapse_push no_members n v = refl
collapse_push (member m w ms) n v =
    rw (collapse_push ms n v) (go (compare n m) (collapse w) (collapse v) (collapse_members ms) (collapse_distinct ms))
  where
    go : Compared n m → (x y : Plain) (rest : Members) → AreDistinct rest → member m (last_of m x (put n y rest)) (without m (put n y rest)) ≡ put n y (member m (last_of m x rest) (without m rest))
    go (same p a b) x y rest d =
        let at_m = ap (member m (last_of m x (put m y rest))) (without_put m y rest (equal_self m)) ∙ ap (λ z. member m z (without m rest)) (last_put m y x rest d (equal_self m)) in
        rw a (subst (λ k. member m (last_of m x (put k y rest)) (without m (put k y rest)) ≡ member m y (without m rest)) (sym p) at_m)
    go (differ a b) x y rest d = rw a (ap (λ z. member m z (without m (put n y rest))) (last_other n m y x rest a) ∙ ap (member m (last_of m x rest)) (without_other n m y rest a))
