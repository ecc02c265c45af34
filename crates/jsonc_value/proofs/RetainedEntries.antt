-- A list whose front holds what was kept so far.
use Rattle.std.proofs.Common.{◌≡◌, ℕ, zero, suc, ◌+◌, ◌<◌, ◌≤◌, Bool, true, false, cond, List, [], ◌∷◌, ◌++◌, length, get_or, set, take, drop, swap, Some, slice_get, ◌⊎◌, inl, inr, refl, sym, ap, ◌∙◌, arith, subst}
use Rattle.std.specs.List.{zip}
use Rattle.jsonc_value.specs.Retained.{Retains}

-- two lists side by side, written at a place and exchanged
zip_set : {K V : Type 0} (ks : List K) (vs : List V) (i : ℕ) (k : K) (v : V) → length vs ≡ length ks → zip (set ks i k) (set vs i v) ≡ set (zip ks vs) i (k, v)
zip_set [] [] i k v e = refl
zip_set [] (w ∷ vs) i k v e = absurd (omega arith)
zip_set (l ∷ ks) [] i k v e = absurd (omega arith)
zip_set (l ∷ ks) (w ∷ vs) zero k v e = refl
zip_set (l ∷ ks) (w ∷ vs) (suc i) k v e = ap (λ es. (l, w) ∷ es) (zip_set ks vs i k v (omega arith))

zip_get : {K V : Type 0} (ks : List K) (vs : List V) (i : ℕ) (k : K) (v : V) → length vs ≡ length ks → get_or (zip ks vs) i (k, v) ≡ (get_or ks i k, get_or vs i v)
zip_get [] [] i k v e = refl
zip_get [] (w ∷ vs) i k v e = absurd (omega arith)
zip_get (l ∷ ks) [] i k v e = absurd (omega arith)
zip_get (l ∷ ks) (w ∷ vs) zero k v e = refl
zip_get (l ∷ ks) (w ∷ vs) (suc i) k v e = zip_get ks vs i k v (omega arith)

length_set : {X : Type 0} (xs : List X) (i : ℕ) (x : X) → length (set xs i x) ≡ length xs
length_set [] i x = refl
length_set (y ∷ xs) zero x = refl
length_set (y ∷ xs) (suc i) x = ap suc (length_set xs i x)

pub zip_swap : {K V : Type 0} (ks : List K) (vs : List V) (i j : ℕ) → length vs ≡ length ks → zip (swap ks i j) (swap vs i j) ≡ swap (zip ks vs) i j
zip_swap [] [] i j e = refl
zip_swap [] (w ∷ vs) i j e = absurd (omega arith)
zip_swap (l ∷ ks) [] i j e = absurd (omega arith)
zip_swap {K} {V} (l ∷ ks) (w ∷ vs) i j e =
    let at : (n : ℕ) → get_or ((l, w) ∷ zip ks vs) n (l, w) ≡ (get_or (l ∷ ks) n l, get_or (w ∷ vs) n w) = λ n. zip_get (l ∷ ks) (w ∷ vs) n l w e in
    let once = zip_set (l ∷ ks) (w ∷ vs) i (get_or (l ∷ ks) j l) (get_or (w ∷ vs) j w) e in
    let twice = zip_set (set (l ∷ ks) i (get_or (l ∷ ks) j l)) (set (w ∷ vs) i (get_or (w ∷ vs) j w)) j (get_or (l ∷ ks) i l) (get_or (w ∷ vs) i w)
    (length_set (w ∷ vs) i (get_or (w ∷ vs) j w) ∙ e ∙ sym (length_set (l ∷ ks) i (get_or (l ∷ ks) j l))) in
    twice ∙ (λ n. set (once n) j (get_or (l ∷ ks) i l, get_or (w ∷ vs) i w)) ∙ (λ n. set (set ((l, w) ∷ zip ks vs) i (sym (at j) n)) j (sym (at i) n))

-- what is before and after a place that is written
take_set : {X : Type 0} (xs : List X) (n i : ℕ) (x : X) → n ≤ i → take n (set xs i x) ≡ take n xs
take_set xs zero i x e = refl
take_set [] (suc n) i x e = refl
take_set (y ∷ xs) (suc n) zero x e = absurd (omega arith)
take_set (y ∷ xs) (suc n) (suc i) x e = ap (λ l. y ∷ l) (take_set xs n i x (omega arith))

take_past_set : {X : Type 0} (xs : List X) (i : ℕ) (x : X) → i < length xs → take (suc i) (set xs i x) ≡ take i xs ++ x ∷ []
take_past_set [] i x e = absurd (omega arith)
take_past_set (y ∷ xs) zero x e = refl
take_past_set (y ∷ xs) (suc i) x e = ap (λ l. y ∷ l) (take_past_set xs i x (omega arith))

drop_set : {X : Type 0} (xs : List X) (n i : ℕ) (x : X) → i < n → drop n (set xs i x) ≡ drop n xs
drop_set xs zero i x e = absurd (omega arith)
drop_set [] (suc n) i x e = refl
drop_set (y ∷ xs) (suc n) zero x e = refl
drop_set (y ∷ xs) (suc n) (suc i) x e = drop_set xs n i x (omega arith)

-- the item at a place, and what is before and after it
take_next : {X : Type 0} (xs : List X) (i : ℕ) (x : X) → slice_get xs i ≡ Some x → take (suc i) xs ≡ take i xs ++ x ∷ []
take_next [] i x e = let never : ⊥ = cc in absurd never
take_next (y ∷ xs) zero x e = let same : y ≡ x = cc in ap (λ z. z ∷ []) same
take_next (y ∷ xs) (suc i) x e = ap (λ l. y ∷ l) (take_next xs i x e)

get_of_drop : {X : Type 0} (xs : List X) (i : ℕ) → slice_get (drop i xs) 0 ≡ slice_get xs i
get_of_drop xs zero = refl
get_of_drop [] (suc i) = refl
get_of_drop (y ∷ xs) (suc i) = get_of_drop xs i

drop_next : {X : Type 0} (xs : List X) (i : ℕ) → drop (suc i) xs ≡ drop 1 (drop i xs)
drop_next xs zero = refl
drop_next [] (suc i) = refl
drop_next (y ∷ xs) (suc i) = drop_next xs i

got : {X : Type 0} (xs : List X) (i : ℕ) (x d : X) → slice_get xs i ≡ Some x → get_or xs i d ≡ x
got [] i x d e = let never : ⊥ = cc in absurd never
got (y ∷ xs) zero x d e = cc
got (y ∷ xs) (suc i) x d e = got xs i x d e

-- an item put into the front by an exchange
below_or_at : (i j : ℕ) → i ≤ j → (suc i ≤ j) ⊎ (i ≡ j)
below_or_at zero zero le = inr refl
below_or_at zero (suc j) le = inl (omega arith)
below_or_at (suc i) zero le = absurd (omega arith)
below_or_at (suc i) (suc j) le = elim (below_or_at i j (omega arith)) [ inl h ↦ inl (omega (arith, h)) | inr e ↦ inr (ap suc e) ]

swap_front : {X : Type 0} (xs : List X) (i j : ℕ) (x : X) → i ≤ j → j < length xs → slice_get xs j ≡ Some x → take (suc i) (swap xs i j) ≡ take i xs ++ x ∷ []
swap_front [] i j x le lt e = absurd (omega arith)
swap_front {X} (d ∷ ys) i j x le lt e =
    let here : get_or (d ∷ ys) j d ≡ x = got (d ∷ ys) j x d e in
    let one : List X = set (d ∷ ys) i (get_or (d ∷ ys) j d) in
    elim (below_or_at i j le) [
      | inl h ↦ take_set one (suc i) j (get_or (d ∷ ys) i d) h ∙ take_past_set (d ∷ ys) i (get_or (d ∷ ys) j d) (omega (arith, le, lt)) ∙ ap (λ z. take i (d ∷ ys) ++ z ∷ []) here
      | inr h ↦
          let there : get_or (d ∷ ys) i d ≡ x = ap (λ n. get_or (d ∷ ys) n d) h ∙ here in
          let last : take (suc i) (set one i (get_or (d ∷ ys) i d)) ≡ take i one ++ get_or (d ∷ ys) i d ∷ [] = take_past_set one i (get_or (d ∷ ys) i d) (omega (arith, le, lt, length_set (d ∷ ys) i (get_or (d ∷ ys) j d))) in
          ap (λ n. take (suc i) (set one n (get_or (d ∷ ys) i d))) (sym h) ∙ last ∙ (λ n. take_set (d ∷ ys) i i (get_or (d ∷ ys) j d) (omega arith) n ++ there n ∷ [])
    ]

length_swap : {X : Type 0} (xs : List X) (i j : ℕ) → length (swap xs i j) ≡ length xs
length_swap [] i j = refl
length_swap (d ∷ ys) i j = length_set (set (d ∷ ys) i (get_or (d ∷ ys) j d)) j (get_or (d ∷ ys) i d) ∙ length_set (d ∷ ys) i (get_or (d ∷ ys) j d)

swap_back : {X : Type 0} (xs : List X) (i j : ℕ) → i ≤ j → drop (suc j) (swap xs i j) ≡ drop (suc j) xs
swap_back [] i j le = refl
swap_back (d ∷ ys) i j le = drop_set (set (d ∷ ys) i (get_or (d ∷ ys) j d)) (suc j) j (get_or (d ∷ ys) i d) (omega arith) ∙ drop_set (d ∷ ys) (suc j) i (get_or (d ∷ ys) j d) (omega arith)

whole : {X : Type 0} (xs : List X) → take (length xs) xs ≡ xs
whole [] = refl
whole (x ∷ xs) = ap (λ l. x ∷ l) (whole xs)

module _ {X : Type 0} (R : X → Bool → Type 0) where
  both_kept : (b c : Bool) (u x : X) (zs : List X) → cond b (cond c (u ∷ zs) zs ++ x ∷ []) (cond c (u ∷ zs) zs) ≡ cond c (u ∷ cond b (zs ++ x ∷ []) zs) (cond b (zs ++ x ∷ []) zs)
  both_kept true true u x zs = refl
  both_kept true false u x zs = refl
  both_kept false true u x zs = refl
  both_kept false false u x zs = refl

  one_more : (xs ys : List X) (x : X) (b : Bool) → Retains R xs ys → R x b → Retains R (xs ++ x ∷ []) (cond b (ys ++ x ∷ []) ys)
  one_more [] ys x b h r = (b, [], r, refl, ap (λ l. cond b (l ++ x ∷ []) l) h)
  one_more (u ∷ us) ys x b h r = (h.0, cond b (h.1 ++ x ∷ []) h.1, h.2, one_more us h.1 x b h.3 r, ap (λ l. cond b (l ++ x ∷ []) l) h.4 ∙ both_kept b h.0 u x h.1)

  -- the front of now holds what is kept of the first items of old, and its back is old's
  pub record Kept (old now : List X) (kept place : ℕ) : Type 0 where
    pub long : length now ≡ length old
    pub front : kept ≤ place
    pub back : drop place now ≡ drop place old
    pub done : Retains R (take place old) (take kept now)

  pub none_kept : (old : List X) → Kept old old 0 0
  none_kept old = record { long = refl; front = omega arith; back = refl; done = refl }

  module _ (old now : List X) (kept place : ℕ) (x : X) (k : Kept old now kept place) (e : slice_get now place ≡ Some x) where
    in_old : slice_get old place ≡ Some x
    in_old = sym (get_of_drop old place) ∙ ap (λ l. slice_get l 0) (sym k.back) ∙ get_of_drop now place ∙ e

    later : take (suc place) old ≡ take place old ++ x ∷ []
    later = take_next old place x in_old

    rest : drop (suc place) now ≡ drop (suc place) old
    rest = drop_next now place ∙ ap (drop 1) k.back ∙ sym (drop_next old place)

    pub kept_more : (new : List X) → R x true → place < length old → new ≡ swap now kept place → Kept old new (kept + 1) (place + 1)
    kept_more new r lt s =
        let next : kept + 1 ≡ suc kept = omega arith in
        let after : place + 1 ≡ suc place = omega arith in
        let front : take (suc kept) new ≡ take kept now ++ x ∷ [] = ap (take (suc kept)) s ∙ swap_front now kept place x k.front (omega (arith, lt, k.long)) e in
        let grown : Retains R (take place old ++ x ∷ []) (take kept now ++ x ∷ []) = one_more (take place old) (take kept now) x true k.done r in
        let firsts : take (place + 1) old ≡ take place old ++ x ∷ [] = ap (λ n. take n old) after ∙ later in
        let fronts : take (kept + 1) new ≡ take kept now ++ x ∷ [] = ap (λ n. take n new) next ∙ front in
        let both : (take place old ++ x ∷ [], take kept now ++ x ∷ []) ≡ (take (place + 1) old, take (kept + 1) new) = λ j. (sym firsts j, sym fronts j) in
        record {
          long = ap length s ∙ length_swap now kept place ∙ k.long;
          front = omega (arith, k.front);
          back = ap (λ n. drop n new) after ∙ ap (drop (suc place)) s ∙ swap_back now kept place k.front ∙ rest ∙ ap (λ n. drop n old) (sym after);
          done = subst (λ (l : List X × List X). Retains R l.0 l.1) both grown;
        }

    pub kept_same : R x false → Kept old now kept (place + 1)
    kept_same r =
        let after : place + 1 ≡ suc place = omega arith in
        let same : Retains R (take place old ++ x ∷ []) (take kept now) = one_more (take place old) (take kept now) x false k.done r in
        record {
          long = k.long;
          front = omega (arith, k.front);
          back = ap (λ n. drop n now) after ∙ rest ∙ ap (λ n. drop n old) (sym after);
          done = subst (λ l. Retains R l (take kept now)) (sym (ap (λ n. take n old) after ∙ later)) same;
        }

  pub all_kept : (old now : List X) (kept place : ℕ) → Kept old now kept place → place ≡ length old → Retains R old (take kept now)
  all_kept old now kept place k e = subst (λ l. Retains R l (take kept now)) (ap (λ n. take n old) e ∙ whole old) k.done
