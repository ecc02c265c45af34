-- Keys that stay distinct.
use Rattle.std.proofs.Common.{◌≡◌, ℕ, zero, suc, ◌<◌, Bool, false, List, [], ◌∷◌, ◌++◌, length, take, swap, subst, refl, sym, ap, ◌∙◌, append_assoc}
use Rattle.std.proofs.lemmas.List.Sorted.{IsPermutation-swap}
use Rattle.std.proofs.lemmas.Map.Keys.{IsDistinct-push, IsDistinct-IsPermutation}
use Rattle.std.proofs.lemmas.List.{append-nil, map-append}
use Rattle.std.specs.Cmp.{IsEquivalence}
use Rattle.std.specs.Map.{keys_of}
use Rattle.indexmap.specs.IndexMap.{insert_all}
use Rattle.std.specs.List.{remove, list_any, AllByRecursion, IsDistinct}
use Rattle.jsonc_value.proofs.Pairs.{inserted_last}

module _ {K : Type 0} (eq : K → K → Bool) where
  pub same_distinct : (ks ls : List K) → ls ≡ ks → IsDistinct eq ks → IsDistinct eq ls
  same_distinct ks ls e d = subst (IsDistinct eq) (sym e) d

  pub none_distinct : (ks : List K) → ks ≡ [] → IsDistinct eq ks
  unfolding IsDistinct
  none_distinct ks e = subst (IsDistinct eq) (sym e) tt

  all_taken : (P : K → Type 0) (n : ℕ) (ks : List K) → AllByRecursion P ks → AllByRecursion P (take n ks)
  all_taken P zero ks a = tt
  all_taken P (suc n) [] a = tt
  all_taken P (suc n) (k ∷ ks) a = (a.0, all_taken P n ks a.1)

  taken_distinct : (n : ℕ) (ks : List K) → IsDistinct eq ks → IsDistinct eq (take n ks)
  unfolding IsDistinct
  taken_distinct zero ks d = tt
  taken_distinct (suc n) [] d = tt
  taken_distinct (suc n) (k ∷ ks) d = (all_taken (λ y. eq k y ≡ false) n ks d.0, taken_distinct n ks d.1)

  all_left : (P : K → Type 0) (ks : List K) (i : ℕ) → AllByRecursion P ks → AllByRecursion P (remove ks i)
  all_left P [] zero a = tt
  all_left P [] (suc i) a = tt
  all_left P (k ∷ ks) zero a = a.1
  all_left P (k ∷ ks) (suc i) a = (a.0, all_left P ks i a.1)

  left_distinct : (ks : List K) (i : ℕ) → IsDistinct eq ks → IsDistinct eq (remove ks i)
  unfolding IsDistinct
  left_distinct [] zero d = tt
  left_distinct [] (suc i) d = tt
  left_distinct (k ∷ ks) zero d = d.1
  left_distinct (k ∷ ks) (suc i) d = (all_left (λ y. eq k y ≡ false) ks i d.0, left_distinct ks i d.1)

  pub take_distinct : (n : ℕ) (ks ls : List K) → ls ≡ take n ks → IsDistinct eq ks → IsDistinct eq ls
  take_distinct n ks ls e d = same_distinct (take n ks) ls e (taken_distinct n ks d)

  pub remove_distinct : (i : ℕ) (ks ls : List K) → ls ≡ remove ks i → IsDistinct eq ks → IsDistinct eq ls
  remove_distinct i ks ls e d = same_distinct (remove ks i) ls e (left_distinct ks i d)

  module _ (laws : IsEquivalence eq) where
    pub swap_distinct : (i j : ℕ) (ks ls : List K) → i < length ks → j < length ks → ls ≡ swap ks i j → IsDistinct eq ks → IsDistinct eq ls
    swap_distinct i j ks ls a b e d = IsDistinct-IsPermutation eq laws.symm ks ls (IsPermutation-swap ks ls i j a b e) d

    pub push_distinct : (k : K) (ks ls : List K) → ls ≡ ks ++ k ∷ [] → list_any (eq k) ks ≡ false → IsDistinct eq ks → IsDistinct eq ls
    push_distinct k ks ls e none d = same_distinct (ks ++ k ∷ []) ls e (IsDistinct-push laws ks k d none)

    all_of_one : (P : K → Type 0) (ks xs : List K) (x : K) → AllByRecursion P (ks ++ x ∷ xs) → P x
    all_of_one P [] xs x a = a.0
    all_of_one P (k ∷ ks) xs x a = all_of_one P ks xs x a.1

    absent_before : (ks xs : List K) (x : K) → IsDistinct eq (ks ++ x ∷ xs) → list_any (eq x) ks ≡ false
    unfolding IsDistinct
    absent_before [] xs x d = refl
    absent_before (k ∷ ks) xs x d = rw (laws.symm x k ∙ all_of_one (λ y. eq k y ≡ false) ks xs x d.0) (absent_before ks xs x d.1)

    -- pairs whose keys are distinct stand as they are inserted
    pub all_last : {V : Type 0} (done es : List (K × V)) → IsDistinct eq (keys_of (done ++ es)) → insert_all eq done es ≡ done ++ es
    all_last done [] d = sym (append-nil done)
    all_last done (e ∷ es) d =
        let apart : keys_of (done ++ e ∷ es) ≡ keys_of done ++ e.0 ∷ keys_of es = map-append (λ p. p.0) done (e ∷ es) in
        let none : list_any (eq e.0) (keys_of done) ≡ false = absent_before (keys_of done) (keys_of es) e.0 (subst (IsDistinct eq) apart d) in
        let moved : (done ++ e ∷ []) ++ es ≡ done ++ e ∷ es = append_assoc done (e ∷ []) es in
        ap (λ l. insert_all eq l es) (sym (inserted_last eq done e.0 e.1 (sym none))) ∙ all_last (done ++ e ∷ []) es (subst (λ l. IsDistinct eq (keys_of l)) (sym moved) d) ∙ moved
