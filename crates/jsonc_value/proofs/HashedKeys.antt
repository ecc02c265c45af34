-- Keys that are found by their hashes, and hashes that go with their keys.
use Rattle.std.proofs.Common.{◌≡◌, ℕ, zero, suc, ◌+◌, ◌<◌, nat_eq, Bool, true, false, cond, not, List, [], ◌∷◌, ◌++◌, map, length, get_or, take, swap, position, Some, None, refl, sym, ap, subst, ◌∙◌, arith, true≢false}
use Rattle.std.proofs.Math.ListN.{get_or-map}
use Rattle.std.proofs.lemmas.List.{length-map, map-append, take-map}
use Rattle.std.specs.Cmp.{nat_eq_equiv}
use Rattle.std.specs.List.{remove, list_any, AllByRecursion, AllZip, IsDistinct}
use Rattle.std.proofs.Math.Seq.{take-length}
use Rattle.indexmap.specs.IndexSet.{insert_key}
use Rattle.indexmap.proofs.SetLemmas.{map-remove}
use Rattle.indexmap.proofs.ReorderLemmas.{map-swap}
use Rattle.jsonc_value.specs.Hashes.{hashed, AreHashesOf}
use Rattle.jsonc_value.proofs.Firsts.{apart, First, first_at, FailsBefore, Searched, found_at, found_none}

fails_too : (b c : Bool) → (b ≡ true → c ≡ true) → c ≡ false → b ≡ false
fails_too true c h e = absurd (true≢false (sym (h refl) ∙ e))
fails_too false c h e = refl

pub not_true : (b : Bool) → true ≡ not b → b ≡ false
not_true true e = absurd (true≢false e)
not_true false e = refl

taken_suc : {X : Type 0} (xs : List X) (i : ℕ) (x : X) → i < length xs → get_or xs i x ≡ x → take (suc i) xs ≡ take i xs ++ x ∷ []
taken_suc [] i x lt at = absurd (omega (arith, lt))
taken_suc (y ∷ xs) zero x lt at = ap (λ z. z ∷ []) at
taken_suc (y ∷ xs) (suc i) x lt at = ap (λ l. y ∷ l) (taken_suc xs i x (omega (arith, lt)) at)

pub taken_more : {X : Type 0} (xs : List X) (i : ℕ) (x : X) → i < length xs → get_or xs i x ≡ x → take (i + 1) xs ≡ take i xs ++ x ∷ []
taken_more xs i x lt at = ap (λ n. take n xs) (let one : i + 1 ≡ suc i = omega arith in one) ∙ taken_suc xs i x lt at

none_taken : (n : ℕ) → take {A = ℕ} n [] ≡ []
none_taken zero = refl
none_taken (suc n) = refl

module _ {K : Type 0} (input : K → List (List ℕ)) where
  abbrev pub hash : K → ℕ
  hash k = hashed (input k)

  module _ (p : K → Bool) (h : ℕ) (respects : (k : K) → p k ≡ true → nat_eq h (hash k) ≡ true) where
    absent : (ks : List K) → list_any (nat_eq h) (map hash ks) ≡ false → list_any p ks ≡ false
    absent [] e = refl
    absent (k ∷ ks) e =
        let both = apart (nat_eq h (hash k)) (list_any (nat_eq h) (map hash ks)) e in
        rw (fails_too (p k) (nat_eq h (hash k)) (respects k) both.0) (absent ks both.1)

    before : (ks : List K) (i : ℕ) → i < length ks → Some i ≡ position (nat_eq h) (map hash ks) → FailsBefore p ks i
    before ks i lt at j below d =
        let f : First (nat_eq h) (map hash ks) i = first_at (nat_eq h) (map hash ks) i (omega (arith, lt, length-map ks hash)) (sym at) in
        fails_too (p (get_or ks j d)) (nat_eq h (hash (get_or ks j d))) (respects (get_or ks j d)) (ap (nat_eq h) (sym (get_or-map hash ks j d)) ∙ f.2 j (hash d) below)

    pub found_by_hash : (ks : List K) (i : ℕ) (d : K) → i < length ks → Some i ≡ position (nat_eq h) (map hash ks) → p (get_or ks i d) ≡ true → Searched p ks (Some i)
    found_by_hash ks i d lt at here = found_at p ks i d lt (before ks i lt at) here

    pub not_found : (ks : List K) → list_any (nat_eq h) (map hash ks) ≡ false → Searched p ks None
    not_found ks none = found_none p ks (absent ks none)

  pub kept_whole : (ks : List K) (hs : List ℕ) → hs ≡ map hash ks → AreHashesOf input ks hs
  kept_whole ks [] e = tt
  kept_whole ks (h ∷ hs) e = e

  -- where hashes are kept, they are those of all keys
  pub whole : (ks : List K) (hs : List ℕ) → AreHashesOf input ks hs → (length hs ≡ 0 → ⊥) → hs ≡ map hash ks
  whole ks [] kept some = absurd (some refl)
  whole ks (h ∷ hs) kept some = kept

  -- no hashes are those of any keys
  pub unhashed : (ks : List K) (hs : List ℕ) → length hs ≡ 0 → AreHashesOf input ks hs
  unhashed ks [] none = tt
  unhashed ks (h ∷ hs) none = let never : ⊥ = omega (arith, none) in absurd never

  pub removed_hash : (ks ls : List K) (hs new : List ℕ) (i : ℕ) → AreHashesOf input ks hs → new ≡ remove hs i → ls ≡ remove ks i → AreHashesOf input ls new
  removed_hash ks ls [] new i kept e same = subst (AreHashesOf input ls) (sym (e ∙ ap (λ l. l ++ []) (none_taken i))) tt
  removed_hash ks ls (h ∷ hs) new i kept e same = kept_whole ls new (e ∙ ap (λ l. remove l i) kept ∙ sym (map-remove hash ks i) ∙ ap (map hash) (sym same))

  pub swapped_hashes : (ks ls : List K) (hs new : List ℕ) (i j : ℕ) → AreHashesOf input ks hs → (length hs ≡ 0 → ⊥) → new ≡ swap hs i j → ls ≡ swap ks i j → AreHashesOf input ls new
  swapped_hashes ks ls hs new i j kept some e same = kept_whole ls new (e ∙ ap (λ l. swap l i j) (whole ks hs kept some) ∙ sym (map-swap hash ks i j) ∙ ap (map hash) (sym same))

  pub taken_hashes : (ks ls : List K) (hs new : List ℕ) (n : ℕ) → AreHashesOf input ks hs → new ≡ take n hs → ls ≡ take n ks → AreHashesOf input ls new
  taken_hashes ks ls [] new n kept e same = subst (AreHashesOf input ls) (sym (e ∙ none_taken n)) tt
  taken_hashes ks ls (h ∷ hs) new n kept e same = kept_whole ls new (e ∙ ap (take n) kept ∙ take-map hash n ks ∙ ap (map hash) (sym same))

  all_kept : (ks : List K) (hs : List ℕ) → AreHashesOf input ks hs → length hs ≡ length ks → hs ≡ map hash ks
  all_kept [] [] kept e = refl
  all_kept (k ∷ ks) [] kept e = let never : ⊥ = omega (arith, e) in absurd never
  all_kept ks (h ∷ hs) kept e = kept

  pub one_hash_more : (ks : List K) (hs new : List ℕ) (k : K) (h : ℕ) → AreHashesOf input ks hs → length hs ≡ length ks → h ≡ hash k
      → true ≡ not (list_any (nat_eq h) hs) → new ≡ insert_key nat_eq hs h → AreHashesOf input (ks ++ k ∷ []) new
  one_hash_more ks hs new k h kept long same added put =
      let none : list_any (nat_eq h) hs ≡ false = not_true (list_any (nat_eq h) hs) added in
      let last : new ≡ hs ++ h ∷ [] = put ∙ ap (λ b. cond b hs (hs ++ h ∷ [])) none in
      kept_whole (ks ++ k ∷ []) new (last ∙ ap (λ n. hs ++ n ∷ []) same ∙ ap (λ l. l ++ hash k ∷ []) (all_kept ks hs kept long) ∙ sym (map-append hash ks (k ∷ [])))

  -- where there are not as many hashes as keys there are none
  pub none_kept : (ks ls : List K) (hs : List ℕ) → AreHashesOf input ks hs → (length hs ≡ length ks → ⊥) → AreHashesOf input ls hs
  none_kept ks ls [] kept other = tt
  none_kept ks ls (h ∷ hs) kept other = absurd (other (ap length kept ∙ length-map ks hash))

  pub none_hashed : (ks : List K) (hs : List ℕ) → hs ≡ [] → hs ≡ map hash (take 0 ks)
  none_hashed ks hs e = e

  pub next_hashed : (ks : List K) (i : ℕ) (k : K) (h : ℕ) (hs new : List ℕ) → i < length ks → get_or ks i k ≡ k → h ≡ hash k → hs ≡ map hash (take i ks) → true ≡ not (list_any (nat_eq h) hs) → new ≡ insert_key nat_eq hs h → new ≡ map hash (take (i + 1) ks)
  next_hashed ks i k h hs new lt at same e added put =
      let none : list_any (nat_eq h) hs ≡ false = not_true (list_any (nat_eq h) hs) added in
      let last : new ≡ hs ++ h ∷ [] = put ∙ ap (λ b. cond b hs (hs ++ h ∷ [])) none in
      last ∙ ap (λ n. hs ++ n ∷ []) same ∙ ap (λ l. l ++ hash k ∷ []) e ∙ sym (map-append hash (take i ks) (k ∷ [])) ∙ ap (map hash) (sym (taken_more ks i k lt at))

  pub all_hashed : (ks : List K) (i : ℕ) (hs : List ℕ) → i ≡ length ks → hs ≡ map hash (take i ks) → hs ≡ map hash ks
  all_hashed ks i hs end e = e ∙ ap (λ n. map hash (take n ks)) end ∙ ap (map hash) (take-length ks)

-- the same writes have the same hash
pub same_hash : (h : ℕ) (a b : List (List ℕ)) → h ≡ hashed a → a ≡ b → nat_eq h (hashed b) ≡ true
same_hash h a b e same = ap (λ n. nat_eq n (hashed b)) (e ∙ ap hashed same) ∙ nat_eq_equiv.refl (hashed b)

-- clones of numbers are the numbers
pub cloned_numbers : (xs ys : List ℕ) → AllZip (λ x y. y ≡ x) xs ys → ys ≡ xs
cloned_numbers [] [] all = refl
cloned_numbers [] (y ∷ ys) all = absurd all
cloned_numbers (x ∷ xs) [] all = absurd all
cloned_numbers (x ∷ xs) (y ∷ ys) all = λ i. all.0 i ∷ cloned_numbers xs ys all.1 i

-- keys whose hashes are distinct are distinct
module _ {K : Type 0} (input : K → List (List ℕ)) (eq : K → K → Bool) (respects : (k l : K) → eq k l ≡ true → input k ≡ input l) where
  none_equal : (k : K) (ks : List K) → AllByRecursion (λ h. nat_eq (hash input k) h ≡ false) (map (hash input) ks) → AllByRecursion (λ l. eq k l ≡ false) ks
  none_equal k [] all = tt
  none_equal k (l ∷ ks) all =
      (fails_too (eq k l) (nat_eq (hash input k) (hash input l)) (λ e. same_hash (hash input k) (input k) (input l) refl (respects k l e)) all.0, none_equal k ks all.1)

  by_hash : (ks : List K) → IsDistinct nat_eq (map (hash input) ks) → IsDistinct eq ks
  unfolding IsDistinct
  by_hash [] d = tt
  by_hash (k ∷ ks) d = (none_equal k ks d.0, by_hash ks d.1)

  pub distinct_by_hash : (ks : List K) (hs : List ℕ) → hs ≡ map (hash input) ks → IsDistinct nat_eq hs → IsDistinct eq ks
  distinct_by_hash ks hs e d = by_hash ks (subst (IsDistinct nat_eq) e d)
