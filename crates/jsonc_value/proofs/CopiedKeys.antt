-- A map whose keys are clones of another's: it keeps the hashes.
use Rattle.std.proofs.Common.{◌≡◌, ℕ, nat_eq, Bool, true, List, [], ◌∷◌, map, refl, sym, ap, subst, ◌∙◌}
use Rattle.std.specs.Cmp.{IsEquivalence}
use Rattle.std.specs.Cmp.Lexicographic.{pointwise, nat_list_eq_equiv}
use Rattle.std.specs.List.{AllZip, IsDistinct}
use Rattle.std_collections.proofs.HashLookup.{IsDistinct-equal_keys, map_equal_keys}
use Rattle.jsonc_value.specs.Copies.{EqualsItsClones}
use Rattle.jsonc_value.specs.Hashes.{hashed, AreHashesOf}
use Rattle.jsonc_value.proofs.HashedKeys.{hash}

-- clones of keys equal them, place by place, where each clone of a key does
clones_equal : {K : Type 0} (eq : K → K → Bool) (is_key : K → K → Type 0) → EqualsItsClones eq is_key → (ks ls : List K) → AllZip is_key ks ls → pointwise eq ls ks ≡ true
clones_equal eq is_key h [] [] a = refl
clones_equal eq is_key h [] (l ∷ ls) a = absurd a
clones_equal eq is_key h (k ∷ ks) [] a = absurd a
clones_equal eq is_key h (k ∷ ks) (l ∷ ls) a = rw (h k l a.0, clones_equal eq is_key h ks ls a.1) refl

-- so does one of a text, which has the same bytes
pub texts_equal_clones : {K : Type 0} (bytes : K → List ℕ) → EqualsItsClones (λ k l. pointwise nat_eq (bytes k) (bytes l)) (λ k l. bytes l ≡ bytes k)
texts_equal_clones bytes key copy same = rw same (nat_list_eq_equiv.refl (bytes key))

module _ {K : Type 0} (input : K → List (List ℕ)) where
  same_hashes : (ks ls : List K) (hs : List ℕ) → map (hash input) ks ≡ map (hash input) ls → AreHashesOf input ks hs → AreHashesOf input ls hs
  same_hashes ks ls [] same kept = tt
  same_hashes ks ls (h ∷ hs) same kept = kept ∙ same

  module _ (eq : K → K → Bool) (laws : IsEquivalence eq) (respects : (k l : K) → eq k l ≡ true → input k ≡ input l) (is_key : K → K → Type 0) (equal : EqualsItsClones eq is_key) where
    pub copied_distinct : (ks ls : List K) → AllZip is_key ks ls → IsDistinct eq ks → IsDistinct eq ls
    copied_distinct ks ls all distinct = IsDistinct-equal_keys eq laws ls ks (clones_equal eq is_key equal ks ls all) distinct

    pub copied_hashes : (ks ls : List K) (old new : List ℕ) → AllZip is_key ks ls → new ≡ old → AreHashesOf input ks old → AreHashesOf input ls new
    copied_hashes ks ls old new all cloned kept =
        let same : pointwise eq ls ks ≡ true = clones_equal eq is_key equal ks ls all in
        let hashes : map (hash input) ks ≡ map (hash input) ls = sym (map_equal_keys eq laws (hash input) (λ k l e. ap hashed (respects k l e)) ls ks same) in
        same_hashes ks ls new hashes (subst (AreHashesOf input ks) (sym cloned) kept)
