-- What a map holds is known of where it keeps its pairs.
use Rattle.std.proofs.Common.{◌≡◌, ℕ, Bool, true, false, cond, List, [], ◌∷◌, ◌++◌, length, get_or, set, Result, Ok, Err, OnOk, OnErr, sym, ap, ◌∙◌, subst}
use Rattle.std.specs.Cmp.{IsEquivalence}
use Rattle.std.specs.List.{IsDistinct, list_any}
use Rattle.std.specs.Map.{keys_of}
use Rattle.std.proofs.lemmas.List.{map-append}
use Rattle.std.specs.declared.boxed.Box.{Box}
use Rattle.std.specs.declared.vec.Vec.{Vec}
use Rattle.jsonc_value.specs.declared.map.store.Hashed.{Hashed}
use Rattle.jsonc_value.specs.declared.map.store.Store.{Store}
use Rattle.jsonc_value.specs.declared.map.store.Store.TheVariants.{Few, Many}
use Rattle.jsonc_value.specs.Hashes.{AreHashesOf}
use Rattle.jsonc_value.specs.Stores.{IsHashed, pairs_in, KeepsHashes}
use Rattle.jsonc_value.proofs.DistinctKeys.{none_distinct, same_distinct, push_distinct}
use Rattle.jsonc_value.proofs.HashedKeys.{unhashed}
use Rattle.jsonc_value.proofs.Pairs.{same_keys}

module _ {K V A : Type 0} (s : Store K V A) where
  pub few_pairs : (es : List (K × V)) (pairs : Vec (K × V) A) → s ≡ Few pairs → pairs_in s ≡ es → pairs.items ≡ es
  few_pairs es pairs is seen = ap pairs_in (sym is) ∙ seen

  pub many_pairs : (es : List (K × V)) (both : Box (Hashed K V A) A) (b : Hashed K V A) → s ≡ Many both → b ≡ both.value → pairs_in s ≡ es → b.pairs.items ≡ es
  many_pairs es both b is lent seen = ap (λ h. h.pairs.items) lent ∙ ap pairs_in (sym is) ∙ seen

  module _ (eq : K → K → Bool) (input : K → List (List ℕ)) (holds : IsDistinct eq (keys_of (pairs_in s)) × KeepsHashes input s) where
    pub few_distinct : (pairs : Vec (K × V) A) → s ≡ Few pairs → IsDistinct eq (keys_of pairs.items)
    few_distinct pairs is = subst (λ t. IsDistinct eq (keys_of (pairs_in t))) is holds.0

    pub many_hold : (both : Box (Hashed K V A) A) (b : Hashed K V A) → s ≡ Many both → b ≡ both.value → IsDistinct eq (keys_of b.pairs.items) × IsHashed input b
    many_hold both b is lent = subst (λ h. IsDistinct eq (keys_of h.pairs.items) × IsHashed input h) (sym lent) (subst (λ t. IsDistinct eq (keys_of (pairs_in t)) × KeepsHashes input t) is holds)

module _ {K V A : Type 0} (eq : K → K → Bool) (input : K → List (List ℕ)) where
  -- no pairs have all hashes that there are
  pub empty_holds : (b : Hashed K V A) → b.pairs.items ≡ [] → length b.hashes.keys ≡ 0 → IsDistinct eq (keys_of b.pairs.items) × IsHashed input b
  empty_holds b none len = (none_distinct eq (keys_of b.pairs.items) (ap keys_of none), unhashed input (keys_of b.pairs.items) b.hashes.keys len)

  -- a value that is written leaves keys and hashes
  pub few_lent : (t : Store K V A) (es : List (K × V)) (i : ℕ) (e : K × V) (w : V) → e ≡ get_or es i e → IsDistinct eq (keys_of es)
      → pairs_in t ≡ set es i (e.0, w) → KeepsHashes input t → IsDistinct eq (keys_of (pairs_in t)) × KeepsHashes input t
  few_lent t es i e w there distinct written kept = (subst (IsDistinct eq) (sym (ap keys_of written ∙ same_keys es i e w there)) distinct, kept)

  pub many_lent : (t : Store K V A) (b : Hashed K V A) (i : ℕ) (e : K × V) (w : V) → e ≡ get_or b.pairs.items i e → IsDistinct eq (keys_of b.pairs.items) × IsHashed input b
      → pairs_in t ≡ set b.pairs.items i (e.0, w) → (AreHashesOf input (keys_of (set b.pairs.items i (e.0, w))) b.hashes.keys → KeepsHashes input t)
      → IsDistinct eq (keys_of (pairs_in t)) × KeepsHashes input t
  many_lent t b i e w there holds written keeps =
      let same = same_keys b.pairs.items i e w there in
      (subst (IsDistinct eq) (sym (ap keys_of written ∙ same)) holds.0, keeps (subst (λ ks. AreHashesOf input ks b.hashes.keys) (sym same) holds.1))

module _ {K V : Type 0} (eq : K → K → Bool) (laws : IsEquivalence eq) (es new : List (K × V)) (p : K × V) (none : list_any (eq p.0) (keys_of es) ≡ false) (distinct : IsDistinct eq (keys_of es)) where
  last_distinct : new ≡ es ++ p ∷ [] → IsDistinct eq (keys_of new)
  last_distinct e = push_distinct eq laws p.0 (keys_of es) (keys_of new) (ap keys_of e ∙ map-append (λ q. q.0) es (p ∷ [])) none distinct

  -- a pair that was pushed, or refused
  pub pushed_distinct : (b : Bool) → new ≡ cond b (es ++ p ∷ []) es → IsDistinct eq (keys_of new)
  pushed_distinct true e = last_distinct e
  pushed_distinct false e = same_distinct eq (keys_of es) (keys_of new) (ap keys_of e) distinct

  pub told_distinct : {X E : Type 0} (r : Result X E) → OnOk r (new ≡ es ++ p ∷ []) → OnErr r (new ≡ es) → IsDistinct eq (keys_of new)
  told_distinct (Ok x) ok err = last_distinct ok
  told_distinct (Err x) ok err = same_distinct eq (keys_of es) (keys_of new) (ap keys_of err) distinct
