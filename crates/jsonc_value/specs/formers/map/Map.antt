-- `Map` as a type whose values may hold it again: it holds its values, in their order.
use Rattle.std.specs.Prelude.{◌≡◌, ℕ, Bool, List, [], ◌∷◌, map}
use mathlib.Core.Path.{refl, sym, subst}
use mathlib.Core.HLevel.{×_prop}
use mathlib.Core.Logic.{◌⊎◌, inl, inr}
use mathlib.Core.Former.{Former, this, const, pair, or, list, via, children}
use base.Fml.{ftrue}
use base.Stored.{gnil, coded_ℕ, coded_list, Coded-set}
use denote.Memory.{part_of}
use denote.RattleType.{RattleType}
use denote.RawPtr.{Ptr}
use denote.Sharing.{nothing}
use denote.HoleLaws.{Alike}
use denote.HolePlaces.{Recodes, struct_places, enum_places, eachs, laid, stays, one_value}
use denote.Hole.Carrier.{listed}
use denote.Hole.Fix.{over}
use denote.Param.Weighed.{Weighed, most}
use denote.Struct.Tuple.{Tuple, tuple_type}
use denote.Model.Placed.{held, view_places}
use Rattle.std.specs.List.{IsDistinct, IsDistinct-prop}
use Rattle.std.specs.Map.{keys_of, values_of}
use Rattle.std.specs.declared.alloc.Allocator as alloc
use Rattle.std.specs.declared.boxed.Box.{Box}
use Rattle.std.specs.declared.vec.Vec.{Vec}
use Rattle.std.specs.contracts.boxed.Box as box
use Rattle.std.specs.contracts.vec.Vec as vec_row
use Rattle.std.specs.declared.cmp.PartialEq as eq
use Rattle.std.specs.declared.hash.Hash as hash
use Rattle.std.specs.declared.hash.BuildHasherDefault.{BuildHasherDefault}
use Rattle.std.specs.declared.hash.FoldHasher.{FoldHasher}
use Rattle.std.specs.HashMap.{entries_eq}
use Rattle.std_collections.specs.formers.hash_map.HashMap.{entries_eq-map}
use Rattle.std.specs.formers.vec.Vec as vec
use Rattle.std_collections.specs.Layout.Former.{entry, on_value, entries_puts, values_listed, keys_on_values, entries_recoded}
use Rattle.indexmap.specs.IndexSet.{IndexSet}
use Rattle.jsonc_value.specs.Hashes.{AreHashesOf}
use Rattle.jsonc_value.specs.Stores.{pairs_in, KeepsHashes}
use Rattle.jsonc_value.specs.declared.map.store.Hashed.{Hashed}
use Rattle.jsonc_value.specs.declared.map.store.Store.{Store}
use Rattle.jsonc_value.specs.declared.map.store.Store.TheVariants.{Few, Many}
use Rattle.jsonc_value.specs.contracts.map.store.Hashed as hashed
use Rattle.jsonc_value.specs.contracts.map.store.Store as store
use Rattle.jsonc_value.specs.declared.map.Map.TheInside.{Inside}
use Rattle.jsonc_value.specs.declared.map.Map.TheView.{view, invariant}
use Rattle.jsonc_value.specs.contracts.map.Map as C
use Rattle.jsonc_value.specs.contracts.map.Map.TheInside as I

abbrev pub the_former : Former {0} → Type 0 → Type 0 → Former {0}
the_former g K A = list (entry g K)

abbrev pub the_weighed : {g : Former {0}} → Weighed g → (K A : Type 0) → Weighed (the_former g K A)
the_weighed w K A = record { weight = λ X μ es. most (w.weight X μ) (values_of es); puts = λ X μ es. entries_puts w K X μ es }

pub the_empty : (K A : Type 0) → K → A → List (K × ⊥)
the_empty K A k a = []

abbrev pub the_items : (K A X : Type 0) → List (K × X) → List X
the_items K A X es = values_of es

pub the_items_listed : (K A X : Type 0) (es : List (K × X)) → listed _ (children (the_former this K A) X es) ≡ the_items K A X es
the_items_listed K A X es = values_listed K X es

abbrev Hashes : Type 0
Hashes = IndexSet ℕ (BuildHasherDefault FoldHasher)

module _ {K X A : Type 0} where
  abbrev split : Store K X A → Vec (K × X) A ⊎ ((Ptr × A) × (Vec (K × X) A × Hashes))
  split (Few pairs) = inl pairs
  split (Many both) = inr ((both.ptr, both.alloc), (both.value.pairs, both.value.hashes))

  abbrev join : Vec (K × X) A ⊎ ((Ptr × A) × (Vec (K × X) A × Hashes)) → Store K X A
  join (inl pairs) = Few pairs
  join (inr both) = Many (record { ptr = both.0.0; alloc = both.0.1; value = record { pairs = both.1.0; hashes = both.1.1 } })

  join-split : (s : Store K X A) → join (split s) ≡ s
  join-split (Few pairs) = refl
  join-split (Many both) = refl

  split-join : (v : Vec (K × X) A ⊎ ((Ptr × A) × (Vec (K × X) A × Hashes))) → split (join v) ≡ v
  split-join (inl pairs) = refl
  split-join (inr both) = refl

abbrev stored : Type 0 → Type 0 → Former {0}
stored K A = via (or (vec.the_former (entry this K) A) (pair (const (Ptr × A)) (pair (vec.the_former (entry this K) A) (const Hashes)))) (λ X. Inside K X A)
    (λ X m. split m.store) (λ X v. record { store = join v }) (λ X m i. record { store = join-split m.store i }) (λ X v. split-join v)

module _ {K X Y A : Type 0} (h : X → Y) where
  abbrev hashed_over : Hashed K X A → Hashed K Y A
  hashed_over both = record { pairs = vec.mapped (on_value h) both.pairs; hashes = both.hashes }

  abbrev box_over : Box (Hashed K X A) A → Box (Hashed K Y A) A
  box_over b = record { ptr = b.ptr; alloc = b.alloc; value = hashed_over b.value }

  abbrev store_over : Store K X A → Store K Y A
  store_over (Few pairs) = Few (vec.mapped (on_value h) pairs)
  store_over (Many both) = Many (box_over both)

  mapped : (s : Store K X A) → ((stored K A).map X Y h (record { store = s })).store ≡ store_over s
  mapped (Few pairs) = refl
  mapped (Many both) = refl

  natural : (s : Store K X A) → pairs_in ((stored K A).map X Y h (record { store = s })).store ≡ map (on_value h) (pairs_in s)
  natural (Few pairs) = refl
  natural (Many both) = refl

keeps : {K X A : Type 0} (s : Store K X A) → held (list (entry this K)) X (pairs_in s) ≡ held (stored K A) X (record { store = s })
keeps (Few pairs) = refl
keeps (Many both) = refl

module _ {K : Type 0} (eq : K → K → Bool) (input : K → List (List ℕ)) where
  abbrev Holds : {X A : Type 0} → Store K X A → Type 0
  Holds s = IsDistinct eq (keys_of (pairs_in s)) × KeepsHashes input s

  hashes-prop : (ks : List K) (hs : List ℕ) → IsProp (AreHashesOf input ks hs)
  hashes-prop ks [] = λ x y i. tt
  hashes-prop ks (h ∷ hs) = Coded-set (coded_list coded_ℕ) _ _

  kept-prop : {X A : Type 0} (s : Store K X A) → IsProp (KeepsHashes input s)
  kept-prop (Few pairs) = λ x y i. tt
  kept-prop (Many both) = hashes-prop _ both.value.hashes.keys

  pub Holds-prop : {X A : Type 0} (s : Store K X A) → IsProp (Holds s)
  Holds-prop s = ×_prop (IsDistinct-prop eq _) (kept-prop s)

  module _ {X Y A : Type 0} (h : X → Y) where
    pub Holds-to : (s : Store K X A) → Holds s → Holds (store_over h s)
    Holds-to (Few pairs) p = (subst (IsDistinct eq) (sym (keys_on_values h pairs.items)) p.0, tt)
    Holds-to (Many both) p = subst (λ ks. IsDistinct eq ks × AreHashesOf input ks both.value.hashes.keys) (sym (keys_on_values h both.value.pairs.items)) p

    pub Holds-from : (s : Store K X A) → Holds (store_over h s) → Holds s
    Holds-from (Few pairs) p = (subst (IsDistinct eq) (keys_on_values h pairs.items) p.0, tt)
    Holds-from (Many both) p = subst (λ ks. IsDistinct eq ks × AreHashesOf input ks both.value.hashes.keys) (keys_on_values h both.value.pairs.items) p

module _ (K A : RattleType) (L : alloc.Ghosts A.Denot) (R R' : RattleType) (h : R.Denot → R'.Denot) where
  abbrev box_of : RattleType → RattleType
  box_of T = box.the_row T A L

  variant : (s : Store K.Denot R.Denot A.Denot)
      → (store.enum K R' A L).as_values (store_over h s)
      ≡ eachs (store.enum K R A L).parts (store.enum K R' A L).parts ((vec.mapped (on_value h), tt), ((box_over h, tt), tt)) ((store.enum K R A L).as_values s)
  variant (Few pairs) = refl
  variant (Many both) = refl

  pairs_placed : Alike R R' h → Alike (Tuple (K ∷ R ∷ [])) (Tuple (K ∷ R' ∷ [])) (on_value h)
  pairs_placed a = struct_places (tuple_type (K ∷ R ∷ [])) (tuple_type (K ∷ R' ∷ [])) (λ k. k, (h, tt)) (on_value h) (λ d. refl) refl (stays K, (laid R R' h a, tt))

  vec_placed : Alike R R' h → Alike (vec_row.the_row (Tuple (K ∷ R ∷ [])) A L) (vec_row.the_row (Tuple (K ∷ R' ∷ [])) A L) (vec.mapped (on_value h))
  vec_placed a = vec.the_places A L (Tuple (K ∷ R ∷ [])) (Tuple (K ∷ R' ∷ [])) (on_value h) (pairs_placed a)

  hashed_placed : Alike R R' h → Alike (hashed.the_row K R A L) (hashed.the_row K R' A L) (hashed_over h)
  hashed_placed a = struct_places (hashed.the_type K R A L) (hashed.the_type K R' A L) (vec.mapped (on_value h), (λ n. n, tt)) (hashed_over h) (λ d. refl) refl
      (laid _ _ _ (vec_placed a), ((refl, (λ n. refl, λ n. refl)), tt))

  -- a box owns and lends one value
  box_placed : Alike (hashed.the_row K R A L) (hashed.the_row K R' A L) (hashed_over h) → Alike (box_of (hashed.the_row K R A L)) (box_of (hashed.the_row K R' A L)) (box_over h)
  unfolding part_of
  box_placed a =
      let T = hashed.the_row K R A L in record {
        mir_same = λ i. (box_of (one_value T (a.mir_same i) (λ _. ftrue) (λ _ _. nothing) gnil)).mir;
        own_same = λ b i. (box_of (one_value T (a.mir_same i) (a.own_same b.value i) (a.shr_same b.value i) gnil)).own_val (record { ptr = b.ptr; alloc = b.alloc; value = tt });
        shr_same = λ b i. (box_of (one_value T (a.mir_same i) (a.own_same b.value i) (a.shr_same b.value i) gnil)).shr_at (record { ptr = b.ptr; alloc = b.alloc; value = tt });
      }

  pub store_placed : Alike R R' h → Alike (store.the_row K R A L) (store.the_row K R' A L) (store_over h)
  store_placed a = enum_places (store.enum K R A L) (store.enum K R' A L) ((vec.mapped (on_value h), tt), ((box_over h, tt), tt)) (store_over h) variant refl
      ((laid _ _ _ (vec_placed a), tt), ((laid _ _ _ (box_placed (hashed_placed a)), tt), tt))

module _ (K A : RattleType) (G : eq.Ghosts K.Denot) (H : hash.Ghosts K.Denot) (L : alloc.Ghosts A.Denot) (R R' : RattleType) (h : R.Denot → R'.Denot) where
  pub the_places : Alike R R' h → Alike (C.the_row K R A G H L) (C.the_row K R' A G H L) ((the_former this K.Denot A.Denot).map R.Denot R'.Denot h)
  the_places a = view_places (stored K.Denot A.Denot) (the_former this K.Denot A.Denot) (λ X. view K.Denot X A.Denot G H L)
      (λ X Y f m. natural f m.store) (λ X m. keeps m.store)
      R.Denot R'.Denot h (C.the_row K R A G H L).coded (C.the_row K R' A G H L).coded
      (invariant K.Denot R.Denot A.Denot G H L) (invariant K.Denot R'.Denot A.Denot G H L)
      (λ m. Holds-prop G.eq H.hash_input m.store) (λ m. Holds-prop G.eq H.hash_input m.store)
      (λ m p. subst (Holds G.eq H.hash_input) (sym (mapped h m.store)) (Holds-to G.eq H.hash_input h m.store p))
      (λ m p. Holds-from G.eq H.hash_input h m.store (subst (Holds G.eq H.hash_input) (mapped h m.store) p))
      (over (I.the_row K R A G H L)) (over (I.the_row K R' A G H L))
      (struct_places (I.the_type K R A G H L) (I.the_type K R' A G H L) (store_over h, tt) _ (λ d i. (mapped h d.store i, tt)) refl (laid _ _ _ (store_placed K A L R R' h a), tt))

  pub the_codes_placed : Recodes R R' h → Recodes (C.the_row K R A G H L) (C.the_row K R' A G H L) ((the_former this K.Denot A.Denot).map R.Denot R'.Denot h)
  the_codes_placed e es = entries_recoded K R R' h e es

pub the_eq_natural : (K A X Y : Type 0) (h : X → Y) (G : eq.Ghosts K) (H : hash.Ghosts K) (V : eq.Ghosts Y) (L : alloc.Ghosts A) (m n : List (K × X))
    → entries_eq G.eq (λ p q. V.eq p.1 q.1) (map (on_value h) m) (map (on_value h) n) ≡ entries_eq G.eq (λ p q. V.eq (h p.1) (h q.1)) m n
the_eq_natural K A X Y h G H V L m n = entries_eq-map G.eq (λ p q. V.eq p.1 q.1) (on_value h) m n (λ p. refl)
