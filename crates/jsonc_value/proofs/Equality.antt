-- Equality of objects and arrays, one level down.
use Rattle.std.proofs.Common.{ℕ, ◌≡◌, ◌∙◌, sym, Bool, List}
use denote.RattleType.{RattleType}
use mir.Syntax.{Dict}
use Rattle.std.specs.Cmp.{IsEquivalence, partial_equiv_from_equiv, on_equiv}
use Rattle.std.specs.Cmp.Lexicographic.{nat_list_eq_equiv}
use Rattle.std.specs.Cow.{cow_str_bytes}
use Rattle.std.specs.Str.{bytes_eq}
use Rattle.std.specs.HashMap.{entries_eq}
use Rattle.std.specs.HashMap.Eq.{get_from_hash_map_eq, hash_map_eq_from_get}
use Rattle.std.specs.declared.alloc.Allocator as alloc
use Rattle.std.specs.declared.borrow.CowStr.{CowStr}
use Rattle.std.specs.declared.borrow.CowStr.TheVariants.{Borrowed}
use Rattle.jsonc_value.specs.Laws.{IsEquality, ByNames, ByPlaces}
use Rattle.jsonc_value.specs.Kinds.{properties}
use Rattle.jsonc_value.specs.Equal.{as_map}
use Rattle.jsonc_value.specs.declared.value.JsonValue.{JsonValue}
use Rattle.jsonc_value.specs.declared.value.JsonObject.{JsonObject}
use Rattle.jsonc_value.specs.declared.value.JsonArray.{JsonArray}
use Rattle.jsonc_value.specs.contracts.value.JsonObjectPartialEq.TheImpl as object
use Rattle.jsonc_value.specs.contracts.value.JsonObjectPartialEq.TheImpl.Laws as object-laws
use Rattle.jsonc_value.specs.contracts.value.JsonArrayPartialEq.TheImpl as array
use Rattle.jsonc_value.specs.contracts.value.JsonArrayPartialEq.TheImpl.Laws as array-laws
use Rattle.jsonc_value.specs.contracts.value.JsonValuePartialEq.TheImpl as value

pub equality_of : {X : Type 0} (eq : X → X → Bool) → IsEquivalence eq → IsEquality eq
equality_of eq o = record { reflexive = o.refl; mirrored = o.symm; transitive = (partial_equiv_from_equiv o).trans }

-- a key of this name
key : {A : Type 0} → List ℕ → CowStr A
key name = Borrowed (record { ref_ptr = (0, 0); now = name })

abbrev pub same_key : {A : Type 0} → CowStr A → CowStr A → Bool
same_key k l = bytes_eq (cow_str_bytes k) (cow_str_bytes l)

pub key_equiv : {A : Type 0} → IsEquivalence (same_key {A = A})
key_equiv = on_equiv cow_str_bytes nat_list_eq_equiv

module _ (T : RattleType) (heap : alloc.Ghosts T.Denot) (d e : Dict) where
  abbrev pub value_eq : JsonValue T.Denot → JsonValue T.Denot → Bool
  value_eq = (value.ghosts T heap d e).eq

  abbrev pub object_eq : JsonObject T.Denot → JsonObject T.Denot → Bool
  object_eq = (object.ghosts T heap d e).eq

  abbrev pub array_eq : JsonArray T.Denot → JsonArray T.Denot → Bool
  array_eq = (array.ghosts T heap d e).eq

  object_eq_is : (o p : JsonObject T.Denot) → object_eq o p ≡ entries_eq same_key (λ x y. value_eq x.1 y.1) (properties o) (properties p)
  object_eq_is o p = object-laws.is T heap d e o p

  pub array_eq_is : ByPlaces value_eq array_eq
  array_eq_is a b = array-laws.is T heap d e a b

  pub equal_at_names : ByNames value_eq object_eq
  unfolding key
  equal_at_names o p = (
    λ same name. get_from_hash_map_eq same_key value_eq key_equiv (as_map (properties o)) (as_map (properties p)) (sym (object_eq_is o p) ∙ same) (key name),
    λ agree. object_eq_is o p ∙ hash_map_eq_from_get same_key value_eq (as_map (properties o)) (as_map (properties p)) (λ k. agree (cow_str_bytes k)),
  )
