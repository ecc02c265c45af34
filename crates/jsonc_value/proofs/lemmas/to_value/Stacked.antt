-- Elements and properties of containers that have not ended, one behind the other.
use Rattle.std.proofs.Common.{◌≡◌, ℕ, List, [], ◌∷◌, ◌++◌, length, refl, sym, subst, ◌∙◌}
use Rattle.std.proofs.lemmas.List.{append-nil}
use Rattle.std.proofs.lemmas.List.Elements.{All-nil}
use Rattle.std.specs.declared.borrow.CowStr.{CowStr}
use Rattle.indexmap.specs.IndexMap.{insert_all}
use Rattle.jsonc_walk.specs.Located.{Located, LocatedMember}
use Rattle.jsonc_value.specs.declared.to_value.values.ValueMaker.{ValueMaker}
use Rattle.jsonc_value.specs.declared.value.JsonValue.{JsonValue}
use Rattle.jsonc_value.specs.to_value.Made.{IsMade, IsNamed, HoldsElements, HoldsProperties, source_in}
use Rattle.jsonc_value.specs.to_value.Lent.{AreLent, IsLent, texts}
use Rattle.jsonc_value.specs.to_value.Views.{same_name}
use Rattle.jsonc_walk.proofs.lemmas.Stacked.{behind}
use Rattle.jsonc_value.proofs.Lists.{one_later}
use Rattle.jsonc_value.proofs.lemmas.to_value.Grown.{element_grown, property_grown}
use Rattle.jsonc_value.proofs.lemmas.to_value.Lending.{element_lent, property_lent}

module _ {A : Type 0} where
  pub no_element_yet : (s : ValueMaker A) (start : ℕ) → start ≡ length s.elements.items → HoldsElements s s start []
  no_element_yet s start at = record { elements = []; begins = at; stacked = sym (append-nil s.elements.items); same = refl; are = refl; source = refl; lent = All-nil (IsLent (source_in s)) }

  pub no_property_yet : (s : ValueMaker A) (start : ℕ) → start ≡ length s.properties.items → HoldsProperties s s start []
  no_property_yet s start at = record { properties = []; begins = at; stacked = sym (append-nil s.properties.items); same = refl; are = (refl, tt); source = refl; lent = All-nil (IsLent (source_in s)) }

  pub element_stacked : (s m old new : ValueMaker A) (start : ℕ) (v : JsonValue A) (xs : List Located) (x : Located) → HoldsElements s m start xs → IsMade m old v x → source_in new ≡ source_in old
      → new.elements.items ≡ old.elements.items ++ v ∷ [] → new.properties.items ≡ old.properties.items → HoldsElements s new start (xs ++ x ∷ [])
  element_stacked s m old new start v xs x h made stays pushed same = record {
    elements = h.elements ++ v ∷ [];
    begins = h.begins;
    stacked = behind old.elements.items s.elements.items h.elements new.elements.items v (made.stacks.0 ∙ h.stacked) pushed;
    same = same ∙ made.stacks.1 ∙ h.same;
    are = element_grown h.elements v xs x h.are made.collapsed;
    source = stays ∙ made.source ∙ h.source;
    lent = element_lent (source_in s) h.elements v h.lent (subst (λ q. AreLent q (texts v)) h.source made.lent);
  }

  pub property_stacked : (s m k old new : ValueMaker A) (start : ℕ) (name : CowStr A) (v : JsonValue A) (ms : List LocatedMember) (p : LocatedMember)
      → HoldsProperties s m start ms → IsNamed m k name p.name → IsMade k old v p.value → source_in new ≡ source_in old
      → new.properties.items ≡ old.properties.items ++ (name, v) ∷ [] → new.elements.items ≡ old.elements.items → HoldsProperties s new start (ms ++ p ∷ [])
  property_stacked s m k old new start name v ms p h named made stays pushed same = record {
    properties = h.properties ++ (name, v) ∷ [];
    begins = h.begins;
    stacked = behind old.properties.items s.properties.items h.properties new.properties.items (name, v) (made.stacks.1 ∙ named.stacks.1 ∙ h.stacked) pushed;
    same = same ∙ made.stacks.0 ∙ named.stacks.0 ∙ h.same;
    are = property_grown (insert_all same_name [] h.properties) (insert_all same_name [] (h.properties ++ (name, v) ∷ [])) name v ms p (one_later same_name [] h.properties (name, v)) h.are named.name made.collapsed;
    source = stays ∙ made.source ∙ named.source ∙ h.source;
    lent = property_lent (source_in s) h.properties name v h.lent (subst (λ q. IsLent q name) h.source named.lent) (subst (λ q. AreLent q (texts v)) (named.source ∙ h.source) made.lent);
  }
