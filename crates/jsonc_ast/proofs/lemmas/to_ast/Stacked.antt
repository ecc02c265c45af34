-- Elements and properties of containers that have not ended, one behind the other.
use Rattle.std.proofs.Common.{◌≡◌, ℕ, List, [], ◌∷◌, ◌++◌, length, refl, sym, ◌∙◌}
use Rattle.std.proofs.lemmas.List.{append-nil}
use Rattle.std.proofs.lemmas.List.Elements.{All-nil}
use Rattle.jsonc_text.specs.declared.common.Range.{Range}
use Rattle.jsonc_ast.specs.declared.ast.ObjectProp.{ObjectProp}
use Rattle.jsonc_walk.specs.declared.name.ObjectPropName.{ObjectPropName}
use Rattle.jsonc_ast.specs.declared.ast.Value.{Value}
use Rattle.jsonc_ast.specs.declared.to_ast.values.TreeMaker.{TreeMaker}
use Rattle.jsonc_walk.specs.Located.{Located, LocatedName, LocatedMember}
use Rattle.jsonc_ast.specs.Spelled.{spelled, spelled_in_property}
use Rattle.jsonc_ast.specs.Views.{located, member_of}
use Rattle.jsonc_walk.specs.Name.{name_at}
use Rattle.jsonc_ast.specs.to_ast.Trees.{source_in, HoldsElements, HoldsProperties, IsName, IsTree}
use Rattle.jsonc_walk.specs.Written.{IsWritten}
use Rattle.jsonc_walk.proofs.lemmas.Stacked.{behind}
use Rattle.jsonc_ast.proofs.lemmas.to_ast.MadeTrees.{element_made, property_made}

module _ {A : Type 0} where
  pub no_element_yet : (s : TreeMaker A) (start : ℕ) → start ≡ length s.elements.items → HoldsElements s s start []
  no_element_yet s start at = record { elements = []; begins = at; stacked = sym (append-nil s.elements.items); same = refl; are = record { same = refl; located = refl; written = All-nil (IsWritten (source_in s).options (source_in s).bytes) } }

  pub no_property_yet : (s : TreeMaker A) (start : ℕ) → start ≡ length s.properties.items → HoldsProperties s s start []
  no_property_yet s start at = record { properties = []; begins = at; stacked = sym (append-nil s.properties.items); same = refl; are = record { same = refl; located = refl; written = All-nil (IsWritten (source_in s).options (source_in s).bytes) } }

  pub element_stacked : (s m old new : TreeMaker A) (start : ℕ) (v : Value A) (xs : List Located) (x : Located) → HoldsElements s m start xs → IsTree m old v x → source_in new ≡ source_in old
      → new.elements.items ≡ old.elements.items ++ v ∷ [] → new.properties.items ≡ old.properties.items → HoldsElements s new start (xs ++ x ∷ [])
  element_stacked s m old new start v xs x h made stays pushed same = record {
    elements = h.elements ++ v ∷ [];
    begins = h.begins;
    stacked = behind old.elements.items s.elements.items h.elements new.elements.items v (made.stacks.0 ∙ h.stacked) pushed;
    same = same ∙ made.stacks.1 ∙ h.same;
    are = element_made s m old new h.elements (h.elements ++ v ∷ []) v xs x h.are made stays refl;
  }

  pub property_stacked : (s m k old new : TreeMaker A) (start : ℕ) (p : ObjectProp A) (name : ObjectPropName A) (v : Value A) (r : Range) (ms : List LocatedMember) (n : LocatedName) (x : Located)
      → HoldsProperties s m start ms → IsName m k name n → IsTree k old v x → source_in new ≡ source_in old → member_of p ≡ record { range = r; name = name_at name; value = located v } → spelled_in_property p ≡ name ∷ spelled v
      → new.properties.items ≡ old.properties.items ++ p ∷ [] → new.elements.items ≡ old.elements.items → HoldsProperties s new start (ms ++ record { range = r; name = n; value = x } ∷ [])
  property_stacked s m k old new start p name v r ms n x h named made stays at spells pushed same = record {
    properties = h.properties ++ p ∷ [];
    begins = h.begins;
    stacked = behind old.properties.items s.properties.items h.properties new.properties.items p (made.stacks.1 ∙ named.stacks.1 ∙ h.stacked) pushed;
    same = same ∙ made.stacks.0 ∙ named.stacks.0 ∙ h.same;
    are = property_made s m k old new h.properties (h.properties ++ p ∷ []) p name v r ms n x h.are named made stays at spells refl;
  }
