-- Strings and names, as they are kept in a tree.
use Rattle.std.proofs.Common.{ℕ, ◌≡◌, ◌∙◌, ◌++◌, sym, ap, subst, List, [], ◌∷◌, map}
use Rattle.std.specs.List.{flat_map}
use Rattle.std.proofs.lemmas.List.{map_push, append-nil}
use Rattle.std.proofs.lemmas.List.Elements.{All-append}
use Rattle.std.proofs.lemmas.List.Concat.{flat_map-cons}
use Rattle.std.proofs.lemmas.Grind.{flat_map-append}
use Rattle.jsonc_text.specs.Options.{Options}
use Rattle.jsonc_walk.specs.declared.name.ObjectPropName.{ObjectPropName}
use Rattle.jsonc_ast.specs.declared.ast.ObjectProp.{ObjectProp}
use Rattle.jsonc_ast.specs.declared.ast.Value.{Value}
use Rattle.jsonc_ast.specs.Spelled.{spelled, spelled_in_property, spelled_in_elements, spelled_in_properties}
use Rattle.jsonc_walk.specs.Written.{IsWritten, AreWritten}

module _ {A : Type 0} where
  joined : (xs : List (List (ObjectPropName A))) (x : List (ObjectPropName A)) → flat_map (λ names. names) (xs ++ x ∷ []) ≡ flat_map (λ names. names) xs ++ x
  joined xs x =
      flat_map-append (λ names. names) xs (x ∷ []) ∙ ap (λ r. flat_map (λ names. names) xs ++ r) (flat_map-cons (λ names. names) x [] ∙ append-nil x)

  -- one element more, and one property more
  pub element_written : (o : Options) (bytes : List ℕ) (xs ys : List (Value A)) (v : Value A) → AreWritten o bytes (spelled_in_elements xs) → AreWritten o bytes (spelled v) → ys ≡ xs ++ v ∷ [] → AreWritten o bytes (spelled_in_elements ys)
  element_written o bytes xs ys v so_far one e =
      let grown = ap spelled_in_elements e ∙ ap (flat_map (λ names. names)) (map_push spelled xs v) ∙ joined (map spelled xs) (spelled v) in
      subst (AreWritten o bytes) (sym grown) (All-append (IsWritten o bytes) (spelled_in_elements xs) (spelled v) so_far one)

  pub property_written : (o : Options) (bytes : List ℕ) (xs ys : List (ObjectProp A)) (p : ObjectProp A) → AreWritten o bytes (spelled_in_properties xs) → AreWritten o bytes (spelled_in_property p) → ys ≡ xs ++ p ∷ [] → AreWritten o bytes (spelled_in_properties ys)
  property_written o bytes xs ys p so_far one e =
      let grown = ap spelled_in_properties e ∙ ap (flat_map (λ names. names)) (map_push spelled_in_property xs p) ∙ joined (map spelled_in_property xs) (spelled_in_property p) in
      subst (AreWritten o bytes) (sym grown) (All-append (IsWritten o bytes) (spelled_in_properties xs) (spelled_in_property p) so_far one)
