-- A value that is to have a shape has it, where it was found and where it has been set.
use Rattle.std.proofs.Common.{◌≡◌, ℕ, Bool, true, false, List, Option, Some, None, Result, Ok, Err, IfOk, refl, ap, ◌∙◌}
use Rattle.jsonc_text.specs.declared.edit.Shape.{Shape}
use Rattle.jsonc_text.specs.declared.edit.Shape.TheVariants.{Object, Array}
use Rattle.jsonc_tree.specs.OrderedTree.{Top}
use Rattle.jsonc_tree.specs.Tree.{Node, content_at}
use Rattle.jsonc_layout.specs.nodes.Kinds.{is_element}
use Rattle.jsonc_layout.specs.from_input.Laid.{laid}
use Rattle.jsonc_layout.specs.from_input.Layout.{Layout}
use Rattle.jsonc_edit.specs.set.Kinds.{KeptOrReplaced}
use Rattle.jsonc_edit.specs.set.PropertyValues.{HeldOrSet}
use Rattle.jsonc_edit.specs.set.Shapes.{is_of, empty_of}
use Rattle.jsonc_edit.proofs.SeamsOfComments.{contents_spaced}

-- the node of an empty value is of the shape
pub empty_laid : (layout : Layout) (shape : Shape) → (is_element (laid layout (empty_of shape)).content ≡ true) × (is_of shape (laid layout (empty_of shape)).content ≡ true)
empty_laid layout Object = (refl, refl)
empty_laid layout Array = (refl, refl)

-- a value that was found, or has been set, is of the shape
module _ (shape : Shape) (old new : List Node) (p : ℕ) where
  kept_shaped : (n m : ℕ) (b : Bool) → is_of shape (content_at old n) ≡ b → KeptOrReplaced b (empty_of shape) old new n m → is_of shape (content_at new m) ≡ true
  kept_shaped n m true is (here, same) = ap (λ k. is_of shape (content_at new k)) here ∙ ap (λ ns. is_of shape (content_at ns n)) same ∙ is
  kept_shaped n m false is r = ap (is_of shape) (r.2.place.replaces.spliced.content m ∙ ap (λ (t : Top). t.content) r.2.place.is) ∙ (empty_laid _ shape).1

  pub held_shaped : (o : Option ℕ) (m : ℕ) → HeldOrSet (is_of shape) (empty_of shape) old new p o m → is_of shape (content_at new m) ≡ true
  held_shaped None m l = ap (is_of shape) (contents_spaced _ l.held new l.spaces m ∙ l.put.content m ∙ ap (λ (t : Top). t.content) l.is) ∙ (empty_laid _ shape).1
  held_shaped (Some n) m r = kept_shaped n m (is_of shape (content_at old n)) refl r

  pub result_shaped : {E : Type 0} (o : Option ℕ) (r : Result ℕ E) → IfOk r (HeldOrSet (is_of shape) (empty_of shape) old new p o) → IfOk r (λ m. is_of shape (content_at new m) ≡ true)
  result_shaped o (Ok m) h = held_shaped o m h
  result_shaped o (Err e) h = tt
