-- What becomes of a document where the value of the property at a path is set, or has to be an array or an object.
use Rattle.std.proofs.Common.{◌≡◌, ℕ, true, List, Option, Some, None, IfSome, IfNone, IfErr, Result, Ok, Err, subst}
use Rattle.jsonc_text.specs.Options.{Options}
use Rattle.jsonc_text.specs.Plain.{Plain}
use Rattle.jsonc_tree.specs.Content.{property}
use Rattle.jsonc_tree.specs.OrderedTree.{ordered_tree}
use Rattle.jsonc_tree.specs.Tree.{Node, content_at, IsTree}
use Rattle.jsonc_layout.specs.nodes.Properties.{lacks_name_at, value_at}
use Rattle.jsonc_sound.specs.SoundTrees.{SoundTree}
use Rattle.jsonc_edit.specs.Paths.{IsAt}
use Rattle.jsonc_edit.specs.Reading.{IsReplaced}
use Rattle.jsonc_text.specs.declared.edit.EditError.{EditError}
use Rattle.jsonc_text.specs.declared.edit.EditError.TheVariants.{OutOfMemory, MissingName}
use Rattle.jsonc_edit.specs.set.PropertyValues.{EnsureValueError, LastValue}
use Rattle.jsonc_text.specs.declared.edit.Shape.{Shape}
use Rattle.jsonc_run.specs.Edits.{ensure_value, PropertyValueSet}
use Rattle.jsonc_insert.specs.named.Places.{IsPropertyAt, a_property}
use Rattle.jsonc_run.specs.Refusals.{FailsWith}
use Rattle.jsonc_edit.specs.set.Shapes.{is_of}
use Rattle.jsonc_insert.proofs.lemmas.named.PropertyValues.{value_held}
use Rattle.jsonc_insert.proofs.lemmas.named.EnsureErrors.{named}

-- a property at a path is one
pub property_kind : (ns : List Node) (path : List ℕ) (r : ℕ) → IsPropertyAt ns path r → content_at ns r ≡ property
property_kind ns _ r (a_property front c i at inside) = inside.is

-- its value was set, where one stood or none
pub property_value_set : (old new : List Node) (r : ℕ) (v : Plain) (m : ℕ) (w : Option ℕ) → IfSome w (λ n. IsReplaced old new n v m) → IfNone w (LastValue old new r v m) → PropertyValueSet old new r v w
property_value_set old new r v m None replaced last = (m, last)
property_value_set old new r v m (Some n) replaced last = (m, replaced)

-- why it is not what it has to be
module _ (ns : List Node) (path : List ℕ) (r : ℕ) (shape : Shape) (at : IsPropertyAt ns path r) where
  unset_told : (e : EditError) → EnsureValueError (is_of shape) ns r e → (lacks_name_at ns r ≡ true → e ≡ MissingName) → FailsWith ns (ensure_value path shape) e
  unset_told OutOfMemory why missing = (r, at, (named (lacks_name_at ns r) missing, why))
  unset_told MissingName why missing = (r, at, why)
  unset_told e why missing = absurd why

  pub unset_answer : {T : Type 0} (a : Result T EditError) → IfErr a (EnsureValueError (is_of shape) ns r) → IfErr a (λ e. lacks_name_at ns r ≡ true → e ≡ MissingName) → IfErr a (FailsWith ns (ensure_value path shape))
  unset_answer (Ok x) why missing = tt
  unset_answer (Err e) why missing = unset_told e why missing

module _ (o : Options) (old new : List Node) (tree : IsTree old) (sound : SoundTree o (ordered_tree old 0)) (path : List ℕ) (r : ℕ) (at : IsPropertyAt old path r) where
  -- in a sound document a value that was set has been replaced
  pub set_replaced : (v : Plain) → PropertyValueSet old new r v (value_at old r) → (n m : ℕ) × IsAt old path n × IsReplaced old new n v m
  set_replaced v set =
      let held = value_held o old tree sound path r at in
      let given = subst (PropertyValueSet old new r v) held.holds set in
      (held.value, given.0, held.at, given.1)
