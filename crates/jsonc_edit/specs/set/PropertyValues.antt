-- The value of a property, where it is set: another is replaced by it, or it comes at the property's end.
use Rattle.std.specs.Prelude.{◌≡◌, ◌≤◌, ℕ, Bool, true, List, length, Option, Some, None}
use Rattle.jsonc_text.specs.Plain.{Plain}
use Rattle.jsonc_tree.specs.Changes.{Appends, CanAppend}
use Rattle.jsonc_tree.specs.Content.{Content}
use Rattle.jsonc_tree.specs.Tree.{Node, content_at, IsTree}
use Rattle.jsonc_layout.specs.from_input.Laid.{laid}
use Rattle.jsonc_layout.specs.nodes.Properties.{lacks_name_at, value_at}
use Rattle.jsonc_edit.specs.Reading.{layout_for}
use Rattle.jsonc_edit.specs.Changes.{top_at}
use Rattle.jsonc_edit.specs.Due.{spaces_needed_around}
use Rattle.jsonc_edit.specs.Put.{AreSpaced, Extends}
use Rattle.jsonc_text.specs.declared.edit.EditError.{EditError}
use Rattle.jsonc_text.specs.declared.edit.EditError.TheVariants.{OutOfMemory, MissingName}
use Rattle.jsonc_edit.specs.set.Kinds.{KeptOrReplaced, LacksKind}

-- A value has come as the last child of the property p, as the node m: it was made ready, laid out as the old nodes tell, with the spaces that it needs; it
-- came behind all that p holds; and then the spaces came that are due around it.
pub record LastValue (old new : List Node) (p : ℕ) (v : Plain) (m : ℕ) : Type 0 where
  pub ready : List Node
  pub held : List Node
  pub fresh : length old ≤ m
  pub prepared : Extends old ready
  pub is : top_at ready m ≡ laid (layout_for old p p) v
  pub can : CanAppend ready p m
  pub put : Appends ready held p m
  pub tree : IsTree held
  pub spaces : AreSpaced held (spaces_needed_around held m (laid (layout_for old p p) v).content) new

-- where the value is of the kind it is answered; where another stood, or none, one has been set, and is answered
abbrev pub HeldOrSet : (Content → Bool) → Plain → List Node → List Node → ℕ → Option ℕ → ℕ → Type 0
HeldOrSet kind v old new p None m = LastValue old new p v m
HeldOrSet kind v old new p (Some n) m = KeptOrReplaced (kind (content_at old n)) v old new n m

-- why none was set: allocation failed for it, or the property has no name, or no colon behind it
abbrev pub EnsureValueError : (Content → Bool) → List Node → ℕ → EditError → Type 0
EnsureValueError kind ns p OutOfMemory = LacksKind kind ns (value_at ns p)
EnsureValueError kind ns p MissingName = lacks_name_at ns p ≡ true
EnsureValueError kind ns p e = ⊥
