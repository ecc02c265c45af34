-- What `remove` makes of a document.
use Rattle.std.specs.Prelude.{◌≡◌, ℕ, List, Option, Some, None, chars}
use Rattle.jsonc_text.specs.Grammar.{IsDocument}
use Rattle.jsonc_text.specs.Options.{Options}
use Rattle.jsonc_text.specs.Plain as plain
use Rattle.jsonc_text.specs.Plain.{Members}
use Rattle.jsonc_tree.specs.Content.{object}
use Rattle.jsonc_tree.specs.OrderedTree.{ordered_tree}
use Rattle.jsonc_tree.specs.Tree.{Node, content_at}
use Rattle.jsonc_layout.specs.nodes.Names.{FirstInObject}
use Rattle.jsonc_layout.specs.nodes.Properties.{value_at}
use Rattle.jsonc_sound.specs.SoundTrees.{SoundTree}
use Rattle.jsonc_edit.specs.Paths.{IsElementOf}
use Rattle.jsonc_edit.specs.remove.Removed.{TakesElement}
use Rattle.jsonc_run.specs.Edits.{remove}
use Rattle.jsonc_run.specs.Places.{IsEntryAt}
use Rattle.jsonc_run.specs.promise.Steps.{IsStep}

-- the property n has been removed from the object c with what is removed with it, in one step, and nothing else has changed
pub record PropertyRemoved (old new : List Node) (c n : ℕ) : Type 0 where
  pub i : ℕ
  pub element : IsElementOf old c i n
  pub taken : TakesElement old new n
  pub step : IsStep IsEntryAt remove old new n

-- nothing has changed where no property was found; else what was found has been removed
abbrev pub SettingRemoved : List Node → List Node → ℕ → Option ℕ → Type 0
SettingRemoved old new c None = new ≡ old
SettingRemoved old new c (Some n) = PropertyRemoved old new c n

-- the document's value is an object, whose first property of this name has been removed, if it has one
pub record LosesFirst (name : List ℕ) (old new : List Node) : Type 0 where
  pub c : ℕ
  pub value : value_at old 0 ≡ Some c
  pub is_object : content_at old c ≡ object
  pub found : Option ℕ
  pub first : FirstInObject old c name found
  pub removed : SettingRemoved old new c found

-- so it is if the document was sound
abbrev pub LosesIfSound : Options → List ℕ → List Node → List Node → Type 0
LosesIfSound o name old new = SoundTree o (ordered_tree old 0) → LosesFirst name old new

-- the text of these bytes is no document whose value is an object
abbrev pub IsNoObject : Options → List ℕ → Type 0
IsNoObject o input = (ms : Members) → IsDocument o (chars input) (Some (plain.object ms)) → ⊥
