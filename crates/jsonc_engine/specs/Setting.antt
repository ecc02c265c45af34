-- What `set` makes of a document.
use Rattle.std.specs.Prelude.{◌≡◌, ℕ, List, [], ◌∷◌, Option, Some, None, length}
use Rattle.jsonc_text.specs.Options.{Options}
use Rattle.jsonc_text.specs.Plain.{Plain}
use Rattle.jsonc_text.specs.declared.edit.Over.TheVariants.{Keep}
use Rattle.jsonc_text.specs.declared.edit.Shape.TheVariants.{Object}
use Rattle.jsonc_tree.specs.Content.{object}
use Rattle.jsonc_tree.specs.OrderedTree.{ordered_tree}
use Rattle.jsonc_tree.specs.Tree.{Node, content_at, IsTree}
use Rattle.jsonc_layout.specs.nodes.Names.{FirstInObject}
use Rattle.jsonc_layout.specs.nodes.Properties.{value_at}
use Rattle.jsonc_layout.specs.nodes.Siblings.{elements_at}
use Rattle.jsonc_sound.specs.SoundTrees.{SoundTree}
use Rattle.jsonc_edit.specs.Paths.{IsElementOf}
use Rattle.jsonc_cst.specs.declared.cst.node.CstNode.{CstNode}
use Rattle.jsonc_cst.specs.declared.cst.node.CstObject.{CstObject}
use Rattle.jsonc_cst.specs.declared.cst.node.CstObjectProp.{CstObjectProp}
use Rattle.jsonc_cst.specs.objects.Members.{IsAppendingNamed, NamedInsertedAt}
use Rattle.jsonc_cst.specs.typed.Setting.{FindsOrCreates}
use Rattle.jsonc_cst.specs.typed.Steps.{IsEnsuringRoot, IsSettingValue}
use Rattle.jsonc_cst.specs.typed.Values.{ValueIs}
use Rattle.jsonc_parser.specs.paths.Calls.{FitsAt}

-- The value of the property p, an element of the object c that is the document's value, has been replaced by v, in one step, and nothing else has changed.
pub record HasSet (v : Plain) (old new : List Node) (c p : ℕ) : Type 0 where
  pub i : ℕ
  pub n : ℕ
  pub now : CstNode
  pub element : IsElementOf old c i p
  pub holds : value_at old p ≡ Some n
  pub becomes : ValueIs old new p v now
  pub step : IsSettingValue old new p v

-- A property of this name and value has been inserted after the last of the object c, in one step, and nothing else has changed.
pub record HasAppended (name : List ℕ) (v : Plain) (old new : List Node) (c : ℕ) : Type 0 where
  pub now : CstObjectProp
  pub inserted : NamedInsertedAt old new c (length (elements_at old c)) name v now
  pub step : IsAppendingNamed old new c name v

-- so it is of the property that was found; where none was, one has been inserted
abbrev pub SetOrAppended : List ℕ → Plain → List Node → List Node → ℕ → Option ℕ → Type 0
SetOrAppended name v old new c None = HasAppended name v old new c
SetOrAppended name v old new c (Some p) = HasSet v old new c p

-- The document's value is an object, an empty one that was set first where it had none, and its first property of this name has the value v now; or such a
-- property has been inserted after its last. Nothing else has changed: these are two steps, of which the first may change nothing. There v is nested no deeper than texts
-- are parsed.
pub record SetsFirst (name : List ℕ) (v : Plain) (old new : List Node) : Type 0 where
  pub fits : FitsAt (name ∷ []) v
  pub made : List Node
  pub tree : IsTree made
  pub x : CstObject
  pub found : FindsOrCreates old made Object (Some x.number)
  pub first : IsEnsuringRoot old made Object Keep
  pub value : value_at made 0 ≡ Some x.number
  pub is_object : content_at made x.number ≡ object
  pub property : Option ℕ
  pub named : FirstInObject made x.number name property
  pub set : SetOrAppended name v made new x.number property

-- so it is if the document was sound
abbrev pub SetsIfSound : Options → List ℕ → Plain → List Node → List Node → Type 0
SetsIfSound o name v old new = SoundTree o (ordered_tree old 0) → SetsFirst name v old new
