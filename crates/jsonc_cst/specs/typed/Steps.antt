-- Calls as steps of one chain: which edit each call is, of which place.
use Rattle.std.specs.Prelude.{◌≡◌, ◌⊎◌, ℕ, Bool, true, false, List, []}
use Rattle.jsonc_text.specs.Plain.{Plain}
use Rattle.jsonc_tree.specs.Tree.{Node}
use Rattle.jsonc_edit.specs.Paths.{IsAt}
use Rattle.jsonc_text.specs.declared.edit.TrailingCommaMode.{TrailingCommaMode}
use Rattle.jsonc_text.specs.declared.edit.Over.{Over}
use Rattle.jsonc_text.specs.declared.edit.Place.{Place}
use Rattle.jsonc_text.specs.declared.edit.Shape.{Shape}
use Rattle.jsonc_insert.specs.named.Places.{IsPropertyAt}
use Rattle.jsonc_run.specs.Edits.{replace, remove, remove_comment, set_root, clear_root, replace_property, ensure_root, set_value, ensure_value, set_boolean, ensure_multiline, insert_element, append_element, set_commas, set_some_commas, rename_property, insert_comment}
use Rattle.jsonc_run.specs.Places.{IsEntryAt}
use Rattle.jsonc_run.specs.promise.Steps.{IsCommentAt, IsNoPart, IsStep, IsStepOf}
use Rattle.jsonc_cst.specs.declared.cst.node.CstNode.{CstNode}
use Rattle.jsonc_cst.specs.declared.cst.node.CstContainerNode.TheVariants.{Root, Array, Object}
use Rattle.jsonc_cst.specs.declared.cst.node.CstLeafNode.TheVariants.{BooleanLit, NullKeyword, NumberLit, StringLit, WordLit}
use Rattle.jsonc_cst.specs.declared.cst.node.CstNode.TheVariants.{Container, Leaf}
use Rattle.jsonc_cst.specs.typed.Edits.{is_name_in}
use Rattle.jsonc_cst.specs.declared.typed.removing.Removal.{Removal}
use Rattle.jsonc_cst.specs.declared.typed.removing.Removal.TheVariants.{Clearing, OfComment, OfElement, OfLeaf}

-- n is the document itself, or a value at the path
abbrev pub IsWholeOrAt : List Node → List ℕ → ℕ → Type 0
IsWholeOrAt ns path n = ((n ≡ 0) × (path ≡ [])) ⊎ IsAt ns path n

-- the node is an array, an object or a literal, the name of a property too
abbrev pub is_value : CstNode → Bool
is_value (Container (Array x)) = true
is_value (Container (Object x)) = true
is_value (Leaf (BooleanLit x)) = true
is_value (Leaf (NullKeyword x)) = true
is_value (Leaf (NumberLit x)) = true
is_value (Leaf (StringLit x)) = true
is_value (Leaf (WordLit x)) = true
is_value node = false

-- the node is an array, an object or a literal, and not the name of a property
abbrev pub IsValueIn : List Node → CstNode → Type 0
IsValueIn ns (Container (Array x)) = Unit {0}
IsValueIn ns (Container (Object x)) = Unit {0}
IsValueIn ns (Leaf (BooleanLit x)) = Unit {0}
IsValueIn ns (Leaf (NullKeyword x)) = Unit {0}
IsValueIn ns (Leaf (NumberLit x)) = Unit {0}
IsValueIn ns (Leaf (StringLit x)) = is_name_in ns x.number ≡ false
IsValueIn ns (Leaf (WordLit x)) = is_name_in ns x.number ≡ false
IsValueIn ns node = ⊥

-- the node is the root, an array or an object
abbrev pub IsHolder : CstNode → Type 0
IsHolder (Container (Root x)) = Unit {0}
IsHolder (Container (Array x)) = Unit {0}
IsHolder (Container (Object x)) = Unit {0}
IsHolder node = ⊥

-- Which edit each call is: of a value, or of the array or object, at a path; of a property at a path; of the document's value; of a comment by its number.
module _ (old new : List Node) where
  abbrev pub IsReplacing : ℕ → Plain → Type 0
  IsReplacing n v = IsStep IsAt (λ path. replace path v) old new n

  abbrev pub IsReplacingProperty : ℕ → List ℕ → Plain → Type 0
  IsReplacingProperty n name v = IsStep IsPropertyAt (λ path. replace_property path name v) old new n

  abbrev pub IsRenamingProperty : ℕ → List ℕ → Type 0
  IsRenamingProperty n name = IsStep IsPropertyAt (λ path. rename_property path name) old new n

  abbrev pub IsInsertingComment : ℕ → Place → List ℕ → Type 0
  IsInsertingComment n place text = IsStep IsEntryAt (λ path. insert_comment path place text) old new n

  -- of what is removed an entry of an array or object, the document's value or a comment; a token or whitespace that is removed alone is no edit
  abbrev pub IsRemoving : Removal → ℕ → Type 0
  IsRemoving Clearing n = IsStepOf clear_root old new
  IsRemoving OfComment n = IsStep IsCommentAt remove_comment old new n
  IsRemoving OfElement n = IsNoPart old n → IsStep IsEntryAt remove old new n
  IsRemoving OfLeaf n = Unit {0}

  abbrev pub IsClearing : Type 0
  IsClearing = IsStepOf clear_root old new

  abbrev pub IsSettingRoot : Plain → Type 0
  IsSettingRoot v = IsStepOf (set_root v) old new

  abbrev pub IsEnsuringRoot : Shape → Over → Type 0
  IsEnsuringRoot shape how = IsStepOf (ensure_root shape how) old new

  abbrev pub IsSettingValue : ℕ → Plain → Type 0
  IsSettingValue n v = IsStep IsPropertyAt (λ path. set_value path v) old new n

  abbrev pub IsEnsuringValue : ℕ → Shape → Type 0
  IsEnsuringValue n shape = IsStep IsPropertyAt (λ path. ensure_value path shape) old new n

  abbrev pub IsSettingBoolean : ℕ → Bool → Type 0
  IsSettingBoolean n b = IsStep IsAt (λ path. set_boolean path b) old new n

  abbrev pub IsSpreading : ℕ → Type 0
  IsSpreading n = IsStep IsAt ensure_multiline old new n

  abbrev pub IsInserting : ℕ → ℕ → Plain → Type 0
  IsInserting n i v = IsStep IsAt (λ path. insert_element path i v) old new n

  abbrev pub IsAppending : ℕ → Plain → Type 0
  IsAppending n v = IsStep IsAt (λ path. append_element path v) old new n

  -- all commas are set, or, where memory was refused on the way, those of the first arrays and objects
  abbrev pub IsSettingCommas : TrailingCommaMode → ℕ → Type 0
  IsSettingCommas mode n = IsStep IsWholeOrAt (λ path. set_commas path mode) old new n

  abbrev pub IsSettingSomeCommas : TrailingCommaMode → ℕ → Type 0
  IsSettingSomeCommas mode n = IsStep IsWholeOrAt (λ path. set_some_commas path mode) old new n
