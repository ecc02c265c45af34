-- What a list of edits makes of a document.
use Rattle.std.specs.Prelude.{◌≡◌, ◌⊎◌, ℕ, Bool, List, [], ◌∷◌, Some, chars, length, take}
use Rattle.std.specs.List.{slice_get}
use Rattle.std.specs.declared.cmp.Ordering.{Ordering}
use denote.Ref.{Bor}
use denote.Param.Members.{Shared}
use Rattle.jsonc_tree.specs.Tree.{Node, IsTree}
use Rattle.jsonc_text.specs.Options.{Options}
use Rattle.jsonc_text.specs.declared.edit.EditError.{EditError}
use Rattle.jsonc_text.specs.declared.edit.EditError.TheVariants.{OutOfMemory}
use Rattle.jsonc_sound.specs.Documents.{ShowsText}
use Rattle.jsonc_sort.specs.Rearranged.{headers_of}
use Rattle.jsonc_run.specs.declared.edit.Edit.{Edit}
use Rattle.jsonc_run.specs.declared.edit.Edit.TheVariants.{Sort}
use Rattle.jsonc_run.specs.Edits.{PlainEdit, Sorting, operation_of, EditStep, EditSteps}
use Rattle.jsonc_run.specs.Places.{IsContainerAt}
use Rattle.jsonc_run.specs.Refusals.{IsLeft, IsTooDeep, FailsWith}
use Rattle.jsonc_run.specs.promise.Asked.{EditsTheText, StopsInText}
use Rattle.jsonc_cst.specs.declared.cst.CstRootNode.{CstRootNode}
use Rattle.jsonc_cst.specs.declared.cst.node.CstNode.{CstNode}
use Rattle.jsonc_cst.specs.Document.{nodes_of, tree_of, HasNode, LiesIn}
use Rattle.jsonc_cst.specs.Nodes.{typed_at}
use Rattle.jsonc_cst.specs.sorting.Asking.{IsInItsOrder}
use Rattle.jsonc_cst.specs.sorting.Pins.{pins_where}
use Rattle.jsonc_cst.specs.sorting.Rows.{elements_asked, starts_of}
use Rattle.jsonc_parser.specs.declared.cst.texts.EditTextError.{EditTextError}
use Rattle.jsonc_parser.specs.declared.cst.texts.EditTextError.TheVariants as text_error

-- a comparison of two nodes of a document
module _ {C D A : Type 0} (call : Shared C (Bor D × (CstNode × (CstNode × Unit {0}))) Ordering) (compare : C) (same : CstRootNode A → D) where
  -- it may be asked with any document and two nodes of it
  abbrev pub MayBeAsked : Type 0
  MayBeAsked = (doc : CstRootNode A) (d : Bor D) (x y : CstNode) → d.now ≡ same doc → HasNode doc x → HasNode doc y → call.pre compare (d, (x, (y, tt)))

  -- What a sort asks for: an array or object is at the path; where comments are to be pinned, those that blank lines pin are; and its elements or properties
  -- are put in the order of the comparison, within groups that blank lines part, or all as one.
  pub record IsSorting (d : CstRootNode A) (path : List ℕ) (pin groups : Bool) (s : Sorting) : Type 0 where
    pub n : ℕ
    pub at : IsContainerAt (nodes_of d) path n
    pub headers : s.headers ≡ headers_of (pins_where d (typed_at (nodes_of d) n) pin) groups
    pub order : IsInItsOrder call compare (same d) (HasNode d) (elements_asked d (typed_at (nodes_of d) n)) (starts_of d (typed_at (nodes_of d) n) groups) s.order

  -- a sort is done as it is asked for
  abbrev pub IsAsked : CstRootNode A → Edit A → Sorting → Type 0
  IsAsked d (Sort path pin groups) s = IsSorting d path.items pin groups s
  IsAsked d e s = Unit {0}

  -- the edit was made: the operation that it asks for in the old document, in which what it writes is not nested too deep
  pub record RunStep (old : CstRootNode A) (e : Edit A) (operation : PlainEdit) (new : CstRootNode A) : Type 0 where
    pub sorting : Sorting
    pub asked : IsAsked old e sorting
    pub is : operation ≡ operation_of sorting e
    pub made : EditStep (nodes_of old) operation (nodes_of new)
    pub fits : ¬ (IsTooDeep (nodes_of old) operation)

  abbrev pub IsRunStep : CstRootNode A → Edit A → CstRootNode A → Type 0
  IsRunStep old e new = (operation : PlainEdit) × RunStep old e operation new

  -- the edits were made in order, each in the document that the one before it made
  pub data RunSteps : CstRootNode A → List (Edit A) → List PlainEdit → CstRootNode A → Type 0 where
    none_made : {d : CstRootNode A} → RunSteps d [] [] d
    first_made : {old now new : CstRootNode A} {e : Edit A} {operation : PlainEdit} {es : List (Edit A)} {operations : List PlainEdit}
        → RunStep old e operation now → IsTree (nodes_of now) → RunSteps now es operations new → RunSteps old (e ∷ es) (operation ∷ operations) new

  -- They were all made. Whatever document the old one shows, if its options allow what they write, they lead from it to one that the new one shows.
  pub record RunOk (old : CstRootNode A) (edits : List (Edit A)) (new : CstRootNode A) : Type 0 where
    pub operations : List PlainEdit
    pub made : RunSteps old edits operations new
    pub edited : EditsTheText (tree_of old) edits (tree_of new)

  -- The first k edits were made, each whole; there is one more, which was not made for this reason, and has left the document so. Whatever document the old one
  -- shows, they lead from it to where they stop.
  pub record RunErr (old : CstRootNode A) (edits : List (Edit A)) (k : ℕ) (why : EditError) (new : CstRootNode A) : Type 0 where
    pub operations : List PlainEdit
    pub now : CstRootNode A
    pub made : RunSteps old (take k edits) operations now
    pub next : Edit A
    pub is_next : slice_get edits k ≡ Some next
    pub error : (s : Sorting) → FailsWith (nodes_of now) (operation_of s next) why
    pub left : (s : Sorting) → IsLeft (nodes_of now) (operation_of s next) (nodes_of new)
    pub edited : StopsInText (tree_of old) edits k why (tree_of new)

  -- Where the edits of a text stop in the document that it is parsed into: before one that is refused there; or all were made, and there was no memory for the text.
  abbrev pub StopsInDocument : Options → List ℕ → List (Edit A) → EditTextError → Type 0
  StopsInDocument o text edits (text_error.Parse fault) = Unit {0}
  StopsInDocument o text edits (text_error.Edit k why) = (old new : CstRootNode A) × ShowsText o (chars text) (tree_of old) × LiesIn o text (tree_of old)
      × (((k ≡ length edits) × (why ≡ OutOfMemory)) ⊎ RunErr old edits k why new)

module _ {A : Type 0} where
  -- each operation is what its edit asks for; where that sorts, in some order
  pub data AreAsked : List (Edit A) → List PlainEdit → Type 0 where
    none_asked : AreAsked [] []
    one_asked : {e : Edit A} {es : List (Edit A)} {operations : List PlainEdit} (s : Sorting) → AreAsked es operations → AreAsked (e ∷ es) (operation_of s e ∷ operations)

  -- The edits were all made, without a comparison. Whatever document the old one shows, if its options allow what they write, they lead from it to one that
  -- the new one shows.
  pub record RunUnsortedOk (old : CstRootNode A) (edits : List (Edit A)) (new : CstRootNode A) : Type 0 where
    pub operations : List PlainEdit
    pub asked : AreAsked edits operations
    pub made : EditSteps (nodes_of old) operations (nodes_of new)
    pub edited : EditsTheText (tree_of old) edits (tree_of new)

  -- The first k of them were made, each whole; there is one more, which was not made for this reason, and has left the document so.
  pub record RunUnsortedErr (old : CstRootNode A) (edits : List (Edit A)) (k : ℕ) (why : EditError) (new : CstRootNode A) : Type 0 where
    pub operations : List PlainEdit
    pub asked : AreAsked (take k edits) operations
    pub now : List Node
    pub made : EditSteps (nodes_of old) operations now
    pub next : Edit A
    pub is_next : slice_get edits k ≡ Some next
    pub error : (s : Sorting) → FailsWith now (operation_of s next) why
    pub left : (s : Sorting) → IsLeft now (operation_of s next) (nodes_of new)
    pub edited : StopsInText (tree_of old) edits k why (tree_of new)
