-- What is removed with a node, by its kind, and why it is not.
use Rattle.std.specs.Prelude.{◌≡◌, ℕ, ◌+◌, ◌⊎◌, ◌&&◌, Bool, List, [], ◌∷◌, length, Some, None, IsTrue}
use Rattle.jsonc_text.specs.Options.{Options}
use Rattle.jsonc_text.specs.Documents.{Document}
use Rattle.jsonc_tree.specs.Changes.{Splices}
use Rattle.jsonc_tree.specs.OrderedTree.{ordered_tree}
use Rattle.jsonc_tree.specs.Tree.{Node, content_at, parent_at, children_at, place_at, IsOver, IsTree}
use Rattle.jsonc_layout.specs.lines.Indents.{is_some_property}
use Rattle.jsonc_layout.specs.lines.Kinds.{is_array_or_object}
use Rattle.jsonc_layout.specs.nodes.Kinds.{is_element_at}
use Rattle.jsonc_sound.specs.Documents.{Shows}
use Rattle.jsonc_sound.specs.SoundTrees.{SoundTree}
use Rattle.jsonc_text.specs.declared.edit.EditError.{EditError}
use Rattle.jsonc_text.specs.declared.edit.EditError.TheVariants.{OutOfMemory}
use Rattle.jsonc_edit.specs.Changes.{top_at}
use Rattle.jsonc_edit.specs.Comments.{RemovesComment, RemovesCommentAlone, TakesOut, WantsSpace}
use Rattle.jsonc_edit.specs.Paths.{IsAt, IsElementOf}
use Rattle.jsonc_edit.specs.remove.Laws.{EntryTaken, IsEntryRemoved, IsValueRemoved, ValueTaken}
use Rattle.jsonc_edit.specs.remove.Comments.{AreCleared}
use Rattle.jsonc_edit.specs.remove.Removed.{IsKeptFor, TakesElement}
use Rattle.jsonc_edit.specs.set.Laws.{IsBareDocument}
use Rattle.jsonc_cst.specs.declared.cst.CstRootNode.{CstRootNode}
use Rattle.jsonc_cst.specs.declared.cst.node.CstNode.{CstNode}
use Rattle.jsonc_cst.specs.declared.cst.node.CstContainerNode.TheVariants.{Root, Array, Object, ObjectProp}
use Rattle.jsonc_cst.specs.declared.cst.node.CstLeafNode.TheVariants.{BooleanLit, NullKeyword, NumberLit, StringLit, WordLit, Token, Whitespace, Newline, Comment}
use Rattle.jsonc_cst.specs.declared.cst.node.CstNode.TheVariants.{Container, Leaf}
use Rattle.jsonc_cst.specs.Document.{nodes_of}
use Rattle.jsonc_cst.specs.EntryComments.{comment_numbers, is_entry_at}
use Rattle.jsonc_cst.specs.Nodes.{number_of}
use Rattle.jsonc_cst.specs.typed.Clearing.{LosesComments}
use Rattle.jsonc_cst.specs.typed.Edits.{IsDetached, KeepsDocumentOf}
use Rattle.jsonc_cst.specs.typed.Steps.{IsRemoving}
use Rattle.jsonc_cst.specs.declared.typed.removing.Removal.{Removal}
use Rattle.jsonc_cst.specs.declared.typed.removing.Removal.TheVariants.{Clearing, OfComment, OfElement, OfLeaf}

-- how a node is removed: of the root all that is in it, a comment and an element with what is removed with it, and any other leaf alone
abbrev pub removal_of : CstNode → Removal
removal_of (Container (Root x)) = Clearing
removal_of (Container (Array x)) = OfElement
removal_of (Container (Object x)) = OfElement
removal_of (Container (ObjectProp x)) = OfElement
removal_of (Leaf (BooleanLit x)) = OfElement
removal_of (Leaf (NullKeyword x)) = OfElement
removal_of (Leaf (NumberLit x)) = OfElement
removal_of (Leaf (StringLit x)) = OfElement
removal_of (Leaf (WordLit x)) = OfElement
removal_of (Leaf (Token x)) = OfLeaf
removal_of (Leaf (Whitespace x)) = OfLeaf
removal_of (Leaf (Newline x)) = OfLeaf
removal_of (Leaf (Comment x)) = OfComment

-- wherever the node has a parent it alone is removed from that
abbrev pub RemovedAlone : List Node → List Node → ℕ → Type 0
RemovedAlone old new n = (c : ℕ) → parent_at old n ≡ Some c → Splices old new c (place_at old n) (place_at old n + 1) []

-- the root's children have all been removed
abbrev pub IsCleared : List Node → List Node → Type 0
IsCleared old new = Splices old new 0 0 (length (children_at old 0)) []

-- so the node n has been removed
abbrev pub IsTakenBy : Removal → List Node → List Node → ℕ → Type 0
IsTakenBy Clearing old new n = IsCleared old new
IsTakenBy OfComment old new n = TakesOut old new n
IsTakenBy OfElement old new n = TakesElement old new n
IsTakenBy OfLeaf old new n = RemovedAlone old new n

-- so it stays as it is: it is detached
abbrev pub IsLooseFor : Removal → List Node → ℕ → Type 0
IsLooseFor Clearing ns n = ⊥
IsLooseFor OfComment ns n = parent_at ns n ≡ None
IsLooseFor OfElement ns n = parent_at ns n ≡ None
IsLooseFor OfLeaf ns n = parent_at ns n ≡ None

-- why it has not been removed: memory was needed for a space that is required, or the array or object of an element lacks brackets
abbrev pub IsKeptBy : Removal → List Node → ℕ → EditError → Type 0
IsKeptBy Clearing ns n e = ⊥
IsKeptBy OfComment ns n e = (e ≡ OutOfMemory) × WantsSpace ns n
IsKeptBy OfElement ns n e = IsKeptFor ns n e
IsKeptBy OfLeaf ns n e = ⊥

-- Where the node was in an array or object at a path of a document, this is one without that entry, sound, and of its marks those of the entry are removed, and
-- comments beside it; where it was the document's value, the document has none.
pub record IsElementRemoved (o : Options) (old new : List Node) (n : ℕ) : Type 0 where
  pub entry : (path : List ℕ) (c i : ℕ) → IsAt old path c → IsTrue (is_array_or_object (content_at old c)) → IsElementOf old c i n
      → IsEntryRemoved o path i (top_at old n) (ordered_tree old 0) (ordered_tree new 0)
  pub value : IsElementOf old 0 0 n → IsValueRemoved o (top_at old n) (ordered_tree old 0) (ordered_tree new 0)

-- so it is if the old document is sound and the node is removed with what is removed with it; a cleared document has no value and no marks, and is sound
abbrev pub IsWrittenBy : Removal → Options → List Node → List Node → ℕ → Type 0
IsWrittenBy Clearing o old new n = IsBareDocument o (ordered_tree new 0)
IsWrittenBy OfComment o old new n = RemovesComment o old new n
IsWrittenBy OfElement o old new n = SoundTree o (ordered_tree old 0) → IsElementRemoved o old new n
IsWrittenBy OfLeaf o old new n = Unit {0}

-- Where the node was in an array or object at a path of a sound document, nothing outside that has changed but for the spaces that were inserted, and of its
-- children the entry has been removed with what is removed with it; where it was the document's value, so of the root's children.
pub record IsTakenAlone (old new : List Node) (n : ℕ) : Type 0 where
  pub entry : (path : List ℕ) (c i : ℕ) → IsAt old path c → IsTrue (is_array_or_object (content_at old c)) → IsElementOf old c i n
      → EntryTaken path i (top_at old n) (ordered_tree old 0) (ordered_tree new 0)
  pub value : IsElementOf old 0 0 n → ValueTaken (top_at old n) (ordered_tree old 0) (ordered_tree new 0)

-- what stays around the node that was removed: around a comment of the document all leaves but for the blanks before it that are removed with it
abbrev pub StaysAround : Removal → Options → List Node → List Node → ℕ → Type 0
StaysAround Clearing o old new n = Unit {0}
StaysAround OfComment o old new n = RemovesCommentAlone old new n
StaysAround OfElement o old new n = SoundTree o (ordered_tree old 0) → IsTakenAlone old new n
StaysAround OfLeaf o old new n = Unit {0}

-- where the node is not in the document, this is what it was; the root always is
abbrev pub KeepsDocumentBy : Removal → List Node → List Node → ℕ → Type 0
KeepsDocumentBy Clearing old new n = Unit {0}
KeepsDocumentBy OfComment old new n = KeepsDocumentOf old new n
KeepsDocumentBy OfElement old new n = KeepsDocumentOf old new n
KeepsDocumentBy OfLeaf old new n = KeepsDocumentOf old new n

-- the node is detached; the root never was one's
abbrev pub IsDetachedBy : Removal → List Node → ℕ → Type 0
IsDetachedBy Clearing ns n = Unit {0}
IsDetachedBy OfComment ns n = IsDetached ns n
IsDetachedBy OfElement ns n = IsDetached ns n
IsDetachedBy OfLeaf ns n = IsDetached ns n

-- where the node is one of a sound document, only allocation has failed: nothing that an edit needs is missing there
abbrev pub OnlyOutOfMemory : Options → List Node → ℕ → EditError → Type 0
OnlyOutOfMemory o ns n e = SoundTree o (ordered_tree ns 0) → IsOver ns 0 n → e ≡ OutOfMemory

module _ {A : Type 0} where
  -- so it is of the document
  abbrev pub RemovalWritten : CstRootNode A → CstRootNode A → Options → CstNode → Type 0
  RemovalWritten old new o node = IsWrittenBy (removal_of node) o (nodes_of old) (nodes_of new) (number_of node)

  -- and so is what stays around it
  abbrev pub RemovalAround : CstRootNode A → CstRootNode A → Options → CstNode → Type 0
  RemovalAround old new o node = StaysAround (removal_of node) o (nodes_of old) (nodes_of new) (number_of node)

  -- and elsewhere nothing changes
  abbrev pub RemovalKeepsDocument : CstRootNode A → CstRootNode A → CstNode → Type 0
  RemovalKeepsDocument old new node = KeepsDocumentBy (removal_of node) (nodes_of old) (nodes_of new) (number_of node)

  -- the node is detached
  abbrev pub RemovedIsDetached : CstRootNode A → CstNode → Type 0
  RemovedIsDetached d node = IsDetachedBy (removal_of node) (nodes_of d) (number_of node)

  -- the node has been removed from the document, with what is removed with it
  abbrev pub NodeRemoved : CstRootNode A → CstRootNode A → CstNode → Type 0
  NodeRemoved old new node = IsTakenBy (removal_of node) (nodes_of old) (nodes_of new) (number_of node)

  -- the node alone has been removed from its parent
  abbrev pub NodeRemovedAlone : CstRootNode A → CstRootNode A → CstNode → Type 0
  NodeRemovedAlone old new node = RemovedAlone (nodes_of old) (nodes_of new) (number_of node)

  -- it is no root, and detached
  abbrev pub IsLoose : CstRootNode A → CstNode → Type 0
  IsLoose d node = IsLooseFor (removal_of node) (nodes_of d) (number_of node)

  -- why it has not been removed
  abbrev pub IsKeptIn : CstRootNode A → CstNode → EditError → Type 0
  IsKeptIn d node e = IsKeptBy (removal_of node) (nodes_of d) (number_of node) e

  -- if the node is one of the document, and this sound, only allocation failed
  abbrev pub IsKeptForMemory : CstRootNode A → Options → CstNode → EditError → Type 0
  IsKeptForMemory d o node e = OnlyOutOfMemory o (nodes_of d) (number_of node) e

-- the node is the name or the value of a property: it is in one, and is neither trivia nor a token
abbrev pub is_name_or_value : List Node → ℕ → Bool
is_name_or_value ns n = is_element_at ns n && is_some_property ns (parent_at ns n)

-- comments have been removed from a container, if there are any
abbrev pub AreClearedIfAny : List Node → List Node → ℕ → List ℕ → Type 0
AreClearedIfAny old new c [] = new ≡ old
AreClearedIfAny old new c (n ∷ rest) = AreCleared old new c (n ∷ rest)

-- What the removal of these comments, after that of an entry, makes of the document that the nodes show then, if it is sound: it loses those that are still
-- there, one after another, each that is alone on its line with the line.
abbrev pub CommentsRemoved : List Node → List Node → ℕ → List ℕ → Type 0
CommentsRemoved old new c comments = IsOver old 0 c → IsTrue (is_array_or_object (content_at old c)) → (d : Document) → Shows d (ordered_tree old 0)
    → (e : Document) × Shows e (ordered_tree new 0) × LosesComments c new e old d comments

-- The node has been removed from its container, c, which is one step of the chain, and then those of these comments that c had still, each that was alone on its
-- line with the line: each a further step.
pub record IsTakenWithComments (r : Removal) (old new : List Node) (n c : ℕ) (comments : List ℕ) : Type 0 where
  pub without : List Node
  pub tree : IsTree without
  pub taken : IsTakenBy r old without n
  pub written : (o : Options) → IsWrittenBy r o old without n
  pub around : (o : Options) → StaysAround r o old without n
  pub step : IsRemoving old without r n
  pub cleared : AreClearedIfAny without new c comments
  pub steps : CommentsRemoved without new c comments

module _ {A : Type 0} where
  -- so it is wherever the node has a parent
  abbrev pub EntryCleared : CstRootNode A → CstRootNode A → CstNode → Type 0
  EntryCleared old new node = (c : ℕ) → parent_at (nodes_of old) (number_of node) ≡ Some c
      → IsTakenWithComments (removal_of node) (nodes_of old) (nodes_of new) (number_of node) c (comment_numbers old node)

  -- why it has not been: memory was needed for the numbers of an entry's comments, or as without comments
  abbrev pub IsKeptWithComments : CstRootNode A → CstNode → EditError → Type 0
  IsKeptWithComments d node e = ((e ≡ OutOfMemory) × IsTrue (is_entry_at (nodes_of d) (number_of node))) ⊎ IsKeptIn d node e
