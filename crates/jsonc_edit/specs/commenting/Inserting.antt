-- A comment is put into a document, or refused.
use Rattle.std.specs.Prelude.{◌≡◌, ◌==◌, ◌||◌, ◌&&◌, ℕ, Bool, false, not, List, [], Option, Some, None, IsTrue, chars}
use Rattle.jsonc_text.specs.Options.{Options}
use Rattle.jsonc_text.specs.Gaps.{IsComment}
use Rattle.jsonc_tree.specs.Content.{Content, comment}
use Rattle.jsonc_tree.specs.OrderedTree.{ordered_tree}
use Rattle.jsonc_tree.specs.Tree.{Node, content_at, parent_at, IsOver}
use Rattle.jsonc_layout.specs.lines.Kinds.{is_array_or_object}
use Rattle.jsonc_layout.specs.nodes.Kinds.{is_element_at}
use Rattle.jsonc_sound.specs.Lines.{is_line_comment}
use Rattle.jsonc_sound.specs.SoundTrees.{SoundTree}
use Rattle.jsonc_sound.specs.TreeChanges.{leaves_of}
use Rattle.jsonc_edit.specs.Changes.{top_at}
use Rattle.jsonc_edit.specs.Seams.{StandsBetween}
use Rattle.jsonc_edit.specs.commenting.Above.{ComesAbove}
use Rattle.jsonc_edit.specs.commenting.Behind.{may_end_line, ComesBehind}
use Rattle.jsonc_edit.specs.commenting.Laws.{GainsComment, IsCommentInserted, StandsAbove, StandsBehind}
use Rattle.jsonc_text.specs.declared.edit.Place.{Place}
use Rattle.jsonc_text.specs.declared.edit.Place.TheVariants.{Above, After}
use Rattle.jsonc_text.specs.declared.edit.EditError.{EditError}
use Rattle.jsonc_text.specs.declared.edit.EditError.TheVariants.{OutOfMemory, InvalidComment, LineContinues, NotAnEntry}

-- the root, an array or an object
abbrev pub holds_entries : List Node → Option ℕ → Bool
holds_entries ns None = false
holds_entries ns (Some c) = c == 0 || is_array_or_object (content_at ns c)

-- the node is an element or a property of an array or object, or the document's value
abbrev pub is_entry_at : List Node → ℕ → Bool
is_entry_at ns n = is_element_at ns n && holds_entries ns (parent_at ns n)

-- the comment of this text has come to its place
abbrev pub Comes : Place → List Node → List Node → ℕ → List ℕ → Type 0
Comes Above old new n text = ComesAbove old new n text
Comes After old new n text = ComesBehind old new n text

-- the rest of the line would be read into it
abbrev pub runs_on : Place → List Node → ℕ → List ℕ → Bool
runs_on Above ns n text = false
runs_on After ns n text = is_line_comment (comment text) && not (may_end_line ns n)

-- it is one comment, n is an entry, and the rest of the line stays what it is
pub record MayCome (place : Place) (ns : List Node) (n : ℕ) (text : List ℕ) : Type 0 where
  pub whole : IsComment (chars text) []
  pub entry : IsTrue (is_entry_at ns n)
  pub line : runs_on place ns n text ≡ false

-- why it has not come: it is no whole comment; n is no entry; it would take the rest of the line; or it might have come, and allocation failed
abbrev pub IsRefusedFor : Place → List Node → ℕ → List ℕ → EditError → Type 0
IsRefusedFor place ns n text InvalidComment = IsComment (chars text) [] → ⊥
IsRefusedFor place ns n text NotAnEntry = is_entry_at ns n ≡ false
IsRefusedFor place ns n text LineContinues = IsTrue (runs_on place ns n text)
IsRefusedFor place ns n text OutOfMemory = MayCome place ns n text
IsRefusedFor place ns n text why = ⊥

-- if the old document is sound, its options allow comments and n is of it, the comment alone is in the new one besides
abbrev pub InsertsComment : Options → List Node → List Node → ℕ → List ℕ → Type 0
InsertsComment o old new n text =
    SoundTree o (ordered_tree old 0) → IsTrue o.comments → IsOver old 0 n → IsCommentInserted o text (ordered_tree old 0) (ordered_tree new 0)

-- and sound or not, it stands there beside n, and all other leaves stay
abbrev pub InsertsAmong : Place → List Node → List Node → ℕ → List ℕ → Type 0
InsertsAmong Above old new n text =
    (front back : List Content) → StandsBetween old n front back
    → (gains : GainsComment text (ordered_tree old 0) (ordered_tree new 0)) × StandsAbove gains (leaves_of (top_at old n)) front back
InsertsAmong After old new n text =
    (front back : List Content) → StandsBetween old n front back
    → (gains : GainsComment text (ordered_tree old 0) (ordered_tree new 0)) × StandsBehind gains (leaves_of (top_at old n)) front back
