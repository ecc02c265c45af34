-- A comment that was put in at a place of an entry.
use Rattle.std.proofs.Common.{◌≡◌, ◌&&◌, ℕ, Bool, true, false, not, inl, inr, List, [], Option, Some, None, IsTrue, IsUtf8, refl}
use Rattle.jsonc_text.specs.Options.{Options}
use Rattle.jsonc_text.specs.Gaps.{IsComment}
use Rattle.jsonc_text.proofs.Basics.{and_both}
use Rattle.jsonc_tree.specs.Content.{comment}
use Rattle.jsonc_tree.specs.Tree.{Node, parent_at, IsOver, IsTree}
use Rattle.jsonc_layout.specs.nodes.Kinds.{is_element_at}
use Rattle.jsonc_sound.specs.Lines.{is_line_comment}
use Rattle.jsonc_edit.specs.commenting.Behind.{may_end_line}
use Rattle.jsonc_edit.specs.commenting.Inserting.{holds_entries, is_entry_at, Comes, InsertsAmong, InsertsComment, MayCome}
use Rattle.jsonc_edit.specs.commenting.Laws.{IsEntry}
use Rattle.jsonc_edit.specs.commenting.Whole.{IsWhole}
use Rattle.jsonc_text.specs.declared.edit.Place.{Place}
use Rattle.jsonc_text.specs.declared.edit.Place.TheVariants.{Above, After}
use Rattle.jsonc_edit.specs.declared.commenting.whole.CommentKind.{CommentKind}
use Rattle.jsonc_edit.specs.declared.commenting.whole.CommentKind.TheVariants.{Line, Block}
use Rattle.jsonc_edit.proofs.lemmas.commenting.Commas.{over_between}
use Rattle.jsonc_edit.proofs.lemmas.commenting.Documents.{gains_above, gains_behind, inserts_above, inserts_behind}

pub whole_of : (kind : CommentKind) (t : List ℕ) → IsWhole kind t → IsComment t []
whole_of Line t h = inl h
whole_of Block t h = inr h

-- where it is no line comment, or its line ends
line_free : (line may : Bool) → line && not may ≡ false → IsTrue line → IsTrue may
line_free true true e h = refl
line_free true false e h = cc
line_free false may e h = cc

module _ (old new : List Node) (n : ℕ) (text : List ℕ) (tree : IsTree old) (utf8 : IsUtf8 text) where
  module _ (entry : IsTrue (is_entry_at old n)) where
    parts : IsTrue (is_element_at old n) × IsTrue (holds_entries old (parent_at old n))
    parts = and_both (is_element_at old n) (holds_entries old (parent_at old n)) entry

    an_entry : IsOver old 0 n → IsEntry old n
    an_entry over = by (parent_at old n) refl parts.1
      where
        by : (o : Option ℕ) → parent_at old n ≡ o → IsTrue (holds_entries old o) → IsEntry old n
        by None said h = cc
        by (Some c) said h = record { container = c; parent = said; below = over; element = parts.0; holds = h }

    has_parent : (c : ℕ) × (parent_at old n ≡ Some c)
    has_parent = by (parent_at old n) refl parts.1
      where
        by : (o : Option ℕ) → parent_at old n ≡ o → IsTrue (holds_entries old o) → (c : ℕ) × (parent_at old n ≡ Some c)
        by None said h = cc
        by (Some c) said h = (c, said)

  pub inserts : (place : Place) → MayCome place old n text → Comes place old new n text → (o : Options) → InsertsComment o old new n text
  inserts Above may comes o = λ sound allowed over. inserts_above o old new n text tree sound allowed (utf8, may.whole) (an_entry may.entry over) comes
  inserts After may comes o = λ sound allowed over. inserts_behind o old new n text tree sound allowed (utf8, may.whole) (an_entry may.entry over) (line_free (is_line_comment (comment text)) (may_end_line old n) may.line) comes

  pub among : (place : Place) → MayCome place old n text → Comes place old new n text → InsertsAmong place old new n text
  among Above may comes = λ front back stands. gains_above old new n text tree comes (has_parent may.entry).0 (has_parent may.entry).1 front back stands
  among After may comes = λ front back stands. gains_behind old new n text tree comes (an_entry may.entry (over_between old n front back stands)) front back stands
