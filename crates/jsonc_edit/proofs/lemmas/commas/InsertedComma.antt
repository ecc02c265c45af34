-- A comma comes into an array or object of a sound document: what becomes of the document.
use Rattle.std.proofs.Common.{◌≡◌, ◌∙◌, sym, ap, refl, ℕ, suc, true, not, List, [], ◌∷◌, ◌++◌, length, None, IsTrue, arith, append_assoc, length-append}
use Rattle.jsonc_text.specs.Options.{Options}
use Rattle.jsonc_tree.specs.OrderedTree.{OrderedTree, none, more, followed_by, ordered_tree}
use Rattle.jsonc_tree.specs.Tree.{Node, content_at, children_at, place_at, IsTree, IsOver}
use Rattle.jsonc_sound.specs.Shape.{token_then}
use Rattle.jsonc_sound.specs.Rows.{RowKind, of_values, of_properties, container_of, opening}
use Rattle.jsonc_sound.specs.SoundTrees.{SoundTree}
use Rattle.jsonc_sound.specs.TreeChanges.{DocumentChanged}
use Rattle.jsonc_edit.specs.Changes.{row_below}
use Rattle.jsonc_edit.proofs.PutRows.{inside_put}
use Rattle.jsonc_edit.proofs.Standing.{standing, standing_then, token_first}
use Rattle.jsonc_edit.specs.multiline.Reflows.{has_newline}
use Rattle.jsonc_edit.proofs.lemmas.multiline.OnLines.{standing_newline}
use Rattle.jsonc_edit.specs.commas.Commas.{comma_wanted_behind, CommaInsertedAfter}
use Rattle.jsonc_edit.specs.commas.InTurn.{holds_at}
use Rattle.jsonc_edit.proofs.lemmas.commas.Children.{comma_in}
use Rattle.jsonc_edit.proofs.lemmas.commas.CommaRows.{closes_yet, comma_first, sound_with}
use Rattle.jsonc_edit.proofs.lemmas.commas.OwnRow.{came_now, gap_is}
use Rattle.jsonc_edit.proofs.lemmas.commas.Splits.{no_elements, split_parent, WantedComma}
use Rattle.jsonc_edit.proofs.lemmas.commas.Steps.{closing_bare, bracket_first, inside, marks_comma, path, same_marks, under_bracket, BracketFirst, Inside, Step}
use Rattle.jsonc_edit.proofs.lemmas.commas.WithoutCommas.{comma_behind, document_only}
use Rattle.jsonc_text.specs.declared.edit.TrailingCommaMode.TheVariants.{IfMultiline}

below_is : (kind : RowKind) (row : OrderedTree) → (container_of kind row).below ≡ token_then (opening kind) row
below_is of_values row = refl
below_is of_properties row = refl

-- a comma comes
module _ (o : Options) (allowed : IsTrue o.trailing_commas) (old new : List Node) (tree : IsTree old) (after : IsTree new) (sound : SoundTree o (ordered_tree old 0)) (c n : ℕ) (over : IsOver old 0 c) (holds : IsTrue (holds_at old c))
    (g : WantedComma old c n) (r : CommaInsertedAfter old new c n) where
  abbrev i : Inside o old c
  i = inside o old tree sound c over holds

  f : BracketFirst i.open_with g.front
  f = bracket_first o old c n g.front g.back i g.element g.are

  -- behind the first bracket
  abbrev front : OrderedTree
  front = standing old f.rest

  abbrev back : OrderedTree
  back = standing old g.back

  abbrev before : OrderedTree
  before = followed_by front (more (content_at old n) (row_below old n) none)

  changed : DocumentChanged (container_of i.kind (followed_by before back)) (container_of i.kind (followed_by before (token_then 0x2C back))) (path o old tree sound c over holds).0 (ordered_tree old 0) (ordered_tree new 0)
  changed =
      let p = path o old tree sound c over holds in
      let ahead : List ℕ = f.rest ++ n ∷ [] in
      let kids : children_at old c ≡ i.open_with ∷ (ahead ++ g.back) = g.are ∙ ap (λ l. l ++ n ∷ g.back) f.is ∙ ap (λ l. i.open_with ∷ l) (sym (append_assoc f.rest (n ∷ []) g.back)) in
      let from : suc (place_at r.ready n) ≡ suc (length ahead) = omega (arith, gap_is old new tree after c n g r, ap length f.is, length-append f.rest (n ∷ [])) in
      inside_put old new c (comma_in old new c n tree after (split_parent old tree c n g.front g.back g.are) r) i.kind i.open_with ahead [] g.back i.is i.opens kids from (omega (arith, from))
      (standing_then old f.rest (n ∷ [])) refl (token_first r.ready r.tree (length old) 0x2C none r.added.last) refl p.0 p.1

  -- a line ends in it
  lines : has_newline (container_of i.kind (followed_by before back)).below ≡ true
  lines =
      let kids : children_at old c ≡ i.open_with ∷ ((f.rest ++ n ∷ []) ++ g.back) = g.are ∙ ap (λ l. l ++ n ∷ g.back) f.is ∙ ap (λ l. i.open_with ∷ l) (sym (append_assoc f.rest (n ∷ []) g.back)) in
      let row : standing old (children_at old c) ≡ token_then (opening i.kind) (followed_by before back) =
      ap (standing old) kids ∙ token_first old tree i.open_with (opening i.kind) (standing old ((f.rest ++ n ∷ []) ++ g.back)) i.opens
      ∙ ap (token_then (opening i.kind)) (standing_then old (f.rest ++ n ∷ []) g.back ∙ ap (λ t. followed_by t back) (standing_then old f.rest (n ∷ []))) in
      ap has_newline (below_is i.kind (followed_by before back) ∙ sym row) ∙ standing_newline old (children_at old c) ∙ g.line

  pub comma_given : Step IfMultiline o (ordered_tree old 0) (ordered_tree new 0) × (comma_wanted_behind new c ≡ None)
  comma_given =
      let p = (path o old tree sound c over holds).0 in
      let lacks : IsTrue (not (comma_first back)) = ap not g.lacks in
      let closing = closes_yet o allowed i.kind front (content_at old n) (row_below old n) back p (ordered_tree old 0) (ordered_tree new 0) sound g.element (no_elements old g.back g.behind) lacks changed in (
        record {
          sound = sound_with o allowed i.kind front (content_at old n) (row_below old n) back p (ordered_tree old 0) (ordered_tree new 0) sound g.element (no_elements old g.back g.behind) lacks changed;
          marks = same_marks (ordered_tree old 0) (ordered_tree new 0) changed (under_bracket i.kind (followed_by before (token_then 0x2C back)) ∙ marks_comma before back ∙ sym (under_bracket i.kind (followed_by before back)));
          commas = document_only IfMultiline refl (comma_behind i.kind front (content_at old n) (row_below old n) back g.element (closing_bare o i.kind closing) lines) changed;
        },
        came_now old new tree after c n g r,
      )
