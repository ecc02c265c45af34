-- The comma of one array or object of a sound document leaves: what becomes of the document.
use Rattle.std.proofs.Common.{◌≡◌, ◌∙◌, sym, ap, refl, ℕ, suc, List, [], ◌∷◌, ◌++◌, length, None, IsTrue, arith}
use Rattle.jsonc_text.specs.Options.{Options}
use Rattle.jsonc_tree.specs.OrderedTree.{OrderedTree, none, followed_by, ordered_tree}
use Rattle.jsonc_tree.specs.Siblings.{TakesOut}
use Rattle.jsonc_tree.specs.Tree.{Node, content_at, place_at, IsTree, IsOver}
use Rattle.jsonc_tree.specs.Values.{HasNoValue}
use Rattle.jsonc_layout.specs.nodes.Kinds.{is_element_at}
use Rattle.jsonc_sound.specs.Shape.{token_then}
use Rattle.jsonc_sound.specs.Rows.{container_of}
use Rattle.jsonc_sound.specs.SoundTrees.{SoundTree}
use Rattle.jsonc_sound.specs.TreeChanges.{DocumentChanged}
use Rattle.jsonc_edit.proofs.FittingNodes.{over_there}
use Rattle.jsonc_edit.proofs.LeafKinds.{comma_is}
use Rattle.jsonc_edit.proofs.PutRows.{inside_put}
use Rattle.jsonc_edit.proofs.Standing.{standing, token_first}
use Rattle.jsonc_edit.specs.commas.Commas.{comma_gone}
use Rattle.jsonc_edit.specs.commas.InTurn.{holds_at}
use Rattle.jsonc_edit.proofs.lemmas.commas.Children.{comma_out}
use Rattle.jsonc_edit.proofs.lemmas.commas.CommaRows.{closes, sound_without}
use Rattle.jsonc_edit.proofs.lemmas.commas.OwnRow.{lost_now, parts, place}
use Rattle.jsonc_edit.proofs.lemmas.commas.Splits.{no_elements, none_back, GoneComma}
use Rattle.jsonc_edit.proofs.lemmas.commas.Steps.{closing_lacks, closing_next, bracket_first, inside, marks_comma, path, same_marks, under_bracket, BracketFirst, Inside, Step}
use Rattle.jsonc_edit.proofs.lemmas.commas.WithoutCommas.{behind_bracket, comma_between, document_only}
use Rattle.jsonc_text.specs.declared.edit.TrailingCommaMode.TheVariants.{Never}

-- the comma leaves
module _ (o : Options) (old new : List Node) (tree : IsTree old) (after : IsTree new) (sound : SoundTree o (ordered_tree old 0)) (c k : ℕ) (over : IsOver old 0 c) (holds : IsTrue (holds_at old c))
    (g : GoneComma old c k) (s : TakesOut old new c k) where
  abbrev i : Inside o old c
  i = inside o old tree sound c over holds

  f : BracketFirst i.open_with g.front
  f = bracket_first o old c g.last g.front (g.mid ++ k ∷ g.back) i g.element g.are

  -- behind the first bracket
  abbrev ahead : List ℕ
  ahead = f.rest ++ g.last ∷ g.mid

  abbrev front : OrderedTree
  front = standing old ahead

  abbrev back : OrderedTree
  back = standing old g.back

  all_ahead : g.front ++ g.last ∷ g.mid ≡ i.open_with ∷ ahead
  all_ahead = ap (λ l. l ++ g.last ∷ g.mid) f.is

  changed : DocumentChanged (container_of i.kind (followed_by front (token_then 0x2C back))) (container_of i.kind (followed_by front back)) (path o old tree sound c over holds).0 (ordered_tree old 0) (ordered_tree new 0)
  changed =
      let p = path o old tree sound c over holds in
      let from : place_at old k ≡ suc (length ahead) = place old c k g tree ∙ ap length all_ahead in
      inside_put old new c (comma_out old new c k tree after (over_there old tree c over) s) i.kind i.open_with ahead (k ∷ []) g.back i.is i.opens (parts old c k g ∙ ap (λ l. l ++ k ∷ g.back) all_ahead) from (omega (arith, from))
      refl (token_first old tree k 0x2C none (comma_is (content_at old k) g.comma)) refl refl p.0 p.1

  no_more : HasNoValue back
  no_more = no_elements old g.back (none_back (is_element_at old) g.mid (k ∷ g.back) g.behind).1

  pub comma_taken : Step Never o (ordered_tree old 0) (ordered_tree new 0) × (comma_gone new c ≡ None)
  comma_taken =
      let p = (path o old tree sound c over holds).0 in
      let closing = closes o i.kind front back p (ordered_tree old 0) (ordered_tree new 0) sound no_more changed in (
        record {
          sound = sound_without o i.kind front back p (ordered_tree old 0) (ordered_tree new 0) sound no_more changed;
          marks = same_marks (ordered_tree old 0) (ordered_tree new 0) changed (under_bracket i.kind (followed_by front back) ∙ sym (marks_comma front back) ∙ sym (under_bracket i.kind (followed_by front (token_then 0x2C back))));
          commas = document_only Never refl (behind_bracket i.kind (comma_between front back (closing_next o i.kind closing))) changed;
        },
        lost_now old new tree after c k g s (closing_lacks o i.kind closing),
      )
