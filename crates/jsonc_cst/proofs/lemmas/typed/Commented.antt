-- A comment was inserted beside an entry: which edit the call is, and which nodes stay.
use Rattle.std.proofs.Common.{◌≡◌, ◌==◌, ◌∙◌, ℕ, true, false, List, length, Option, Some, None, Result, Ok, Err, OnErr, OnOk, IsUtf8, inl, inr, refl, sym, ap, subst}
use Rattle.std.proofs.lemmas.Bool.{and_parts, false≢true, not-true}
use Rattle.jsonc_text.specs.Options.{Options}
use Rattle.jsonc_text.specs.declared.edit.Place.{Place}
use Rattle.jsonc_text.proofs.Basics.{or_cases, test_eq}
use Rattle.jsonc_tree.specs.Building.{Keeps}
use Rattle.jsonc_tree.specs.Content as content
use Rattle.jsonc_tree.specs.Content.{Content}
use Rattle.jsonc_tree.specs.OrderedTree.{ordered_tree}
use Rattle.jsonc_tree.specs.Tree.{Node, content_at, parent_at, IsOver, IsTree}
use Rattle.jsonc_tree.specs.Values.{is_passed_over}
use Rattle.jsonc_layout.specs.lines.Kinds.{is_array_or_object}
use Rattle.jsonc_layout.specs.nodes.Kinds.{is_element_at}
use Rattle.jsonc_sound.specs.SoundTrees.{SoundTree}
use Rattle.jsonc_edit.specs.Paths.{as_root, as_value, as_property, as_name, between}
use Rattle.jsonc_edit.specs.commenting.Come.{LeavesCome}
use Rattle.jsonc_edit.specs.commenting.Inserting.{holds_entries, is_entry_at, Comes, MayCome}
use Rattle.jsonc_edit.proofs.ShapedPlaces.{all_stand}
use Rattle.jsonc_edit.proofs.Uniqueness.{element_parent}
use Rattle.jsonc_edit.proofs.lemmas.commas.Holders.{value_at_path}
use Rattle.jsonc_run.specs.Edits.{insert_comment}
use Rattle.jsonc_run.specs.Places.{IsEntryAt}
use Rattle.jsonc_run.specs.promise.Steps.{IsNoPart}
use Rattle.jsonc_run.proofs.CommentMade.{leaves_come}
use Rattle.jsonc_run.proofs.DetachedNodes.{beside_elsewhere}
use Rattle.jsonc_run.proofs.lemmas.promise.NodePlaces.{entry_place, made_step}
use Rattle.jsonc_cst.specs.typed.Edits.{KeepsDocumentOf}
use Rattle.jsonc_cst.specs.typed.Steps.{IsInsertingComment}
use Rattle.jsonc_cst.proofs.lemmas.typed.HandlesKept.{stay_both, stay_kept, stay_spliced, Stays}
use Rattle.jsonc_cst.proofs.lemmas.typed.Places.{no_root_value}

module _ (old : List Node) (n : ℕ) (entry : is_entry_at old n ≡ true) where
  parts : (is_element_at old n ≡ true) × (holds_entries old (parent_at old n) ≡ true)
  parts = and_parts (is_element_at old n) (holds_entries old (parent_at old n)) entry

  -- an entry has a parent, which is no property
  parent_by : (o : Option ℕ) → parent_at old n ≡ o → holds_entries old o ≡ true → (c : ℕ) × (parent_at old n ≡ Some c)
  parent_by None said holds = absurd (false≢true holds)
  parent_by (Some c) said holds = (c, said)

  pub parent_of_entry : (c : ℕ) × (parent_at old n ≡ Some c)
  parent_of_entry = parent_by (parent_at old n) refl parts.1

  no_part : IsTree old → IsNoPart old n
  no_part tree c said is =
      elim (or_cases (c == 0) (is_array_or_object (content_at old c)) (subst (λ o. holds_entries old o ≡ true) said parts.1)) [
        | inl first ↦ let wrong : content.root ≡ content.property = sym tree.root_first ∙ sym (ap (content_at old) (test_eq c 0 first)) ∙ is in cc
        | inr holds ↦ false≢true (sym (ap is_array_or_object is) ∙ holds)
      ]

  no_trivia : is_passed_over (content_at old n) ≡ false
  no_trivia = not-true (is_passed_over (content_at old n)) parts.0

  -- in a sound document it is no root, and has a path
  module _ (o : Options) (tree : IsTree old) (sound : SoundTree o (ordered_tree old 0)) (over : IsOver old 0 n) where
    no_root : content_at old n ≡ content.root → ⊥
    no_root is =
        elim (all_stand o old tree sound.shaped n over) [
          | as_root e ↦ (let wrong : None ≡ Some parent_of_entry.0 = sym tree.root_alone ∙ sym (ap (parent_at old) e) ∙ parent_of_entry.1 in cc)
          | as_value {path = path} at ↦ no_root_value (value_at_path o old tree sound path n at) is
          | as_property i at outer element named ↦ (let wrong : content.property ≡ content.root = sym named ∙ is in cc)
          | as_name r named element ↦ no_part tree r (element_parent old tree r 0 n element) named
          | between passed ↦ false≢true (sym no_trivia ∙ passed)
        ]

    entry_path : (path : List ℕ) × IsEntryAt old path n
    entry_path = entry_place o old tree sound n over (no_root, no_trivia) (no_part tree)

module _ (old new : List Node) (place : Place) (n : ℕ) (text : List ℕ) where
  -- leaves were inserted among the children of its parent
  pub beside : MayCome place old n text → Comes place old new n text → (c : ℕ) × (parent_at old n ≡ Some c) × (at : ℕ) × (contents : List Content) × LeavesCome old new c at contents
  beside may comes = let up = parent_of_entry old n may.entry in let row = leaves_come old new n up.0 text up.1 place comes in (up.0, up.1, row.0, row.1, row.2)

  stays : MayCome place old n text → Comes place old new n text → Stays old new
  stays may comes = let r = (beside may comes).4 in stay_both old r.ready new (stay_kept old r.ready r.prepared.keeps) (stay_spliced r.ready new _ _ _ _ r.put)

  elsewhere : IsTree old → IsTree new → MayCome place old n text → Comes place old new n text → KeepsDocumentOf old new n
  elsewhere tree after may comes = let b = beside may comes in let r = b.4 in beside_elsewhere old tree r.ready new n b.0 _ _ r.row b.1 after r.prepared.keeps r.put

  -- the same of answers
  module _ {T E : Type 0} where
    pub comment_stays : (r : Result T E) → OnOk r (MayCome place old n text) → OnOk r (Comes place old new n text) → OnErr r (Keeps (length old) old new) → Stays old new
    comment_stays (Ok x) may comes kept = stays may comes
    comment_stays (Err e) may comes kept = stay_kept old new kept

    pub comment_inserted : (r : Result T E) → OnOk r (MayCome place old n text) → OnOk r (Comes place old new n text) → OnOk r (MayCome place old n text × Comes place old new n text)
    comment_inserted (Ok x) may comes = (may, comes)
    comment_inserted (Err e) may comes = tt

    module _ (tree : IsTree old) (after : IsTree new) where
      pub comment_elsewhere : (r : Result T E) → OnOk r (MayCome place old n text) → OnOk r (Comes place old new n text) → OnOk r (KeepsDocumentOf old new n)
      comment_elsewhere (Ok x) may comes = elsewhere tree after may comes
      comment_elsewhere (Err e) may comes = tt

      pub comment_step : IsUtf8 text → (r : Result T E) → OnOk r (MayCome place old n text) → OnOk r (Comes place old new n text) → OnOk r (IsInsertingComment old new n place text)
      comment_step utf8 (Ok x) may comes =
          made_step old new tree after IsEntryAt (λ path. insert_comment path place text) n (λ path. utf8) (λ o sound over. entry_path old n may.entry o tree sound over) (λ path over at. (n, at, (may, comes)))
      comment_step utf8 (Err e) may comes = tt
