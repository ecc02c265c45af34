-- Properties that were inserted into objects: what the new node is, and which nodes stay.
use Rattle.std.proofs.Common.{◌≡◌, ℕ, ◌<◌, ◌≤◌, ◌⊎◌, inl, inr, true, List, length, min, sym, ap, subst, ◌∙◌, arith}
use Rattle.std.proofs.Math.Nat.{min-eq_left, min-eq_right}
use Rattle.std.proofs.lemmas.Bool.{cases_lt}
use Rattle.jsonc_text.specs.Options.{Options}
use Rattle.jsonc_text.specs.Plain.{Plain}
use Rattle.jsonc_tree.specs.Content as content
use Rattle.jsonc_tree.specs.OrderedTree.{Top}
use Rattle.jsonc_tree.specs.Tree.{Node, children_at, content_at, IsTree}
use Rattle.jsonc_tree.proofs.Order.{parent_there}
use Rattle.jsonc_layout.specs.nodes.Siblings.{elements_at}
use Rattle.jsonc_layout.specs.lines.Kinds.{is_array_or_object}
use Rattle.jsonc_edit.specs.Paths.{IsElementOf}
use Rattle.jsonc_edit.proofs.Uniqueness.{element_parent}
use Rattle.jsonc_text.specs.declared.edit.EditError.{EditError}
use Rattle.jsonc_insert.specs.Inserted.{refusal}
use Rattle.jsonc_insert.specs.Laws.{KeepsNodesBut}
use Rattle.jsonc_insert.specs.Planned.{has_brackets}
use Rattle.jsonc_insert.specs.members.Inserted.{PropertyPut}
use Rattle.jsonc_insert.proofs.lemmas.members.Changing.{is_property}
use Rattle.jsonc_insert.proofs.lemmas.members.RowReplaced.{prepared_all}
use Rattle.jsonc_insert.proofs.lemmas.members.Numbering.{changes_one_row, takes_number}
use Rattle.jsonc_insert.proofs.lemmas.members.PastTheEnd.{past_the_end}
use Rattle.jsonc_insert.proofs.lemmas.members.SpreadObjects.{wants_memory_alone}
use Rattle.jsonc_cst.specs.typed.Removing.{OnlyOutOfMemory}
use Rattle.jsonc_edit.proofs.lemmas.commas.Holders.{holder_path}
use Rattle.jsonc_cst.proofs.lemmas.typed.HandlesKept.{Stays, stay_both, stay_kept, stay_spliced}

module _ (old new : List Node) (c i : ℕ) (name : List ℕ) (v : Plain) (m : ℕ) (tree : IsTree old) (there : c < length old) (brackets : has_brackets old (children_at old c) ≡ true) (e : PropertyPut old new c i name v m) where
  pub put_element : IsElementOf new c (min i (length (elements_at old c))) m
  put_element = takes_number old new c i name v m tree there brackets e

  pub put_there : m < length new
  put_there = (parent_there new e.tree m c (element_parent new e.tree c (min i (length (elements_at old c))) m put_element)).0

  pub put_property : content_at new m ≡ content.property
  put_property = ap (λ (t : Top). t.content) (is_property old new c i name v m tree there e)

  pub put_others : KeepsNodesBut old new c
  put_others = (changes_one_row old new c i name v m tree there e).1

module _ (old new : List Node) (c i : ℕ) (name : List ℕ) (v : Plain) (m : ℕ) (tree : IsTree old) (there : c < length old) (e : PropertyPut old new c i name v m) where
  pub put_stays : Stays old new
  put_stays =
      let ready = prepared_all old e.lined e.ready tree c there e.was e.before e.prepared i name v m e.row e.made in
      stay_both old e.ready new (stay_kept old e.ready ready.keeps) (stay_spliced e.ready new _ _ _ _ e.put)

module _ (old new : List Node) (c : ℕ) (name : List ℕ) (v : Plain) (tree : IsTree old) (is : content_at old c ≡ content.object) where
  pub put_for_memory : (o : Options) (e : EditError) → e ≡ refusal old c → OnlyOutOfMemory o old c e
  put_for_memory o e told = λ sound over.
      let place = holder_path o old tree sound c over (ap is_array_or_object is) in
      told ∙ (wants_memory_alone o old place.0 c tree sound place.1 is).1

-- the number of a last one: past the end all do the same
module _ (old new : List Node) (c i : ℕ) (name : List ℕ) (v : Plain) (m : ℕ) (tree : IsTree old) (there : c < length old) (brackets : has_brackets old (children_at old c) ≡ true) (e : PropertyPut old new c i name v m) where
  put_by_place : (i < length (elements_at old c)) ⊎ (length (elements_at old c) ≤ i) → PropertyPut old new c (min i (length (elements_at old c))) name v m
  put_by_place (inl low) = subst (λ k. PropertyPut old new c k name v m) (sym (min-eq_left (let z : i ≤ length (elements_at old c) = omega (arith, low) in z))) e
  put_by_place (inr high) =
      subst (λ k. PropertyPut old new c k name v m) (sym (min-eq_right high)) (past_the_end old new c i (length (elements_at old c)) name v m tree there brackets high (omega arith) e)

  pub put_at_place : PropertyPut old new c (min i (length (elements_at old c))) name v m
  put_at_place = put_by_place (cases_lt i (length (elements_at old c)))
