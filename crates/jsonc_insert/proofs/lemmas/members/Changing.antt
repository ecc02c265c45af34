-- What a property that has come in makes of the document: its object changes alone, and the new node is the property.
use Rattle.std.proofs.Common.{◌≡◌, ◌∙◌, ◌<◌, ℕ, List, length, Some, arith}
use Rattle.jsonc_text.specs.Plain.{Plain}
use Rattle.jsonc_tree.specs.Tree.{Node, children_at, IsTree, IsOver}
use Rattle.jsonc_edit.specs.Changes.{top_at}
use Rattle.jsonc_edit.specs.Put.{Extends}
use Rattle.jsonc_edit.proofs.NodesKept.{over_no_old}
use Rattle.jsonc_edit.proofs.PutRows.{changed_put, RowPut}
use Rattle.jsonc_insert.specs.Inserted.{plan_of}
use Rattle.jsonc_insert.specs.Settings.{layout_inside, outer_indent}
use Rattle.jsonc_insert.specs.members.Inserted.{PropertyPut}
use Rattle.jsonc_insert.specs.members.Laws.{ChangesObjectAlone, IsTheProperty}
use Rattle.jsonc_insert.proofs.Additions.{made_new, same_top}
use Rattle.jsonc_insert.proofs.lemmas.members.RowReplaced.{prepared_all}

module _ (old new : List Node) (c i : ℕ) (name : List ℕ) (v : Plain) (m : ℕ) (tree : IsTree old) (there : c < length old) (e : PropertyPut old new c i name v m) where
  pub prepared : Extends old e.ready
  prepared = prepared_all old e.lined e.ready tree c there e.was e.before e.prepared i name v m e.row e.made

  abbrev pub property_put : RowPut old new c
  property_put = record { ready = e.ready; from = 0; to = length (children_at old c); put = e.row; tree = tree; there = there; prepared = prepared; join = e.join; spliced = e.put; after = e.tree }

  pub is_the_property : top_at new m ≡ top_at e.ready m
  is_the_property =
      let f = made_new e.lined e.ready (layout_inside e.made.kept c) (outer_indent e.made.kept c) (plan_of e.made.kept c i (Some name) v) (Some name) v m e.made.comma e.made.before e.made.behind e.made.made in
      same_top e.ready new prepared.tree e.tree c 0 (length (children_at old c)) e.row e.put m f.in_tree (over_no_old old e.ready tree prepared.keeps m c (omega (arith, f.later, e.before.opens.prepared.keeps.len)) there)

pub changes_object_alone : (old new : List Node) (c i : ℕ) (name : List ℕ) (v : Plain) (m : ℕ) → ChangesObjectAlone old new c i name v m
changes_object_alone old new c i name v m tree there e = changed_put old new c (property_put old new c i name v m tree there e) c there IsOver.itself

pub is_property : (old new : List Node) (c i : ℕ) (name : List ℕ) (v : Plain) (m : ℕ) → IsTheProperty old new c i name v m
is_property old new c i name v m tree there e = is_the_property old new c i name v m tree there e ∙ e.made.made.is
