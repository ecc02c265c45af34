-- From the nodes to the row of trees.
use Rattle.std.proofs.Common.{ℕ, List}
use Rattle.jsonc_text.specs.Options.{Options}
use Rattle.jsonc_text.specs.Plain.{Plain}
use Rattle.jsonc_tree.specs.OrderedTree.{ordered_tree}
use Rattle.jsonc_tree.specs.Tree.{Node}
use Rattle.jsonc_edit.proofs.FittingNodes.{over_there}
use Rattle.jsonc_edit.proofs.Uniqueness.{over_at}
use Rattle.jsonc_edit.proofs.PathsKept.{at_still}
use Rattle.jsonc_insert.proofs.lemmas.elements.Objects.{property_comes_at}
use Rattle.jsonc_insert.proofs.lemmas.elements.NamedProperties.{inserts_member}
use Rattle.jsonc_insert.proofs.lemmas.members.Numbering.{changes_one_row, takes_number}
use Rattle.jsonc_insert.specs.properties.Laws.{PropertiesAreWritten, PropertiesInsertedAt, StandsInPlace}

pub properties_come_at : (o : Options) (old new : List Node) (path : List ℕ) (c i : ℕ) (name : List ℕ) (v : Plain) (m : ℕ) → PropertiesInsertedAt o old new path c i name v m
properties_come_at o old new path c i name v m tree sound at is e = property_comes_at o old new path c i name v m tree sound at is e

pub properties_are_written : (o : Options) (old new : List Node) (path : List ℕ) (c i : ℕ) (name : List ℕ) (v : Plain) (m : ℕ) → PropertiesAreWritten o old new path c i name v m
properties_are_written o old new path c i name v m tree sound at is characters writable e =
    let s = properties_come_at o old new path c i name v m tree sound at is e in
    (s, inserts_member o path i name v (ordered_tree old 0) (ordered_tree new 0) s sound characters writable)

pub stands_in_place : (old new : List Node) (path : List ℕ) (c i : ℕ) (name : List ℕ) (v : Plain) (m : ℕ) → StandsInPlace old new path c i name v m
stands_in_place old new path c i name v m tree at brackets e =
    let there = over_there old tree c (over_at old tree path c at) in
    (let kept = (changes_one_row old new c i name v m tree there e).1 in at_still old new c tree kept.content kept.children path at, takes_number old new c i name v m tree there brackets e)
