use Rattle.std.proofs.Common.{ℕ, ◌<◌, chars, inl, length, subst, sym}
use Rattle.jsonc_tree.specs.Tree.{children_at}
use Rattle.jsonc_layout.specs.nodes.Names.{HoldsEscapedName}
use Rattle.jsonc_layout.specs.nodes.Siblings.{IsThere}
use Rattle.jsonc_cst.specs.Document.{nodes_of}
use Rattle.jsonc_parser.specs.patch.Lookups.{found_once, IsLookedUp}
use Rattle.jsonc_parser.specs.declared.patch.reference.Lookup.{Lookup}
use Rattle.jsonc_parser.specs.declared.patch.reference.Lookup.TheVariants.{Missing, Once, Twice}
use Rattle.jsonc_parser.proofs.lemmas.patch.Steps.{says_so, step_fails, step_missing, step_once}
use Rattle.jsonc_parser.proofs.patch.reference.member.Goals as goal

pub look_up-requires : goal.look_up-requires
look_up-requires g c = subst (λ (n : ℕ). n < length (nodes_of c.args.doc.now)) (sym c.number.ensures) c.requires.in_document.0

pub value_under-requires : goal.value_under-requires
value_under-requires g c = subst (λ (l : Lookup). IsThere (nodes_of c.args.doc.now) (found_once l)) c.in-Ok-Once.field-0-is c.in-Ok-Once.ensures.in_tree

pub returns-in-Ok-Missing-clause-found : goal.returns-in-Ok-Missing-clause-found
returns-in-Ok-Missing-clause-found g c =
    let doc = c.args.doc.now in
    let v = chars c.args.name.now in
    let there = subst (IsLookedUp (nodes_of doc) v (children_at (nodes_of doc) c.number.result)) c.in-Ok-Missing.field-0-is c.in-Ok-Missing.ensures.found in
    let found = subst (λ (n : ℕ). IsLookedUp (nodes_of doc) v (children_at (nodes_of doc) n) Missing) c.number.ensures there in
    step_missing doc doc.tree.tree c.args.node v c.requires.object found

pub returns-in-Ok-Once-clause-found : goal.returns-in-Ok-Once-clause-found
returns-in-Ok-Once-clause-found g c =
    let doc = c.args.doc.now in
    let v = chars c.args.name.now in
    let there = subst (IsLookedUp (nodes_of doc) v (children_at (nodes_of doc) c.number.result)) c.in-Ok-Once.field-0-is c.in-Ok-Once.ensures.found in
    let found = subst (λ (n : ℕ). IsLookedUp (nodes_of doc) v (children_at (nodes_of doc) n) (Once c.in-Ok-Once.property)) c.number.ensures there in
    step_once doc doc.tree.tree c.args.node v c.requires.object c.in-Ok-Once.property found c.value_under.result c.value_under.ensures.value

pub returns-in-Ok-Twice-clause-fails : goal.returns-in-Ok-Twice-clause-fails
returns-in-Ok-Twice-clause-fails g c =
    let doc = c.args.doc.now in
    let v = chars c.args.name.now in
    let there = subst (IsLookedUp (nodes_of doc) v (children_at (nodes_of doc) c.number.result)) c.in-Ok-Twice.field-0-is c.in-Ok-Twice.ensures.found in
    let found = subst (λ (n : ℕ). IsLookedUp (nodes_of doc) v (children_at (nodes_of doc) n) Twice) c.number.ensures there in
    says_so doc doc.tree.tree c.args.node v c.repeated.result c.repeated.ensures (step_fails doc doc.tree.tree c.args.node v c.requires.object found)

pub returns-in-Err-clause-fails : goal.returns-in-Err-clause-fails
returns-in-Err-clause-fails g c = inl (subst (HoldsEscapedName (nodes_of c.args.doc.now)) c.number.ensures c.in-Err.ensures.memory)
