use Rattle.std.proofs.Common.{◌∙◌, ap, chars, refl, subst, sym, List, ℕ}
use Rattle.jsonc_tree.specs.Tree.{children_at, Node}
use Rattle.jsonc_layout.specs.input.Views.{chars_of}
use Rattle.jsonc_layout.specs.nodes.Names.{HasName, NameReads}
use Rattle.jsonc_cst.specs.Document.{nodes_of}
use Rattle.jsonc_cst.specs.Nodes.{number_of}
use Rattle.jsonc_parser.specs.patch.Lookups.{IsLookedUp}
use Rattle.jsonc_parser.specs.declared.patch.reference.Lookup.{Lookup}
use Rattle.jsonc_parser.specs.declared.patch.reference.Lookup.TheVariants.{Missing, Once, Twice}
use Rattle.jsonc_parser.proofs.lemmas.patch.Located.{missing, nameless, told_name, twice, valueless}
use Rattle.jsonc_parser.proofs.patch.location.name_to.Goals as goal

pub returns-in-Ok-None-clause-token : goal.returns-in-Ok-None-clause-token
returns-in-Ok-None-clause-token g c =
    let doc = c.args.doc.now in
    let none = subst (NameReads (HasName c.tree.result.now.nodes c.args.property)) c.in-Ok-None.field-0-is c.in-Ok-None.ensures.name in
    nameless doc doc.tree.tree c.args.object c.requires.object c.args.property (subst (λ (ns : List Node). (v : List ℕ) → HasName ns c.args.property v → ⊥) c.tree.ensures none)

pub returns-in-Some-clause-token : goal.returns-in-Some-clause-token
returns-in-Some-clause-token g c =
    let doc = c.args.doc.now in
    let v : List ℕ = chars_of c.in-Ok-Some.name in
    let read = subst (NameReads (HasName c.tree.result.now.nodes c.args.property)) c.in-Ok-Some.field-0-is c.in-Ok-Some.ensures.name in
    let named = subst (λ (ns : List Node). HasName ns c.args.property v) c.tree.ensures read in
    let there = subst (IsLookedUp (nodes_of doc) (chars c.deref.result.now) (children_at (nodes_of doc) c.number.result)) c.in-Ok-Once.field-0-is c.in-Ok-Once.ensures.found in
    let found = subst (λ (n : ℕ). IsLookedUp (nodes_of doc) v (children_at (nodes_of doc) n) (Once c.in-Ok-Once.only)) c.number.ensures
    (subst (λ (l : List ℕ). IsLookedUp (nodes_of doc) l (children_at (nodes_of doc) c.number.result) (Once c.in-Ok-Once.only)) (ap chars c.deref.ensures) there) in
    told_name doc doc.tree.tree c.args.object c.requires.object c.args.property v named c.in-Ok-Once.only found c.in-Some.value (sym c.in-Some.is ∙ c.value_under.ensures.value) c.in-Ok-Some.name refl

pub returns-in-None-clause-token : goal.returns-in-None-clause-token
returns-in-None-clause-token g c =
    let doc = c.args.doc.now in
    let v : List ℕ = chars_of c.in-Ok-Some.name in
    let read = subst (NameReads (HasName c.tree.result.now.nodes c.args.property)) c.in-Ok-Some.field-0-is c.in-Ok-Some.ensures.name in
    let named = subst (λ (ns : List Node). HasName ns c.args.property v) c.tree.ensures read in
    let there = subst (IsLookedUp (nodes_of doc) (chars c.deref.result.now) (children_at (nodes_of doc) c.number.result)) c.in-Ok-Once.field-0-is c.in-Ok-Once.ensures.found in
    let found = subst (λ (n : ℕ). IsLookedUp (nodes_of doc) v (children_at (nodes_of doc) n) (Once c.in-Ok-Once.only)) c.number.ensures
    (subst (λ (l : List ℕ). IsLookedUp (nodes_of doc) l (children_at (nodes_of doc) c.number.result) (Once c.in-Ok-Once.only)) (ap chars c.deref.ensures) there) in
    valueless doc doc.tree.tree c.args.object c.requires.object c.args.property v named c.in-Ok-Once.only found (sym c.in-None.is ∙ c.value_under.ensures.value)

pub returns-in-Ok-Missing-clause-token : goal.returns-in-Ok-Missing-clause-token
returns-in-Ok-Missing-clause-token g c =
    let doc = c.args.doc.now in
    let v : List ℕ = chars_of c.in-Ok-Some.name in
    let read = subst (NameReads (HasName c.tree.result.now.nodes c.args.property)) c.in-Ok-Some.field-0-is c.in-Ok-Some.ensures.name in
    let named = subst (λ (ns : List Node). HasName ns c.args.property v) c.tree.ensures read in
    let there = subst (IsLookedUp (nodes_of doc) (chars c.deref.result.now) (children_at (nodes_of doc) c.number.result)) c.in-Ok-Missing.field-0-is c.in-Ok-Missing.ensures.found in
    let found = subst (λ (n : ℕ). IsLookedUp (nodes_of doc) v (children_at (nodes_of doc) n) Missing) c.number.ensures
    (subst (λ (l : List ℕ). IsLookedUp (nodes_of doc) l (children_at (nodes_of doc) c.number.result) Missing) (ap chars c.deref.ensures) there) in
    missing doc doc.tree.tree c.args.object c.requires.object c.args.property v named found

pub returns-in-Ok-Twice-clause-token : goal.returns-in-Ok-Twice-clause-token
returns-in-Ok-Twice-clause-token g c =
    let doc = c.args.doc.now in
    let v : List ℕ = chars_of c.in-Ok-Some.name in
    let read = subst (NameReads (HasName c.tree.result.now.nodes c.args.property)) c.in-Ok-Some.field-0-is c.in-Ok-Some.ensures.name in
    let named = subst (λ (ns : List Node). HasName ns c.args.property v) c.tree.ensures read in
    let there = subst (IsLookedUp (nodes_of doc) (chars c.deref.result.now) (children_at (nodes_of doc) c.number.result)) c.in-Ok-Twice.field-0-is c.in-Ok-Twice.ensures.found in
    let found = subst (λ (n : ℕ). IsLookedUp (nodes_of doc) v (children_at (nodes_of doc) n) Twice) c.number.ensures
    (subst (λ (l : List ℕ). IsLookedUp (nodes_of doc) l (children_at (nodes_of doc) c.number.result) Twice) (ap chars c.deref.ensures) there) in
    twice doc doc.tree.tree c.args.object c.requires.object c.args.property v named found
