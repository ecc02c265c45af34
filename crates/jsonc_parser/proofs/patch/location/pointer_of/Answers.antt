use Rattle.jsonc_cst.specs.Nodes.{number_of}
use Rattle.jsonc_parser.proofs.lemmas.patch.Located.{a_pointer, no_pointer, nowhere_by}
use Rattle.jsonc_parser.proofs.patch.location.pointer_of.Goals as goal

pub returns-in-Ok-None-clause-pointer : goal.returns-in-Ok-None-clause-pointer
returns-in-Ok-None-clause-pointer g c =
    let doc = c.args.doc.now in nowhere_by doc doc.tree.tree (number_of c.args.node) c.in-Ok-None.field-0 c.in-Ok-None.field-0-is c.in-Ok-None.ensures.none

pub returns-in-Ok-Some-tokens_over-clause-pointer : goal.returns-in-Ok-Some-tokens_over-clause-pointer
returns-in-Ok-Some-tokens_over-clause-pointer g c =
    let doc = c.args.doc.now in
    a_pointer doc doc.tree.tree (number_of c.args.node) c.in-Ok-Some.field-0 c.in-Ok-Some.path c.in-Ok-Some.field-0-is c.in-Ok-Some.ensures.found c.deref.result.now c.deref.ensures.value
    c.in-Ok-Some-tokens_over.field-0 c.in-Ok-Some-tokens_over.ensures.tokens c.in-Ok-Some-tokens_over.tokens c.from_tokens.result c.in-Ok-Some-tokens_over.field-0-is c.from_tokens.ensures

pub returns-in-Ok-None-tokens_over-clause-pointer : goal.returns-in-Ok-None-tokens_over-clause-pointer
returns-in-Ok-None-tokens_over-clause-pointer g c =
    let doc = c.args.doc.now in
    no_pointer doc doc.tree.tree (number_of c.args.node) c.in-Ok-Some.field-0 c.in-Ok-Some.path c.in-Ok-Some.field-0-is c.in-Ok-Some.ensures.found c.deref.result.now c.deref.ensures.value
    c.in-Ok-None-tokens_over.field-0 c.in-Ok-None-tokens_over.ensures.tokens c.in-Ok-None-tokens_over.field-0-is
