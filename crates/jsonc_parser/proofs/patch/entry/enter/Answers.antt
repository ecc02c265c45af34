use Rattle.std.proofs.Common.{◌∙◌, ap, chars, not, subst, sym}
use Rattle.jsonc_cst.specs.Document.{HasNode}
use Rattle.jsonc_parser.specs.declared.paths.which.Which.TheVariants.{First}
use Rattle.jsonc_parser.specs.paths.Which.{IsChosenNamed}
use Rattle.jsonc_parser.proofs.lemmas.paths.MemoryNeeded.{escaped_here}
use Rattle.jsonc_parser.proofs.lemmas.patch.PutFound.{enter_got, enter_got_none, enter_other}
use Rattle.jsonc_parser.proofs.lemmas.paths.Found.{no_object}
use Rattle.jsonc_parser.proofs.lemmas.patch.Steps.{array_by, no_array_by}
use Rattle.jsonc_parser.proofs.patch.entry.enter.Goals as goal

pub property_of-requires : goal.property_of-requires
property_of-requires g c = subst (HasNode c.args.doc.now) ((c.as_object.ensures c.in-Some.object).0 c.in-Some.is) c.requires

pub returns-in-Ok-Some-clause-entry : goal.returns-in-Ok-Some-clause-entry
returns-in-Ok-Some-clause-entry g c =
    enter_got c.args.doc.now c.args.doc.now.tree.tree c.args.node (chars c.args.token.now) c.in-Some.object c.requires ((c.as_object.ensures c.in-Some.object).0 c.in-Some.is) c.in-Ok-Some.property
    (subst (IsChosenNamed First c.args.doc.now c.in-Some.object (chars c.args.token.now)) c.in-Ok-Some.field-0-is c.in-Ok-Some.ensures.found) c.node.result c.node.ensures

pub returns-in-Ok-None-clause-entry : goal.returns-in-Ok-None-clause-entry
returns-in-Ok-None-clause-entry g c =
    enter_got_none c.args.doc.now c.args.doc.now.tree.tree c.args.node (chars c.args.token.now) c.in-Some.object c.requires ((c.as_object.ensures c.in-Some.object).0 c.in-Some.is)
    (subst (IsChosenNamed First c.args.doc.now c.in-Some.object (chars c.args.token.now)) c.in-Ok-None.field-0-is c.in-Ok-None.ensures.found)

pub returns-in-Err-clause-escaped : goal.returns-in-Err-clause-escaped
returns-in-Err-clause-escaped g c = escaped_here c.args.doc.now c.args.node c.in-Some.object ((c.as_object.ensures c.in-Some.object).0 c.in-Some.is) c.in-Err.ensures.escaped

pub returns-then-is_none-clause-entry : goal.returns-then-is_none-clause-entry
returns-then-is_none-clause-entry g c =
    let doc = c.args.doc.now in
    let no_array = no_array_by doc doc.tree.tree c.args.node c.requires c.as_array.result c.as_array.ensures (c.is_none.ensures ∙ ap not c.if-is_none.true) in
    enter_other doc doc.tree.tree c.args.node (chars c.args.token.now) (no_object doc doc.tree.tree c.args.node c.requires (λ x e. c.in_default.not-Some x ((c.as_object.ensures x).1 e))) no_array

pub enter_array-requires-clause-array : goal.enter_array-requires-clause-array
enter_array-requires-clause-array g c = array_by c.args.doc.now c.args.doc.now.tree.tree c.args.node c.requires c.as_array.result c.as_array.ensures (c.is_none.ensures ∙ ap not c.if-is_none.false)
