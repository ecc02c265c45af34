use Rattle.std.proofs.Common.{chars, subst}
use Rattle.jsonc_cst.specs.Document.{HasNode}
use Rattle.jsonc_cst.specs.Readings.{IsFirstNamed}
use Rattle.jsonc_parser.proofs.lemmas.paths.Found.{no_object_found, none_found, one_found}
use Rattle.jsonc_parser.proofs.lemmas.paths.MemoryNeeded.{escaped_here}
use Rattle.jsonc_parser.proofs.paths.find.find_inside.Goals as goal

pub returns-in_default-clause-found : goal.returns-in_default-clause-found
returns-in_default-clause-found g c =
    no_object_found c.args.doc.now c.args.doc.now.tree.tree c.args.node (chars c.args.name.now) c.requires (λ x e. c.in_default.not-Some x ((c.as_object.ensures x).1 e))

pub get-requires : goal.get-requires
get-requires g c = subst (HasNode c.args.doc.now) ((c.as_object.ensures c.in-Some.object).0 c.in-Some.is) c.requires

pub returns-in-Ok-Some-clause-found : goal.returns-in-Ok-Some-clause-found
returns-in-Ok-Some-clause-found g c =
    one_found c.args.doc.now c.args.doc.now.tree.tree c.args.node c.in-Some.object (chars c.args.name.now) c.in-Ok-Some.property.number c.value.result c.requires ((c.as_object.ensures c.in-Some.object).0 c.in-Some.is)
    (subst (IsFirstNamed c.args.doc.now c.in-Some.object (chars c.args.name.now)) c.in-Ok-Some.field-0-is c.in-Ok-Some.ensures.found) c.value.ensures.value

pub returns-in-Ok-None-clause-found : goal.returns-in-Ok-None-clause-found
returns-in-Ok-None-clause-found g c =
    none_found c.args.doc.now c.args.doc.now.tree.tree c.args.node c.in-Some.object (chars c.args.name.now) c.requires ((c.as_object.ensures c.in-Some.object).0 c.in-Some.is)
    (subst (IsFirstNamed c.args.doc.now c.in-Some.object (chars c.args.name.now)) c.in-Ok-None.field-0-is c.in-Ok-None.ensures.found)

pub returns-in-Err-clause-escaped : goal.returns-in-Err-clause-escaped
returns-in-Err-clause-escaped g c = escaped_here c.args.doc.now c.args.node c.in-Some.object ((c.as_object.ensures c.in-Some.object).0 c.in-Some.is) c.in-Err.ensures.escaped
