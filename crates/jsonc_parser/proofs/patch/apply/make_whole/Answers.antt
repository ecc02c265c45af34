use Rattle.jsonc_parser.proofs.lemmas.patch.Chains.{at_none, empty_list, not_none, one_list, patched_by_none, patched_by_one, stopped_by_one}
use Rattle.jsonc_parser.proofs.patch.apply.make_whole.Goals as goal

pub returns-in_default-clause-patched : goal.returns-in_default-clause-patched
returns-in_default-clause-patched g c = patched_by_none c.args.doc.now c.args.doc.now c.args.operations.now (empty_list c.args.operations.now (at_none _ _ c.split_first.result c.in_default.is c.split_first.ensures.cases))

pub make_first-requires : goal.make_first-requires
make_first-requires g c = (c.is_alone.ensures c.if-is_alone.true).0

pub make_on_copy-requires : goal.make_on_copy-requires
make_on_copy-requires g c = not_none c.args.operations.now c.in-Some.operation.now c.in-Some.rest.now c.in-Some.ensures.cases.0

pub returns-then-is_alone-clause-patched : goal.returns-then-is_alone-clause-patched
returns-then-is_alone-clause-patched g c =
    patched_by_one c.args.doc.now c.make_first.new.doc c.make_first.result c.args.operations.now c.in-Some.operation.now (one_list c.args.operations.now c.in-Some.operation.now c.in-Some.rest.now c.in-Some.ensures.cases.0 (c.is_alone.ensures c.if-is_alone.true).1) c.make_first.ensures.made

pub returns-then-is_alone-clause-stops : goal.returns-then-is_alone-clause-stops
returns-then-is_alone-clause-stops g c =
    stopped_by_one c.args.doc.now c.make_first.new.doc c.make_first.result c.args.operations.now c.in-Some.operation.now (one_list c.args.operations.now c.in-Some.operation.now c.in-Some.rest.now c.in-Some.ensures.cases.0 (c.is_alone.ensures c.if-is_alone.true).1) c.make_first.ensures.fails
