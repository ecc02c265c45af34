use Rattle.jsonc_layout.specs.input.Views.{plain}
use Rattle.jsonc_parser.specs.patch.Pointer.{tokens_of}
use Rattle.jsonc_parser.proofs.lemmas.patch.Chains.{tests_so}
use Rattle.jsonc_parser.proofs.lemmas.patch.Failing.{finds_another, untested}
use Rattle.jsonc_parser.proofs.patch.making.test.Goals as goal

pub returns-in-Ok-true-clause-tests : goal.returns-in-Ok-true-clause-tests
returns-in-Ok-true-clause-tests g c = tests_so c.args.doc.now (tokens_of c.args.pointer.now) (plain c.args.value.now) (plain c.in-Ok.found) _ c.in-Ok.ensures.taken c.in-Ok-true.ensures c.in-Ok-true.field-0-test

pub returns-in-Ok-false-clause-fails : goal.returns-in-Ok-false-clause-fails
returns-in-Ok-false-clause-fails g c = finds_another c.args.doc.now (tokens_of c.args.pointer.now) (plain c.args.value.now) (plain c.in-Ok.found) _ c.in-Ok.ensures.taken c.in-Ok-false.ensures c.in-Ok-false.field-0-test

pub returns-clause-fails : goal.returns-clause-fails
returns-clause-fails g c = λ d shown. tt

pub returns-in-Err-clause-fails : goal.returns-in-Err-clause-fails
returns-in-Err-clause-fails g c = λ d shown. untested (tokens_of c.args.pointer.now) (plain c.args.value.now) d.value c.in-Err.cause (c.in-Err.ensures.fails d shown)
