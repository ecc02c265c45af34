use Rattle.std.proofs.Common.{chars}
use Rattle.std.proofs.lemmas.Result.{IfErr-weaker, IfOk-weaker}
use Rattle.jsonc_cst.proofs.JsonValues.{document_numbers}
use Rattle.jsonc_text.specs.Plain.{array}
use Rattle.jsonc_text.specs.OptionsOf.{parse_options}
use Rattle.jsonc_walk.specs.Located.{items_at}
use Rattle.jsonc_ast.specs.Views.{items_located}
use Rattle.jsonc_parser.proofs.lemmas.patch.PatchReads.{document_is, fault_of_text, no_array, no_value, operations_fit}
use Rattle.jsonc_parser.proofs.patch.reading.read_patch.Goals as goal

pub returns-in-Err-clause-fault : goal.returns-in-Err-clause-fault
returns-in-Err-clause-fault g c = (c.in-Err.ensures.refused, c.in-Err.ensures.fault, c.in-Err.ensures.error)

pub returns-in_default-clause-fault : goal.returns-in_default-clause-fault
returns-in_default-clause-fault g c = no_value c.in-Ok.read.value c.in_default.not-Some (parse_options c.args.options.now) (chars c.args.text.now) c.in-Ok.ensures.accepted

pub returns-in-Some-elements_in-clause-patch : goal.returns-in-Some-elements_in-clause-patch
returns-in-Some-elements_in-clause-patch g c =
    let o = parse_options c.args.options.now in
    let document = document_is o (chars c.args.text.now) c.in-Ok.read.value c.in-Some.value _ c.in-Some.is c.in-Some-elements_in.ensures.some c.in-Ok.ensures.accepted in
    IfOk-weaker c.read_operations.result _ _ (λ v h. record { values = items_at (items_located c.in-Some-elements_in.values.now); document = document; operations = h }) c.read_operations.ensures.operations

pub returns-in-Some-elements_in-clause-fault : goal.returns-in-Some-elements_in-clause-fault
returns-in-Some-elements_in-clause-fault g c =
    let o = parse_options c.args.options.now in
    let document = document_is o (chars c.args.text.now) c.in-Ok.read.value c.in-Some.value _ c.in-Some.is c.in-Some-elements_in.ensures.some c.in-Ok.ensures.accepted in
    IfErr-weaker c.read_operations.result _ _ (λ e h. fault_of_text o c.args.text.now (items_at (items_located c.in-Some-elements_in.values.now)) e document h) c.read_operations.ensures.fault

pub returns-in-Some-elements_in-clause-fits : goal.returns-in-Some-elements_in-clause-fits
returns-in-Some-elements_in-clause-fits g c =
    let o = parse_options c.args.options.now in
    let vs = items_at (items_located c.in-Some-elements_in.values.now) in
    let document = document_is o (chars c.args.text.now) c.in-Ok.read.value c.in-Some.value _ c.in-Some.is c.in-Some-elements_in.ensures.some c.in-Ok.ensures.accepted in
    IfOk-weaker c.read_operations.result _ _ (λ v h. operations_fit o vs v.items h (document_numbers o (chars c.args.text.now) (array vs) document)) c.read_operations.ensures.operations

pub returns-clause-fault : goal.returns-clause-fault
returns-clause-fault g c =
    no_array c.in-Ok.read.value c.in-Some.value c.in-Some.is c.in-None.ensures.none (parse_options c.args.options.now) (chars c.args.text.now) c.in-Ok.ensures.accepted
