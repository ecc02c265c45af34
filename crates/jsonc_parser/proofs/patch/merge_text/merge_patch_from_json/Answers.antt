use Rattle.std.proofs.Common.{chars, refl, sym}
use Rattle.jsonc_cst.proofs.JsonValues.{document_numbers}
use Rattle.jsonc_layout.specs.input.Views.{plain}
use Rattle.jsonc_text.specs.OptionsOf.{parse_options}
use Rattle.jsonc_ast.specs.Views as ast
use Rattle.jsonc_parser.proofs.lemmas.patch.MergeReads.{fault_of_value}
use Rattle.jsonc_parser.proofs.lemmas.patch.PatchReads.{document_is}
use Rattle.jsonc_parser.proofs.patch.merge_text.merge_patch_from_json.Goals as goal

pub returns-in-Ok-value_of-clause-fits : goal.returns-in-Ok-value_of-clause-fits
returns-in-Ok-value_of-clause-fits g c =
    let o = parse_options c.args.options.now in
    let t = chars c.args.text.now in
    let p = plain c.in-Ok-value_of.value in
    document_numbers o t p (document_is o t c.in-Ok.read.value c.in-Some.value p c.in-Some.is (sym c.in-Ok-value_of.ensures.value) c.in-Ok.ensures.accepted)

pub returns-clause-fault : goal.returns-clause-fault
returns-clause-fault g c =
    let o = parse_options c.args.options.now in
    let t = c.args.text.now in
    let p = ast.plain c.in-Some.value in
    let document = document_is o (chars t) c.in-Ok.read.value c.in-Some.value p c.in-Some.is refl c.in-Ok.ensures.accepted in
    fault_of_value o t p c.in-Err-value_of.fault c.error_of.result document c.in-Err-value_of.ensures.fault c.error_of.ensures
