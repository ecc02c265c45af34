use Rattle.std.proofs.Common.{Bool, subst}
use Rattle.jsonc_layout.specs.input.Views.{plain}
use Rattle.jsonc_cst.specs.Document.{nodes_of}
use Rattle.jsonc_text.specs.declared.edit.Over.TheVariants.{Keep}
use Rattle.jsonc_parser.specs.declared.paths.which.Which.TheVariants.{First}
use Rattle.jsonc_parser.specs.paths.Calls.{PutsWhatShown}
use Rattle.jsonc_parser.specs.paths.Found.{names_of}
use Rattle.jsonc_engine.proofs.SettingsShown.{in_the_way, refused_putting, puts_setting, stays_so}
use Rattle.jsonc_engine.proofs.settings.put_setting.Goals as goal

pub returns-in-Ok-true-clause-put : goal.returns-in-Ok-true-clause-put
returns-in-Ok-true-clause-put g c = λ o sound.
    let old = nodes_of c.args.document.now in
    let new = nodes_of c.set_at.new.doc in
    let v = plain c.args.value in
    let names = names_of c.args.names.now in
    puts_setting o old sound v names new c.in-Ok-true.ensures.fits (subst (λ (b : Bool). PutsWhatShown First v Keep names old new b) c.in-Ok-true.field-0-test c.in-Ok-true.ensures.put)

pub returns-in-Ok-false-clause-error : goal.returns-in-Ok-false-clause-error
returns-in-Ok-false-clause-error g c = λ o sound.
    let old = nodes_of c.args.document.now in
    let new = nodes_of c.set_at.new.doc in
    let v = plain c.args.value in
    let names = names_of c.args.names.now in
    in_the_way o old sound v names new (subst (λ (b : Bool). PutsWhatShown First v Keep names old new b) c.in-Ok-false.field-0-test c.in-Ok-false.ensures.put)

pub returns-in-Ok-false-clause-document : goal.returns-in-Ok-false-clause-document
returns-in-Ok-false-clause-document g c = λ o sound.
    let old = nodes_of c.args.document.now in
    let new = nodes_of c.set_at.new.doc in
    let v = plain c.args.value in
    let names = names_of c.args.names.now in
    stays_so o old sound v names new (subst (λ (b : Bool). PutsWhatShown First v Keep names old new b) c.in-Ok-false.field-0-test c.in-Ok-false.ensures.put)

pub returns-in-Err-clause-error : goal.returns-in-Err-clause-error
returns-in-Err-clause-error g c = λ o sound.
    refused_putting o (nodes_of c.args.document.now) sound g.row.A.Denot (names_of c.args.names.now) (plain c.args.value) c.in-Err.error c.in-Err.ensures.error c.in-Err.ensures.oom_only_if
