use Rattle.std.proofs.Common.{◌≡◌, IsUtf8, refl, rules}
use Rattle.jsonc_text.specs.OptionsOf.{parse_options}
use Rattle.jsonc_c.specs.Patches.{IsNoDocument}
use Rattle.jsonc_c.proofs.Patching.{no_document}
use Rattle.jsonc_c.proofs.patches.document_of.Goals as goal

pub returns-in_default-clause-refused : goal.returns-in_default-clause-refused
returns-in_default-clause-refused c =
    let other : ¬ (IsUtf8 c.args.text.now) = search rules in
    IsNoDocument.for_bytes refl c.requires.untold other

pub returns-in-Err-clause-refused : goal.returns-in-Err-clause-refused
returns-in-Err-clause-refused c =
    let read : c.in-Ok.text.now ≡ c.args.text.now = search rules in
    let e = c.in-Err.ensures in
    let told = c.tell_error.ensures in
    no_document (parse_options c.args.options.now) c.args.text.now c.in-Ok.text.now read c.args.fault.now c.tell_error.new.fault c.requires.untold c.in-Err.error c.tell_error.result e.refused e.fault e.error told.status told.untold told.made
