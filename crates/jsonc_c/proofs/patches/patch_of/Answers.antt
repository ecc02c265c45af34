use Rattle.std.proofs.Common.{◌≡◌, IsUtf8, refl, rules, subst}
use Rattle.std.specs.declared.alloc.Global.{Global}
use Rattle.jsonc_text.specs.OptionsOf.{parse_options}
use Rattle.jsonc_parser.specs.patch.PatchFaults.{IsFaultOfPatch}
use Rattle.jsonc_c.specs.Patches.{IsNoPatch}
use Rattle.jsonc_c.proofs.Patching.{no_patch, no_patch_text}
use Rattle.jsonc_c.proofs.patches.patch_of.Goals as goal

pub returns-in_default-clause-refused : goal.returns-in_default-clause-refused
returns-in_default-clause-refused c =
    let other : ¬ (IsUtf8 c.args.patch.now) = search rules in
    IsNoPatch.for_bytes refl c.requires.untold other

pub returns-in-Err-Parse-clause-refused : goal.returns-in-Err-Parse-clause-refused
returns-in-Err-Parse-clause-refused c =
    let read : c.in-Ok.text.now ≡ c.args.patch.now = search rules in
    let told = c.tell_error.ensures in
    no_patch_text (parse_options c.args.options.now) c.args.patch.now c.in-Ok.text.now read c.args.fault.now c.tell_error.new.fault c.requires.untold {A = Global} c.in-Err-Parse.error c.tell_error.result
    (subst (IsFaultOfPatch (parse_options c.args.options.now) c.in-Ok.text.now) c.in-Err-Parse.field-0-is c.in-Err-Parse.ensures.fault) told.status told.untold told.made

pub returns-in-Err-clause-refused : goal.returns-in-Err-clause-refused
returns-in-Err-clause-refused c =
    let read : c.in-Ok.text.now ≡ c.args.patch.now = search rules in
    let told = c.tell_patch.ensures in
    no_patch (parse_options c.args.options.now) c.args.patch.now c.in-Ok.text.now read c.args.fault.now c.tell_patch.new.fault c.requires.untold c.in-Err.error c.tell_patch.result c.in-Err.ensures.fault told.status told.untold
