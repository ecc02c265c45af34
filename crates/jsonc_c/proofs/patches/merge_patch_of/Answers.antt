use Rattle.std.proofs.Common.{◌≡◌, IsUtf8, refl, rules, subst}
use Rattle.std.specs.declared.alloc.Global.{Global}
use Rattle.jsonc_text.specs.OptionsOf.{parse_options}
use Rattle.jsonc_parser.specs.patch.MergeTexts.{IsFaultOfMergePatch}
use Rattle.jsonc_c.specs.Patches.{IsNoMergePatch}
use Rattle.jsonc_c.proofs.Patching.{no_merge_name, no_merge_text, no_merge_value}
use Rattle.jsonc_c.proofs.patches.merge_patch_of.Goals as goal

pub returns-in_default-clause-refused : goal.returns-in_default-clause-refused
returns-in_default-clause-refused c =
    let other : ¬ (IsUtf8 c.args.patch.now) = search rules in
    IsNoMergePatch.for_bytes refl c.requires.untold other

pub returns-in-Err-Parse-clause-refused : goal.returns-in-Err-Parse-clause-refused
returns-in-Err-Parse-clause-refused c =
    let read : c.in-Ok.text.now ≡ c.args.patch.now = search rules in
    let told = c.tell_error.ensures in
    no_merge_text (parse_options c.args.options.now) c.args.patch.now c.in-Ok.text.now read c.args.fault.now c.tell_error.new.fault c.requires.untold Global c.in-Err-Parse.error c.tell_error.result
    (subst (IsFaultOfMergePatch (parse_options c.args.options.now) c.in-Ok.text.now) c.in-Err-Parse.field-0-is c.in-Err-Parse.ensures.fault) told.status told.untold told.made

pub returns-in-Err-NoValue-clause-refused : goal.returns-in-Err-NoValue-clause-refused
returns-in-Err-NoValue-clause-refused c =
    let read : c.in-Ok.text.now ≡ c.args.patch.now = search rules in
    no_merge_value (parse_options c.args.options.now) c.args.patch.now c.in-Ok.text.now read c.args.fault.now c.args.fault.now c.requires.untold Global 8 refl
    (subst (IsFaultOfMergePatch (parse_options c.args.options.now) c.in-Ok.text.now) c.in-Err-NoValue.field-0-is c.in-Err-NoValue.ensures.fault)

pub returns-in-Err-RepeatedName-clause-refused : goal.returns-in-Err-RepeatedName-clause-refused
returns-in-Err-RepeatedName-clause-refused c =
    let read : c.in-Ok.text.now ≡ c.args.patch.now = search rules in
    let told = c.tell_name.ensures in
    no_merge_name (parse_options c.args.options.now) c.args.patch.now c.in-Ok.text.now read c.args.fault.now c.tell_name.new.fault c.requires.untold c.in-Err-RepeatedName.name c.tell_name.result
    (subst (IsFaultOfMergePatch (parse_options c.args.options.now) c.in-Ok.text.now) c.in-Err-RepeatedName.field-0-is c.in-Err-RepeatedName.ensures.fault) told.status told.untold

pub returns-in-Err-OutOfMemory-clause-refused : goal.returns-in-Err-OutOfMemory-clause-refused
returns-in-Err-OutOfMemory-clause-refused c = IsNoMergePatch.for_memory refl c.requires.untold
