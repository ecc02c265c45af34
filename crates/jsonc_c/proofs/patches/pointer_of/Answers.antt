use Rattle.std.proofs.Common.{◌≡◌, IsUtf8, refl, rules}
use Rattle.jsonc_c.specs.Patches.{IsNoPointer}
use Rattle.jsonc_c.proofs.Patching.{no_pointer}
use Rattle.jsonc_c.proofs.patches.pointer_of.Goals as goal

pub returns-in_default-clause-refused : goal.returns-in_default-clause-refused
returns-in_default-clause-refused c =
    let other : ¬ (IsUtf8 c.args.pointer.now) = search rules in
    IsNoPointer.for_bytes refl c.requires.untold other

pub returns-in-Err-clause-refused : goal.returns-in-Err-clause-refused
returns-in-Err-clause-refused c =
    let read : c.in-Ok.text.now ≡ c.args.pointer.now = search rules in
    let told = c.tell_pointer.ensures in
    no_pointer c.args.pointer.now c.in-Ok.text.now read c.in-Err.error c.tell_pointer.result c.args.fault.now c.tell_pointer.new.fault c.requires.untold c.in-Err.ensures.refused told.status told.untold
