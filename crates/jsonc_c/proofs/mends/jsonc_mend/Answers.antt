use Rattle.std.proofs.Common.{string_bytes}
use Rattle.std.specs.declared.alloc.Global.{Global}
use Rattle.jsonc_c.specs.Options.{options_of}
use Rattle.jsonc_c.proofs.Mending.{handed_out}
use Rattle.jsonc_c.proofs.mends.jsonc_mend.Goals as goal

pub returns-in-Ok-clause-mended : goal.returns-in-Ok-clause-mended
returns-in-Ok-clause-mended c = λ zero.
    handed_out Global (options_of c.args.options) c.args.text.now (string_bytes c.in-Ok.made) c.hand_out.new.out.now c.in-Ok.list.items c.hand_out_list.new.mends.now
    c.hand_out.ensures c.hand_out_list.ensures c.in-Ok.ensures.mended
