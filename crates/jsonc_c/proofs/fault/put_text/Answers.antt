use Rattle.std.proofs.Common.{◌≡◌, length, min, rules, take}
use Rattle.jsonc_c.proofs.Fronts.{front_put}
use Rattle.jsonc_c.proofs.fault.put_text.Goals as goal

pub returns-clause-text : goal.returns-clause-text
returns-clause-text c =
    let is : c.min-count.result ≡ min 192 (length c.args.text.now) = search rules in
    let same : c.copy_from_slice.new.self ≡ take c.min-count.result c.args.text.now = search rules in
    front_put c.args.text.now c.copy_from_slice.new.self _ 192 c.min-count.result is same
