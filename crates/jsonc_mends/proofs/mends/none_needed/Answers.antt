use Rattle.std.proofs.Common.{refl}
use Rattle.jsonc_text.specs.OptionsOf.{parse_options}
use Rattle.jsonc_mends.proofs.Telling.{none_mended}
use Rattle.jsonc_mends.proofs.mends.none_needed.Goals as goal

pub returns : goal.returns
returns g c = none_mended (parse_options c.args.options.now) c.args.text.now _ refl c.in_ok-from_str.ensures.ok c.new.ensures.items c.requires
