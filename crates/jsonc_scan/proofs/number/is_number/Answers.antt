use Rattle.jsonc_text.specs.OptionsOf.{parse_options}
use Rattle.jsonc_scan.proofs.WholeNumbers.{is_whole, none_whole}
use Rattle.jsonc_scan.proofs.number.is_number.Goals as goal

pub returns-in_default : goal.returns-in_default
returns-in_default c = none_whole (parse_options c.args.options.now) c.args.text.now c.in_default.ensures.none

pub returns : goal.returns
returns c = is_whole (parse_options c.args.options.now) c.args.text.now c.in-Some.end c.utf8.text c.in-Some.ensures.found
