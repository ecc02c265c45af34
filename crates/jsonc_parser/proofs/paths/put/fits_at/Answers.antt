use Rattle.std.proofs.Common.{◌-◌, ◌*◌, arith, length}
use Rattle.jsonc_layout.specs.input.Views.{plain}
use Rattle.jsonc_parser.proofs.lemmas.paths.Depths.{fits_by, too_many}
use Rattle.jsonc_parser.proofs.paths.put.fits_at.Goals as goal

pub returns-then-names : goal.returns-then-names
returns-then-names g c = too_many c.args.names.now (plain c.args.value.now) (omega arith)

pub returns : goal.returns
returns g c = fits_by c.args.names.now (plain c.args.value.now) (512 - 2 * length c.args.names.now) c.is_within.result (omega arith) (omega arith) c.is_within.ensures
