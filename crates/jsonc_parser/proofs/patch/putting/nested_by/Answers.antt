use Rattle.std.proofs.Common.{refl}
use Rattle.jsonc_layout.specs.input.Views.{plain}
use Rattle.jsonc_parser.specs.paths.Found.{names_of}
use Rattle.jsonc_parser.proofs.lemmas.paths.Depths.{decided_not}
use Rattle.jsonc_parser.proofs.lemmas.patch.PutChosen.{unnested_for_memory}
use Rattle.jsonc_parser.proofs.patch.putting.nested_by.Goals as goal

pub returns-in-Some-clause-fails : goal.returns-in-Some-clause-fails
returns-in-Some-clause-fails g c = (c.in-Some.number, c.in-Some.ensures.some, refl)

pub returns-then-not-fits_at-clause-fails : goal.returns-then-not-fits_at-clause-fails
returns-then-not-fits_at-clause-fails g c = (c.in_default.ensures.none, decided_not c.fits_at.result c.fits_at.ensures c.if-not-fits_at.true)

pub returns-in-Ok-clause-nested : goal.returns-in-Ok-clause-nested
returns-in-Ok-clause-nested g c = (c.in_default.ensures.none, c.in-Ok.ensures.nested)

pub returns-in-Err-clause-fails : goal.returns-in-Err-clause-fails
returns-in-Err-clause-fails g c = unnested_for_memory (names_of c.args.left.now) c.args.before (plain c.args.value) c.in-Err.error c.in-Err.ensures.memory c.in_default.ensures.none
