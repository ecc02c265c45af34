use Rattle.std.proofs.Common.{◌∙◌, ap, chars, sym}
use Rattle.jsonc_view.proofs.view.places.text_at.Goals as goal

pub part_of-requires : goal.part_of-requires
part_of-requires g c = c.requires.1.0

pub returns : goal.returns
returns g c = λ t h. ap chars c.part_of.ensures ∙ sym h.1
