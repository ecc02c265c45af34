use Rattle.jsonc_edit.proofs.Fitting.{layout_fits}
use Rattle.jsonc_edit.proofs.laws.documents_have_fitting_layouts.Goals as goal

pub returns : goal.returns
returns c = layout_fits
