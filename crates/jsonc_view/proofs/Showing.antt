-- What was shown, said otherwise.
use Rattle.jsonc_view.specs.declared.maker.ViewMaker.{ViewMaker}
use Rattle.jsonc_view.specs.Made.{Leads}

pub shown_as : {A P Q : Type 0} {s t : ViewMaker A} → (P → Q) → Leads s t P → Leads s t Q
shown_as f h = record { source = h.source; stacks = h.stacks; grown = h.grown; shown = f h.shown }
