use Rattle.jsonc_layout.specs.input.Views.{plain}
use Rattle.jsonc_layout.proofs.lemmas.from_input.Texts.{of_texts}
use Rattle.jsonc_edit.proofs.Writable.{always_of_numbers}
use Rattle.jsonc_edit.proofs.laws.values_may_be_written.Goals as goal

pub returns-clause-numbers : goal.returns-clause-numbers
returns-clause-numbers g c = λ o h. record { texts = of_texts g.row.A.Denot c.args.value.now; numbers = h }

pub returns-clause-always : goal.returns-clause-always
returns-clause-always g c = λ o h. record { texts = of_texts g.row.A.Denot c.args.value.now; numbers = always_of_numbers o (plain c.args.value.now) h }
