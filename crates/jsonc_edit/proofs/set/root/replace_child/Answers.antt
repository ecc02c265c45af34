use Rattle.jsonc_layout.specs.input.Views.{plain}
use Rattle.jsonc_edit.specs.Written.{Writes}
use Rattle.jsonc_edit.proofs.set.root.replace_child.Goals as goal
use Rattle.jsonc_edit.proofs.lemmas.commas.Children.{some_like}

pub returns-clause-written : goal.returns-clause-written
returns-clause-written g c = λ p.
    some_like (λ m. Writes p c.args.tree.now.nodes c.replace.new.tree.nodes c.args.node m (plain c.args.value.now)) c.in_ok-new.field-0 c.in-Some.new c.in-Some.is (c.in_ok-new.ensures.written p)
