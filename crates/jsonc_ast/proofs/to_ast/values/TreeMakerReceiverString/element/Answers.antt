use Rattle.std.proofs.Common.{refl, ap, ◌∙◌, ◌++◌, ◌∷◌, []}
use Rattle.jsonc_ast.proofs.lemmas.to_ast.Stacked.{element_stacked}
use Rattle.jsonc_ast.proofs.to_ast.values.TreeMakerReceiverString.element.Goals as goal

pub returns-clause-held : goal.returns-clause-held
returns-clause-held g c = λ s m i xs x held made.
    element_stacked s m c.args.self.now _ c.args._array.now c.args.item xs x held made refl (c.in_ok-push_value.ensures.pushed ∙ ap (λ l. l ++ c.args.item ∷ []) c.in_ok-make_room.ensures) refl
