use Rattle.std.proofs.Common.{refl, ap, ◌∙◌}
use Rattle.jsonc_walk.specs.Located.{array_at}
use Rattle.jsonc_ast.specs.Spelled.{spelled_in_elements}
use Rattle.jsonc_ast.specs.Views.{items_located}
use Rattle.jsonc_ast.proofs.lemmas.to_ast.MadeTrees.{array_made}
use Rattle.jsonc_walk.proofs.lemmas.Stacked.{Parted, parted}
use Rattle.jsonc_ast.proofs.to_ast.values.TreeMakerReceiverString.close_array.Goals as goal

pub taken_from-requires : goal.taken_from-requires
taken_from-requires g c =
    let h = c.requires.held.2 in
    (parted c.args.self.now.elements.items c.requires.held.0.elements.items h.elements c.args.array h.begins h.stacked).within

pub returns-clause-made : goal.returns-clause-made
returns-clause-made g c = λ s xs h.
    let apart : Parted c.args.self.now.elements.items s.elements.items h.elements c.args.array = parted c.args.self.now.elements.items s.elements.items h.elements c.args.array h.begins h.stacked in
    let taken = c.in_ok-elements.ensures.taken ∙ apart.taken in
    array_made s c.args.self.now _ h.elements c.array_of.result c.args.range xs h.are refl (c.in_ok-elements.ensures.left ∙ apart.left, h.same)
    (c.array_of.ensures.located ∙ ap (λ l. array_at c.args.range (items_located l)) taken) (c.array_of.ensures.spelled ∙ ap spelled_in_elements taken)
