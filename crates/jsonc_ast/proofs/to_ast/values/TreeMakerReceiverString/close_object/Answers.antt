use Rattle.std.proofs.Common.{refl, ap, ◌∙◌}
use Rattle.jsonc_walk.specs.Located.{object_at}
use Rattle.jsonc_ast.specs.Spelled.{spelled_in_properties}
use Rattle.jsonc_ast.specs.Views.{members_located}
use Rattle.jsonc_ast.proofs.lemmas.to_ast.MadeTrees.{object_made}
use Rattle.jsonc_walk.proofs.lemmas.Stacked.{Parted, parted}
use Rattle.jsonc_ast.proofs.to_ast.values.TreeMakerReceiverString.close_object.Goals as goal

pub taken_from-requires : goal.taken_from-requires
taken_from-requires g c =
    let h = c.requires.held.2 in
    (parted c.args.self.now.properties.items c.requires.held.0.properties.items h.properties c.args.object h.begins h.stacked).within

pub returns-clause-made : goal.returns-clause-made
returns-clause-made g c = λ s ms h.
    let apart : Parted c.args.self.now.properties.items s.properties.items h.properties c.args.object = parted c.args.self.now.properties.items s.properties.items h.properties c.args.object h.begins h.stacked in
    let taken = c.in_ok-properties.ensures.taken ∙ apart.taken in
    object_made s c.args.self.now _ h.properties c.object_of.result c.args.range ms h.are refl (h.same, c.in_ok-properties.ensures.left ∙ apart.left)
    (c.object_of.ensures.located ∙ ap (λ l. object_at c.args.range (members_located l)) taken) (c.object_of.ensures.spelled ∙ ap spelled_in_properties taken)
