use Rattle.std.proofs.Common.{◌≡◌, sym, ap, ◌∙◌}
use Rattle.jsonc_tree.specs.Content.{property}
use Rattle.jsonc_tree.specs.Stored.{content_of}
use Rattle.jsonc_tree.specs.Tree.{content_at}
use Rattle.jsonc_edit.proofs.paths.held_by.Goals as goal

pub returns-in-Property-clause-held : goal.returns-in-Property-clause-held
returns-in-Property-clause-held g c =
    let is : content_at c.args.tree.now.nodes c.args.property ≡ property = sym (ap content_of (sym c.in-Property.is) ∙ c.kind.ensures) in
    λ n. (
      λ e. let both = (c.if_same.ensures.same n).0 e in (is, sym c.element_at.ensures.element ∙ both.0, sym c.value_of.ensures.value ∙ both.1),
      λ h. (c.if_same.ensures.same n).1 (c.element_at.ensures.element ∙ h.1, c.value_of.ensures.value ∙ h.2),
    )
