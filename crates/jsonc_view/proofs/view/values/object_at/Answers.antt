use Rattle.jsonc_view.specs.Shown.{IsWithin, ShowsMembers}
use Rattle.std.proofs.Common.{◌∙◌, ◌≡◌, ap, subst, sym}
use Rattle.std.specs.Prelude.{slice_range}
use Rattle.jsonc_view.proofs.view.values.object_at.Goals as goal

pub items_in-requires : goal.items_in-requires
items_in-requires g c = subst (IsWithin c.args.span) (sym c.as_slice-members.ensures.value) c.requires.1.0

pub object_of-requires : goal.object_of-requires
object_of-requires g c =
    let same : c.items_in.result.now ≡ slice_range c.args.rows.now.members.items c.args.span.start c.args.span.end = c.items_in.ensures ∙ ap (λ l. slice_range l c.args.span.start c.args.span.end) c.as_slice-members.ensures.value in
    (c.requires.0, subst (λ l. ShowsMembers c.args.rows.now l c.requires.0) (sym same) c.requires.1.1)

pub returns : goal.returns
returns g c = λ vs h.
    let same : c.items_in.result.now ≡ slice_range c.args.rows.now.members.items c.args.span.start c.args.span.end = c.items_in.ensures ∙ ap (λ l. slice_range l c.args.span.start c.args.span.end) c.as_slice-members.ensures.value in
    c.object_of.ensures vs (subst (λ l. ShowsMembers c.args.rows.now l vs) (sym same) h.1)
