use Rattle.jsonc_layout.specs.input.Views.{plain}
use Rattle.jsonc_layout.specs.from_input.Layout.{layout_of}
use Rattle.jsonc_edit.proofs.ReplacedChildren.{where_refused}
use Rattle.jsonc_layout.proofs.lemmas.Building.{still_kept}
use Rattle.jsonc_edit.proofs.lemmas.set.FirstValueMade.{document_kept, can_join, gap_still, nodes_stay, first_value}
use Rattle.jsonc_edit.specs.set.RootSet.{first_place}
use Rattle.jsonc_edit.proofs.lemmas.set.FirstGap.{none_behind}
use Rattle.jsonc_edit.proofs.set.first.set_first.Goals as goal

pub returns-in_err-before-clause-document : goal.returns-in_err-before-clause-document
returns-in_err-before-clause-document g c =
    where_refused c.from_residual-in_err-before.result (document_kept c.args.tree.now.nodes c.make_line_end.new.tree.nodes c.args.tree.now.tree c.make_line_end.ensures.prepared.keeps c.make_line_end.ensures.prepared.tree)

pub returns-in_err-new-clause-document : goal.returns-in_err-new-clause-document
returns-in_err-new-clause-document g c =
    where_refused c.from_residual-in_err-new.result
    (document_kept c.args.tree.now.nodes c.lay_out.new.tree.nodes c.args.tree.now.tree (still_kept c.args.tree.now.nodes c.make_line_end.new.tree.nodes c.lay_out.new.tree.nodes c.make_line_end.ensures.prepared.keeps c.lay_out.ensures.kept) c.lay_out.new.tree.tree)

pub returns-in_err-behind-clause-document : goal.returns-in_err-behind-clause-document
returns-in_err-behind-clause-document g c =
    let made = still_kept c.args.tree.now.nodes c.make_line_end.new.tree.nodes c.lay_out.new.tree.nodes c.make_line_end.ensures.prepared.keeps c.lay_out.ensures.kept in
    where_refused c.from_residual-in_err-behind.result
    (document_kept c.args.tree.now.nodes c.make_line_end-2.new.tree.nodes c.args.tree.now.tree (still_kept c.args.tree.now.nodes c.lay_out.new.tree.nodes c.make_line_end-2.new.tree.nodes made c.make_line_end-2.ensures.prepared.keeps) c.make_line_end-2.ensures.prepared.tree)

pub put_first-requires : goal.put_first-requires
put_first-requires g c =
    let place = first_place c.args.tree.now.nodes in
    record {
      can = (
        place,
        gap_still c.args.tree.now.nodes c.make_line_end.new.tree.nodes c.lay_out.new.tree.nodes c.make_line_end-2.new.tree.nodes c.args.tree.now.tree c.in_ok-before.before c.in_ok-behind.behind c.in_ok-new.new _ _
            c.make_line_end.ensures.prepared c.in_ok-before.ensures.made.fresh c.in_ok-new.ensures.built c.make_line_end-2.ensures.prepared c.in_ok-behind.ensures.made.fresh c.make_line_end-2.ensures.prepared.tree
            place c.first_gap-gap.result.before c.first_gap-gap.result.behind c.first_gap-gap.ensures.gap,
        can_join c.args.tree.now.nodes c.make_line_end.new.tree.nodes c.lay_out.new.tree.nodes c.make_line_end-2.new.tree.nodes c.args.tree.now.tree c.in_ok-before.before c.in_ok-behind.behind c.in_ok-new.new _ _
            c.make_line_end.ensures.prepared c.in_ok-before.ensures.made.fresh c.in_ok-new.ensures.built c.make_line_end-2.ensures.prepared c.in_ok-behind.ensures.made.fresh c.make_line_end-2.ensures.prepared.tree
            place place,
      );
    }

pub returns-clause-first : goal.returns-clause-first
returns-clause-first g c =
    let place = first_place c.args.tree.now.nodes in
    let gap =
    gap_still c.args.tree.now.nodes c.make_line_end.new.tree.nodes c.lay_out.new.tree.nodes c.make_line_end-2.new.tree.nodes c.args.tree.now.tree c.in_ok-before.before c.in_ok-behind.behind c.in_ok-new.new _ _
    c.make_line_end.ensures.prepared c.in_ok-before.ensures.made.fresh c.in_ok-new.ensures.built c.make_line_end-2.ensures.prepared c.in_ok-behind.ensures.made.fresh c.make_line_end-2.ensures.prepared.tree
    place c.first_gap-gap.result.before c.first_gap-gap.result.behind c.first_gap-gap.ensures.gap in
    first_value c.args.tree.now.nodes c.make_line_end.new.tree.nodes c.lay_out.new.tree.nodes c.make_line_end-2.new.tree.nodes c.args.tree.now.tree c.in_ok-before.before c.in_ok-behind.behind c.in_ok-new.new
    (layout_of c.in_ok-layout.layout) (plain c.args.value.now) c.make_line_end.ensures.prepared c.in_ok-before.ensures.made.fresh c.in_ok-new.ensures.built c.make_line_end-2.ensures.prepared c.in_ok-behind.ensures.made.fresh
    c.make_line_end-2.ensures.prepared.tree c.in_ok-layout.ensures.layout c.follows_comment.result _ c.in_ok-before.ensures.made.is c.in_ok-behind.ensures.made.is
    (c.follows_comment.ensures place c.first_gap-gap.ensures.gap) (none_behind c.args.tree.now.nodes c.args.tree.now.tree place _ _ c.is_none.result c.is_none.ensures c.first_gap-gap.ensures.gap)
    c.put_first.new.tree.nodes c.put_first.new.tree.tree (c.put_first.ensures.put place gap)

pub returns-clause-others : goal.returns-clause-others
returns-clause-others g c =
    let place = first_place c.args.tree.now.nodes in
    let gap =
    gap_still c.args.tree.now.nodes c.make_line_end.new.tree.nodes c.lay_out.new.tree.nodes c.make_line_end-2.new.tree.nodes c.args.tree.now.tree c.in_ok-before.before c.in_ok-behind.behind c.in_ok-new.new _ _
    c.make_line_end.ensures.prepared c.in_ok-before.ensures.made.fresh c.in_ok-new.ensures.built c.make_line_end-2.ensures.prepared c.in_ok-behind.ensures.made.fresh c.make_line_end-2.ensures.prepared.tree
    place c.first_gap-gap.result.before c.first_gap-gap.result.behind c.first_gap-gap.ensures.gap in
    nodes_stay c.args.tree.now.nodes c.make_line_end.new.tree.nodes c.lay_out.new.tree.nodes c.make_line_end-2.new.tree.nodes c.args.tree.now.tree c.in_ok-before.before c.in_ok-behind.behind c.in_ok-new.new _ _
    c.make_line_end.ensures.prepared c.in_ok-before.ensures.made.fresh c.in_ok-new.ensures.built c.make_line_end-2.ensures.prepared c.in_ok-behind.ensures.made.fresh c.make_line_end-2.ensures.prepared.tree
    place c.first_gap-gap.ensures.gap.inside c.put_first.new.tree.nodes (c.put_first.ensures.put place gap)
