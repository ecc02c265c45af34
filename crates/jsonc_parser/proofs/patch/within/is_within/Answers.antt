use Rattle.std.proofs.Common.{◌≤◌, ◌^◌, ◌∙◌, ap, arith, length, refl, subst}
use Rattle.std.proofs.lemmas.Bool.{false≢true}
use Rattle.jsonc_cst.specs.Document.{nodes_of}
use Rattle.jsonc_cst.specs.Nodes.{number_of}
use Rattle.jsonc_cst.specs.Ranges.{PrintsRange}
use Rattle.jsonc_parser.proofs.lemmas.patch.Within.{ends_with_all, past_counting}
use Rattle.jsonc_tree.specs.OrderedTree.{ordered_tree, printed}
use Rattle.jsonc_tree.specs.Tree.{IsOver}
use Rattle.jsonc_parser.proofs.patch.within.is_within.Goals as goal

pub returns-in_default : goal.returns-in_default
returns-in_default g c =
    let ns = nodes_of c.args.doc.now in
    let first = ap number_of c.node.ensures ∙ c.root.ensures.first in (
      λ e. absurd (false≢true e),
      λ h. absurd (past_counting ns c.args.doc.now.tree.tree c.args.bytes c.well_formed.1.0.1 (subst (λ n. IsOver ns 0 n → 2 ^ 64 ≤ length (printed (ordered_tree ns 0))) first c.in_default.ensures.none) h),
    )

pub returns-then-range-bytes : goal.returns-then-range-bytes
returns-then-range-bytes g c =
    let ns = nodes_of c.args.doc.now in
    let first = ap number_of c.node.ensures ∙ c.root.ensures.first in
    let all = ends_with_all ns c.args.doc.now.tree.tree c.in-Some.range.start c.in-Some.range.end (subst (λ n. PrintsRange ns n c.in-Some.range.start c.in-Some.range.end) first c.in-Some.ensures.range) in (
      λ e. absurd (false≢true e),
      λ h. let more = c.if-range-bytes.true in absurd (omega (arith, all, more, h)),
    )

pub returns : goal.returns
returns g c =
    let ns = nodes_of c.args.doc.now in
    let first = ap number_of c.node.ensures ∙ c.root.ensures.first in
    let all = ends_with_all ns c.args.doc.now.tree.tree c.in-Some.range.start c.in-Some.range.end (subst (λ n. PrintsRange ns n c.in-Some.range.start c.in-Some.range.end) first c.in-Some.ensures.range) in
    let within = c.if-range-bytes.false in (λ e. omega (arith, all, within), λ h. refl)
