use Rattle.std.proofs.Common.{sym, refl, subst, IsCharBoundary}
use Rattle.std.proofs.lemmas.Str.{IsUtf8-from_is_utf8}
use Rattle.jsonc_text.specs.Gaps.{Gap, none}
use Rattle.jsonc_walk.specs.Located.{Between}
use Rattle.jsonc_walk.specs.Context.{text_in, options_in, token_end}
use Rattle.jsonc_walk.specs.Handed.{source_of, IsBehind}
use Rattle.jsonc_walk.proofs.lemmas.Collecting.{collects_same}
use Rattle.jsonc_walk.proofs.lemmas.Following.{behind_in}
use Rattle.jsonc_walk.proofs.lemmas.Gaps.{nothing}
use Rattle.jsonc_walk.proofs.lemmas.PassedGaps.{gap_collects, gap_told, told_gap}
use Rattle.jsonc_walk.proofs.context.Context.pass_gap.Goals as goal

pub pass_gap-requires-clause-behind : goal.pass_gap-requires-clause-behind
pass_gap-requires-clause-behind g c =
    behind_in c.requires.source (subst (IsBehind (source_of c.args.self.now) (g.R.Receiver.reached c.args.to.now)) (sym c.token_end-from.ensures) c.requires.behind)

pub pass_gap-requires-clause-boundary : goal.pass_gap-requires-clause-boundary
pass_gap-requires-clause-boundary g c =
    let old = c.args.self.now in
    subst (λ s. IsCharBoundary s.bytes c.token_end-from.result) (sym c.requires.source) (subst (IsCharBoundary (text_in old)) (sym c.token_end-from.ensures) old.scanner.at_place)

pub returns-then-collects-clause-gap : goal.returns-then-collects-clause-gap
returns-then-collects-clause-gap g c = let old = c.args.self.now in nothing (text_in old) (Gap (options_in old)) (token_end old) old.scanner.at_place none

pub returns-then-collects-clause-collects : goal.returns-then-collects-clause-collects
returns-then-collects-clause-collects g c = collects_same c.args.self.now

pub returns-then-collects-clause-reached : goal.returns-then-collects-clause-reached
returns-then-collects-clause-reached g c = told_gap c.requires.source c.token_end-from.ensures c.in_ok-place.ensures.gap c.in_ok-place.ensures.reached

pub returns-clause-reached : goal.returns-clause-reached
returns-clause-reached g c = told_gap c.requires.source c.token_end-from.ensures c.in_ok-place.ensures.gap c.in_ok-place.ensures.reached

pub pass_to-requires : goal.pass_to-requires
pass_to-requires g c = (gap_told c.requires.source c.token_end-from.ensures c.in_ok-place.ensures.gap).spans

pub returns-clause-gap : goal.returns-clause-gap
returns-clause-gap g c =
    let old = c.args.self.now in
    subst (Between (text_in old) (Gap (options_in old)) (token_end old)) (sym c.pass_to.ensures.end) (gap_told c.requires.source c.token_end-from.ensures c.in_ok-place.ensures.gap)

pub returns-clause-collects : goal.returns-clause-collects
returns-clause-collects g c =
    let old = c.args.self.now in
    gap_collects old _ (IsUtf8-from_is_utf8 (text_in old) old.utf8) (subst (Between (text_in old) (Gap (options_in old)) (token_end old)) (sym c.pass_to.ensures.end) (gap_told c.requires.source c.token_end-from.ensures c.in_ok-place.ensures.gap))
    (c.collects.ensures.tokens c.if-collects.false) refl (c.collects.ensures.comments c.if-collects.false)
