use Rattle.std.proofs.Common.{◌≡◌, refl, sym, subst}
use Rattle.std.specs.Rc.{rc_str_bytes}
use Rattle.jsonc_text.specs.Gaps.{Gap}
use Rattle.jsonc_text.specs.OptionsOf.{parse_options}
use Rattle.jsonc_walk.specs.Located.{Between}
use Rattle.jsonc_build.specs.Laid.{EndsGap}
use Rattle.jsonc_build.proofs.Building.{at_before, gap_passed}
use Rattle.jsonc_build.proofs.maker.DocumentMaker.pass.Goals as goal

pub fill_gap-requires-clause-whole : goal.fill_gap-requires-clause-whole
fill_gap-requires-clause-whole g c = subst (λ m. rc_str_bytes m.whole ≡ m.text.now) (sym c.in_ok-mark.ensures.rest) (at_before c.args.self.now c.requires.behind).1.whole

pub returns-clause-passes : goal.returns-clause-passes
returns-clause-passes g c =
    let old = c.args.self.now in
    let before = at_before old c.requires.behind in
    let mark = c.in_ok-mark.ensures in
    let gap = c.in_ok-end.ensures in
    gap_passed old c.mark.new.self c.fill_gap.new.tree c.args.from c.in_ok-end.end before.0 before.1 mark.rest mark.container gap.growing gap.container mark.filled gap.filled

pub returns-clause-at : goal.returns-clause-at
returns-clause-at g c = record {
  place = refl;
  whole = subst (λ m. rc_str_bytes m.whole ≡ m.text.now) (sym c.in_ok-mark.ensures.rest) (at_before c.args.self.now c.requires.behind).1.whole;
  growing = c.in_ok-end.ensures.growing;
}

pub returns-clause-gap : goal.returns-clause-gap
returns-clause-gap g c =
    let gap = c.in_ok-end.ensures in
    subst (λ m. Between m.text.now (Gap (parse_options m.options)) c.args.from c.in_ok-end.end) c.in_ok-mark.ensures.rest (record { spans = gap.filled.2.spans; stands = gap.gap })

pub returns-clause-ends : goal.returns-clause-ends
returns-clause-ends g c = subst (λ m. EndsGap (parse_options m.options) m.text.now c.in_ok-end.end) c.in_ok-mark.ensures.rest c.in_ok-end.ensures.ends
