use Rattle.std.proofs.Common.{subst}
use Rattle.jsonc_build.specs.Making.{IsAt}
use Rattle.jsonc_build.proofs.Building.{elements_behind, named_behind, properties_behind}
use Rattle.jsonc_build.proofs.maker.DocumentMakerReceiverString.pass_gap.Goals as goal

pub returns-clause-kept : goal.returns-clause-kept
returns-clause-kept g c = c.in_ok-end.ensures.passes.stays.source

pub returns-clause-reached : goal.returns-clause-reached
returns-clause-reached g c = λ i gap. subst (IsAt c.pass.new.self) (c.in_ok-end.ensures.ends i gap) c.in_ok-end.ensures.at

pub returns-clause-held : goal.returns-clause-held
returns-clause-held g c =
    let old = c.args.self.now in
    let new = c.pass.new.self in
    let passes = c.in_ok-end.ensures.passes in record {
      named = λ s p n h. named_behind s old new passes p n h;
      elements = λ s a i xs h. elements_behind s old new passes a i xs h;
      properties = λ s o i ms h. properties_behind s old new passes o i ms h;
    }
