use Rattle.std.proofs.Common.{arith, inl, inr, subst, chars, IfNone, ℕ}
use Rattle.jsonc_parser.specs.Places.{units, LineColumnBy}
use Rattle.jsonc_parser.proofs.LineIndexing.{begins_there, no_line, none_before}
use Rattle.jsonc_parser.proofs.LineWalk.{place_boundary}
use Rattle.jsonc_parser.proofs.line_index.LineIndex.place_by.Goals.{then-line-eq0-via-then-line-eq0, then-line-eq0-via-else-line-eq0+then-line-len}
use Rattle.jsonc_parser.proofs.line_index.LineIndex.place_by.Goals as goal

pub returns-then-line-eq0-clause-none : goal.returns-then-line-eq0-clause-none
returns-then-line-eq0-clause-none g c =
    let none = no_line c.self.inside.text.now c.self.inside.starts.items c.self.invariant.0 c.self.invariant.1 (units c.args.unit) c.args.line c.args.column in
    subst (λ t. (p : ℕ) → LineColumnBy (units c.args.unit) (chars t) p c.args.line c.args.column → ⊥) c.self.view_is
    (elim c.then-line-eq0.branch [ then-line-eq0-via-then-line-eq0 w ↦ none (inl w.if-line-eq0.true) | then-line-eq0-via-else-line-eq0+then-line-len w ↦ none (inr (omega (arith, w.if-line-len.true, w.len.ensures))) ])

pub place_from-requires-clause-at : goal.place_from-requires-clause-at
place_from-requires-clause-at g c = begins_there c.self.inside.text.now c.self.inside.starts.items c.self.invariant.0 c.self.invariant.1 c.args.line c.index-start.result.now (omega (arith, c.if-line-eq0.false)) (omega (arith, c.if-line-len.false, c.len.ensures, c.self.inside.starts.ok.0)) c.index-start.ensures (units c.args.unit)

pub place_from-requires-clause-boundary : goal.place_from-requires-clause-boundary
place_from-requires-clause-boundary g c = place_boundary (units c.args.unit) c.self.inside.text.now c.index-start.result.now c.args.line 1 c.self.invariant.0 (place_from-requires-clause-at g c)

pub place_from-requires-clause-ahead : goal.place_from-requires-clause-ahead
place_from-requires-clause-ahead g c = λ p x. none_before c.self.inside.text.now c.self.inside.starts.items c.self.invariant.0 c.self.invariant.1 c.args.line c.index-start.result.now (omega (arith, c.if-line-eq0.false)) (omega (arith, c.if-line-len.false, c.len.ensures, c.self.inside.starts.ok.0)) c.index-start.ensures (units c.args.unit) c.args.column p x

pub returns-clause-none : goal.returns-clause-none
returns-clause-none g c = subst (λ t. IfNone c.place_from.result ((p : ℕ) → LineColumnBy (units c.args.unit) (chars t) p c.args.line c.args.column → ⊥)) c.self.view_is c.place_from.ensures.none
