use Rattle.std.proofs.Common.{◌∙◌, List, ap, arith, chars, subst, ℕ}
use Rattle.std.specs.Bool.{Decides}
use Rattle.jsonc_layout.specs.input.Views.{chars_of}
use Rattle.jsonc_parser.specs.patch.Putting.{MayBeIndex}
use Rattle.jsonc_parser.proofs.lemmas.patch.PutIndexes.{first_found, names_all, names_begin, names_on}
use Rattle.jsonc_parser.proofs.patch.putting.first_index.Goals as goal

pub loop-number-init : goal.loop-number-init
loop-number-init g c = names_begin c.args.tokens.now

pub loop-number-preserved : goal.loop-number-preserved
loop-number-preserved g c =
    names_on c.args.tokens.now c.loop-number.number c.loop-number.invariant c.index-tokens-number.result c.loop-number-test.true c.may_be_index.result
    (subst (λ (s : List ℕ). Decides c.may_be_index.result (MayBeIndex s)) (ap chars c.deref.ensures ∙ ap chars_of c.index-tokens-number.is) c.may_be_index.ensures) c.if-may_be_index.false

pub returns-then-may_be_index-clause-some : goal.returns-then-may_be_index-clause-some
returns-then-may_be_index-clause-some g c =
    first_found c.args.tokens.now c.loop-number.number c.loop-number.invariant c.index-tokens-number.result c.loop-number-test.true c.may_be_index.result
    (subst (λ (s : List ℕ). Decides c.may_be_index.result (MayBeIndex s)) (ap chars c.deref.ensures ∙ ap chars_of c.index-tokens-number.is) c.may_be_index.ensures) c.if-may_be_index.true

pub returns-clause-none : goal.returns-clause-none
returns-clause-none g c = names_all c.args.tokens.now c.loop-number.number c.loop-number.invariant (omega (arith, c.loop-number-test.false))
