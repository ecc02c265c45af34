use Rattle.std.proofs.Common.{◌≡◌, ◌∙◌, ◌≤◌, ◌<◌, List, length, ap, refl, sym, subst, arith}
use Rattle.std.proofs.lemmas.Bool.{false≢true}
use Rattle.jsonc_layout.specs.input.Views.{chars_of}
use Rattle.jsonc_parser.proofs.lemmas.patch.Chains.{lead_further, leads_no_longer, leads_one, leads_so}
use Rattle.jsonc_parser.proofs.patch.moving.leads_on.Goals as goal

pub returns-then-front-tokens : goal.returns-then-front-tokens
returns-then-front-tokens g c = (
  λ e. absurd (false≢true e),
  λ on. (let within = leads_no_longer c.args.front.now c.args.tokens.now on in let longer = c.if-front-tokens.true in absurd (omega (arith, within, longer))),
)

pub loop-index-init : goal.loop-index-init
loop-index-init g c = (refl, (let within = c.if-front-tokens.false in omega (arith, within)))

pub bounds-tokens-index : goal.bounds-tokens-index
bounds-tokens-index g c = let within = c.loop-index.invariant.1 in let here = c.loop-index-test.true in omega (arith, within, here)

pub returns-then-not-are_same : goal.returns-then-not-are_same
returns-then-not-are_same g c = (
  λ e. absurd (false≢true e),
  λ on. absurd (false≢true (sym c.if-not-are_same.true
      ∙ c.are_same.ensures.1 (ap chars_of c.index-front-index.is ∙ leads_one c.args.front.now c.args.tokens.now on c.loop-index.index c.index-front-index.result c.index-tokens-index.result c.loop-index-test.true ∙ sym (ap chars_of c.index-tokens-index.is)))),
)

pub loop-index-preserved : goal.loop-index-preserved
loop-index-preserved g c =
    let within = c.loop-index.invariant.1 in
    let here = c.loop-index-test.true in (
      lead_further c.args.front.now c.args.tokens.now c.loop-index.index c.index-front-index.result c.index-tokens-index.result here (omega (arith, within, here))
          (sym (ap chars_of c.index-front-index.is) ∙ c.are_same.ensures.0 c.if-not-are_same.false ∙ ap chars_of c.index-tokens-index.is) c.loop-index.invariant.0,
      within,
    )

pub returns : goal.returns
returns g c = (λ e. leads_so c.args.front.now c.args.tokens.now c.loop-index.index (omega (arith, c.loop-index-test.false)) c.loop-index.invariant.0, λ on. refl)
