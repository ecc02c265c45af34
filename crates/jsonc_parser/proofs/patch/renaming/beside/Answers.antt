use Rattle.std.proofs.Common.{◌≡◌, ◌∙◌, List, ℕ, ap, length, refl, sym, subst}
use Rattle.std.proofs.lemmas.Bool.{false≢true}
use Rattle.jsonc_parser.specs.patch.Applied.{LeadsOn}
use Rattle.jsonc_parser.specs.paths.Found.{names_of}
use Rattle.jsonc_layout.specs.input.Views.{chars_of}
use Rattle.jsonc_parser.specs.patch.Pointer.{tokens_of}
use Rattle.jsonc_parser.proofs.lemmas.patch.Chains.{all_but_last, as_few, at_none, none_at_all}
use Rattle.jsonc_parser.proofs.lemmas.patch.Renaming.{beside_nothing, nothing_beside, same_fronts, leads_itself}
use Rattle.jsonc_parser.proofs.patch.renaming.beside.Goals as goal

pub returns-in_default-clause-apart : goal.returns-in_default-clause-apart
returns-in_default-clause-apart g c = λ tokens name b.
    beside_nothing tokens name b (none_at_all (tokens_of c.args.from.now) c.tokens.result.now c.tokens.ensures (at_none _ _ c.split_last.result c.in_default.is c.split_last.ensures.cases))

pub returns-in_default-split_last-clause-apart : goal.returns-in_default-split_last-clause-apart
returns-in_default-split_last-clause-apart g c = λ tokens name b.
    nothing_beside tokens name b (none_at_all (tokens_of c.args.path.now) c.tokens-2.result.now c.tokens-2.ensures (at_none _ _ c.split_last-2.result c.in_default-split_last.is c.split_last-2.ensures.cases))

pub returns-then-front-others-clause-apart : goal.returns-then-front-others-clause-apart
returns-then-front-others-clause-apart g c = λ tokens name b.
    let front = c.in-Some.front.now in
    let others = c.in-Some-split_last.others.now in
    let is = all_but_last (tokens_of c.args.from.now) c.tokens.result.now front _ c.tokens.ensures c.in-Some.ensures.cases.0 in
    let so = all_but_last (tokens_of c.args.path.now) c.tokens-2.result.now others c.in-Some-split_last.name.now c.tokens-2.ensures c.in-Some-split_last.ensures.cases.0 in
    let same = same_fronts tokens name b (names_of front) (names_of others) _ (chars_of c.in-Some-split_last.name.now) is so in
    c.if-front-others.true (as_few (names_of front) (names_of others) front others refl refl (ap length same))

pub returns-then-not-leads_on-clause-apart : goal.returns-then-not-leads_on-clause-apart
returns-then-not-leads_on-clause-apart g c = λ tokens name b.
    let front = c.in-Some.front.now in
    let others = c.in-Some-split_last.others.now in
    let is = all_but_last (tokens_of c.args.from.now) c.tokens.result.now front _ c.tokens.ensures c.in-Some.ensures.cases.0 in
    let so = all_but_last (tokens_of c.args.path.now) c.tokens-2.result.now others c.in-Some-split_last.name.now c.tokens-2.ensures c.in-Some-split_last.ensures.cases.0 in
    let same = same_fronts tokens name b (names_of front) (names_of others) _ (chars_of c.in-Some-split_last.name.now) is so in
    false≢true (sym c.if-not-leads_on.true ∙ c.leads_on.ensures.1 (leads_itself (names_of front) (names_of others) same))
