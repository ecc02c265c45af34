use Rattle.std.proofs.Common.{List, subst, ℕ}
use Rattle.jsonc_parser.specs.patch.Applied.{IsUnfound}
use Rattle.jsonc_parser.specs.patch.Pointer.{tokens_of}
use Rattle.jsonc_parser.proofs.lemmas.patch.Chains.{as_few, as_many, same_place, stays_shown}
use Rattle.jsonc_parser.proofs.lemmas.patch.Failing.{moves_into_itself, unmoved}
use Rattle.jsonc_parser.proofs.patch.moving.stay.Goals as goal

pub returns-then-tokens-clause-stays : goal.returns-then-tokens-clause-stays
returns-then-tokens-clause-stays g c =
    let from = tokens_of c.args.from.now in
    let to = tokens_of c.args.path.now in
    stays_shown c.args.doc.now from to _ _ c.tokens.ensures c.requires (as_many from to c.tokens-2.result.now c.tokens-3.result.now c.tokens-2.ensures c.tokens-3.ensures c.if-tokens.true) c.in-Ok.ensures.found

pub returns-then-tokens-clause-same : goal.returns-then-tokens-clause-same
returns-then-tokens-clause-same g c =
    let from = tokens_of c.args.from.now in
    let to = tokens_of c.args.path.now in
    same_place from to c.requires (as_many from to c.tokens-2.result.now c.tokens-3.result.now c.tokens-2.ensures c.tokens-3.ensures c.if-tokens.true)

pub returns-clause-fails : goal.returns-clause-fails
returns-clause-fails g c =
    let from = tokens_of c.args.from.now in
    let to = tokens_of c.args.path.now in
    moves_into_itself c.args.doc.now from to _ _ c.tokens.ensures c.requires (λ same. c.if-tokens.false (as_few from to c.tokens-2.result.now c.tokens-3.result.now c.tokens-2.ensures c.tokens-3.ensures same)) c.in-Ok.ensures.found

pub returns-in-Err-clause-fails : goal.returns-in-Err-clause-fails
returns-in-Err-clause-fails g c = λ d shown.
    unmoved (tokens_of c.args.from.now) (tokens_of c.args.path.now) d.value c.in-Err.cause (subst (λ (l : List (List ℕ)). IsUnfound d.value l c.in-Err.cause) c.tokens.ensures (c.in-Err.ensures.fails d shown))
