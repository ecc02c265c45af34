use Rattle.std.proofs.Common.{◌≡◌, Bool, List, ℕ, Option, Some, None, subst}
use Rattle.std.specs.Bool.{Decides}
use Rattle.jsonc_layout.specs.input.Views.{chars_of}
use Rattle.jsonc_cst.specs.declared.cst.node.CstNode.{CstNode}
use Rattle.jsonc_parser.specs.patch.Found.{FindFails, Finds, IsOfShown}
use Rattle.jsonc_parser.specs.patch.MergeSteps.{RefersToObject}
use Rattle.jsonc_parser.specs.paths.Found.{names_of}
use Rattle.jsonc_parser.specs.patch.Pointer.{tokens_of}
use Rattle.jsonc_parser.proofs.lemmas.patch.Chains.{at_none}
use Rattle.jsonc_parser.proofs.lemmas.patch.Renaming.{apart_tokens, no_object, repeated_there, something_there, twice_before, unfound_first, within}
use Rattle.jsonc_parser.proofs.patch.renaming.renaming.Goals as goal

pub returns-in_default-clause-none : goal.returns-in_default-clause-none
returns-in_default-clause-none g c = apart_tokens c.args.doc.now (tokens_of c.args.from.now) (tokens_of c.args.path.now) c.in_default.ensures.apart

pub returns-in-Ok-false-clause-none : goal.returns-in-Ok-false-clause-none
returns-in-Ok-false-clause-none g c =
    no_object c.args.doc.now (tokens_of c.args.from.now) (tokens_of c.args.path.now) (names_of c.in-Some.front.now) (chars_of c.in-Some.name.now) c.in-Some.ensures.beside
    (subst (λ (b : Bool). IsOfShown c.args.doc.now (λ d. Decides b (RefersToObject d.value (names_of c.in-Some.front.now)))) c.in-Ok-false.field-0-test c.in-Ok-false.ensures.decided)

pub returns-in-Err-clause-fails : goal.returns-in-Err-clause-fails
returns-in-Err-clause-fails g c =
    twice_before c.args.doc.now (tokens_of c.args.from.now) (tokens_of c.args.path.now) (names_of c.in-Some.front.now) (chars_of c.in-Some.name.now) c.in-Some.ensures.beside c.in-Err.cause c.in-Err.ensures.fails

pub returns-in-Err-target-clause-fails : goal.returns-in-Err-target-clause-fails
returns-in-Err-target-clause-fails g c = unfound_first c.args.doc.now (tokens_of c.args.from.now) (tokens_of c.args.path.now) (names_of c.tokens.result.now) c.tokens.ensures c.in-Err-target.cause c.in-Err-target.ensures.fails

pub returns-in-Ok-None-clause-renames : goal.returns-in-Ok-None-clause-renames
returns-in-Ok-None-clause-renames g c =
    within c.args.doc.now (tokens_of c.args.from.now) (tokens_of c.args.path.now) (names_of c.tokens.result.now) (names_of c.tokens-2.result.now) c.in-Ok.node (chars_of c.in-Some.name.now) (names_of c.in-Some.front.now)
    c.tokens.ensures c.tokens-2.ensures c.in-Some.ensures.beside
    (subst (λ (b : Bool). IsOfShown c.args.doc.now (λ d. Decides b (RefersToObject d.value (names_of c.in-Some.front.now)))) c.in-Ok-true.field-0-test c.in-Ok-true.ensures.decided)
    c.in-Ok.ensures.found
    (subst (λ (o : Option CstNode). IsOfShown c.args.doc.now (λ d. Finds d c.args.doc.now (names_of c.tokens-2.result.now) o)) c.in-Ok-None.field-0-is c.in-Ok-None.ensures.found)

pub returns-in-Ok-Some-clause-none : goal.returns-in-Ok-Some-clause-none
returns-in-Ok-Some-clause-none g c =
    something_there c.args.doc.now (tokens_of c.args.from.now) (tokens_of c.args.path.now) (names_of c.tokens-2.result.now) _ c.tokens-2.ensures
    (subst (λ (o : Option CstNode). IsOfShown c.args.doc.now (λ d. Finds d c.args.doc.now (names_of c.tokens-2.result.now) o)) c.in-Ok-Some.field-0-is c.in-Ok-Some.ensures.found)

pub returns-in-Err-RepeatedName-clause-none : goal.returns-in-Err-RepeatedName-clause-none
returns-in-Err-RepeatedName-clause-none g c =
    repeated_there c.args.doc.now (tokens_of c.args.from.now) (tokens_of c.args.path.now) (names_of c.tokens-2.result.now) _ c.tokens-2.ensures
    (subst (λ e. IsOfShown c.args.doc.now (λ d. FindFails d c.args.doc.now (names_of c.tokens-2.result.now) e)) c.in-Err-RepeatedName.field-0-is c.in-Err-RepeatedName.ensures.fails)
