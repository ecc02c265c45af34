use Rattle.std.proofs.Common.{List, Option, Some, refl, subst, ℕ}
use Rattle.std.specs.Option.{option_map}
use Rattle.jsonc_layout.specs.declared.input.value.CstInputValue.{CstInputValue}
use Rattle.jsonc_layout.specs.input.Views.{plain}
use Rattle.jsonc_layout.specs.to_input.Taken.{GivesAt}
use Rattle.jsonc_cst.specs.Document.{nodes_of}
use Rattle.jsonc_cst.specs.Nodes.{number_of}
use Rattle.jsonc_parser.specs.paths.Found.{names_of}
use Rattle.jsonc_parser.specs.patch.Applied.{IsUnfound}
use Rattle.jsonc_parser.specs.patch.Found.{IsOfShown}
use Rattle.jsonc_parser.specs.patch.Pointer.{tokens_of}
use Rattle.jsonc_parser.proofs.lemmas.patch.Taking.{at_node, never_nothing, whole_taken}
use Rattle.jsonc_parser.proofs.patch.making.whole_at.Goals as goal

pub returns-in-Ok-Some-clause-taken : goal.returns-in-Ok-Some-clause-taken
returns-in-Ok-Some-clause-taken g c =
    let doc = c.args.doc.now in
    whole_taken doc (tokens_of c.args.pointer.now) (names_of c.tokens.result.now) c.tokens.ensures (number_of c.in-Ok.node) c.in-Ok.ensures.in_document.0 doc.tree.tree c.in-Ok.ensures.found c.in-Ok-Some.value
    (at_node c.tree.result.now.nodes (nodes_of doc) c.number.result (number_of c.in-Ok.node) c.tree.ensures c.number.ensures
    (subst (λ (o : Option (CstInputValue g.row.A.Denot)). GivesAt c.tree.result.now.nodes c.number.result (option_map plain o)) c.in-Ok-Some.field-0-is c.in-Ok-Some.ensures))

pub returns-in-Ok-None-clause-fails : goal.returns-in-Ok-None-clause-fails
returns-in-Ok-None-clause-fails g c =
    let doc = c.args.doc.now in
    never_nothing doc (tokens_of c.args.pointer.now) (names_of c.tokens.result.now) c.tokens.ensures (number_of c.in-Ok.node) c.in-Ok.ensures.in_document.0 doc.tree.tree c.in-Ok.ensures.found _
    (at_node c.tree.result.now.nodes (nodes_of doc) c.number.result (number_of c.in-Ok.node) c.tree.ensures c.number.ensures
    (subst (λ (o : Option (CstInputValue g.row.A.Denot)). GivesAt c.tree.result.now.nodes c.number.result (option_map plain o)) c.in-Ok-None.field-0-is c.in-Ok-None.ensures))

pub returns-in-Err-clause-fails : goal.returns-in-Err-clause-fails
returns-in-Err-clause-fails g c = subst (λ (l : List (List ℕ)). IsOfShown c.args.doc.now (λ d. IsUnfound d.value l c.in-Err.cause)) c.tokens.ensures c.in-Err.ensures.fails

pub returns-in-Err-take-clause-fails : goal.returns-in-Err-take-clause-fails
returns-in-Err-take-clause-fails g c = λ d shown. refl
