use Rattle.std.proofs.Common.{ℕ, ◌≡◌, ◌++◌, ◌∙◌, List, [], ◌∷◌, ap, string_bytes, subst}
use Rattle.jsonc_tree.specs.OrderedTree.{ordered_tree, printed}
use Rattle.jsonc_tree.specs.Tree.{Node}
use Rattle.jsonc_cst.specs.Document.{nodes_of}
use Rattle.jsonc_cst.specs.Nodes.{number_of}
use Rattle.jsonc_parser.specs.patch.Found.{FindFails, Finds, IsOfShown}
use Rattle.jsonc_parser.specs.patch.Pointer.{tokens_of}
use Rattle.jsonc_engine.proofs.Finding.{found_there, memory_finding, memory_showing, nothing_there, repeated_there}
use Rattle.jsonc_engine.proofs.find.find_value.Goals as goal

pub returns-in-Ok-None-clause-error : goal.returns-in-Ok-None-clause-error
returns-in-Ok-None-clause-error g c = λ o words pointer sound.
    let doc = c.args.document.now in
    let tokens = tokens_of c.args.pointer.now in
    nothing_there o words doc tokens pointer sound (subst (λ f. IsOfShown doc (λ d. Finds d doc tokens f)) c.in-Ok-None.field-0-is c.in-Ok-None.ensures.found)

pub returns-in-Err-RepeatedName-clause-error : goal.returns-in-Err-RepeatedName-clause-error
returns-in-Err-RepeatedName-clause-error g c = λ o words pointer sound.
    let doc = c.args.document.now in
    let tokens = tokens_of c.args.pointer.now in
    repeated_there o words doc tokens pointer sound c.in-Err-RepeatedName.name (subst (λ e. IsOfShown doc (λ d. FindFails d doc tokens e)) c.in-Err-RepeatedName.field-0-is c.in-Err-RepeatedName.ensures.fails)

pub returns-in-Err-OutOfMemory-clause-error : goal.returns-in-Err-OutOfMemory-clause-error
returns-in-Err-OutOfMemory-clause-error g c = λ o words pointer sound.
    let doc = c.args.document.now in
    let tokens = tokens_of c.args.pointer.now in
    memory_finding o words doc tokens pointer sound (subst (λ e. IsOfShown doc (λ d. FindFails d doc tokens e)) c.in-Err-OutOfMemory.field-0-is c.in-Err-OutOfMemory.ensures.fails)

pub returns-in-Err-clause-error : goal.returns-in-Err-clause-error
returns-in-Err-clause-error g c = λ o words pointer sound.
    let doc = c.args.document.now in
    let tokens = tokens_of c.args.pointer.now in
    memory_showing o words doc tokens pointer sound c.in-Ok-Some.node (subst (λ f. IsOfShown doc (λ d. Finds d doc tokens f)) c.in-Ok-Some.field-0-is c.in-Ok-Some.ensures.found)

pub returns-in-Ok-clause-found : goal.returns-in-Ok-clause-found
returns-in-Ok-clause-found g c = λ o words pointer sound.
    let doc = c.args.document.now in
    let tokens = tokens_of c.args.pointer.now in
    let prints : string_bytes c.in-Ok.text ≡ printed (ordered_tree (nodes_of doc) (number_of c.in-Ok-Some.node)) ++ 0x0A ∷ [] =
    c.in-Ok.ensures.ok
    ∙ ap (λ (ns : List Node). printed (ordered_tree ns c.shown.result.node) ++ 0x0A ∷ []) c.shown.ensures.nodes
    ∙ ap (λ (n : ℕ). printed (ordered_tree (nodes_of doc) n) ++ 0x0A ∷ []) c.shown.ensures.node in
    found_there o words doc tokens pointer sound c.in-Ok-Some.node (string_bytes c.in-Ok.text) (subst (λ f. IsOfShown doc (λ d. Finds d doc tokens f)) c.in-Ok-Some.field-0-is c.in-Ok-Some.ensures.found) prints
