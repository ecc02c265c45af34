use Rattle.std.proofs.Common.{[], List, subst, ℕ}
use Rattle.jsonc_cst.specs.Document.{nodes_of}
use Rattle.jsonc_cst.specs.Nodes.{number_of}
use Rattle.jsonc_cst.specs.typed.There.{entry_above}
use Rattle.jsonc_run.specs.Edits.{remove}
use Rattle.jsonc_parser.specs.patch.Applied.{IsUnfound}
use Rattle.jsonc_parser.specs.patch.Found.{IsOfShown, RefersToNode}
use Rattle.jsonc_parser.specs.patch.Pointer.{tokens_of}
use Rattle.jsonc_parser.proofs.lemmas.patch.Contents.{removed_contents}
use Rattle.jsonc_parser.proofs.lemmas.patch.Edited.{kept_same, kept_there, removes_so}
use Rattle.jsonc_parser.proofs.lemmas.patch.Failing.{removes_not, unremoved}
use Rattle.jsonc_parser.proofs.patch.making.remove.Goals as goal

pub returns-in-Ok-remove_there-clause-made : goal.returns-in-Ok-remove_there-clause-made
returns-in-Ok-remove_there-clause-made g c =
    let doc = c.args.doc.now in
    let leads = subst (λ (l : List (List ℕ)). IsOfShown doc (λ d. RefersToNode d (nodes_of doc) l (number_of c.in-Ok.node))) c.tokens.ensures c.in-Ok.ensures.found in
    removes_so doc c.remove_there.new.self doc.tree.tree c.remove_there.new.self.tree.tree c.in-Ok.node (tokens_of c.args.pointer.now) leads c.in-Ok-remove_there.ensures.removed

pub returns-in-Ok-remove_there-clause-contents : goal.returns-in-Ok-remove_there-clause-contents
returns-in-Ok-remove_there-clause-contents g c =
    removed_contents _ _ (entry_above (nodes_of c.args.doc.now) (number_of c.in-Ok.node)) c.in-Ok-remove_there.ensures.untouched (c.in-Ok-remove_there.ensures.removed []).made

pub returns-in-Err-remove_there-clause-kept : goal.returns-in-Err-remove_there-clause-kept
returns-in-Err-remove_there-clause-kept g c = kept_there _ _ _ (remove []) _ (c.in-Err-remove_there.ensures.removed [])

pub returns-in-Err-remove_there-clause-fails : goal.returns-in-Err-remove_there-clause-fails
returns-in-Err-remove_there-clause-fails g c =
    let doc = c.args.doc.now in
    let leads = subst (λ (l : List (List ℕ)). IsOfShown doc (λ d. RefersToNode d (nodes_of doc) l (number_of c.in-Ok.node))) c.tokens.ensures c.in-Ok.ensures.found in
    removes_not doc doc.tree.tree c.in-Ok.node (tokens_of c.args.pointer.now) leads c.in-Err-remove_there.error (λ path. (c.in-Err-remove_there.ensures.removed path).error)

pub returns-in-Err-clause-kept : goal.returns-in-Err-clause-kept
returns-in-Err-clause-kept g c = kept_same c.args.doc.now

pub returns-in-Err-clause-fails : goal.returns-in-Err-clause-fails
returns-in-Err-clause-fails g c = λ d shown.
    unremoved (tokens_of c.args.pointer.now) d.value c.in-Err.cause (subst (λ (l : List (List ℕ)). IsUnfound d.value l c.in-Err.cause) c.tokens.ensures (c.in-Err.ensures.fails d shown))
