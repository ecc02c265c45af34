use Rattle.std.proofs.Common.{[], List, subst, ℕ}
use Rattle.jsonc_layout.specs.input.Views.{plain}
use Rattle.jsonc_cst.specs.Document.{nodes_of}
use Rattle.jsonc_cst.specs.Nodes.{number_of}
use Rattle.jsonc_run.specs.Edits.{replace}
use Rattle.jsonc_parser.specs.patch.Applied.{IsUnfound}
use Rattle.jsonc_parser.specs.patch.Found.{IsOfShown, RefersToNode}
use Rattle.jsonc_parser.specs.patch.Pointer.{tokens_of}
use Rattle.jsonc_parser.proofs.lemmas.patch.Contents.{replaced_contents}
use Rattle.jsonc_parser.proofs.lemmas.patch.Edited.{kept_same, kept_there, replaces_so}
use Rattle.jsonc_parser.proofs.lemmas.patch.Failing.{replaces_not, unreplaced}
use Rattle.jsonc_parser.proofs.patch.making.replace.Goals as goal

pub returns-in-Ok-replace_there-clause-made : goal.returns-in-Ok-replace_there-clause-made
returns-in-Ok-replace_there-clause-made g c =
    let doc = c.args.doc.now in
    let leads = subst (λ (l : List (List ℕ)). IsOfShown doc (λ d. RefersToNode d (nodes_of doc) l (number_of c.in-Ok.node))) c.tokens.ensures c.in-Ok.ensures.found in
    replaces_so doc c.replace_there.new.self doc.tree.tree c.replace_there.new.self.tree.tree c.in-Ok.node (tokens_of c.args.pointer.now) leads c.args.value.now c.in-Ok-replace_there.ensures

pub returns-in-Ok-replace_there-clause-contents : goal.returns-in-Ok-replace_there-clause-contents
returns-in-Ok-replace_there-clause-contents g c =
    let m = (c.in-Ok-replace_there.ensures []).made in
    replaced_contents _ _ (number_of c.in-Ok.node) m.0 (plain c.args.value.now) m.1

pub returns-in-Err-replace_there-clause-kept : goal.returns-in-Err-replace_there-clause-kept
returns-in-Err-replace_there-clause-kept g c = kept_there _ _ _ (replace [] _) _ (c.in-Err-replace_there.ensures [])

pub returns-in-Err-replace_there-clause-fails : goal.returns-in-Err-replace_there-clause-fails
returns-in-Err-replace_there-clause-fails g c =
    let doc = c.args.doc.now in
    let leads = subst (λ (l : List (List ℕ)). IsOfShown doc (λ d. RefersToNode d (nodes_of doc) l (number_of c.in-Ok.node))) c.tokens.ensures c.in-Ok.ensures.found in
    replaces_not doc doc.tree.tree c.in-Ok.node (tokens_of c.args.pointer.now) leads c.in-Err-replace_there.error (plain c.args.value.now) (λ path. (c.in-Err-replace_there.ensures path).error)

pub returns-in-Err-clause-kept : goal.returns-in-Err-clause-kept
returns-in-Err-clause-kept g c = kept_same c.args.doc.now

pub returns-in-Err-clause-fails : goal.returns-in-Err-clause-fails
returns-in-Err-clause-fails g c = λ d shown.
    unreplaced (tokens_of c.args.pointer.now) (plain c.args.value.now) d.value c.in-Err.cause (subst (λ (l : List (List ℕ)). IsUnfound d.value l c.in-Err.cause) c.tokens.ensures (c.in-Err.ensures.fails d shown))
