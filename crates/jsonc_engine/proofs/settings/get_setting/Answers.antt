use Rattle.std.proofs.Common.{ℕ, ◌≡◌, ◌++◌, ◌∙◌, List, [], ◌∷◌, ap, string_bytes, subst}
use Rattle.jsonc_tree.specs.OrderedTree.{ordered_tree, printed}
use Rattle.jsonc_tree.specs.Tree.{Node}
use Rattle.jsonc_cst.specs.Document.{nodes_of}
use Rattle.jsonc_cst.specs.Nodes.{number_of}
use Rattle.jsonc_parser.specs.paths.Found.{FindsWhatShown, names_of}
use Rattle.jsonc_engine.proofs.SettingsShown.{memory_getting, memory_showing, nothing_there, shown_there}
use Rattle.jsonc_engine.proofs.settings.get_setting.Goals as goal

pub returns-in-Ok-None-clause-error : goal.returns-in-Ok-None-clause-error
returns-in-Ok-None-clause-error g c = λ o sound.
    let doc = c.args.document.now in
    let names = names_of c.args.names.now in
    nothing_there o doc sound names (subst (FindsWhatShown doc names) c.in-Ok-None.field-0-is c.in-Ok-None.ensures.found)

pub returns-in-Err-clause-error : goal.returns-in-Err-clause-error
returns-in-Err-clause-error g c = λ o sound.
    memory_getting o (nodes_of c.args.document.now) sound g.row.A.Denot (names_of c.args.names.now) c.in-Err.error c.in-Err.ensures.memory c.in-Err.ensures.oom_only_if

pub returns-in-Err-format-clause-error : goal.returns-in-Err-format-clause-error
returns-in-Err-format-clause-error g c = λ o sound.
    let doc = c.args.document.now in
    let names = names_of c.args.names.now in
    memory_showing o doc sound names c.in-Ok-Some.node (subst (FindsWhatShown doc names) c.in-Ok-Some.field-0-is c.in-Ok-Some.ensures.found)

pub returns-in-Ok-clause-text : goal.returns-in-Ok-clause-text
returns-in-Ok-clause-text g c = λ o sound.
    let doc = c.args.document.now in
    let names = names_of c.args.names.now in
    let prints : string_bytes c.in-Ok.text ≡ printed (ordered_tree (nodes_of doc) (number_of c.in-Ok-Some.node)) ++ 0x0A ∷ [] =
    c.in-Ok.ensures.ok
    ∙ ap (λ (ns : List Node). printed (ordered_tree ns c.shown.result.node) ++ 0x0A ∷ []) c.shown.ensures.nodes
    ∙ ap (λ (n : ℕ). printed (ordered_tree (nodes_of doc) n) ++ 0x0A ∷ []) c.shown.ensures.node in
    shown_there o doc sound names c.in-Ok-Some.node (string_bytes c.in-Ok.text) (subst (FindsWhatShown doc names) c.in-Ok-Some.field-0-is c.in-Ok-Some.ensures.found) prints
