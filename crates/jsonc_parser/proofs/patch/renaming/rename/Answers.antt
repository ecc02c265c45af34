use Rattle.std.proofs.Common.{[], ℕ, Err, List, Ok, ap, chars, string_bytes, subst}
use Rattle.std.proofs.lemmas.Str.{scalars-chars, IsUtf8-string_bytes}
use Rattle.jsonc_text.specs.Plain.{Plain}
use Rattle.jsonc_layout.specs.input.Views.{chars_of}
use Rattle.jsonc_run.specs.Edits.{rename_property}
use Rattle.jsonc_cst.specs.Document.{nodes_of}
use Rattle.jsonc_cst.specs.Nodes.{number_of}
use Rattle.jsonc_cst.specs.typed.There.{entry_above, IsMadeThere}
use Rattle.jsonc_parser.proofs.lemmas.patch.Contents.{renamed_contents}
use Rattle.jsonc_parser.proofs.lemmas.patch.Renaming.{renames_not, renames_so}
use Rattle.jsonc_parser.proofs.patch.renaming.rename.Goals as goal

pub returns-in-Ok-clause-made : goal.returns-in-Ok-clause-made
returns-in-Ok-clause-made g c =
    let doc = c.args.doc.now in
    let new = c.rename_there.new.self in
    let n = entry_above (nodes_of doc) (number_of c.args.node) in
    let made : (path : List ℕ) → IsMadeThere doc new n (rename_property path (chars_of c.args.name.now)) (Ok tt) = λ path. subst (λ l. IsMadeThere doc new n (rename_property path l) (Ok tt)) (ap chars c.deref.ensures) (c.in-Ok.ensures path) in
    renames_so doc new doc.tree.tree c.args.node (chars_of c.args.name.now) new.tree.tree (scalars-chars (string_bytes c.args.name.now) (IsUtf8-string_bytes c.args.name.now)) made

pub returns-in-Ok-clause-contents : goal.returns-in-Ok-clause-contents
returns-in-Ok-clause-contents g c =
    let m = (c.in-Ok.ensures []).made in
    renamed_contents _ _ m.1.0 m.0 (Plain.string (chars c.deref.result.now)) m.1.2

pub returns-in-Err-clause-fails : goal.returns-in-Err-clause-fails
returns-in-Err-clause-fails g c =
    let doc = c.args.doc.now in
    let new = c.rename_there.new.self in
    let n = entry_above (nodes_of doc) (number_of c.args.node) in
    let made : (path : List ℕ) → IsMadeThere doc new n (rename_property path (chars_of c.args.name.now)) (Err c.in-Err.error) = λ path. subst (λ l. IsMadeThere doc new n (rename_property path l) (Err c.in-Err.error)) (ap chars c.deref.ensures) (c.in-Err.ensures path) in
    renames_not doc new doc.tree.tree c.args.node (chars_of c.args.name.now) c.in-Err.error (λ path. (made path).error)
