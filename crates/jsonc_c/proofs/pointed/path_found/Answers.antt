use Rattle.std.proofs.Common.{ℕ, List, IfNone, subst}
use Rattle.jsonc_edit.specs.Paths.{IsAt}
use Rattle.jsonc_cst.specs.Document.{nodes_of}
use Rattle.jsonc_cst.specs.Nodes.{number_of}
use Rattle.jsonc_parser.specs.patch.Pointer.{tokens_of}
use Rattle.jsonc_c.specs.Options.{options_of}
use Rattle.jsonc_c.proofs.Patching.{unopened_finds_none}
use Rattle.jsonc_c.proofs.Pointing.{has_path}
use Rattle.jsonc_c.proofs.pointed.path_found.Goals as goal

pub returns-in-Err-clause-refused : goal.returns-in-Err-clause-refused
returns-in-Err-clause-refused c = unopened_finds_none c.in-Err.ensures.refused

pub returns-in-Err-value_at-clause-refused : goal.returns-in-Err-value_at-clause-refused
returns-in-Err-value_at-clause-refused c = c.in-Err-value_at.ensures.refused (options_of c.args.options) c.args.pointer.now c.args.text.now c.in-Ok.ensures.pointer c.in-Ok.ensures.document

pub returns-in-Ok-None-clause-refused : goal.returns-in-Ok-None-clause-refused
returns-in-Ok-None-clause-refused c =
    let doc = c.in-Ok.read.0 in
    let node = c.in-Ok-value_at.node in
    let none = subst (λ r. IfNone r ((path : List ℕ) → IsAt (nodes_of doc) path (number_of node) → ⊥)) c.in-Ok-None.field-0-is c.in-Ok-None.ensures.none in
    absurd (has_path (options_of c.args.options) c.args.pointer.now c.args.text.now doc c.in-Ok.ensures.document (tokens_of c.in-Ok.read.1) c.in-Ok.ensures.pointer node c.in-Ok-value_at.ensures.found none)
