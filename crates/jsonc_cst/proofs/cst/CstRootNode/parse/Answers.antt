use Rattle.std.proofs.Common.{chars, subst}
use Rattle.jsonc_text.specs.Options.{Options}
use Rattle.jsonc_text.specs.OptionsOf.{parse_options}
use Rattle.jsonc_text.proofs.UniqueValues.{document_unique}
use Rattle.jsonc_walk.specs.Refusals.{IsWithin}
use Rattle.jsonc_cst.proofs.Shown.{shows_parsed}
use Rattle.jsonc_cst.proofs.Tree.{nodes_are_tree}
use Rattle.jsonc_cst.proofs.cst.CstRootNode.parse.Goals as goal

pub returns-clause-value : goal.returns-clause-value
returns-clause-value g c = let (w, accepted, within, value) = c.in_ok-tree.ensures.value in (w, accepted, value)

pub returns-clause-within : goal.returns-clause-within
returns-clause-within g c =
    let o : Options = parse_options c.args.options.now in
    let (v, accepted, within, value) = c.in_ok-tree.ensures.value in
    λ w h. subst IsWithin (document_unique o (chars c.args.text.now) v w accepted h) within

pub returns-clause-document : goal.returns-clause-document
returns-clause-document g c =
    let o : Options = parse_options c.args.options.now in
    let read = c.in_ok-tree.ensures in
    let (w, accepted, within, value) = read.value in
    shows_parsed o c.args.text.now w read.printed read.shaped read.lines value

pub returns-clause-tree : goal.returns-clause-tree
returns-clause-tree g c = nodes_are_tree _
