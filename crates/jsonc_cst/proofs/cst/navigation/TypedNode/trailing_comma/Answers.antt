use Rattle.jsonc_layout.specs.lines.Siblings.{after_trivia_at}
use Rattle.jsonc_cst.proofs.Readings.{if_comma_held}
use Rattle.jsonc_cst.proofs.cst.navigation.TypedNode.trailing_comma.Goals as goal

pub returns-clause-in_document : goal.returns-clause-in_document
returns-clause-in_document g c =
    let ns = c.args.doc.now.tree.nodes in
    if_comma_held ns (after_trivia_at ns c.number.result) c.in-Some.number c.in-Some.ensures.comma
