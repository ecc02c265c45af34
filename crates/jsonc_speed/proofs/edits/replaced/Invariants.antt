use Rattle.jsonc_cst.specs.Document.{HasNode}
use Rattle.jsonc_cst.specs.Nodes.{number_lit_node}
use Rattle.jsonc_speed.proofs.edits.replaced.Given as goal

-- the number that is to be replaced is one of the document
abbrev pub invariant-loop : goal.invariant-loop
invariant-loop l = HasNode l.document (number_lit_node l.last)
