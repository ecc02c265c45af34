use Rattle.std.proofs.Common.{chars}
use Rattle.jsonc_lint.proofs.Walk.{HasPassed}
use Rattle.jsonc_lint.proofs.linting.findings_of.Given as goal

-- the nodes before those that are left are passed
abbrev pub invariant-loop-node : goal.invariant-loop-node
invariant-loop-node g l = HasPassed l.rules l.doc.tree.nodes (chars l.text) l.node-iterator l.names l.findings.items
