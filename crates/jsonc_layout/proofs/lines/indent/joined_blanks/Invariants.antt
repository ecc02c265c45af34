use Rattle.std.proofs.Common.{◌≡◌, ◌++◌, string_bytes}
use Rattle.jsonc_layout.specs.nodes.Siblings.{line_before}
use Rattle.jsonc_layout.specs.lines.Lines.{blanks}
use Rattle.jsonc_layout.proofs.lines.indent.joined_blanks.Given as goal

abbrev pub invariant-loop-sibling : goal.invariant-loop-sibling
invariant-loop-sibling g l =
    blanks l.tree.nodes (line_before l.tree.nodes l.node) ≡ string_bytes l.joined ++ blanks l.tree.nodes l.sibling-iterator
