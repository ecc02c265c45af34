use Rattle.std.proofs.Common.{◌≡◌, drop, map, option_map, string_bytes}
use Rattle.jsonc_layout.specs.lines.Indents.{told_by}
use Rattle.jsonc_layout.specs.lines.Lines.{indent_at}
use Rattle.jsonc_layout.proofs.lines.indents.told_by.Given as goal

abbrev pub invariant-loop-place : goal.invariant-loop-place
invariant-loop-place g l =
    let ns = l.tree.nodes in
    told_by 0 (option_map string_bytes l.fn.own) (map (indent_at ns) l.levels) ≡ told_by l.place (option_map string_bytes l.held) (map (indent_at ns) (drop l.place l.levels))
