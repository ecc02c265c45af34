use Rattle.std.proofs.Common.{◌≡◌, ◌-◌, ◌++◌, string_bytes}
use Rattle.jsonc_layout.specs.lines.Indents.{repeated}
use Rattle.jsonc_layout.proofs.lines.indents.followed_by.Given as goal

abbrev pub invariant-loop-time : goal.invariant-loop-time
invariant-loop-time g l = l.outer ++ repeated l.count l.single ≡ string_bytes l.text ++ repeated (l.count - l._time) l.single
