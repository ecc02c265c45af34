use Rattle.std.proofs.Common.{◌≡◌, ◌≤◌, ◌++◌, ℕ, List, length, vec_capacity}
use Rattle.std.specs.Io.KnownBytes.{Consumes}
use Rattle.jsonc_engine.proofs.engine.read_on.Given as goal

-- what has come behind what was read before is what the source has given, a byte a read at least; no read failed or gave nothing, and there is no less room
abbrev pub invariant-loop-done : goal.invariant-loop-done
invariant-loop-done g l = record {
  given : (bytes : List ℕ) × Consumes (g.S.Source.remaining l.initial.source) (g.S.Source.remaining l.source) bytes × (l.read.items ≡ l.initial.read.items ++ bytes);
  kept : g.S.Source.failed_reads l.source ≡ g.S.Source.failed_reads l.initial.source;
  none : g.S.Source.empty_reads l.source ≡ g.S.Source.empty_reads l.initial.source;
  filled : l._done ≤ length l.read.items;
  room : vec_capacity l.initial.read ≤ vec_capacity l.read;
}
