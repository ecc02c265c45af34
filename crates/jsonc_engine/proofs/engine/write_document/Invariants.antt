use Rattle.std.proofs.Common.{◌≡◌, ℕ, List, ◌++◌}
use Rattle.std.specs.List.{concat}
use Rattle.std.specs.Io.KnownBytes.{Appends}
use Rattle.jsonc_engine.specs.Parser.{printed_of}
use Rattle.jsonc_engine.proofs.engine.write_document.Given as goal

-- what was written, and then what is left, is the document, and no write failed
abbrev pub invariant-loop-piece : goal.invariant-loop-piece
invariant-loop-piece g l = record {
  written : (done : List ℕ) × Appends (g.K.Sink.contents l.initial.sink) (g.K.Sink.contents l.sink) done × (done ++ concat l.piece-iterator ≡ printed_of l.document);
  kept : g.K.Sink.failed_writes l.sink ≡ g.K.Sink.failed_writes l.initial.sink;
}
