use Rattle.std.proofs.Common.{◌≡◌, ◌++◌, map}
use Rattle.jsonc_engine.specs.Texts.{text_of}
use Rattle.jsonc_engine.specs.Rewritten.{written_blank}
use Rattle.jsonc_engine.proofs.json.gap.push_blanks.Given as goal

abbrev pub invariant-loop-blank : goal.invariant-loop-blank
invariant-loop-blank g l = text_of l.written ≡ text_of l.initial.written ++ map written_blank l.yielded
