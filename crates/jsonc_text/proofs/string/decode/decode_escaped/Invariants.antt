use Rattle.std.proofs.Common.{◌-◌, ◌+◌, ◌≤◌, length}
use Rattle.std.specs.String.{string_bytes}
use Rattle.jsonc_text.proofs.lemmas.string.Decoding.{Decoding}
use Rattle.jsonc_text.proofs.string.decode.decode_escaped.Given as goal

abbrev pub invariant-loop-escape : goal.invariant-loop-escape
invariant-loop-escape g l = record {
  past : l.first_stop ≤ l.place;
  decoding : Decoding l.literal.extended l.literal.quote l.text (l.literal.start + 1) l.from l.place (string_bytes l.copy);
}

abbrev pub decreases-loop-escape : goal.decreases-loop-escape
decreases-loop-escape g l = length l.text - l.from
