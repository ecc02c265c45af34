use Rattle.jsonc_engine.proofs.Strings.{IsWalked}
use Rattle.jsonc_engine.proofs.json.literal.is_plain.Given as goal

abbrev pub invariant-loop-c : goal.invariant-loop-c
invariant-loop-c l = IsWalked l.yielded l.escaped
