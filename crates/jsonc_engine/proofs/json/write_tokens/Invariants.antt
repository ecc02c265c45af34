use Rattle.std.proofs.Common.{◌-◌, length}
use Rattle.jsonc_engine.specs.Texts.{text_of}
use Rattle.jsonc_engine.proofs.WrittenTokens.{IsSoFar}
use Rattle.jsonc_engine.proofs.json.write_tokens.Given as goal

abbrev pub invariant-tokens : goal.invariant-tokens
invariant-tokens g l = IsSoFar l.text l.scanner l.place (text_of l.written)

abbrev pub decreases-tokens : goal.decreases-tokens
decreases-tokens g l = length l.text - l.place
