use Rattle.std.proofs.Common.{arith}
use Rattle.jsonc_layout.proofs.lemmas.input.Decimals.{plain_decimal, always_decimal}
use Rattle.jsonc_layout.proofs.input.value.CstInputValue.from_u64.Goals as goal

pub returns-clause-value : goal.returns-clause-value
returns-clause-value g c = plain_decimal _ _ (omega arith) c.in_ok-digits.ensures.ok

pub returns-clause-literal : goal.returns-clause-literal
returns-clause-literal g c = always_decimal _ _ (omega arith) c.in_ok-digits.ensures.ok
