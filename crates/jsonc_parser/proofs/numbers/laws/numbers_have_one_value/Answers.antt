use Rattle.jsonc_parser.proofs.NumberLaws.{grammar_writes, writes_grammar, one_float, one_integer}
use Rattle.jsonc_parser.proofs.numbers.laws.numbers_have_one_value.Goals as goal

pub returns-clause-grammar : goal.returns-clause-grammar
returns-clause-grammar c = λ s. (grammar_writes s, λ w. writes_grammar w.1)

pub returns-clause-float : goal.returns-clause-float
returns-clause-float c = one_float

pub returns-clause-integer : goal.returns-clause-integer
returns-clause-integer c = one_integer
