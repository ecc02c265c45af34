use Rattle.jsonc_layout.proofs.lemmas.input.Spelled.{inside_decodes, spelled_string}
use Rattle.jsonc_layout.proofs.input.laws.spelled_strings_are_strings.Goals as goal

pub returns-clause-inside : goal.returns-clause-inside
returns-clause-inside c = inside_decodes

pub returns-clause-lexeme : goal.returns-clause-lexeme
returns-clause-lexeme c = spelled_string
