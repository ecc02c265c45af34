use Rattle.jsonc_text.proofs.lemmas.string.OneFault.{fault_unique, no_string_told}
use Rattle.jsonc_text.proofs.string.laws.one_fault.Goals as goal

pub returns-clause-one : goal.returns-clause-one
returns-clause-one c = λ taken q s quote k l t u r w x y. fault_unique taken q k l s t u r w x y

pub returns-clause-none : goal.returns-clause-none
returns-clause-none c = λ taken q s quote k t r v u x y. no_string_told taken q k s t r v u quote x y
