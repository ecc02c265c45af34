use Rattle.jsonc_cst.proofs.lemmas.sorting.Again.{elements_sort_once, properties_sort_once}
use Rattle.jsonc_cst.proofs.sorted.laws.second_sorts_change_no_byte.Goals as goal

pub returns-clause-elements : goal.returns-clause-elements
returns-clause-elements g c = λ compare lt old now new array h k. elements_sort_once compare g.D.DocumentArg.same lt old now new h k g.C.Fn array

pub returns-clause-properties : goal.returns-clause-properties
returns-clause-properties g c = λ compare lt old now new object h k. properties_sort_once compare g.D.DocumentArg.same lt old now new h k g.P.Fn object
