use Rattle.jsonc_cst.proofs.lemmas.sorting.AgainByKey.{elements_sort_once_by_key, properties_sort_once_by_key}
use Rattle.jsonc_cst.proofs.sorted.laws.second_sorts_by_key_change_no_byte.Goals as goal

pub returns-clause-elements : goal.returns-clause-elements
returns-clause-elements g c = λ key lt old now new array h k. elements_sort_once_by_key key g.D.DocumentArg.same g.K.Ord.cmp lt old now new h k g.F.Fn array

pub returns-clause-properties : goal.returns-clause-properties
returns-clause-properties g c = λ key lt old now new object h k. properties_sort_once_by_key key g.D.DocumentArg.same g.K.Ord.cmp lt old now new h k g.P.Fn object
