use Rattle.jsonc_sound.proofs.NodesAlone.{value_alone, value_leaves, property_alone, property_leaves}
use Rattle.jsonc_sound.proofs.Commas.{none_meet, stretches_join}
use Rattle.jsonc_sound.proofs.sound.rows_with_commas.Goals as goal

pub returns-clause-none : goal.returns-clause-none
returns-clause-none c = λ o kind stretch rest commas last mid s g. none_meet o kind commas mid stretch rest s g

pub returns-clause-join : goal.returns-clause-join
returns-clause-join c = λ o kind first second last mid other to s r. stretches_join o kind first second s r

pub returns-clause-values : goal.returns-clause-values
returns-clause-values c = λ o top. (λ r v. value_alone o v, λ v. value_leaves o v)

pub returns-clause-properties : goal.returns-clause-properties
returns-clause-properties c = λ o row p. (property_alone o p, property_leaves o p)
