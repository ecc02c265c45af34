use Rattle.jsonc_value.proofs.Equality.{equality_of}
use Rattle.jsonc_value.specs.contracts.value.JsonValueEq.TheImpl.Laws as value
use Rattle.jsonc_value.specs.contracts.value.JsonObjectEq.TheImpl.Laws as object
use Rattle.jsonc_value.specs.contracts.value.JsonArrayEq.TheImpl.Laws as array
use Rattle.jsonc_value.proofs.laws.equality.Goals as goal

pub returns-clause-values : goal.returns-clause-values
returns-clause-values g c = equality_of _ (value.laws-law g.row.A g.A.Allocator g.A.Allocator-dict g.A.Destruct-dict)

pub returns-clause-objects : goal.returns-clause-objects
returns-clause-objects g c = equality_of _ (object.laws-law g.row.A g.A.Allocator g.A.Allocator-dict g.A.Destruct-dict)

pub returns-clause-arrays : goal.returns-clause-arrays
returns-clause-arrays g c = equality_of _ (array.laws-law g.row.A g.A.Allocator g.A.Allocator-dict g.A.Destruct-dict)
