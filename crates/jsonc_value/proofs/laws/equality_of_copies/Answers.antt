use Rattle.jsonc_value.proofs.Copies.{equal_values, equal_objects, equal_arrays}
use Rattle.jsonc_value.proofs.laws.equality_of_copies.Goals as goal

pub returns-clause-values : goal.returns-clause-values
returns-clause-values g c = equal_values g.row.A g.A.Allocator g.A.Allocator-dict g.A.Destruct-dict

pub returns-clause-objects : goal.returns-clause-objects
returns-clause-objects g c = equal_objects g.row.A g.A.Allocator g.A.Allocator-dict g.A.Destruct-dict

pub returns-clause-arrays : goal.returns-clause-arrays
returns-clause-arrays g c = equal_arrays g.row.A g.A.Allocator g.A.Allocator-dict g.A.Destruct-dict
