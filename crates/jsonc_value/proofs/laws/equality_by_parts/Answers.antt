use Rattle.jsonc_value.proofs.Equality.{equal_at_names, array_eq_is}
use Rattle.jsonc_value.proofs.laws.equality_by_parts.Goals as goal

pub returns-clause-objects : goal.returns-clause-objects
returns-clause-objects g c = equal_at_names g.row.A g.A.Allocator g.A.Allocator-dict g.A.Destruct-dict

pub returns-clause-arrays : goal.returns-clause-arrays
returns-clause-arrays g c = array_eq_is g.row.A g.A.Allocator g.A.Allocator-dict g.A.Destruct-dict
