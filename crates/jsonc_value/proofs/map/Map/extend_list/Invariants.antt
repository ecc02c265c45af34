use Rattle.std.proofs.Common.{reverse, vec_len}
use Rattle.jsonc_value.specs.Lists.{InsertsUpTo}
use Rattle.jsonc_value.proofs.map.Map.extend_list.Given as goal

abbrev pub invariant-loop-key : goal.invariant-loop-key
invariant-loop-key g l = InsertsUpTo g.K.PartialEq.eq l.initial.self l.fn.pairs.items (reverse l.rest.items) l.self

abbrev pub decreases-loop-key : goal.decreases-loop-key
decreases-loop-key g l = vec_len l.rest
