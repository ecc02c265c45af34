use Rattle.std.proofs.Common.{◌≡◌, length}
use Rattle.jsonc_sort.proofs.lemmas.ordering.AnsweredKeys.{AreKeysBelow}
use Rattle.jsonc_sort.proofs.ordering.keys.keys_of.Given as goal

abbrev pub invariant-loop-place : goal.invariant-loop-place
invariant-loop-place g l = (length l.keys.items ≡ l.place) × AreKeysBelow g.F.Fn l.fn.key l.fn.doc l.fn.nodes l.place l.keys.items
