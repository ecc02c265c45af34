use Rattle.std.specs.Prelude.{◌≡◌, ℕ, ◌<◌, true, get_or}
use Rattle.std.specs.Option.{option_eq}
use Rattle.std.specs.Map.{keys_of, lookup}
use Rattle.jsonc_value.proofs.map.equality.MapPartialEq.eq.Given as goal

abbrev pub invariant-loop-i : goal.invariant-loop-i
invariant-loop-i g l = (k : ℕ) → k < l.i → (d : g.row.K.Denot)
    → option_eq g.V.PartialEq.eq (lookup (g.K.PartialEq.eq (get_or (keys_of l.self) k d)) l.self) (lookup (g.K.PartialEq.eq (get_or (keys_of l.self) k d)) l.other) ≡ true
