use Rattle.std.proofs.Common.{refl}
use Rattle.jsonc_scan.proofs.Reading.{not_whole_name}
use Rattle.jsonc_scan.proofs.number.whole_end.Goals as goal

pub returns-then-has_either-clause-none : goal.returns-then-has_either-clause-none
returns-then-has_either-clause-none c = λ r h.
    let follower = c.if-has_either.ensures.here refl in
    not_whole_name _ _ r _ _ _ _ c.in-Some.ensures.found.piece.0 follower.1 follower.2 h
