use Rattle.std.proofs.Common.{◌≡◌, ◌∷◌, [], ◌++◌, ◌+◌, ◌<◌, false, length, take, get_or, refl, ap, ◌∙◌, arith}
use Rattle.std.specs.List.{list_any}
use Rattle.std.specs.Map.{keys_of}
use Rattle.std.proofs.lemmas.List.{take-map}
use Rattle.std.proofs.lemmas.Map.Entries.{length-keys_of}
use Rattle.jsonc_value.specs.to_value.Views.{same_name}
use Rattle.jsonc_value.proofs.Equality.{key_equiv}
use Rattle.jsonc_value.proofs.Pairs.{key_at}
use Rattle.jsonc_value.proofs.HashedKeys.{taken_more}
use Rattle.jsonc_value.proofs.DistinctKeys.{none_distinct, push_distinct}
use Rattle.jsonc_value.proofs.to_value.names.are_few_distinct.Goals as goal

pub loop-place-init : goal.loop-place-init
loop-place-init g c = none_distinct same_name [] refl

pub loop-place-preserved : goal.loop-place-preserved
loop-place-preserved g c =
    let pairs = c.args.properties.now in
    let i = c.loop-place.place in
    let key = (get_or pairs i c.index-properties-place.result).0 in
    let within : i < length (keys_of pairs) = omega (arith, c.loop-place-test.true, length-keys_of pairs) in
    let more : take (i + 1) (keys_of pairs) ≡ take i (keys_of pairs) ++ key ∷ [] = taken_more (keys_of pairs) i key within (key_at pairs i c.index-properties-place.result key c.loop-place-test.true) in
    let none : list_any (same_name key) (take i (keys_of pairs)) ≡ false = ap (list_any (same_name key)) (take-map (λ p. p.0) i pairs) ∙ c.if-not-lacks_name.ensures refl in
    push_distinct same_name key_equiv key (take i (keys_of pairs)) (take (i + 1) (keys_of pairs)) more none c.loop-place.invariant
