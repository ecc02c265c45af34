use Rattle.std.specs.Prelude.{◌≡◌, ◌<◌, true, get_or}
use mathlib.Core.Path.{sym, subst, ◌∙◌}
use native.Mathlib.Omega.{arith}
use borrow.Author.Count.{below_more}
use Rattle.std.specs.Option.{option_eq}
use Rattle.std.specs.Prelude.{length}
use Rattle.std.specs.Map.{keys_of, lookup}
use Rattle.jsonc_value.specs.Equal.{as_map}
use Rattle.std_collections.proofs.HashMapEq.{key_at, own_value, unequal_at, unequal_len, equal_by_keys}
use Rattle.jsonc_value.proofs.map.equality.MapPartialEq.eq.Goals as goal

pub returns-then-len : goal.returns-then-len
returns-then-len g c =
    unequal_len _ g.met.K.Eq.laws _ (as_map c.args.self.now) (as_map c.args.other.now) c.len-len.ensures.unique c.len.ensures.unique
    (λ e. c.if-len.true (c.len-len.ensures.len ∙ e ∙ sym c.len.ensures.len))

pub returns-then-not-eq : goal.returns-then-not-eq
returns-then-not-eq g c =
    let i = c.loop-i.i in
    let k = c.pair_at.result.0.now in
    let within : i < length c.args.self.now = omega (arith, c.loop-i-test.true, c.len-len.ensures.len) in
    let mine = own_value _ g.met.K.Eq.laws c.args.self.now i k _ c.pair_at.ensures c.len-len.ensures.unique within in
    unequal_at _ g.met.K.Eq.laws _ (as_map c.args.self.now) (as_map c.args.other.now) k
    ((λ j. option_eq g.V.PartialEq.eq (mine j) (sym c.in-Some.ensures j)) ∙ sym c.eq.ensures ∙ c.if-not-eq.true)

pub returns-in-None : goal.returns-in-None
returns-in-None g c =
    let i = c.loop-i.i in
    let k = c.pair_at.result.0.now in
    let within : i < length c.args.self.now = omega (arith, c.loop-i-test.true, c.len-len.ensures.len) in
    let mine = own_value _ g.met.K.Eq.laws c.args.self.now i k _ c.pair_at.ensures c.len-len.ensures.unique within in
    unequal_at _ g.met.K.Eq.laws _ (as_map c.args.self.now) (as_map c.args.other.now) k (λ j. option_eq g.V.PartialEq.eq (mine j) (sym c.in-None.ensures j))

pub loop-i-preserved : goal.loop-i-preserved
loop-i-preserved g c =
    let i = c.loop-i.i in
    let k = c.pair_at.result.0.now in
    let within : i < length c.args.self.now = omega (arith, c.loop-i-test.true, c.len-len.ensures.len) in
    let mine = own_value _ g.met.K.Eq.laws c.args.self.now i k _ c.pair_at.ensures c.len-len.ensures.unique within in
    let agree = λ (x : g.row.K.Denot). option_eq g.V.PartialEq.eq (lookup (g.K.PartialEq.eq x) c.args.self.now) (lookup (g.K.PartialEq.eq x) c.args.other.now) ≡ true in
    let here : agree k = (λ j. option_eq g.V.PartialEq.eq (mine j) (sym c.in-Some.ensures j)) ∙ sym c.eq.ensures ∙ c.if-not-eq.false in
    below_more (λ n. (d : g.row.K.Denot) → agree (get_or (keys_of c.args.self.now) n d)) i c.loop-i.invariant
    (λ d. subst agree (sym (key_at _ g.met.K.Eq.laws c.args.self.now i k _ c.pair_at.ensures d)) here)

pub returns : goal.returns
returns g c =
    equal_by_keys _ g.met.K.Eq.laws _ (as_map c.args.self.now) (as_map c.args.other.now) c.len-len.ensures.unique c.len.ensures.unique
    (omega (arith, c.if-len.false, c.len-len.ensures.len, c.len.ensures.len)) (λ k p. c.loop-i.invariant k (omega (arith, c.loop-i-test.false, c.len-len.ensures.len)))
