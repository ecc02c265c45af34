use Rattle.std.proofs.Common.{◌≡◌, ◌<◌, Some, length, get_or, slice_get, refl, sym, ap, ◌∙◌, subst}
use Rattle.std.specs.Map.{values_of}
use Rattle.std.proofs.lemmas.Option.{slice_get_read}
use Rattle.indexmap.specs.Layout.{set_value_at}
use Rattle.jsonc_value.proofs.Pairs.{value_at, set_is_value}
use Rattle.jsonc_value.proofs.Stores.{few_pairs, few_distinct, few_lent, many_pairs, many_hold, many_lent}
use Rattle.jsonc_value.proofs.map.Map.value_mut.Goals as goal

pub invariant_of-self-lent : goal.invariant_of-self-lent
invariant_of-self-lent g c = λ w.
    let eq = g.K.PartialEq.eq in
    let e = c.index_mut.result.now in
    let there : e ≡ get_or c.in-Few.pairs.items c.args.index e = rw c.in-Few.is at c.index_mut.ensures.value in
    few_lent eq g.K.Hash.hash_input _ c.in-Few.pairs.items c.args.index e w there (few_distinct c.self.inside.store eq g.K.Hash.hash_input c.self.invariant c.in-Few.pairs c.in-Few.is)
    (rw c.in-Few.is refl) (rw c.in-Few.is tt)

pub invariant_of-self-lent-in-Many : goal.invariant_of-self-lent-in-Many
invariant_of-self-lent-in-Many g c = λ w.
    let eq = g.K.PartialEq.eq in
    let both = c.deref_mut.result.now in
    let lent : both ≡ c.in-Many.both.value = rw c.in-Many.is at c.deref_mut.ensures.value in
    let holds = many_hold c.self.inside.store eq g.K.Hash.hash_input c.self.invariant c.in-Many.both both c.in-Many.is lent in
    many_lent eq g.K.Hash.hash_input _ both c.args.index c.index_mut-in-Many.result.now w c.index_mut-in-Many.ensures.value holds (rw c.in-Many.is refl) (rw c.in-Many.is (λ k. k))

pub returns-in-Few : goal.returns-in-Few
returns-in-Few g c =
    let es = c.in-Few.pairs.items in
    let i = c.args.index in
    let e = c.index_mut.result.now in
    let there : e ≡ get_or es i e = rw c.in-Few.is at c.index_mut.ensures.value in
    let seen : es ≡ c.args.self.now = few_pairs c.self.inside.store c.args.self.now c.in-Few.pairs c.in-Few.is c.self.view_is in
    let within : i < length es = subst (λ l. i < length l) (sym seen) c.requires in
    let here : slice_get es i ≡ Some e = slice_get_read es (length es) i e refl within there in (
      (refl, λ w. rw c.in-Few.is (set_is_value es i e w there ∙ ap (λ l. set_value_at l i w) seen)),
      record { writes_back = tt; value = ap (λ l. slice_get (values_of l) i) (sym seen) ∙ value_at es i e here },
    )

pub returns-in-Many : goal.returns-in-Many
returns-in-Many g c =
    let both = c.deref_mut.result.now in
    let es = both.pairs.items in
    let i = c.args.index in
    let e = c.index_mut-in-Many.result.now in
    let lent : both ≡ c.in-Many.both.value = rw c.in-Many.is at c.deref_mut.ensures.value in
    let seen : es ≡ c.args.self.now = many_pairs c.self.inside.store c.args.self.now c.in-Many.both both c.in-Many.is lent c.self.view_is in
    let within : i < length es = subst (λ l. i < length l) (sym seen) c.requires in
    let here : slice_get es i ≡ Some e = slice_get_read es (length es) i e refl within c.index_mut-in-Many.ensures.value in (
      (refl, λ w. rw c.in-Many.is (set_is_value es i e w c.index_mut-in-Many.ensures.value ∙ ap (λ l. set_value_at l i w) seen)),
      record { writes_back = tt; value = ap (λ l. slice_get (values_of l) i) (sym seen) ∙ value_at es i e here },
    )
