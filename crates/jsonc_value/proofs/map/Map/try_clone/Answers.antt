use Rattle.std.proofs.Common.{sym, ap, subst, ◌∙◌}
use Rattle.std.specs.List.{AllZip}
use Rattle.std.specs.Map.{keys_of}
use Rattle.jsonc_value.proofs.Pairs.{cloned_keys}
use Rattle.jsonc_value.proofs.CopiedKeys.{copied_distinct, copied_hashes}
use Rattle.jsonc_value.proofs.Stores.{few_distinct, many_hold}
use Rattle.jsonc_value.proofs.map.Map.try_clone.Goals as goal

pub invariant_of-result : goal.invariant_of-result
invariant_of-result g c =
    let eq = g.K.PartialEq.eq in
    let old = c.in-Few.pairs.items in
    let new = c.in_ok-copies-in-Few.copies.items in
    let all = cloned_keys g.K.Clone.is_clone g.V.Clone.is_clone old new c.in_ok-copies-in-Few.ensures.cases.0 in (
      copied_distinct g.K.Hash.hash_input eq g.met.K.Eq.laws g.met.K.Hash.respects_eq g.K.Clone.is_clone c.requires (keys_of old) (keys_of new) all
          (few_distinct c.self.inside.store eq g.K.Hash.hash_input c.self.invariant c.in-Few.pairs c.in-Few.is),
      tt,
    )

pub invariant_of-result-in-Many : goal.invariant_of-result-in-Many
invariant_of-result-in-Many g c =
    let eq = g.K.PartialEq.eq in
    let input = g.K.Hash.hash_input in
    let is_clone = g.K.Clone.is_clone in
    let both = c.deref.result.now in
    let copies = c.in_ok-copies-in-Many.copies.items in
    let copy = c.in_ok-copy-in-Many.copy in
    let said = c.in_ok-copy-in-Many.ensures in
    let ks = keys_of both.pairs.items in
    let ls = keys_of copy.value.pairs.items in
    let cloned : AllZip is_clone ks (keys_of copies) = cloned_keys is_clone g.V.Clone.is_clone both.pairs.items copies c.in_ok-copies-in-Many.ensures.cases.0 in
    let all : AllZip is_clone ks ls = subst (AllZip is_clone ks) (sym (ap (λ v. keys_of v.items) said.pairs)) cloned in
    let holds = many_hold c.self.inside.store eq input c.self.invariant c.in-Many.both both c.in-Many.is c.deref.ensures in (
      copied_distinct input eq g.met.K.Eq.laws g.met.K.Hash.respects_eq is_clone c.requires ks ls all holds.0,
      copied_hashes input eq g.met.K.Eq.laws g.met.K.Hash.respects_eq is_clone c.requires ks ls both.hashes.keys copy.value.hashes.keys all
          (said.hashes ∙ sym (ap (λ h. h.hashes.keys) c.deref.ensures)) holds.1,
    )
