use Rattle.std.proofs.Common.{◌≡◌, refl, sym, ap, subst}
use Rattle.std.specs.List.{AllZip, IsDistinct}
use Rattle.std.specs.Map.{keys_of}
use Rattle.jsonc_value.proofs.CopiedKeys.{copied_distinct, copied_hashes}
use Rattle.jsonc_value.proofs.Stores.{many_pairs, many_hold}
use Rattle.jsonc_value.proofs.map.Map.with_copies.Goals as goal

pub invariant_of-result : goal.invariant_of-result
invariant_of-result g c =
    let eq = g.K.PartialEq.eq in
    let distinct = subst (λ l. IsDistinct eq (keys_of l)) c.self.view_is c.self.invariant.0 in (
      copied_distinct g.K.Hash.hash_input eq g.met.K.Eq.laws g.met.K.Hash.respects_eq g.K.Clone.is_clone c.requires.equal
          (keys_of c.args.self.now) (keys_of c.args.pairs.items) c.requires.keys distinct,
      tt,
    )

pub invariant_of-result-in-Many : goal.invariant_of-result-in-Many
invariant_of-result-in-Many g c =
    let eq = g.K.PartialEq.eq in
    let input = g.K.Hash.hash_input in
    let is_clone = g.K.Clone.is_clone in
    let store = c.self.inside.store in
    let both = c.in-Many.both in
    let copy = c.in_ok-copy-in-Many.copy in
    let said = c.in_ok-copy-in-Many.ensures in
    let ks = keys_of both.value.pairs.items in
    let ls = keys_of copy.value.pairs.items in
    let same : ls ≡ keys_of c.args.pairs.items = ap (λ v. keys_of v.items) said.pairs in
    let seen : both.value.pairs.items ≡ c.args.self.now = many_pairs store c.args.self.now both both.value c.in-Many.is refl c.self.view_is in
    let all : AllZip is_clone ks ls = subst (λ l. AllZip is_clone (keys_of l) ls) (sym seen) (subst (AllZip is_clone (keys_of c.args.self.now)) (sym same) c.requires.keys) in
    let holds = many_hold store eq input c.self.invariant both both.value c.in-Many.is refl in (
      copied_distinct input eq g.met.K.Eq.laws g.met.K.Hash.respects_eq is_clone c.requires.equal ks ls all holds.0,
      copied_hashes input eq g.met.K.Eq.laws g.met.K.Hash.respects_eq is_clone c.requires.equal ks ls both.value.hashes.keys copy.value.hashes.keys all said.hashes holds.1,
    )
