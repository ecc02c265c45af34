use Rattle.std.proofs.Common.{◌≡◌, ◌<◌, Some, false, true, nat_eq, length, map, get_or, position, true≢false, ap, sym, ◌∙◌, arith}
use Rattle.std.specs.List.{list_any}
use Rattle.std.specs.Map.{keys_of}
use Rattle.std.proofs.lemmas.List.{length-map}
use Rattle.std.proofs.lemmas.Map.Entries.{length-keys_of}
use Rattle.jsonc_value.proofs.Pairs.{key_at}
use Rattle.jsonc_value.proofs.HashedKeys.{hash, whole, same_hash, found_by_hash, not_found}
use Rattle.jsonc_value.proofs.map.search.place_of.Goals as goal

pub returns-in_default-clause-index : goal.returns-in_default-clause-index
returns-in_default-clause-index g c =
    let input = g.K.Hash.hash_input in
    let ks = keys_of c.args.pairs.now in
    let kept : c.args.hashes.now.keys ≡ map (hash input) ks = whole input ks c.args.hashes.now.keys c.requires (λ none. true≢false (sym (c.is_empty.ensures.1 none) ∙ c.if-not-is_empty.true)) in
    let none : list_any (nat_eq c.hash_of.result) (map (hash input) ks) ≡ false = ap (list_any (nat_eq c.hash_of.result)) (sym kept) ∙ sym c.in_default.ensures.found in
    (not_found input (g.Q.Equivalent.equivalent c.args.key) c.hash_of.result (λ k e. same_hash c.hash_of.result _ _ c.hash_of.ensures (g.met.Q.Equivalent.respects_hash c.args.key k e)) ks none).index

pub returns-then-equivalent-clause-index : goal.returns-then-equivalent-clause-index
returns-then-equivalent-clause-index g c =
    let input = g.K.Hash.hash_input in
    let p = g.Q.Equivalent.equivalent c.args.key in
    let pairs = c.args.pairs.now in
    let ks = keys_of pairs in
    let i = c.in-Some.place in
    let pair = c.index-pairs-place.result in
    let kept : c.args.hashes.now.keys ≡ map (hash input) ks = whole input ks c.args.hashes.now.keys c.requires (λ none. true≢false (sym (c.is_empty.ensures.1 none) ∙ c.if-not-is_empty.true)) in
    let at : Some i ≡ position (nat_eq c.hash_of.result) (map (hash input) ks) = c.in-Some.ensures.index ∙ ap (position (nat_eq c.hash_of.result)) kept in
    let short : i < length pairs = omega (arith, c.in-Some.ensures.within, ap length kept, length-map ks (hash input), length-keys_of pairs) in
    let within : i < length ks = omega (arith, short, length-keys_of pairs) in
    let here : p (get_or ks i pair.0) ≡ true = ap p (key_at pairs i pair pair.0 short) ∙ sym c.equivalent.ensures ∙ c.if-equivalent.true in
    (found_by_hash input p c.hash_of.result (λ k e. same_hash c.hash_of.result _ _ c.hash_of.ensures (g.met.Q.Equivalent.respects_hash c.args.key k e)) ks i pair.0 within at here).index

pub returns-in_default-clause-found : goal.returns-in_default-clause-found
returns-in_default-clause-found g c =
    let input = g.K.Hash.hash_input in
    let ks = keys_of c.args.pairs.now in
    let kept : c.args.hashes.now.keys ≡ map (hash input) ks = whole input ks c.args.hashes.now.keys c.requires (λ none. true≢false (sym (c.is_empty.ensures.1 none) ∙ c.if-not-is_empty.true)) in
    let none : list_any (nat_eq c.hash_of.result) (map (hash input) ks) ≡ false = ap (list_any (nat_eq c.hash_of.result)) (sym kept) ∙ sym c.in_default.ensures.found in
    (not_found input (g.Q.Equivalent.equivalent c.args.key) c.hash_of.result (λ k e. same_hash c.hash_of.result _ _ c.hash_of.ensures (g.met.Q.Equivalent.respects_hash c.args.key k e)) ks none).found

pub returns-then-equivalent-clause-found : goal.returns-then-equivalent-clause-found
returns-then-equivalent-clause-found g c =
    let input = g.K.Hash.hash_input in
    let p = g.Q.Equivalent.equivalent c.args.key in
    let pairs = c.args.pairs.now in
    let ks = keys_of pairs in
    let i = c.in-Some.place in
    let pair = c.index-pairs-place.result in
    let kept : c.args.hashes.now.keys ≡ map (hash input) ks = whole input ks c.args.hashes.now.keys c.requires (λ none. true≢false (sym (c.is_empty.ensures.1 none) ∙ c.if-not-is_empty.true)) in
    let at : Some i ≡ position (nat_eq c.hash_of.result) (map (hash input) ks) = c.in-Some.ensures.index ∙ ap (position (nat_eq c.hash_of.result)) kept in
    let short : i < length pairs = omega (arith, c.in-Some.ensures.within, ap length kept, length-map ks (hash input), length-keys_of pairs) in
    let within : i < length ks = omega (arith, short, length-keys_of pairs) in
    let here : p (get_or ks i pair.0) ≡ true = ap p (key_at pairs i pair pair.0 short) ∙ sym c.equivalent.ensures ∙ c.if-equivalent.true in
    (found_by_hash input p c.hash_of.result (λ k e. same_hash c.hash_of.result _ _ c.hash_of.ensures (g.met.Q.Equivalent.respects_hash c.args.key k e)) ks i pair.0 within at here).found
