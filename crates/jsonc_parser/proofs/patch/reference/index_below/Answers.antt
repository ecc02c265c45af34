use Rattle.std.proofs.Common.{◌<◌, ◌^◌, ℕ, Option, subst}
use Rattle.std.specs.Option.{SomeIff}
use Rattle.std.specs.Str.Parse.{IsNumeral, digits_value}
use Rattle.jsonc_parser.proofs.lemmas.patch.Indexes.{index_beyond, index_large, index_padded, index_there}
use Rattle.jsonc_parser.proofs.patch.reference.index_below.Goals as goal

pub returns-in_default-clause-none : goal.returns-in_default-clause-none
returns-in_default-clause-none c =
    let token = c.args.token.now in
    let none = subst (λ (r : Option ℕ). SomeIff r (IsNumeral 10 token × (digits_value 10 token < 2 ^ 64)) (digits_value 10 token)) c.in_default.is c.digits_usize.ensures in
    index_large token c.args.limit c.utf8.token c.ranges.limit.fits none

pub returns-then-is_padded-clause-none : goal.returns-then-is_padded-clause-none
returns-then-is_padded-clause-none c = index_padded c.args.token.now c.args.limit c.is_padded.result c.utf8.token c.is_padded.ensures c.if-is_padded.true

pub returns-then-index-limit-clause-none : goal.returns-then-index-limit-clause-none
returns-then-index-limit-clause-none c =
    let token = c.args.token.now in
    let there = subst (λ (r : Option ℕ). SomeIff r (IsNumeral 10 token × (digits_value 10 token < 2 ^ 64)) (digits_value 10 token)) c.in-Some.is c.digits_usize.ensures in
    index_beyond token c.args.limit c.in-Some.index c.utf8.token there.1 c.if-index-limit.true

pub returns-clause-some : goal.returns-clause-some
returns-clause-some c =
    let token = c.args.token.now in
    let there = subst (λ (r : Option ℕ). SomeIff r (IsNumeral 10 token × (digits_value 10 token < 2 ^ 64)) (digits_value 10 token)) c.in-Some.is c.digits_usize.ensures in
    (index_there token c.in-Some.index c.is_padded.result there.0 there.1 c.is_padded.ensures c.if-is_padded.false, c.if-index-limit.false)
