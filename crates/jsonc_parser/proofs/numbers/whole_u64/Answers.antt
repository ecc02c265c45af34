use Rattle.std.proofs.Common.{List, ℕ}
use Rattle.jsonc_parser.proofs.NumberTexts.{HasHexPrefix, hex_some, hex_only, hex_none, decimal_some, decimal_only, decimal_none}
use Rattle.jsonc_parser.proofs.numbers.whole_u64.Goals as goal

pub returns-in-Some-clause-some : goal.returns-in-Some-clause-some
returns-in-Some-clause-some c = hex_some c.args.unsigned.now c.in-Some.digits.now c.hex_u64.result c.in-Some.ensures.some c.hex_u64.ensures

pub returns-in-Some-clause-only : goal.returns-in-Some-clause-only
returns-in-Some-clause-only c = hex_only c.args.unsigned.now c.in-Some.digits.now c.hex_u64.result c.in-Some.ensures.some c.hex_u64.ensures

pub returns-in-Some-clause-none : goal.returns-in-Some-clause-none
returns-in-Some-clause-none c = hex_none c.args.unsigned.now c.in-Some.digits.now c.hex_u64.result c.in-Some.ensures.some c.hex_u64.ensures

pub returns-in_ok-decimal_parts-in-None-clause-some : goal.returns-in_ok-decimal_parts-in-None-clause-some
returns-in_ok-decimal_parts-in-None-clause-some c =
    let none : (ds : List ℕ) → HasHexPrefix c.args.unsigned.now ds → ⊥ = λ ds h. c.in-None.ensures.none h.0 ds h.1 h.2 in
    let parts = c.in_ok-decimal_parts-in-None in
    decimal_some c.args.unsigned.now parts.field-0 c.whole_u64.result none parts.ensures.digits parts.ensures.some parts.ensures.only c.whole_u64.ensures

pub returns-in_ok-decimal_parts-in-None-clause-only : goal.returns-in_ok-decimal_parts-in-None-clause-only
returns-in_ok-decimal_parts-in-None-clause-only c =
    let none : (ds : List ℕ) → HasHexPrefix c.args.unsigned.now ds → ⊥ = λ ds h. c.in-None.ensures.none h.0 ds h.1 h.2 in
    let parts = c.in_ok-decimal_parts-in-None in
    decimal_only c.args.unsigned.now parts.field-0 c.whole_u64.result none parts.ensures.digits parts.ensures.some parts.ensures.only c.whole_u64.ensures

pub returns-in_ok-decimal_parts-in-None-clause-none : goal.returns-in_ok-decimal_parts-in-None-clause-none
returns-in_ok-decimal_parts-in-None-clause-none c =
    let none : (ds : List ℕ) → HasHexPrefix c.args.unsigned.now ds → ⊥ = λ ds h. c.in-None.ensures.none h.0 ds h.1 h.2 in
    let parts = c.in_ok-decimal_parts-in-None in
    decimal_none c.args.unsigned.now parts.field-0 c.whole_u64.result none parts.ensures.digits parts.ensures.some parts.ensures.only c.whole_u64.ensures
