use Rattle.jsonc_text.proofs.lemmas.string.Escapes.{leads, unit_found, no_unit_first, no_unit_second, no_unit_third, no_unit_fourth}
use Rattle.std.proofs.Common.{arith, ◌+◌}
use Rattle.jsonc_text.proofs.lemmas.string.Faults.{few_at, few_after, past_step, written}
use Rattle.jsonc_text.proofs.string.escape.read_unit.Goals as goal

pub returns-clause-found : goal.returns-clause-found
returns-clause-found c =
    unit_found _ _ _ _ _ _ _ c.requires.backslash c.requires.u c.in-Some.ensures.found c.in-Some-hex_digit_at.ensures.found c.in-Some-hex_digit_at-2.ensures.found c.in-Some-hex_digit_at-3.ensures.found
    c.in-Some.ensures.digit c.in-Some-hex_digit_at.ensures.digit c.in-Some-hex_digit_at-2.ensures.digit c.in-Some-hex_digit_at-3.ensures.digit c.hex_value.ensures.value

pub returns-in_default-clause-none : goal.returns-in_default-clause-none
returns-in_default-clause-none c = no_unit_first _ _ c.requires.backslash c.requires.u c.in_default.ensures.none

pub returns-in_default-hex_digit_at-clause-none : goal.returns-in_default-hex_digit_at-clause-none
returns-in_default-hex_digit_at-clause-none c = no_unit_second _ _ _ c.requires.backslash c.requires.u c.in-Some.ensures.found c.in_default-hex_digit_at.ensures.none

pub returns-in_default-hex_digit_at-2-clause-none : goal.returns-in_default-hex_digit_at-2-clause-none
returns-in_default-hex_digit_at-2-clause-none c =
    no_unit_third _ _ _ _ c.requires.backslash c.requires.u c.in-Some.ensures.found c.in-Some-hex_digit_at.ensures.found c.in_default-hex_digit_at-2.ensures.none

pub returns-in_default-hex_digit_at-3-clause-none : goal.returns-in_default-hex_digit_at-3-clause-none
returns-in_default-hex_digit_at-3-clause-none c =
    no_unit_fourth _ _ _ _ _ c.requires.backslash c.requires.u c.in-Some.ensures.found c.in-Some-hex_digit_at.ensures.found c.in-Some-hex_digit_at-2.ensures.found c.in_default-hex_digit_at-3.ensures.none

pub returns-in_default-clause-few : goal.returns-in_default-clause-few
returns-in_default-clause-few c = few_at 3 c.args.text.now (c.args.place + 2) c.in_default.ensures.none

pub returns-in_default-hex_digit_at-clause-few : goal.returns-in_default-hex_digit_at-clause-few
returns-in_default-hex_digit_at-clause-few c =
    let last = few_at 2 c.args.text.now (c.args.place + 3) c.in_default-hex_digit_at.ensures.none in
    few_after 3 _ _ _ _ c.in-Some.ensures.found (omega arith) c.in-Some.ensures.digit last

pub returns-in_default-hex_digit_at-2-clause-few : goal.returns-in_default-hex_digit_at-2-clause-few
returns-in_default-hex_digit_at-2-clause-few c =
    let last = few_at 1 c.args.text.now (c.args.place + 4) c.in_default-hex_digit_at-2.ensures.none in
    let second = few_after 2 c.args.text.now (c.args.place + 3) (c.args.place + 4) _ c.in-Some-hex_digit_at.ensures.found (omega arith) c.in-Some-hex_digit_at.ensures.digit last in
    few_after 3 _ _ _ _ c.in-Some.ensures.found (omega arith) c.in-Some.ensures.digit second

pub returns-in_default-hex_digit_at-3-clause-few : goal.returns-in_default-hex_digit_at-3-clause-few
returns-in_default-hex_digit_at-3-clause-few c =
    let last = few_at 0 c.args.text.now (c.args.place + 5) c.in_default-hex_digit_at-3.ensures.none in
    let third = few_after 1 c.args.text.now (c.args.place + 4) (c.args.place + 5) _ c.in-Some-hex_digit_at-2.ensures.found (omega arith) c.in-Some-hex_digit_at-2.ensures.digit last in
    let second = few_after 2 c.args.text.now (c.args.place + 3) (c.args.place + 4) _ c.in-Some-hex_digit_at.ensures.found (omega arith) c.in-Some-hex_digit_at.ensures.digit third in
    few_after 3 _ _ _ _ c.in-Some.ensures.found (omega arith) c.in-Some.ensures.digit second

pub returns-clause-last : goal.returns-clause-last
returns-clause-last c = record {
  from = c.requires.boundary;
  to = (leads c.args.text.now (c.args.place + 4) _ _ (c.args.place + 5) c.in-Some-hex_digit_at-2.ensures.found (omega arith)).1;
  order = omega arith;
}

pub returns-clause-through : goal.returns-clause-through
returns-clause-through c = past_step c.args.text.now (c.args.place + 5) _ (c.args.place + 6) c.in-Some-hex_digit_at-3.ensures.found (omega arith)

pub returns-clause-digits : goal.returns-clause-digits
returns-clause-digits c =
    written _ _ _ _ _ _ _ c.requires.backslash c.requires.u c.in-Some.ensures.found c.in-Some-hex_digit_at.ensures.found c.in-Some-hex_digit_at-2.ensures.found c.in-Some-hex_digit_at-3.ensures.found
    c.in-Some.ensures.digit c.in-Some-hex_digit_at.ensures.digit c.in-Some-hex_digit_at-2.ensures.digit c.in-Some-hex_digit_at-3.ensures.digit c.hex_value.ensures.value
