use Rattle.std.proofs.Common.{◌≡◌, arith, rules, string_bytes, subst, sym, take}
use Rattle.jsonc_c.specs.Formats.{IsFormattedBy}
use Rattle.jsonc_c.specs.Options.{options_of}
use Rattle.jsonc_c.proofs.Formatting.{unformatted_is}
use Rattle.jsonc_c.proofs.into.jsonc_format_into.Goals as goal

pub returns-in-Err-clause-formatted : goal.returns-in-Err-clause-formatted
returns-in-Err-clause-formatted c = λ zero. absurd (omega (arith, zero, (unformatted_is _ _ _ _ c.in-Err.ensures.refused).0))

pub returns-in-Err-clause-no_room : goal.returns-in-Err-clause-no_room
returns-in-Err-clause-no_room c = λ none. absurd (omega (arith, none, (unformatted_is _ _ _ _ c.in-Err.ensures.refused).1))

pub returns-in-Ok-clause-formatted : goal.returns-in-Ok-clause-formatted
returns-in-Ok-clause-formatted c = λ zero.
    let filled = c.fill.ensures.filled zero in
    let same : take c.fill.new.len c.fill.new.room ≡ string_bytes c.in-Ok.made = search (rules, filled) in
    subst (IsFormattedBy (options_of c.args.options) c.args.style.now c.args.text.now) (sym same) c.in-Ok.ensures.formatted

pub returns-in-Ok-clause-refused : goal.returns-in-Ok-clause-refused
returns-in-Ok-clause-refused c = λ some room. absurd (room (c.fill.ensures.no_room some).0)
