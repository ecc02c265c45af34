use Rattle.std.proofs.Common.{◌≡◌, arith, rules, string_bytes, subst, sym, take}
use Rattle.std.specs.declared.alloc.Global.{Global}
use Rattle.jsonc_c.specs.Edits.{IsEdited}
use Rattle.jsonc_c.specs.Options.{options_of}
use Rattle.jsonc_c.proofs.Unedited.{unedited_tells}
use Rattle.jsonc_c.proofs.into.jsonc_edit_into.Goals as goal

pub returns-in-Err-clause-edited : goal.returns-in-Err-clause-edited
returns-in-Err-clause-edited c = λ zero. absurd (omega (arith, zero, (unedited_tells c.in-Err.ensures.refused).0))

pub returns-in-Err-clause-no_room : goal.returns-in-Err-clause-no_room
returns-in-Err-clause-no_room c = λ none. absurd ((unedited_tells c.in-Err.ensures.refused).1 none)

pub returns-clause-edited : goal.returns-clause-edited
returns-clause-edited c = λ zero.
    let filled = c.fill.ensures.filled zero in
    let same : take c.fill.new.len c.fill.new.room ≡ string_bytes c.in-Ok.made = search (rules, filled) in
    subst (IsEdited Global (options_of c.args.options) c.args.text.now c.args.edits.now) (sym same) c.in-Ok.ensures.edited

pub returns-clause-refused : goal.returns-clause-refused
returns-clause-refused c = λ some room. absurd (room (c.fill.ensures.no_room some).0)
