use Rattle.std.proofs.Common.{◌≡◌, ◌∙◌, ap, ℕ, List, IfErr, IfOk, IsUtf8, rules, string_bytes, subst}
use Rattle.std.specs.declared.alloc.Global.{Global}
use Rattle.jsonc_c.specs.Edits.{IsEdited, IsUnedited}
use Rattle.jsonc_c.specs.Options.{options_of}
use Rattle.jsonc_c.proofs.lists.text_after.Goals as goal

pub returns-in-Err-clause-refused : goal.returns-in-Err-clause-refused
returns-in-Err-clause-refused c = IsUnedited.for_edits c.in-Err.ensures.refused

pub returns-in_default-clause-refused : goal.returns-in_default-clause-refused
returns-in_default-clause-refused c =
    let other : ¬ (IsUtf8 c.args.text.now) = search rules in
    IsUnedited.for_bytes other (ap (λ f. f.made) (c.in-Ok.ensures.left ∙ c.no_fault.ensures))

pub returns-clause-edited : goal.returns-clause-edited
returns-clause-edited c =
    let read : c.in-Ok-from_utf8.text.now ≡ c.args.text.now = search rules in
    subst (λ (b : List ℕ). IfOk c.edited.result (λ made. IsEdited Global (options_of c.args.options) b c.args.edits.now (string_bytes made))) read (c.edited.ensures.edited c.args.edits.now c.in-Ok.ensures.read)

pub returns-clause-refused : goal.returns-clause-refused
returns-clause-refused c =
    let read : c.in-Ok-from_utf8.text.now ≡ c.args.text.now = search rules in
    subst (λ (b : List ℕ). IfErr c.edited.result (λ status. IsUnedited Global (options_of c.args.options) b c.args.edits.now status c.edited.new.fault)) read (c.edited.ensures.refused c.args.edits.now c.in-Ok.ensures.read)
