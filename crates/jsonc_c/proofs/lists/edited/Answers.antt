use Rattle.std.proofs.Common.{◌≡◌, ◌∙◌, ap, rules, string_bytes, subst}
use Rattle.std.specs.declared.alloc.Global.{Global}
use Rattle.jsonc_text.specs.OptionsOf.{parse_options}
use Rattle.jsonc_parser.specs.Promise.{IsNotEdited}
use Rattle.jsonc_c.specs.Options.{options_of}
use Rattle.jsonc_c.proofs.Reading.{counted}
use Rattle.jsonc_c.proofs.Unedited.{edited_so, unedited_stop, unedited_text}
use Rattle.jsonc_c.proofs.lists.edited.Goals as goal

pub returns-in-Ok-clause-edited : goal.returns-in-Ok-clause-edited
returns-in-Ok-clause-edited c = λ listed read.
    let same : parse_options c.options_of.result ≡ options_of c.args.options = search rules in
    edited_so Global (parse_options c.options_of.result) (options_of c.args.options) c.args.text.now listed same c.args.edits.items (string_bytes c.in-Ok.made) read c.in-Ok.ensures.edited

pub returns-in-Err-Parse-clause-refused : goal.returns-in-Err-Parse-clause-refused
returns-in-Err-Parse-clause-refused c = λ listed read.
    let same : parse_options c.options_of.result ≡ options_of c.args.options = search rules in
    unedited_text Global (parse_options c.options_of.result) (options_of c.args.options) c.args.text.now listed same c.in-Err-Parse.error c.tell_error.result c.tell_error.new.fault
    (subst (IsNotEdited {A = Global} (parse_options c.options_of.result) c.args.text.now c.args.edits.items) c.in-Err-Parse.field-0-is c.in-Err-Parse.ensures.refused)
    c.tell_error.ensures.status (c.tell_error.ensures.made ∙ ap (λ f. f.made) c.requires.untold)

pub returns-in-Err-Edit-clause-refused : goal.returns-in-Err-Edit-clause-refused
returns-in-Err-Edit-clause-refused c = λ listed read.
    let same : parse_options c.options_of.result ≡ options_of c.args.options = search rules in
    unedited_stop Global (parse_options c.options_of.result) (options_of c.args.options) c.args.text.now listed same c.args.edits.items c.in-Err-Edit.error (counted c.args.fault.now c.in-Err-Edit.made) c.edit_status.result read
    (subst (IsNotEdited {A = Global} (parse_options c.options_of.result) c.args.text.now c.args.edits.items) c.in-Err-Edit.field-0-is c.in-Err-Edit.ensures.refused)
    c.edit_status.ensures
