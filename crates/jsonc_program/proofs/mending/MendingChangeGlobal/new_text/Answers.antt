use Rattle.std.proofs.Common.{◌∙◌, ◌++◌, ap, sym, take, string_bytes}
use Rattle.std.proofs.lemmas.Slice.Eq.{bytes_eq-Decides}
use Rattle.std.specs.declared.alloc.Global.{Global}
use Rattle.jsonc_text.specs.OptionsOf.{parse_options}
use Rattle.jsonc_program.specs.Mark.{mark_length}
use Rattle.jsonc_program.proofs.Mends.{kept_file, mended_file}
use Rattle.jsonc_program.proofs.mending.MendingChangeGlobal.new_text.Goals as goal

pub returns-then-eq : goal.returns-then-eq
returns-then-eq c =
    kept_file Global (parse_options c.args.self.now.options) c.args.old.now c.split_mark.result.1.now (string_bytes c.in-Ok.mends.text) c.split_mark.ensures.rest c.in-Ok.ensures.text
    (sym (c.as_bytes.ensures.value ∙ c.text.ensures) ∙ (bytes_eq-Decides c.as_bytes.result.now c.split_mark.result.1.now).0 (sym c.eq.ensures ∙ c.if-eq.true))

pub returns : goal.returns
returns c =
    mended_file Global (parse_options c.args.self.now.options) c.args.old.now c.split_mark.result.1.now (string_bytes c.in-Ok.mends.text) c.split_mark.ensures.rest c.in-Ok.ensures.text c.in-Ok-joined.new.items
    (c.in-Ok-joined.ensures ∙ ap (λ m. m ++ c.as_bytes-2.result.now) c.split_mark.ensures.mark
    ∙ ap (λ t. take (mark_length c.args.old.now) c.args.old.now ++ t) (c.as_bytes-2.ensures.value ∙ c.text-2.ensures))
