use Rattle.std.proofs.Common.{◌≡◌, ◌∙◌, rules, string_bytes}
use Rattle.std.specs.declared.alloc.Global.{Global}
use Rattle.jsonc_text.specs.OptionsOf.{parse_options}
use Rattle.jsonc_c.specs.Options.{options_of}
use Rattle.jsonc_c.proofs.Mending.{mended_by}
use Rattle.jsonc_c.proofs.mends.mended.Goals as goal

pub returns-clause-mended : goal.returns-clause-mended
returns-clause-mended c =
    let same : parse_options c.options_of.result ≡ options_of c.args.options = search rules in
    let read : c.in-Ok.text.now ≡ c.args.text.now = search rules in
    mended_by Global (parse_options c.options_of.result) (options_of c.args.options) c.args.text.now c.in-Ok.text.now (string_bytes c.into_parts-made.result.0) c.as_slice.result.now
    c.in-Ok-listed.list.items c.in-Ok-mend.mends same read c.in-Ok-mend.ensures c.into_parts-made.ensures.text (c.as_slice.ensures.value ∙ c.into_parts-made.ensures.list) c.in-Ok-listed.ensures
