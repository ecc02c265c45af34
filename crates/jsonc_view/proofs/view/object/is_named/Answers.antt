use Rattle.jsonc_text.proofs.TokenTexts.{same_bytes}
use Rattle.std.proofs.Common.{◌∙◌, ap, chars, bytes_eq}
use Rattle.jsonc_view.proofs.view.object.is_named.Goals as goal

pub returns : goal.returns
returns g c = λ t h. c.eq.ensures ∙ same_bytes c.args.name.now c.name_at.result.now c.utf8.name c.name_at.utf8 ∙ ap (bytes_eq (chars c.args.name.now)) (c.name_at.ensures t h)
