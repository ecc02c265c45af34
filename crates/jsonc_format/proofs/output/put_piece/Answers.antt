use Rattle.std.proofs.Common.{◌∙◌, ap, ◌++◌}
use Rattle.jsonc_format.specs.Classes.{is_line}
use Rattle.jsonc_format.specs.Writing.{text_of}
use Rattle.jsonc_format.proofs.Results.{on_ok}
use Rattle.jsonc_format.proofs.Texts.{line_written}
use Rattle.jsonc_format.proofs.output.put_piece.Goals as goal

pub returns-in-LineComment : goal.returns-in-LineComment
returns-in-LineComment g c = λ w h.
    on_ok c.put.result c.put.ensures (λ e. e ∙ ap (λ s. text_of c.args.out.now ++ s) (line_written w c.args.text.now c.trim_end.result.now c.utf8.text c.trim_end.ensures.trim (h.line ∙ ap is_line c.in-LineComment.is)))
