use Rattle.std.proofs.Common.{◌∙◌, sym, ap, ◌++◌}
use Rattle.jsonc_format.specs.Writing.{text_of, style_in, open_frames, gap_text}
use Rattle.jsonc_format.proofs.Results.{on_ok}
use Rattle.jsonc_format.proofs.Texts.{one_space}
use Rattle.jsonc_format.proofs.output.put_gap.Goals as goal

pub returns-in-Space : goal.returns-in-Space
returns-in-Space g c = on_ok c.put.result c.put.ensures (λ e. e ∙ ap (λ s. text_of c.args.out.now ++ s) (one_space ∙ ap (gap_text (style_in c.args.layout.now) (open_frames c.args.held.now)) (sym c.in-Space.is)))
