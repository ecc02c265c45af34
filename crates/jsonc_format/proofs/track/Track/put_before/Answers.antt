use Rattle.std.proofs.Common.{◌∙◌, ap, refl, ◌++◌}
use Rattle.jsonc_format.specs.Classes.{closes_by, separates_by}
use Rattle.jsonc_format.specs.Format.{in_line}
use Rattle.jsonc_format.specs.Writing.{gap_by, style_in, text_of}
use Rattle.jsonc_format.proofs.NextEnds.{in_line_told}
use Rattle.jsonc_format.proofs.Results.{on_ok}
use Rattle.jsonc_format.proofs.States.{gap_put}
use Rattle.jsonc_format.proofs.track.Track.put_before.Goals as goal

pub returns : goal.returns
returns g c = λ p ps e h l.
    let s = c.args.self.now in
    let k = c.args.class in
    let ends = c.args.ends in
    let told = c.gap_before-before.ensures ∙ ap (λ b. gap_by s.frames.inner s.beside (separates_by k) (closes_by k) b ends.several c.args.leading) (in_line_told ends p.gap e)
    ∙ ap (λ b. gap_by s.frames.inner s.beside (separates_by k) (closes_by k) (in_line p.gap) b c.args.leading) e.several in
    on_ok c.put_gap.result c.put_gap.ensures (λ q. q ∙ ap (λ t. text_of c.args.out.now ++ t)
    (gap_put (style_in c.args.layout.now) s.begun s.frames.inner s.frames.outer.items s.beside k c.args.leading p.gap c.gap_before-before.result p ps s.frames.innermost c.if-not-self.false told refl h l))
