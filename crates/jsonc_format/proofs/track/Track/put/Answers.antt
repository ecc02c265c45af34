use Rattle.std.proofs.Common.{◌∙◌, sym, ap, ◌++◌, append_assoc, chars}
use Rattle.jsonc_format.specs.Format.{written}
use Rattle.jsonc_format.specs.Tracks.{track_state, gap_here}
use Rattle.jsonc_format.specs.Writing.{style_in, text_of}
use Rattle.jsonc_format.proofs.Results.{on_ok, ok_here}
use Rattle.jsonc_format.proofs.track.Track.put.Goals as goal

pub returns : goal.returns
returns g c = λ p ps e f h k l.
    let s = c.args.self.now in
    let gap = gap_here s.begun (style_in c.args.layout.now) (track_state s) p ps in
    let one = ok_here c.put_before.result (c.put_before.ensures p ps e h l) c.in_ok-put_before.was in
    let two = ok_here c.put_piece.result (c.put_piece.ensures p.what h) c.in_ok-put_piece.was in
    on_ok c.pass.result (c.pass.ensures p.what ps h k) (λ q. record {
      text = two ∙ ap (λ t. t ++ written p.what (chars c.args.text.now)) one ∙ append_assoc (text_of c.args.out.now) gap (written p.what (chars c.args.text.now)) ∙ ap (λ t. text_of c.args.out.now ++ (gap ++ written p.what t)) (sym f);
      passed = q;
    })
