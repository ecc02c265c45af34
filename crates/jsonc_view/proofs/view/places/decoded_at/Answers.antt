use Rattle.jsonc_view.proofs.Reading.{decoded_same, decoded_there}
use Rattle.std.proofs.Common.{◌∙◌, ap, subst, sym, get_or, ◌≡◌, arith, length, chars}
use Rattle.jsonc_view.proofs.view.places.decoded_at.Goals as goal

pub bounds-decoded-number : goal.bounds-decoded-number
bounds-decoded-number g c = omega (arith, decoded_there c.args.rows.now c.args.number c.requires.0 c.requires.1, ap length c.as_slice-decoded.ensures.value)

pub returns : goal.returns
returns g c = λ t h.
    let s = c.index-decoded-number.result in
    let there : s ≡ get_or c.args.rows.now.decoded.items c.args.number s = c.index-decoded-number.is ∙ ap (λ l. get_or l c.args.number s) c.as_slice-decoded.ensures.value in
    ap chars c.as_str.ensures.value ∙ decoded_same c.args.rows.now c.args.number t s h there
