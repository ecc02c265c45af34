use Rattle.std.proofs.Common.{◌∙◌, [], ◌∷◌, refl, chars, string_bytes}
use Rattle.std.specs.Prelude.{option_map, slice_get}
use Rattle.jsonc_view.proofs.Growing.{extends_none, get_last}
use Rattle.jsonc_view.proofs.maker.ViewMaker.keep.Goals as goal

pub returns : goal.returns
returns g c =
    let old = c.args.self.now in
    record {
      source = refl;
      stacks = (refl, refl);
      grown = record { text = refl; decoded = (c.args.value ∷ [], c.in_ok-push.ensures.items); elements = extends_none old.rows.elements.items; members = extends_none old.rows.members.items };
      shown = (λ j. option_map (λ s. chars (string_bytes s)) (slice_get (c.in_ok-push.ensures.items j) (c.in_ok-number.ensures j))) ∙ get_last (λ s. chars (string_bytes s)) old.rows.decoded.items c.args.value;
    }
