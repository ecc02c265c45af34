use Rattle.std.proofs.Common.{◌≡◌, ◌∙◌, ◌++◌, ap, drop, refl}
use Rattle.jsonc_walk.proofs.lemmas.Stacked.{Parted, parted}
use Rattle.jsonc_view.specs.Made.{IsGrown}
use Rattle.jsonc_view.proofs.Growing.{extends_none, grown_on}
use Rattle.jsonc_view.proofs.Making.{array_shown}
use Rattle.jsonc_view.proofs.maker.ViewMakerReceiverString.close_array.Goals as goal

pub moved-requires : goal.moved-requires
moved-requires g c =
    let h = c.requires.held.2 in
    (parted c.args.self.now.elements.items c.requires.held.0.elements.items h.elements c.args.array h.begins h.stacked).within

pub returns-clause-made : goal.returns-clause-made
returns-clause-made g c = λ s xs h.
    let old = c.args.self.now in
    let apart : Parted old.elements.items s.elements.items h.elements c.args.array = parted old.elements.items s.elements.items h.elements c.args.array h.begins h.stacked in
    let grown : IsGrown old.rows _ = record { text = refl; decoded = extends_none old.rows.decoded.items; elements = (drop c.args.array old.elements.items, c.in_ok-moved.ensures.rows); members = extends_none old.rows.members.items } in
    record {
      source = h.source;
      stacks = (c.in_ok-moved.ensures.left ∙ apart.left, h.same);
      grown = grown_on s.rows old.rows _ h.grown grown;
      shown = array_shown old.rows _ grown h.elements c.in_ok-moved.field-0 xs h.shown (c.in_ok-moved.ensures.rows ∙ ap (λ l. old.rows.elements.items ++ l) apart.taken) c.in_ok-moved.ensures.from c.in_ok-moved.ensures.to;
    }
