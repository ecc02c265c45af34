use Rattle.std.proofs.Common.{◌≡◌, ◌∙◌, ◌++◌, ap, drop, refl}
use Rattle.jsonc_walk.proofs.lemmas.Stacked.{Parted, parted}
use Rattle.jsonc_view.specs.Made.{IsGrown}
use Rattle.jsonc_view.proofs.Growing.{extends_none, grown_on}
use Rattle.jsonc_view.proofs.Making.{object_shown}
use Rattle.jsonc_view.proofs.maker.ViewMakerReceiverString.close_object.Goals as goal

pub moved-requires : goal.moved-requires
moved-requires g c =
    let h = c.requires.held.2 in
    (parted c.args.self.now.members.items c.requires.held.0.members.items h.members c.args.object h.begins h.stacked).within

pub returns-clause-made : goal.returns-clause-made
returns-clause-made g c = λ s ms h.
    let old = c.args.self.now in
    let apart : Parted old.members.items s.members.items h.members c.args.object = parted old.members.items s.members.items h.members c.args.object h.begins h.stacked in
    let grown : IsGrown old.rows _ = record { text = refl; decoded = extends_none old.rows.decoded.items; elements = extends_none old.rows.elements.items; members = (drop c.args.object old.members.items, c.in_ok-moved.ensures.rows) } in
    record {
      source = h.source;
      stacks = (h.same, c.in_ok-moved.ensures.left ∙ apart.left);
      grown = grown_on s.rows old.rows _ h.grown grown;
      shown = object_shown old.rows _ grown h.members c.in_ok-moved.field-0 ms h.shown (c.in_ok-moved.ensures.rows ∙ ap (λ l. old.rows.members.items ++ l) apart.taken) c.in_ok-moved.ensures.from c.in_ok-moved.ensures.to;
    }
