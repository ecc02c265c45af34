use Rattle.std.proofs.Common.{refl, [], ◌∷◌, ◌++◌}
use Rattle.std.proofs.lemmas.List.Elements.{All-nil, All-cons, All-append, All-same}
use Rattle.jsonc_mend.specs.Places.{IsKnown}
use Rattle.jsonc_mend.proofs.KnownPlaces.{known_start}
use Rattle.jsonc_mend.proofs.places.known_places.Goals as goal

pub loop-place-init : goal.loop-place-init
loop-place-init g c = record {
  last = known_start _ _ c.utf8.text refl refl refl;
  known = All-same (IsKnown c.args.text.now) c.new-known.result.items [] c.new-known.ensures.items (All-nil (IsKnown c.args.text.now));
}

pub loop-place-preserved : goal.loop-place-preserved
loop-place-preserved g c =
    let P = IsKnown c.args.text.now in
    record {
      last = c.walk_on-last.ensures;
      known = All-same P c.push.new.self.items (c.loop-place.known.items ++ c.walk_on-last.result ∷ []) c.in_ok-push.ensures.items
          (All-append P c.loop-place.known.items (c.walk_on-last.result ∷ []) c.loop-place.invariant.known (All-cons P c.walk_on-last.result [] c.walk_on-last.ensures (All-nil P)));
    }
