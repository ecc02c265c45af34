use Rattle.std.proofs.Common.{◌≡◌, ℕ, ◌<◌, [], get_or, map}
use Rattle.jsonc_parser.proofs.lemmas.patch.PatchValues.{prop_name}
use Rattle.jsonc_parser.proofs.lemmas.patch.SeenNames.{AreTexts}
use Rattle.jsonc_parser.proofs.patch.reading.member_value.Given as goal

abbrev pub invariant-loop-property : goal.invariant-loop-property
invariant-loop-property g l = record {
  texts : AreTexts (map prop_name l.members) l.property-index;
  others : (j : ℕ) → j < l.property-index → get_or (map prop_name l.members) j [] ≡ l.required → ⊥;
}
