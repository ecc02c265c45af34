use Rattle.std.proofs.Common.{◌≡◌, map, take}
use Rattle.jsonc_parser.proofs.lemmas.patch.PatchValues.{prop_name}
use Rattle.jsonc_parser.proofs.lemmas.patch.SeenNames.{bytes_of, AreTexts, Distinct}
use Rattle.jsonc_parser.proofs.patch.values.see_names.Given as goal

abbrev pub invariant-loop-property : goal.invariant-loop-property
invariant-loop-property g l = record {
  keys : bytes_of l.seen.keys ≡ take l.property-index (map prop_name l.properties);
  texts : AreTexts (map prop_name l.properties) l.property-index;
  distinct : Distinct (map prop_name l.properties) l.property-index;
}
