use Rattle.std.proofs.Common.{◌≡◌, map, take}
use Rattle.jsonc_parser.proofs.lemmas.patch.Equality.{name_bytes}
use Rattle.jsonc_parser.proofs.lemmas.patch.SeenNames.{bytes_of, Distinct}
use Rattle.jsonc_parser.proofs.patch.unique.see_names.Given as goal

abbrev pub invariant-loop-member : goal.invariant-loop-member
invariant-loop-member g l = record {
  keys : bytes_of l.seen.keys ≡ take l.member-index (map name_bytes l.members);
  distinct : Distinct (map name_bytes l.members) l.member-index;
}
