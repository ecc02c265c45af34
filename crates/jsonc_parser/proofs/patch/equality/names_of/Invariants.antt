use Rattle.std.proofs.Common.{◌≡◌, map, take}
use Rattle.jsonc_parser.proofs.lemmas.patch.Equality.{name_bytes}
use Rattle.jsonc_parser.proofs.lemmas.patch.SeenNames.{bytes_of}
use Rattle.jsonc_parser.proofs.patch.equality.names_of.Given as goal

abbrev pub invariant-loop-member : goal.invariant-loop-member
invariant-loop-member g l = bytes_of l.names.keys ≡ take l.member-index (map name_bytes l.members)
