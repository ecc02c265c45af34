use Rattle.std.proofs.Common.{◌≡◌}
use Rattle.jsonc_parser.specs.patch.Pointer.{tokens_of}
use Rattle.jsonc_parser.proofs.lemmas.patch.MergeChains.{MergedSoFar}
use Rattle.jsonc_parser.proofs.patch.merging.+merging.Given as goal

abbrev pub invariant-merge_members-loop-member : goal.invariant-merge_members-loop-member
invariant-merge_members-loop-member g l = record {
  merged : MergedSoFar l.fn.doc (tokens_of l.fn.pointer) l.members l.member-index l.doc;
  pointer : tokens_of l.pointer ≡ tokens_of l.fn.pointer;
}
