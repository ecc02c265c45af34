use Rattle.std.proofs.Common.{leb, sym, subst, rules}
use Rattle.std.specs.List.Sorted.{IsNonDecreasingBy}
use Rattle.std.proofs.lemmas.List.Sorted.{IsPartitionPoint-from_clause, IsPartitionedBy-leb}
use Rattle.jsonc_mends.specs.Places.{Begun, bytes_in}
use Rattle.jsonc_mends.specs.declared.places.Side.TheVariants.{Text, Mended}
use Rattle.jsonc_mends.proofs.Apart.{begun_by}
use Rattle.jsonc_mends.proofs.places.count_to.Goals as goal

pub returns-in-Text-clause-begun : goal.returns-in-Text-clause-begun
returns-in-Text-clause-begun c =
    let count = c.partition_point.result in
    subst (λ s. IsNonDecreasingBy (λ m. (bytes_in s m).start) c.args.list.now → Begun s c.args.list.now c.args.place count) (sym c.in-Text.is)
    (λ up. begun_by Text c.args.list.now c.args.place count c.partition_point.ensures.bound
    (IsPartitionPoint-from_clause (λ m. leb (bytes_in Text m).start c.args.place) _ _ c.partition_point.ensures.partitioned (IsPartitionedBy-leb (λ m. (bytes_in Text m).start) c.args.list.now c.args.place up) (λ a r q k. search rules)))

pub returns-in-Mended-clause-begun : goal.returns-in-Mended-clause-begun
returns-in-Mended-clause-begun c =
    let count = c.partition_point-in-Mended.result in
    subst (λ s. IsNonDecreasingBy (λ m. (bytes_in s m).start) c.args.list.now → Begun s c.args.list.now c.args.place count) (sym c.in-Mended.is)
    (λ up. begun_by Mended c.args.list.now c.args.place count c.partition_point-in-Mended.ensures.bound
    (IsPartitionPoint-from_clause (λ m. leb (bytes_in Mended m).start c.args.place) _ _ c.partition_point-in-Mended.ensures.partitioned (IsPartitionedBy-leb (λ m. (bytes_in Mended m).start) c.args.list.now c.args.place up) (λ a r q k. search rules)))
