use Rattle.std.proofs.Common.{arith, leb, rules}
use Rattle.std.proofs.lemmas.Bool.{leb-false, leb-true}
use Rattle.std.proofs.lemmas.List.Sorted.{IsPartitionPoint-from_clause, IsPartitionedBy-leb}
use Rattle.jsonc_parser.proofs.line_index.count_to.Goals as goal

pub returns-clause-to : goal.returns-clause-to
returns-clause-to c =
    let parted = IsPartitionedBy-leb (λ x. x) c.args.places.now c.args.place c.requires in
    let point = IsPartitionPoint-from_clause (λ y. leb y c.args.place) _ _ c.partition_point.ensures.partitioned parted (λ a r q k. search rules) in
    λ k h. leb-true _ _ (point.0 k 0 (omega arith) h)

pub returns-clause-after : goal.returns-clause-after
returns-clause-after c =
    let parted = IsPartitionedBy-leb (λ x. x) c.args.places.now c.args.place c.requires in
    let point = IsPartitionPoint-from_clause (λ y. leb y c.args.place) _ _ c.partition_point.ensures.partitioned parted (λ a r q k. search rules) in
    λ k h l. leb-false _ _ (point.1 k 0 h l)
