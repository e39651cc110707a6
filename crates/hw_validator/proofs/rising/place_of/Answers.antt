use Rattle.std.proofs.Common.{arith, rules}
use Rattle.std.proofs.lemmas.List.Sorted.{IsPartitionPoint-from_clause}
use Rattle.hw_types.specs.Graph.{digest_lt}
use Rattle.hw_validator.proofs.RisingLaws.{rising_parted}
use Rattle.hw_validator.proofs.rising.place_of.Goals as goal

pub returns-clause-below : goal.returns-clause-below
returns-clause-below c =
    let point = IsPartitionPoint-from_clause (λ e. digest_lt e c.args.digest.now) _ _ c.partition_point.ensures.partitioned (rising_parted c.args.digest.now c.args.list.now c.requires) (λ a r q k. search rules) in
    λ k lt. point.0 k c.args.digest.now (omega arith) lt

pub returns-clause-next : goal.returns-clause-next
returns-clause-next c =
    let point = IsPartitionPoint-from_clause (λ e. digest_lt e c.args.digest.now) _ _ c.partition_point.ensures.partitioned (rising_parted c.args.digest.now c.args.list.now c.requires) (λ a r q k. search rules) in
    λ lt. point.1 c.partition_point.result c.args.digest.now (omega arith) lt
