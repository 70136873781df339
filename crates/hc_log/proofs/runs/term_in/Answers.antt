use Rattle.std.proofs.Common.{◌<◌, nat_le, sym, arith, rules}
use Rattle.std.proofs.lemmas.List.Sorted.{IsPartitionPoint-from_clause, IsPartitionedBy-leb}
use Rattle.hc_log.specs.declared.runs.Run.{Run}
use Rattle.hc_log.proofs.Terms.{firsts_ascend, term_in-found, term_in-none}
use Rattle.hc_log.proofs.runs.term_in.Goals as goal

pub returns-then-count-eq0 : goal.returns-then-count-eq0
returns-then-count-eq0 c =
    let runs = c.args.runs.now in
    let index = c.args.index in
    let parted = IsPartitionedBy-leb (λ (run : Run). run.first) runs index (firsts_ascend c.requires.0 runs c.requires.1) in
    let split = IsPartitionPoint-from_clause (λ (run : Run). nat_le run.first index) _ _ c.partition_point-count.ensures.partitioned parted (λ a r q k. search rules) in
    sym (term_in-none index runs (rw c.if-count-eq0.true at split))

pub returns : goal.returns
returns c =
    let runs = c.args.runs.now in
    let index = c.args.index in
    let parted = IsPartitionedBy-leb (λ (run : Run). run.first) runs index (firsts_ascend c.requires.0 runs c.requires.1) in
    let split = IsPartitionPoint-from_clause (λ (run : Run). nat_le run.first index) _ _ c.partition_point-count.ensures.partitioned parted (λ a r q k. search rules) in
    let some : 0 < c.partition_point-count.result = omega arith in
    sym (term_in-found index runs c.partition_point-count.result (record { first = 0; term = 0 }) split some c.partition_point-count.ensures.bound)
