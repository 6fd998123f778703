-- `lookup::order::search` meets its contract, by the laws of `SearchTurns`. Assumes nothing.
use Rattle.std.proofs.Common.{rules, ◌∙◌, arith}
use Rattle.std.proofs.lemmas.List.Sorted.{IsPartitionPoint-from_clause}
use Rattle.row.specs.Numbers.{rows_of}
use Rattle.lookup.proofs.sorting.InOrder.{not_after, split}
use Rattle.lookup.proofs.loops.SearchTurns.{search-parted, search-none, search-inside, search-found}
use Rattle.lookup.proofs.order.search.Goals as goal

pub returns-in_err-last : goal.returns-in_err-last
returns-in_err-last c =
    let a = c.args in
    let e = c.partition_point-end in
    let parted = search-parted a.file.now a.rows.now a.wanted.now a.order.now c.requires in
    let point = IsPartitionPoint-from_clause (not_after a.file.now (rows_of a.rows.now) a.wanted.now) _ _ e.ensures.partitioned parted (λ x r q k. search rules) in
    let s = split a.file.now (rows_of a.rows.now) a.wanted.now a.order.now e.result e.ensures.bound point in
    c.from_residual.ensures ∙ search-none a.file.now a.rows.now a.wanted.now a.order.now c.requires e.result s (omega arith)

pub is_named-requires : goal.is_named-requires
is_named-requires c =
    let a = c.args in
    let e = c.partition_point-end in
    let parted = search-parted a.file.now a.rows.now a.wanted.now a.order.now c.requires in
    let point = IsPartitionPoint-from_clause (not_after a.file.now (rows_of a.rows.now) a.wanted.now) _ _ e.ensures.partitioned parted (λ x r q k. search rules) in
    let s = split a.file.now (rows_of a.rows.now) a.wanted.now a.order.now e.result e.ensures.bound point in
    search-inside a.file.now a.rows.now a.wanted.now a.order.now c.requires e.result s c.in_ok-last.last (omega arith)

pub returns : goal.returns
returns c =
    let a = c.args in
    let e = c.partition_point-end in
    let parted = search-parted a.file.now a.rows.now a.wanted.now a.order.now c.requires in
    let point = IsPartitionPoint-from_clause (not_after a.file.now (rows_of a.rows.now) a.wanted.now) _ _ e.ensures.partitioned parted (λ x r q k. search rules) in
    let s = split a.file.now (rows_of a.rows.now) a.wanted.now a.order.now e.result e.ensures.bound point in
    c.then_some.ensures
    ∙ search-found a.file.now a.rows.now a.wanted.now a.order.now c.requires e.result s c.in_ok-last.last (omega arith) c.is_named.result c.is_named.ensures
