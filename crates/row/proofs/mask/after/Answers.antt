-- `row::mask::after` meets its contract. Assumes nothing.
use native.Mathlib.Omega.{arith}
use Rattle.row.specs.Masks.{after_of}
use Rattle.row.proofs.rules.Masks.{after-chunk, after-else}
use Rattle.row.proofs.mask.after.Goals as goal

pub returns-in-1 : goal.returns-in-1
unfolding after_of
returns-in-1 c = rw c.in-1.is

pub returns-in-2 : goal.returns-in-2
unfolding after_of
returns-in-2 c = rw c.in-2.is

pub returns-in-3 : goal.returns-in-3
unfolding after_of
returns-in-3 c = rw c.in-3.is

pub returns-in-4 : goal.returns-in-4
unfolding after_of
returns-in-4 c = rw c.in-4.is

pub returns-in-5 : goal.returns-in-5
unfolding after_of
returns-in-5 c = rw c.in-5.is

pub returns-in-8 : goal.returns-in-8
unfolding after_of
returns-in-8 c = rw c.in-8.is

pub returns-in-9 : goal.returns-in-9
unfolding after_of
returns-in-9 c = rw c.in-9.is

pub returns-in-6 : goal.returns-in-6
returns-in-6 c =
    let matched = c.in-6.in_default-own in
    let if1 = c.in-6.if-kind-lt1-own in
    let r = matched.rest in
    after-chunk _ _ r.0.0.0.0.0.0.1 r.0.0.0.0.0.1 r.0.0.0.0.1 r.0.0.0.1 r.0.0.1 if1.false c.in-6.if-kind-lt8-own.true

pub returns-in_default : goal.returns-in_default
returns-in_default c =
    let matched = c.in_default.in_default-own in
    let r = matched.rest in
    after-else _ _ r.0.0.0.0.0.0.1 r.0.0.0.0.0.1 r.0.0.0.0.1 r.0.0.0.1 r.0.0.1 (λ e. omega arith)
    (λ e. omega arith) r.0.1 r.1

pub returns-in_default-2 : goal.returns-in_default-2
returns-in_default-2 c =
    let matched = c.in_default.in_default-own in
    let r = matched.rest in
    after-else _ _ r.0.0.0.0.0.0.1 r.0.0.0.0.0.1 r.0.0.0.0.1 r.0.0.0.1 r.0.0.1 (λ e. omega arith)
    (λ e. omega arith) r.0.1 r.1
