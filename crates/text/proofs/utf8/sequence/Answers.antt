-- `text::utf8::sequence` meets its contract, by the laws of `FirstOctet`. Assumes nothing.
use mathlib.Core.Path.{sym}
use native.Mathlib.Omega.{arith}
use Rattle.text.proofs.sequences.FirstOctet.{width-end, width-ascii, width-none, length-range, width-short, width-whole, width-broken}
use Rattle.text.proofs.utf8.sequence.Goals as goal

pub returns-then-s-at : goal.returns-then-s-at
returns-then-s-at c = let a = c.args in (sym (width-end a.s.now a.at c.if-s-at.true), omega arith, omega arith)

pub returns-then-a-lt128 : goal.returns-then-a-lt128
returns-then-a-lt128 c =
    let a = c.args in
    let if1 = c.if-s-at in
    let shared-slice-known2 = c.shared_slice_known-2-1 in
    let g = shared-slice-known2.given a.at in
    (sym (width-ascii a.s.now a.at if1.false (omega arith) c.if-a-lt128.true), omega arith, omega arith)

pub returns-then-a : goal.returns-then-a
returns-then-a c =
    let a = c.args in
    let g = c.shared_slice_known-2-1.given a.at in
    (sym (width-none a.s.now a.at c.if-s-at.false (omega arith) c.if-a-lt128.false c.if-a.true), omega arith, omega arith)

pub returns-then-s-at-2 : goal.returns-then-s-at-2
returns-then-s-at-2 c =
    let a = c.args in
    let sequence-length = c.sequence_length-n in (
      sym
          (width-short a.s.now a.at c.if-s-at.false (omega (arith, c.shared_slice_known-2-1.given a.at)) c.if-a-lt128.false c.if-a.false _
          sequence-length.ensures c.if-s-at-2.true),
      omega arith,
      omega arith,
    )

pub goes_on-requires : goal.goes_on-requires
goes_on-requires c =
    let a = c.args in
    let r = length-range a.s.now a.at c.if-s-at.false (omega (arith, c.shared_slice_known-2-1.given a.at)) c.if-a-lt128.false c.if-a.false _
    c.sequence_length-n.ensures in
    (omega arith, r.0, r.1)

pub returns-then-goes_on : goal.returns-then-goes_on
returns-then-goes_on c =
    let a = c.args in
    let r = length-range a.s.now a.at c.if-s-at.false (omega (arith, c.shared_slice_known-2-1.given a.at)) c.if-a-lt128.false c.if-a.false _
    c.sequence_length-n.ensures in (
      sym
          (width-whole a.s.now a.at c.if-s-at.false (omega (arith, c.shared_slice_known-2-1.given a.at)) c.if-a-lt128.false c.if-a.false _
          c.sequence_length-n.ensures c.goes_on.ensures c.if-goes_on.true),
      omega arith,
      r.1,
    )

pub returns : goal.returns
returns c =
    let a = c.args in
    let goes_on = c.goes_on in (
      sym
          (width-broken a.s.now a.at c.if-s-at.false (omega (arith, c.shared_slice_known-2-1.given a.at)) c.if-a-lt128.false c.if-a.false _
          c.sequence_length-n.ensures goes_on.ensures c.if-goes_on.false),
      omega arith,
      omega arith,
    )
