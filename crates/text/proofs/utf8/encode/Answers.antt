-- `text::utf8::encode` meets its contract, by the laws of `EncodeWays`. Assumes nothing.
use mathlib.Core.Path.{sym, ◌∙◌}
use native.Mathlib.Omega.{arith}
use lib.ListN.{length-set}
use Rattle.text.proofs.sequences.EncodeWays.{encode-not, short-one, encode_one, short-two, encode-two, short-three, encode-three, short-four, encode-four, scalar-high}
use Rattle.text.proofs.utf8.encode.Goals as goal

pub returns-then-not-is_scalar : goal.returns-then-not-is_scalar
returns-then-not-is_scalar c =
    let a = c.args in
    let is-scalar = c.is_scalar in
    encode-not a.c a.out.now (sym is-scalar.ensures ∙ c.if-not-is_scalar.true)

pub returns-then-room-lt1 : goal.returns-then-room-lt1
returns-then-room-lt1 c =
    let a = c.args in
    short-one a.c a.out.now (sym c.is_scalar.ensures ∙ c.if-not-is_scalar.false) c.if-c-le127.true c.if-room-lt1.true

pub returns-then-c-le127 : goal.returns-then-c-le127
returns-then-c-le127 c =
    let a = c.args in
    encode_one a.c a.out.now (sym c.is_scalar.ensures ∙ c.if-not-is_scalar.false) c.if-c-le127.true c.if-room-lt1.false

pub returns-then-room-lt2 : goal.returns-then-room-lt2
returns-then-room-lt2 c =
    let a = c.args in
    short-two a.c a.out.now (sym c.is_scalar.ensures ∙ c.if-not-is_scalar.false) c.if-c-le127.false c.if-c-le2047.true c.if-room-lt2.true

pub returns-then-c-le2047 : goal.returns-then-c-le2047
returns-then-c-le2047 c =
    let a = c.args in
    encode-two a.c a.out.now (sym c.is_scalar.ensures ∙ c.if-not-is_scalar.false) c.if-c-le127.false c.if-c-le2047.true
    c.if-room-lt2.false c.further_of.ensures

pub returns-then-room-lt3 : goal.returns-then-room-lt3
returns-then-room-lt3 c =
    let a = c.args in
    short-three a.c a.out.now (sym c.is_scalar.ensures ∙ c.if-not-is_scalar.false) c.if-c-le2047.false c.if-c-le65535.true c.if-room-lt3.true

pub bounds-out-1-then-c-le65535 : goal.bounds-out-1-then-c-le65535
bounds-out-1-then-c-le65535 c = simp length-set (omega arith)

pub returns-then-c-le65535 : goal.returns-then-c-le65535
returns-then-c-le65535 c =
    let a = c.args in
    encode-three a.c a.out.now (sym c.is_scalar.ensures ∙ c.if-not-is_scalar.false) c.if-c-le2047.false c.if-c-le65535.true
    c.if-room-lt3.false c.further_of-then-c-le65535.ensures
    c.further_of-then-c-le65535-2.ensures

pub returns-then-room-lt4 : goal.returns-then-room-lt4
returns-then-room-lt4 c =
    let a = c.args in
    short-four a.c a.out.now (sym c.is_scalar.ensures ∙ c.if-not-is_scalar.false) c.if-c-le65535.false c.if-room-lt4.true

pub overflow_cast-out-2 : goal.overflow_cast-out-2
overflow_cast-out-2 c =
    let a = c.args in
    let h = scalar-high a.c (sym c.is_scalar.ensures ∙ c.if-not-is_scalar.false) in
    omega arith

pub bounds-out-1-2 : goal.bounds-out-1-2
bounds-out-1-2 c = simp length-set (omega arith)

pub bounds-out-2-2 : goal.bounds-out-2-2
bounds-out-2-2 c = simp length-set (omega arith)

pub returns : goal.returns
returns c =
    let a = c.args in
    encode-four a.c a.out.now (sym c.is_scalar.ensures ∙ c.if-not-is_scalar.false) c.if-c-le65535.false c.if-room-lt4.false c.further_of-2.ensures
    c.further_of-3.ensures c.further_of-4.ensures
