-- `chunk::sentence::put_image` meets its contract. Assumes nothing.
use Rattle.std.proofs.Common.{arith}
use Rattle.chunk.proofs.texts.Puts.{puts-on, puts-as}
use Rattle.chunk.proofs.texts.Encodes as laws
use Rattle.chunk.proofs.sentence.put_image.Goals as goal

pub put_char-one-requires : goal.put_char-one-requires
put_char-one-requires c =
    let i = c.args.image in
    (laws.image-one i.one i.two i.three c.requires.0, omega (arith, c.requires.1))

pub returns-then-image-eq0 : goal.returns-then-image-eq0
returns-then-image-eq0 c =
    let i = c.args.image in
    record {
      puts = puts-as (laws.one_written i.one i.two i.three c.if-image-eq0.true) c.put_char-one.ensures.puts;
      upper_bound = omega (arith, c.put_char-one.ensures.upper_bound);
    }

pub put_char-two-requires : goal.put_char-two-requires
put_char-two-requires c =
    let i = c.args.image in
    (laws.image-two i.one i.two i.three c.requires.0 c.if-image-eq0.false, omega (arith, c.put_char-one.ensures.upper_bound, c.requires.1))

pub returns-then-image-eq0-2 : goal.returns-then-image-eq0-2
returns-then-image-eq0-2 c =
    let i = c.args.image in
    let put = puts-on c.put_char-one.ensures.puts c.put_char-two.ensures.puts in record {
      puts = puts-as (laws.two-written i.one i.two i.three c.if-image-eq0.false c.if-image-eq0-2.true) put;
      upper_bound = omega (arith, c.put_char-one.ensures.upper_bound, c.put_char-two.ensures.upper_bound);
    }

pub put_char-requires : goal.put_char-requires
put_char-requires c =
    let i = c.args.image in (
      laws.image-three i.one i.two i.three c.requires.0 c.if-image-eq0.false c.if-image-eq0-2.false,
      omega (arith, c.put_char-one.ensures.upper_bound, c.put_char-two.ensures.upper_bound, c.requires.1),
    )

pub returns : goal.returns
returns c =
    let i = c.args.image in
    let put = puts-on (puts-on c.put_char-one.ensures.puts c.put_char-two.ensures.puts) c.put_char.ensures.puts in record {
      puts = puts-as (laws.three-written i.one i.two i.three c.if-image-eq0.false c.if-image-eq0-2.false) put;
      upper_bound = omega (arith, c.put_char-one.ensures.upper_bound, c.put_char-two.ensures.upper_bound, c.put_char.ensures.upper_bound);
    }
