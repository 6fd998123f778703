-- `chunk::sentence::put_char` meets its contract. Assumes nothing.
use Rattle.std.proofs.Common.{arith}
use Rattle.chunk.proofs.texts.Puts.{puts-as}
use Rattle.chunk.proofs.texts.Encodes as laws
use Rattle.chunk.proofs.sentence.put_char.Goals as goal

pub copy-requires : goal.copy-requires
copy-requires c =
    let size = laws.encoded-size c.args.c c.requires.0 (omega arith) c.encode.ensures c.in-Ok.is in
    (omega arith, omega (arith, size.2), omega (arith, size.1, c.requires.1))

pub returns-in-Ok : goal.returns-in-Ok
returns-in-Ok c =
    let size = laws.encoded-size c.args.c c.requires.0 (omega arith) c.encode.ensures c.in-Ok.is in
    let part = laws.encoded-part c.args.c c.requires.0 (omega arith) c.encode.ensures c.in-Ok.is in
    record { puts = puts-as part c.copy.ensures.puts; upper_bound = omega (arith, c.copy.ensures.from_value, size.1) }

pub returns-in-Err : goal.returns-in-Err
returns-in-Err c =
    let no = laws.encoded-some c.args.c c.requires.0 (omega arith) c.encode.ensures c.in-Err.is in
    record { puts = absurd no; upper_bound = absurd no }
