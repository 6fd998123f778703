-- `chunk::put::put` meets its contract. Assumes nothing.
use Rattle.std.proofs.Common.{refl}
use Rattle.chunk.proofs.texts.Puts.{puts_one, puts-past}
use Rattle.chunk.proofs.put.put.Goals.{then-at-out, else-at-out}
use Rattle.chunk.proofs.put.put.Goals as goal

pub returns : goal.returns
returns c =
    let a = c.args in record {
      puts = (elim c.if-at-out.branch [
        | then-at-out w ↦ rw w.out-is (puts_one a.out.now a.at a.b)
        | else-at-out w ↦ rw w.out-is (puts-past _ w.if-at-out.false refl)
      ]);
      value = refl;
    }
