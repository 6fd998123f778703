-- `literal::making::put_math` meets its contract. Assumes nothing.
use Rattle.std.proofs.Common.{arith, refl, ◌∷◌, []}
use Rattle.text.specs.Scan.{part}
use Rattle.literal.proofs.ways.MakingWays.{math-argument, math-literal, lays-three}
use Rattle.literal.proofs.making.put_math.Goals as goal

pub returns-then-place : goal.returns-then-place
returns-then-place c =
    let a = c.args in
    record {
      goes = λ t₀ ps b₀ σ h.
          math-argument a.place t₀ ps b₀ σ a.st a.out.now a.numbers.now h c.requires.from_le_to.3 (part a.s.now a.from a.to) a.from
          a.to _ c.push-e.result c.if-place.true
          (lays-three a.st.len (0x24 ∷ []) (part a.s.now a.from a.to) (0x24 ∷ []) a.out.now c.push-k.result _
          c.copy-l.result _ c.push-e.result _ c.push-k.ensures.lays c.copy-l.ensures.lays c.push-e.ensures.lays);
      at = refl;
      braces = refl;
      start = refl;
      from = refl;
      len = omega (arith, c.push-k.ensures.value, c.copy-l.ensures.from_value, c.push-e.ensures.value);
      rows = omega arith;
    }

pub returns : goal.returns
returns c =
    let a = c.args in
    record {
      goes = λ t₀ ps b₀ σ h.
          math-literal a.place t₀ ps b₀ σ a.st a.out.now a.numbers.now h c.requires.from_le_to.3 (part a.s.now a.from a.to) a.from
          a.to _ c.copy-l-2.result c.if-place.false
          c.copy-l-2.ensures.lays c.narrow-begins.result c.narrow-ends.result c.narrow-first.result c.narrow-last.result
          c.push-more.result _ c.narrow-begins.ensures
          c.narrow-ends.ensures (c.narrow-first.ensures (omega (arith, c.requires.from_le_to.0, c.requires.fits.1))) (c.narrow-last.ensures c.requires.fits.1)
          c.push-more.ensures.pushes;
      at = refl;
      braces = refl;
      start = refl;
      from = refl;
      len = omega (arith, c.copy-l-2.ensures.from_value);
      rows = c.push-more.ensures.n_le_n.1;
    }
