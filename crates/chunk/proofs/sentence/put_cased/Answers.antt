-- `chunk::sentence::put_cased` meets its contract. Assumes nothing.
use Rattle.std.proofs.Common.{ℕ, arith, ◌≡◌, sym, ap, ◌∙◌, Bool, true, false, List, [], ◌∷◌}
use Rattle.text.specs.Every.{every}
use Rattle.text.specs.Utf8.{is_scalar, utf8_of}
use Rattle.casing.specs.Casing.{cased}
use Rattle.casing.proofs.Casing.{casing}
use Rattle.chunk.proofs.texts.Puts.{puts-as}
use Rattle.chunk.proofs.sentences.Said.{ascii-written}
use Rattle.chunk.proofs.sentence.put_cased.Goals as goal

-- what a character is raised or lowered to, which a call answered as the image i
module _ {i : List ℕ} {up : Bool} (c : ℕ) (b : Bool) (q : up ≡ b) (e : i ≡ cased b c) where
  all-scalar : is_scalar c ≡ true → every is_scalar i ≡ true
  all-scalar h = ap (every is_scalar) e ∙ casing.scalar b c h

  same-octets : utf8_of i ≡ utf8_of (cased up c)
  same-octets = ap utf8_of (e ∙ ap (λ (x : Bool). cased x c) (sym q))

pub returns-then-c-lt128 : goal.returns-then-c-lt128
returns-then-c-lt128 c =
    let a = c.args in
    let one = ap (λ (b : ℕ). b ∷ []) c.cased_byte.ensures ∙ sym (ascii-written a.up a.c c.if-c-lt128.true) in
    record { puts = puts-as one c.put.ensures.puts; upper_bound = omega (arith, c.put.ensures.value) }

pub put_image-requires : goal.put_image-requires
put_image-requires c = (all-scalar c.args.c true c.if-up.true c.to_uppercase.ensures.same c.requires.0, omega (arith, c.requires.1))

pub returns-then-up : goal.returns-then-up
returns-then-up c = record {
  puts = puts-as (same-octets c.args.c true c.if-up.true c.to_uppercase.ensures.same) c.put_image.ensures.puts;
  upper_bound = omega (arith, c.put_image.ensures.upper_bound);
}

pub put_image-requires-2 : goal.put_image-requires-2
put_image-requires-2 c = (all-scalar c.args.c false c.if-up.false c.lowered.ensures.same c.requires.0, omega (arith, c.requires.1))

pub returns : goal.returns
returns c = record {
  puts = puts-as (same-octets c.args.c false c.if-up.false c.lowered.ensures.same) c.put_image-2.ensures.puts;
  upper_bound = omega (arith, c.put_image-2.ensures.upper_bound);
}
