-- `resolve::progress::fits` meets its contract. Assumes nothing.
use native.Mathlib.Omega.{arith}
use Rattle.resolve.proofs.appending.AppendWays.{fits_by}
use Rattle.resolve.proofs.progress.fits.Goals as goal

pub returns : goal.returns
returns c =
    let a = c.args in
    λ ps b₀ t₀ b t has. fits_by a.st ps b₀ t₀ b t has a.chunks.now a.text.now (omega arith)
