-- `whole::file::fits` meets its contract. Assumes nothing.
use Rattle.whole.proofs.counting.Covering.{cover-fits}
use Rattle.whole.proofs.ways.FileWays.{fits_told}
use Rattle.whole.proofs.file.fits.Goals as goal

pub returns : goal.returns
returns c =
    let a = c.args in (
      λ vs k. fits_told a.t a.answers.now a.chunks.now a.text.now vs k,
      λ vs k e. cover-fits a.t a.answers.now a.chunks.now a.text.now c.requires vs k e,
    )
