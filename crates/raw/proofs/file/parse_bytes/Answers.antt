-- `raw::file::parse_bytes` meets its contract. Assumes nothing.
use Rattle.std.proofs.Common.{rules}
use Rattle.raw.proofs.contracts.SaysLaws.{says-exit}
use Rattle.raw.proofs.ways.FileWays.{bytes-ill, bytes-told}
use Rattle.raw.proofs.file.parse_bytes.Goals as goal

pub returns-in_err-validate_short-clause-says : goal.returns-in_err-validate_short-clause-says
returns-in_err-validate_short-clause-says c =
    says-exit (bytes-ill c.args.s.now c.requires c.in_err-validate_short.ensures) c.from_residual.result c.from_residual.ensures.1

pub returns-clause-says : goal.returns-clause-says
returns-clause-says c =
    bytes-told c.args.s.now c.requires c.in_ok-validate_short.ensures _ c.parse.result c.map_err.result c.map_err.ensures.cases (λ f g l. search rules)
    c.parse.ensures.says
