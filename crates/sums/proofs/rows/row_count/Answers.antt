-- `rows::row_count`: ten heads have 1024 rows.
use native.Mathlib.Omega.{arith}
use lib.Pow.{pow_mono}
use Rattle.sums.proofs.rows.row_count.Goals as goal

pub returns-clause-most : goal.returns-clause-most
returns-clause-most c =
    let most = pow_mono {i = c.min.result} {j = 10} (omega (arith, c.min.ensures)) in
    omega (arith, most, c.min-2.ensures)
