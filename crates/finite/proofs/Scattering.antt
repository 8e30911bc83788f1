-- Scattering puts the numbers of a gradient among zeros, so that what bounds them bounds what is scattered.
use mathlib.Core.List.{List, [], ◌∷◌, ◌++◌}
use Prim.Native.Nat.{ℕ, ◌+◌, ◌*◌}
use lib.Ieee.{Float}
use lib.ListN.{set, replicate}
use Rattle.lists.specs.Every.{Every, every_set, every_replicate}
use Rattle.binary64.specs.Constants.{zero64}
use Rattle.binary64.specs.Magnitude.{Most}
use Rattle.binary64.proofs.Magnitude.{most_zero}
use Rattle.areas.specs.Scatter.{entries_of, box_entries, put, scatter, scatter_clipped}

every_put : (P : Float → Type 0) (ps : List ℕ) (g out : List Float) → Every P g → Every P out → Every P (put ps g out)
unfolding put
every_put P [] g out hg ho = ho
every_put P (p ∷ ps) [] out hg ho = ho
every_put P (p ∷ ps) (x ∷ g) out hg ho = every_put P ps g (set out p x) hg.1 (every_set P out p x ho (λ h. hg.0))

pub zeros : (j m : ℕ) → Every (Most j 1074) (replicate m zero64)
zeros j m = every_replicate (Most j 1074) m zero64 most_zero

pub scatter_most : (j : ℕ) (js : List ℕ) (n : ℕ) (g : List Float) → Every (Most j 1074) g → Every (Most j 1074) (scatter js n g)
unfolding scatter
scatter_most j js n g h = every_put (Most j 1074) (entries_of js) g (replicate (3 * n) zero64) h (zeros j (3 * n))

pub clipped_most : (j : ℕ) (js : List ℕ) (n : ℕ) (g : List Float) → Every (Most j 1074) g → Every (Most j 1074) (scatter_clipped js n g)
unfolding scatter_clipped
clipped_most j js n g h = every_put (Most j 1074) (entries_of js ++ box_entries n) g (replicate (n * 3 + 4) zero64) h (zeros j (n * 3 + 4))
