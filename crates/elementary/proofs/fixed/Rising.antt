-- Coefficients of which none is above the one after it.
use Rattle.std.proofs.Common.{ℕ, zero, suc, ◌+◌, ◌<◌, ◌≤◌, List, [], ◌∷◌}
use Rattle.std.proofs.Common.{length, get_or, T, leb, leb→le, sym, subst, add-one, arith, IsTrue}
use Rattle.std.proofs.Math.Facts.{and_yes}
use Rattle.elementary.specs.FixedSteps.{rising}

at : (cs : List ℕ) (i : ℕ) → T (rising cs) → suc i < length cs → get_or cs i 0 ≤ get_or cs (suc i) 0
at [] i r h = absurd (omega arith)
at (c ∷ []) i r h = absurd (omega arith)
at (c ∷ d ∷ cs) zero r h = leb→le c d (and_yes (leb c d) (rising (d ∷ cs)) r).0
at (c ∷ d ∷ cs) (suc i) r h = at (d ∷ cs) i (and_yes (leb c d) (rising (d ∷ cs)) r).1 (omega arith)

pub rising_at : (cs : List ℕ) (i : ℕ) → IsTrue (rising cs) → i + 1 < length cs → get_or cs i 0 ≤ get_or cs (i + 1) 0
rising_at cs i r h = rw add-one (at cs i (subst T (sym r) tt) (omega arith))
