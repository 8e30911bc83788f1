-- What Horner's rule gives on a list of coefficients that goes from the highest power to the constant. No public
-- contract rests on this.
use Rattle.std.specs.Prelude.{◌≡◌, ℕ, ◌-◌, ◌/◌, ◌^◌, Bool, true, ◌&&◌, leb, List, [], ◌∷◌, reverse}
use Rattle.std.specs.List.{fold}
use Rattle.std.proofs.Common.{ap, ◌∙◌}
use Rattle.std.proofs.Math.Nat.{mul-zero, sub-zero}
use Rattle.std.proofs.lemmas.Grind.{reverse_onto}
use Rattle.std.proofs.lemmas.List.Sums.{fold_push}
use Rattle.series.specs.Kernel.{mulhi, horner}

-- c - z (c1 - z (c2 - ..)), each product cut, where c is the last of the list
abbrev pub from_last : List ℕ → ℕ → ℕ
from_last cs z = fold (λ h c. c - mulhi z h) 0 cs

-- no coefficient is above the one after it
abbrev pub rising : List ℕ → Bool
rising [] = true
rising (c ∷ []) = true
rising (c ∷ d ∷ cs) = leb c d && rising (d ∷ cs)

-- with the constant first it is the rule of the recipes
pub from_last_is : (c : ℕ) (cs : List ℕ) (z : ℕ) → from_last (reverse (c ∷ cs)) z ≡ horner c cs z
unfolding horner
from_last_is c [] z = ap (λ (k : ℕ). c - k / 2 ^ 64) (mul-zero z) ∙ sub-zero c
from_last_is c (d ∷ cs) z =
    ap (λ (l : List ℕ). from_last l z) (reverse_onto (d ∷ cs) c [])
    ∙ fold_push (λ (h k : ℕ). k - mulhi z h) 0 (reverse (d ∷ cs)) c
    ∙ ap (λ (h : ℕ). c - mulhi z h) (from_last_is d cs z)
