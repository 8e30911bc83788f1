-- The heads of a set below n + 1: those below n, and n if it is one of them; what code asks of one head.
use Rattle.std.proofs.Common.{◌≡◌, refl, sym, ◌∙◌, true, false, cond, [], ◌∷◌, ◌++◌, append-nil, ℕ, suc}
use Rattle.std.proofs.Common.{◌/◌, ◌^◌, bit_and, eq-eqb, ne_eqb}
use Rattle.masks.specs.Mask.{in_set}
use Rattle.masks.specs.Operations.{in_by_shift}
use Rattle.lists.specs.Lists.{up_to}
use Rattle.intersections.specs.Members.{heads_of}

module _ (S n : ℕ) where
  pub heads_suc : heads_of (suc n) S ≡ heads_of n S ++ cond (in_set S n) (n ∷ []) []
  unfolding heads_of up_to
  heads_suc = refl

  pub heads_with : in_set S n ≡ true → heads_of (suc n) S ≡ heads_of n S ++ (n ∷ [])
  heads_with e = heads_suc ∙ rw e

  pub heads_without : in_set S n ≡ false → heads_of (suc n) S ≡ heads_of n S
  heads_without e = heads_suc ∙ rw e (append-nil (heads_of n S))

  -- `S >> n & 1 == 1`
  pub shift_in : bit_and (S / 2 ^ n) 1 ≡ 1 → in_set S n ≡ true
  shift_in e = sym (in_by_shift S n) ∙ eq-eqb _ _ e

  pub shift_out : (bit_and (S / 2 ^ n) 1 ≡ 1 → ⊥) → in_set S n ≡ false
  shift_out e = sym (in_by_shift S n) ∙ ne_eqb _ _ e
