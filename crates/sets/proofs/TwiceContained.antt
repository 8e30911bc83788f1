-- A mask of three heads or more, none of which two others contain, has no head that all others contain; so without such
-- heads nothing joins a level.
use mathlib.Core.Path.{◌≡◌, ap}
use mathlib.Core.Bool.{Bool, true, false, not, ◌&&◌}
use Prim.Native.Nat.{ℕ, ◌^◌, ◌≤◌, ◌<◌}
use native.Mathlib.Omega.{arith}
use Rattle.std.proofs.lemmas.Bool.Decides.{nat_tests}
use lib.Bits.{bit_and, and_zero_r}
use lib.Count.{ones}
use lib.Dec.{eqb, leb}
use Rattle.masks.specs.Mask.{in_set, without_head, subset}
use Rattle.masks.specs.Operations.{bit_of_zero, in_of_zero, in_and}
use Rattle.masks.specs.Gather.{gather_lt, in_gather}
use Rattle.masks.specs.Size.{ones_subset}
use Rattle.masks.specs.Subset.{subset_by_heads, subset_head, subset_yes}
use Rattle.intersections.proofs.Masks.{head_below}
use Rattle.lists.proofs.Somes.{some_none}
use Rattle.sets.specs.Sets.{one_in_all, with_levels}
use Rattle.sets.specs.Steps.{twice_contained}
use Rattle.sets.proofs.Masks.{ones_less}
use Rattle.sets.proofs.LevelStep.{is_more, is_few}

-- the other heads of S are in T, and so no more than the other heads of T
others_few : (n S T i : ℕ) → subset n (without_head n S i) T ≡ true
    → ones (without_head n S i) ≤ ones (without_head n T i)
others_few n S T i e =
    let small = gather_lt n (λ j. in_set S j && not (eqb j i)) in
    let in_t = subset_head _ T ((subset_yes n _ T small).0 e) in
    ones_subset _ _
    (subset_by_heads _ _
    (λ j k. grind (arith, nat_tests, in_gather, head_below _ n j small k, in_t j k, k)))

-- `S & twice == 0`
pub one_in_all_not : (n : ℕ) (containing : ℕ → ℕ) (S : ℕ) → S < 2 ^ n → 3 ≤ ones S
    → bit_and S (twice_contained n containing) ≡ 0 → one_in_all n containing S ≡ false
unfolding one_in_all
one_in_all_not n containing S hs many none =
    some_none n _
    (λ i h. grind (
      arith,
      nat_tests,
      in_and S (twice_contained n containing) i,
      in_of_zero 0 i (bit_of_zero i),
      ap (λ (T : ℕ). in_set T i) none,
      in_gather n (λ j. leb 2 (ones (without_head n (containing j) j))) i h,
      ones_less n S i hs h,
      others_few n S (containing i) i,
    ))

-- no head is contained twice: the levels add nothing
pub nothing_joins : (n : ℕ) (found : ℕ → Bool) (overlapping containing : ℕ → ℕ) (S : ℕ) → S < 2 ^ n
    → twice_contained n containing ≡ 0 → with_levels n found overlapping containing S ≡ found S
nothing_joins n found overlapping containing S hs none =
    let empty : bit_and S (twice_contained n containing) ≡ 0 = rw none (and_zero_r S) in
    grind (
      arith,
      nat_tests,
      empty,
      one_in_all_not n containing S hs,
      is_more n found overlapping containing S hs,
      is_few n found overlapping containing S,
    )
