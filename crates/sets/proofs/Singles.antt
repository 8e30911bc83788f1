-- Singles and pairs: masks of n heads, and of two heads at most; so that the masks found with one head more than two
-- are adopter masks.
use mathlib.Core.Path.{◌≡◌, sym, ◌∙◌}
use mathlib.Core.Bool.{Bool, false}
use Prim.Native.Nat.{ℕ, ◌^◌, ◌≤◌, ◌<◌}
use native.Mathlib.Omega.{arith}
use Rattle.std.proofs.lemmas.Bool.Decides.{nat_tests}
use lib.Count.{ones}
use Rattle.masks.specs.Mask.{single, with_head, shifted}
use Rattle.masks.specs.Gather.{gather_lt, shifted_single, or_with_head}
use Rattle.masks.specs.Size.{ones_shifted, ones_or_and}
use Rattle.lists.proofs.Somes.{some_none, some_cong}
use Rattle.sets.specs.Sets.{is_pair, witnessed, is_part}
use Rattle.sets.specs.Regions.{is_one_head}
use Rattle.sets.proofs.Masks.{ones_more}
use Rattle.sets.proofs.Taken.{some_and}

pub ones_single : (n i : ℕ) → i < n → ones (single n i) ≡ 1
ones_single n i h = rw (← shifted_single n i h) (ones_shifted n i h)

module _ (n S : ℕ) where
  pub one_head_beyond : (closed : ℕ → Bool) → 2 ^ n ≤ S → is_one_head n closed S ≡ false
  unfolding is_one_head
  one_head_beyond closed h = some_none n _ (λ i k. grind (arith, nat_tests, gather_lt))

  pub one_head_few : (closed : ℕ → Bool) → 3 ≤ ones S → is_one_head n closed S ≡ false
  unfolding is_one_head
  one_head_few closed h = some_none n _ (λ i k. grind (arith, nat_tests, ones_single n i k))

  module _ (meets contains : ℕ → ℕ → Bool) where
    pub pair_beyond : 2 ^ n ≤ S → is_pair n meets contains S ≡ false
    unfolding is_pair
    pair_beyond h = some_none n _ (λ i k. some_none i _ (λ j l. grind (arith, nat_tests, gather_lt)))

    pub pair_few : 3 ≤ ones S → is_pair n meets contains S ≡ false
    unfolding is_pair
    pair_few h =
        some_none n _ (λ i k. some_none i _ (λ j l. grind (
          arith,
          nat_tests,
          or_with_head n (single n i) j (gather_lt n _),
          ones_or_and (single n i) (shifted n j),
          ones_single n i k,
          ones_shifted n j,
        )))

-- with one head more than two
pub adopter_parts : (n : ℕ) (is_single is_adopters : ℕ → Bool) (meets contains : ℕ → ℕ → Bool)
    → ((S : ℕ) → 3 ≤ ones S → is_single S ≡ false) → (S : ℕ) → S < 2 ^ n
    → is_part n (witnessed n is_single is_adopters meets contains) S ≡ is_part n is_adopters S
unfolding is_part witnessed
adopter_parts n is_single is_adopters meets contains few S hs =
    some_and n _ _
    ∙ some_cong n _ _ (λ i h. let T = with_head n S i in
    grind (arith, nat_tests, few T, pair_few n T meets contains, ones_more n S i hs h))
    ∙ sym (some_and n _ _)
