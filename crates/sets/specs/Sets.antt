-- Which masks are among the sets of n heads: document 01, "Sets (`discover_regions`)", phase by phase. Each phase says
-- of one mask S of n heads whether it is there, so that no order of visiting enters. Four questions are asked of the
-- heads, and any answers will do: is S a single, is S the adopters of a meeting point, do two heads meet, does one
-- contain another. specs/Regions.antt has the answers of circles.
use Prim.Native.Nat.{ℕ, zero, suc, ◌-◌}
use Rattle.std.specs.Prelude.{Bool, ◌&&◌, ◌||◌, leb}
use Rattle.std.proofs.Math.Bool.{not}
use Rattle.std.specs.Int.Count.{ones}
use Rattle.std.proofs.Math.Dec.{eqb}
use Rattle.lists.specs.Some.{some}
use Rattle.masks.specs.Mask.{in_set, gather, every, single, with_head, without_head, subset}

-- the set of heads i and j
abbrev pub pair : ℕ → ℕ → ℕ → ℕ
pair n i j = with_head n (single n i) j

-- ---- "singles; every adopter mask; every pair that meets or of which one contains the other"

-- heads i and j meet, or one contains the other
abbrev pub paired : (ℕ → ℕ → Bool) → (ℕ → ℕ → Bool) → ℕ → ℕ → Bool
paired meets contains i j = meets i j || (contains i j || contains j i)

-- S is such a pair of head i and a head before it
abbrev pub pairs_of : ℕ → (ℕ → ℕ → Bool) → (ℕ → ℕ → Bool) → ℕ → ℕ → Bool
pairs_of n meets contains i S = some i (λ j. eqb S (pair n i j) && paired meets contains i j)

unfoldable pub is_pair : ℕ → (ℕ → ℕ → Bool) → (ℕ → ℕ → Bool) → ℕ → Bool
unfolding some
is_pair n meets contains S = some n (λ i. pairs_of n meets contains i S)

unfoldable pub witnessed : ℕ → (ℕ → Bool) → (ℕ → Bool) → (ℕ → ℕ → Bool) → (ℕ → ℕ → Bool) → ℕ → Bool
unfolding is_pair
witnessed n is_single is_adopters meets contains S = is_single S || (is_adopters S || is_pair n meets contains S)

-- ---- "each mask got by taking one head from a mask of three or more found so far, if two remain"

-- S has two heads or more, and with one head more, which it lacks, it is found
unfoldable pub is_part : ℕ → (ℕ → Bool) → ℕ → Bool
unfolding some
is_part n found S = leb 2 (ones S) && some n (λ i. not (in_set S i) && found (with_head n S i))

abbrev pub with_parts : ℕ → (ℕ → Bool) → ℕ → Bool
with_parts n found S = found S || is_part n found S

-- ---- "then level by level as in the Rust, a new mask needing all pairs and one head contained in all others"

-- the heads whose pair with head i is found
abbrev pub overlapping : ℕ → (ℕ → Bool) → ℕ → ℕ
overlapping n found i = gather n (λ j. found (pair n i j))

-- the heads that contain head i
abbrev pub containing : ℕ → (ℕ → ℕ → Bool) → ℕ → ℕ
containing n contains i = gather n (λ j. contains j i)

-- "all pairs": each head of S overlaps all others
unfoldable pub all_pairs : ℕ → (ℕ → ℕ) → ℕ → Bool
all_pairs n overlapping S = every n (λ i. not (in_set S i) || subset n (without_head n S i) (overlapping i))

-- "one head contained in all others"
unfoldable pub one_in_all : ℕ → (ℕ → ℕ) → ℕ → Bool
unfolding some
one_in_all n containing S = some n (λ i. in_set S i && subset n (without_head n S i) (containing i))

module _ (n : ℕ) (found : ℕ → Bool) (overlapping containing : ℕ → ℕ) where
  -- The first level is the pairs found. A level more has new masks only, as in the Rust: not found before the levels,
  -- and a mask of the level below with one head more.
  unfoldable pub in_level : ℕ → ℕ → Bool
  unfolding some all_pairs one_in_all
  in_level zero S = eqb (ones S) 2 && found S
  in_level (suc d) S =
      not (found S)
      && (all_pairs n overlapping S
      && (one_in_all n containing S && some n (λ i. in_set S i && in_level d (without_head n S i))))

  -- in the level of its number of heads
  abbrev pub joined : ℕ → Bool
  joined S = in_level (ones S - 2) S

  abbrev pub with_levels : ℕ → Bool
  with_levels S = found S || joined S

-- ---- the sets of n heads, from the four answers

unfoldable pub is_set : ℕ → (ℕ → Bool) → (ℕ → Bool) → (ℕ → ℕ → Bool) → (ℕ → ℕ → Bool) → ℕ → Bool
unfolding witnessed is_part in_level
is_set n is_single is_adopters meets contains S =
    let found = with_parts n (witnessed n is_single is_adopters meets contains) in
    with_levels n found (overlapping n found) (containing n contains) S
