-- What the steps of the code look at, and what they add from one mask; proofs/Taken.antt and proofs/LevelStep.antt show
-- that a pass over all points, and over all masks, adds what specs/Sets.antt says.
use Rattle.std.specs.Prelude.{ℕ, ◌^◌, ◌<◌, ◌≡◌, Bool, not, ◌&&◌, List, eqb, leb, ltb, get_or}
use Rattle.std.specs.Int.Count.{ones}
use Rattle.lists.specs.Some.{some}
use Rattle.masks.specs.Mask.{in_set, gather, with_head, without_head}
use Rattle.sets.specs.Sets.{with_parts, all_pairs, one_in_all, joined}

-- a test answers as p of each head below n
abbrev pub AnswersAs : ℕ → (ℕ → Bool → Type 0) → (ℕ → Bool) → Type 0
AnswersAs n answers p = (i : ℕ) (b : Bool) → i < n → answers i b → b ≡ p i

-- and of each two of them
abbrev pub AnswersBothAs : ℕ → (ℕ → ℕ → Bool → Type 0) → (ℕ → ℕ → Bool) → Type 0
AnswersBothAs n answers p = (i j : ℕ) (b : Bool) → i < n → j < n → answers i j b → b ≡ p i j

-- the mask of head i, of a list of one mask a head
abbrev pub mask_of : List ℕ → ℕ → ℕ
mask_of masks i = get_or masks i 0

-- head j is in it
abbrev pub in_mask_of : List ℕ → ℕ → ℕ → Bool
in_mask_of masks i j = in_set (mask_of masks i) j

-- the masks of ten heads say what holds of two of them
abbrev pub MasksSay : List ℕ → (ℕ → ℕ → Bool) → Type 0
MasksSay masks p = (i j : ℕ) → i < 10 → j < 10 → in_mask_of masks i j ≡ p i j

-- S is M without one of its heads
abbrev pub part_of : ℕ → ℕ → ℕ → Bool
part_of n M S = some n (λ i. eqb S (without_head n M i) && in_set M i)

-- S is a mask of n heads that is found, or one of three heads or more that is found without a head
abbrev pub adopted : ℕ → (ℕ → Bool) → ℕ → Bool
adopted n found S = ltb S (2 ^ n) && with_parts n found S

-- S is M, a mask of n heads, or M without one of three heads or more
unfoldable pub mask_or_part : ℕ → ℕ → ℕ → Bool
mask_or_part n M S = adopted n (λ T. eqb T M) S

-- the heads that two others or more contain
abbrev pub twice_contained : ℕ → (ℕ → ℕ) → ℕ
twice_contained n containing = gather n (λ i. leb 2 (ones (without_head n (containing i) i)))

module _ (n : ℕ) (found : ℕ → Bool) (overlapping containing : ℕ → ℕ) where
  -- S, got from a mask of the level below, is in the next
  abbrev pub joins : ℕ → Bool
  joins S = not (found S) && (all_pairs n overlapping S && one_in_all n containing S)

  -- S is M with one head more, and joins the next level
  abbrev pub joining_of : ℕ → ℕ → Bool
  joining_of M S = some n (λ i. eqb S (with_head n M i) && (not (in_set M i) && joins (with_head n M i)))

  -- S joins from a mask below m
  abbrev pub joining_below : ℕ → ℕ → Bool
  joining_below m S = some m (λ M. joined n found overlapping containing M && joining_of M S)

  -- S is a mask below m of its level
  abbrev pub joined_below : ℕ → ℕ → Bool
  joined_below m S = ltb S m && joined n found overlapping containing S
