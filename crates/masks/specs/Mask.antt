-- A set of heads as a mask: "A mask has bit i set if head i is in the set." A mask of width w is a number below 2^w.
-- The definitions go bit by bit; the code's shifts and masks are proved equal to them.
use Rattle.std.specs.Prelude.{ℕ, zero, suc, ◌+◌, ◌-◌, ◌*◌, ◌/◌, ◌%◌, ◌^◌, ◌≤◌, Bool, true, not, cond, ◌&&◌, ◌||◌, eqb}

-- bit i of the mask S, 0 or 1
unfoldable pub bit : ℕ → ℕ → ℕ
bit S i = S / 2 ^ i % 2

-- head i is in the set S
unfoldable pub in_set : ℕ → ℕ → Bool
unfolding bit
in_set S i = eqb (bit S i) 1

-- every head of S is in T
abbrev pub Subset : ℕ → ℕ → Type 0
Subset S T = (i : ℕ) → bit S i ≤ bit T i

-- the set of the heads below w for which p holds
unfoldable pub gather : ℕ → (ℕ → Bool) → ℕ
gather zero p = 0
gather (suc w) p = gather w p + cond (p w) (2 ^ w) 0

-- p holds for every head below w
unfoldable pub every : ℕ → (ℕ → Bool) → Bool
every zero p = true
every (suc w) p = every w p && p w

-- the number of heads below w in S
unfoldable pub size : ℕ → ℕ → ℕ
size zero S = 0
size (suc w) S = size w S + bit S w

-- ---- sets of heads below w; a head of w or more is in none of them

-- head i alone
abbrev pub single : ℕ → ℕ → ℕ
single w i = gather w (λ j. eqb j i)

-- S with head i
abbrev pub with_head : ℕ → ℕ → ℕ → ℕ
with_head w S i = gather w (λ j. in_set S j || eqb j i)

-- S without head i
abbrev pub without_head : ℕ → ℕ → ℕ → ℕ
without_head w S i = gather w (λ j. in_set S j && not (eqb j i))

-- every head of S below w is in T
abbrev pub subset : ℕ → ℕ → ℕ → Bool
subset w S T = every w (λ j. not (in_set S j) || in_set T j)

-- every head of S below w is in T, and they are not the same set
abbrev pub strict_subset : ℕ → ℕ → ℕ → Bool
strict_subset w S T = subset w S T && not (eqb S T)

-- ---- the terms that stand for what code writes at width w

-- 1 << i
abbrev pub shifted : ℕ → ℕ → ℕ
shifted w i = (1 * 2 ^ i) % 2 ^ w

-- !S
abbrev pub complement : ℕ → ℕ → ℕ
complement w S = (2 ^ w - 1) - S
