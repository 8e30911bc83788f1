-- The exclusives of to_exclusive_areas as the second table of a plan: "Exclusives go to a second table, worked out from the first."
use Rattle.std.specs.Prelude.{ℕ, ◌<◌, ◌^◌, Bool, ◌≡◌, eqb, Float}
use Rattle.std.proofs.Common.{ap, ap₂}
use Rattle.exclusive.specs.Exclusive.{exclusive_row}
use Rattle.exclusive.proofs.Unclamped.{exclusive_alike}
use Rattle.regions.specs.Edit.{Row}
use Rattle.regions.specs.Table.{Exclusives}

-- a row is there
abbrev pub is_there : (ℕ → Row) → ℕ → Bool
is_there rows S = eqb (rows S).byte 1

-- Row S of the second table: the byte of the first, and the exclusive area worked out from the numbers of the first.
abbrev pub exclusive_rows : ℕ → (ℕ → Row) → ℕ → Row
exclusive_rows n rows S = record { byte = (rows S).byte; number = exclusive_row n (is_there rows) (λ T. (rows T).number) S }

-- ---- rows below 2^n look at rows below 2^n only

pub exclusives_below : (n : ℕ) (rows rows' : ℕ → Row) → ((S : ℕ) → S < 2 ^ n → rows S ≡ rows' S) → (S : ℕ) → S < 2 ^ n
    → exclusive_rows n rows S ≡ exclusive_rows n rows' S
exclusives_below n rows rows' e S h =
    let there : (T : ℕ) → T < 2 ^ n → is_there rows T ≡ is_there rows' T = λ T k. ap (λ (r : Row). eqb r.byte 1) (e T k) in
    ap₂ (λ (b : ℕ) (x : Float). record { byte = b; number = x }) (ap (λ (r : Row). r.byte) (e S h))
    (exclusive_alike n (is_there rows) (is_there rows') there (λ T. (rows T).number) (λ T. (rows' T).number) (λ T k. ap (λ (r : Row). r.number) (e T k)) S h)

-- how the exclusives follow from the rows
abbrev pub to_exclusives : Exclusives
to_exclusives = record { of = exclusive_rows; below = exclusives_below }
