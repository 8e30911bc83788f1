-- What the steps of the program's root promise one another. No public contract rests on these.
use Rattle.std.specs.Prelude.{◌≡◌, ℕ, ◌+◌, ◌*◌, ◌^◌, ◌<◌, ◌≤◌}

-- q is nearer to the root of n than any other whole number: n lies above (q - 1/2)² and below (q + 1/2)².
pub record Near (n q : ℕ) : Type 0 where
  pub above : q * q < n + q
  pub below : n ≤ q * q + q

-- a and b are s and n, both less the same number.
pub record Balanced (n s a b : ℕ) : Type 0 where
  pub left : a < 2 ^ 57
  pub right : b < 2 ^ 57
  pub level : s + b ≡ n + a

-- n is m * 2 ^ lead / 2 ^ 52, where m has 53 digits: `lead` is the place of n's leading digit.
pub record Leading (n m lead : ℕ) : Type 0 where
  pub is : m * 2 ^ lead ≡ n * 2 ^ 52
  pub least : 2 ^ 52 ≤ m
  pub most : m < 2 ^ 53
  pub range : lead ≤ 2097
