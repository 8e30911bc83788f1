-- The certificate of a guess by exact products in halves: the square of q against m * 2^52.
use Rattle.std.proofs.Common.{◌≡◌, ℕ, ◌+◌, ◌-◌, ◌*◌, ◌/◌, ◌%◌, ◌^◌}
use Rattle.std.proofs.Common.{◌<◌, ◌≤◌, sym, ap, ◌∙◌, ap₂, mul-le-mul, div-add-mod', arith}
use Rattle.elementary.specs.RootSteps.{Near, Balanced}

-- a square by the halves of its root
square_halves : (q u l : ℕ) → q ≡ u * 2 ^ 27 + l → q * q ≡ u * u * 2 ^ 54 + u * l * 2 ^ 28 + l * l
square_halves q u l e = ap (λ (z : ℕ). z * z) e ∙ (omega arith)

-- The same number is taken from the square and the radicand, which are in halves here: d is how far the square's upper
-- half is ahead, less one.
balance : (mh mr uu uh ur ll d : ℕ) → uu + uh + 1 ≡ mh + d
    → uu * 2 ^ 54 + (uh * 2 ^ 26 + ur) * 2 ^ 28 + ll + (mr + 4) * 2 ^ 52
    ≡ (mh * 4 + mr) * 2 ^ 52 + (d * 2 ^ 54 + (ur * 2 ^ 28 + ll))
balance mh mr uu uh ur ll d e = omega arith

lower_fits : (q : ℕ) → q < 2 ^ 53 → q % 2 ^ 27 * (q % 2 ^ 27) < 2 ^ 54
lower_fits q h =
    omega (
      arith,
      mul-le-mul {n₁ =
          q % 2 ^ 27} {m₁ = q % 2 ^ 27} {n₂ = 2 ^ 27 - 1} {m₂ = 2 ^ 27 - 1} (omega arith) (omega arith),
    )

-- What `weigh` gives is the square of q and m * 2^52, both less the same number.
pub balanced : (m q : ℕ) → q < 2 ^ 53 →
    let uu = q / 2 ^ 27 * (q / 2 ^ 27) in
    let ul = q / 2 ^ 27 * (q % 2 ^ 27) in
    let ll = q % 2 ^ 27 * (q % 2 ^ 27) in
    let high = uu + ul / 2 ^ 26 + 1 in
    m / 4 ≤ high → high - m / 4 ≤ 2
    → Balanced (m * 2 ^ 52) (q * q) ((high - m / 4) * 2 ^ 54 % 2 ^ 64 + (ul % 2 ^ 26 * 2 ^ 28 % 2 ^ 64 + ll))
    ((m % 4 + 4) * 2 ^ 52 % 2 ^ 64)
balanced m q h a b =
    let u = q / 2 ^ 27 in
    let l = q % 2 ^ 27 in
    let d = u * u + u * l / 2 ^ 26 + 1 - m / 4 in
    let s : q * q ≡ u * u * 2 ^ 54 + (u * l / 2 ^ 26 * 2 ^ 26 + u * l % 2 ^ 26) * 2 ^ 28 + l * l =
    square_halves q u l (omega arith)
    ∙ ap (λ (z : ℕ). u * u * 2 ^ 54 + z * 2 ^ 28 + l * l) (sym (div-add-mod' (u * l) (2 ^ 26))) in
    let r : m ≡ m / 4 * 4 + m % 4 = sym (div-add-mod' m 4) in
    record {
      left = omega (arith, lower_fits q h);
      right = omega arith;
      level =
          ap₂ (λ (x y : ℕ). x + y) s (omega arith)
          ∙ balance (m / 4) (m % 4) (u * u) (u * l / 2 ^ 26) (u * l % 2 ^ 26) (l * l) d (omega arith)
          ∙ sym (ap₂ (λ (x y : ℕ). x * 2 ^ 52 + y) r (ap₂ (λ (x y : ℕ). x + (y + l * l)) (omega arith) (omega arith)));
    }

-- The root is below the middle of r and r + 1, and not below that of r - 1 and r.
pub one_below : (n r a b : ℕ) → Balanced n ((r + 1) * (r + 1)) a b → b + (r + 1) ≤ a → a + 2 < b + (r + 1) * 3 → Near n r
one_below n r a b e h k = let l = e.level in record { above = omega arith; below = omega arith }
