-- The set gathered from a test on heads has those heads and no others, and is the only such mask of its width.
use Rattle.std.specs.Prelude.{ℕ, zero, suc, ◌+◌, ◌*◌, ◌^◌, ◌<◌, ◌≡◌, refl, Bool, true, false, not, cond, ◌&&◌, ◌||◌, eqb, ltb}
use Rattle.std.proofs.Common.{one-mul, add-zero, eq-or-lt_of_le, le_of_suc-le-suc, arith, sym, ap, ◌∙◌, ⊎_elim, ltb-true, ltb-false, eq-eqb, ne_eqb}
use Rattle.std.proofs.Math.Bool.{or-false, or-true}
use Rattle.std.specs.Int.Bits.{bit_and, bit_or, and_lt, or_shifted_r}
use Rattle.std.proofs.lemmas.Nat.{or_lt}
use Rattle.masks.specs.Mask.{in_set, gather, single, with_head, without_head, shifted, complement}
use Rattle.masks.specs.Operations.{in_ext, in_or, in_minus, in_beyond, in_shifted, in_power, shifted_lt, complement_lt}

gather_step_lt : (w G : ℕ) (b : Bool) → G < 2 ^ w → G + cond b (2 ^ w) 0 < 2 ^ suc w
gather_step_lt w G true h = omega arith
gather_step_lt w G false h = omega arith

-- it is a mask of width w
pub gather_lt : (w : ℕ) (p : ℕ → Bool) → gather w p < 2 ^ w
unfolding gather
gather_lt zero p = omega arith
gather_lt (suc w) p = gather_step_lt w (gather w p) (p w) (gather_lt w p)

-- a set with head w added above its own
in_plus : (w G i : ℕ) → G < 2 ^ w → in_set (G + 2 ^ w) i ≡ (in_set G i || eqb i w)
in_plus w G i h =
    ap (λ (n : ℕ). in_set n i) (sym (or_shifted_r 1 w G h ∙ omega arith)) ∙ in_or G (1 * 2 ^ w) i
    ∙ ap (λ (n : ℕ). in_set G i || in_set n i) (one-mul (2 ^ w))
    ∙ ap (λ (b : Bool). in_set G i || b) (in_power w i)

gather_step : (w G : ℕ) (p : ℕ → Bool) (i : ℕ) → G < 2 ^ w → i < suc w → (i < w → in_set G i ≡ p i) → (b : Bool) → p w ≡ b
    → in_set (G + cond b (2 ^ w) 0) i ≡ p i
gather_step w G p i hg h rest b e = ⊎_elim (λ k. top b e k) (λ k. lower b e k) (eq-or-lt_of_le (le_of_suc-le-suc h))
  where
    lower : (b : Bool) → p w ≡ b → i < w → in_set (G + cond b (2 ^ w) 0) i ≡ p i
    lower true e k = in_plus w G i hg ∙ simp (ne_eqb i w (λ f. omega arith), or-false) (rest k)
    lower false e k = ap (λ (n : ℕ). in_set n i) (add-zero G) ∙ rest k

    top : (b : Bool) → p w ≡ b → i ≡ w → in_set (G + cond b (2 ^ w) 0) i ≡ p i
    top true e k = in_plus w G i hg ∙ simp (eq-eqb i w k, or-true) (sym e ∙ ap p (sym k))
    top false e k =
        ap (λ (n : ℕ). in_set n i) (add-zero G) ∙ in_beyond w G i hg (omega arith) ∙ sym e ∙ ap p (sym k)

-- head i is in the gathered set exactly if the test holds
pub in_gather : (w : ℕ) (p : ℕ → Bool) (i : ℕ) → i < w → in_set (gather w p) i ≡ p i
unfolding gather
in_gather zero p i h = absurd (omega arith)
in_gather (suc w) p i h = gather_step w (gather w p) p i (gather_lt w p) h (λ k. in_gather w p i k) (p w) refl

-- and it is the only mask of width w with those heads
pub gather_unique : (w S : ℕ) (p : ℕ → Bool) → S < 2 ^ w → ((i : ℕ) → i < w → in_set S i ≡ p i) → S ≡ gather w p
gather_unique w S p hs h = in_ext S (gather w p) (λ i. go i (ltb i w) refl)
  where
    go : (i : ℕ) (b : Bool) → ltb i w ≡ b → in_set S i ≡ in_set (gather w p) i
    go i true e = h i (ltb-true i w e) ∙ sym (in_gather w p i (ltb-true i w e))
    go i false e = in_beyond w S i hs (ltb-false i w e) ∙ sym (in_beyond w (gather w p) i (gather_lt w p) (ltb-false i w e))

-- a mask gathered by two tests that say the same
pub gather_same : (n : ℕ) (p q : ℕ → Bool) → ((l : ℕ) → l < n → p l ≡ q l) → gather n p ≡ gather n q
gather_same n p q e = gather_unique n (gather n p) q (gather_lt n p) (λ l h. in_gather n p l h ∙ e l h)

-- ---- what code writes, as sets by their heads

-- `1 << i`
pub shifted_single : (w i : ℕ) → i < w → shifted w i ≡ single w i
shifted_single w i h = gather_unique w (shifted w i) (λ j. eqb j i) (shifted_lt w i) (λ j k. in_shifted w i j h)

-- `S | 1 << i`
pub or_with_head : (w S i : ℕ) → S < 2 ^ w → i < w → bit_or S (shifted w i) ≡ with_head w S i
or_with_head w S i hs h =
    gather_unique w (bit_or S (shifted w i)) (λ j. in_set S j || eqb j i) (or_lt w S (shifted w i) hs (shifted_lt w i))
    (λ j k. in_or S (shifted w i) j ∙ ap (λ (b : Bool). in_set S j || b) (in_shifted w i j h))

-- `S & !(1 << i)`
pub and_without_head : (w S i : ℕ) → S < 2 ^ w → i < w → bit_and S (complement w (shifted w i)) ≡ without_head w S i
and_without_head w S i hs h =
    gather_unique w (bit_and S (complement w (shifted w i))) (λ j. in_set S j && not (eqb j i))
    (and_lt w S (complement w (shifted w i)) hs (complement_lt w (shifted w i)))
    (λ j k. in_minus w S (shifted w i) j hs (shifted_lt w i) ∙ ap (λ (b : Bool). in_set S j && not b) (in_shifted w i j h))
