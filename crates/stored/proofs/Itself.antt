-- A number that is no NaN equals itself.
use Rattle.std.proofs.Common.{◌≡◌, Bool, true, false, not, T, sym, refl, ap, subst, ◌∙◌, true≢false}
use lib.Ieee.{Float, nan, is_nan, eq, ne}
use lib.Ieee.Compare.{differs_from_itself}

pub equals_itself : (x : Float) → is_nan x ≡ false → eq x x ≡ true
unfolding ne is_nan
equals_itself x number = go (eq x x) refl
  where
    go : (b : Bool) → eq x x ≡ b → eq x x ≡ true
    go true e = e
    go false e =
        let none : x ≡ nan = differs_from_itself x (subst (λ (b : Bool). T (not b)) (sym e) tt) in
        absurd (true≢false (sym (ap is_nan none) ∙ number))
