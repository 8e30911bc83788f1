-- `atan2` hands on a point of the first quarter, by the tests that it has passed (proofs/arctangent/Domain.antt).
use Rattle.std.proofs.Common.{◌≡◌, Bool, true, T, sym, ◌∙◌, subst, ap₂, subst₂}
use lib.Ieee.{Float, binary64, fits}
use Rattle.binary64.specs.Functions.{absolute}
use Rattle.elementary.specs.Arctangent.{in_domain}
use Rattle.elementary.specs.ArctangentSteps.{InQuarter}
use Rattle.elementary.proofs.arctangent.Domain.{domain, point}
use Rattle.elementary.proofs.arctangent.atan2.Goals as goal

-- what a program's floats fit, as the law of the domain wants it
quarter : (y x : Float) {w h : Float} {d : Bool} → fits binary64 y ≡ true → fits binary64 x ≡ true → w ≡ absolute x
    → h ≡ absolute y → d ≡ in_domain w h → d ≡ true → InQuarter w h
quarter y x p q e f g t =
    subst₂ InQuarter (sym e) (sym f) (point (domain {y =
    y} {x = x} (subst T (sym p) tt) (subst T (sym q) tt) (ap₂ in_domain (sym e) (sym f) ∙ sym g ∙ t)))

pub upper_half-requires : goal.upper_half-requires
upper_half-requires c =
    quarter c.args.y c.args.x c.well_formed.0.1 c.well_formed.1.0.1
    c.abs-width.ensures c.abs-height.ensures c.in_domain.ensures c.if-not-in_domain.false
