-- `Circle::covers` meets its contract: where the root alone is above the radius the sum is.
use Rattle.std.proofs.Common.{sym, ap, ◌∙◌, rules}
use lib.Ieee.{Float}
use Rattle.binary64.specs.Floats.{◌+ᶠ◌, ◌≤ᶠ◌}
use Rattle.elementary.proofs.root.Values.{root_minus}
use Rattle.geometry.proofs.Roots.{sum_past}
use Rattle.geometry.proofs.circle.Circle.covers.Goals as goal

pub returns-then-root_above : goal.returns-then-root_above
returns-then-root_above c =
    let a = c.args in
    let squared = c.squared_distance-squared in
    sym (ap (λ (d : Float). d +ᶠ a.other.radius ≤ᶠ a.self.radius) (sym squared.ensures.root_is)
    ∙ sum_past _ _ _ (c.root_above.ensures c.if-root_above.true) (root_minus squared.result (search rules)) (search rules)
    (sym c.moderate.ensures ∙ c.if-moderate.true))
