-- `quarter_sine` meets its contract: the calls are the definition's steps.
use Rattle.std.proofs.Common.{refl, ◌∙◌}
use Rattle.series.specs.Kernel.{first_coefficient, coefficients}
use Rattle.series.specs.Kernel as kernel
use Rattle.elementary.specs.FixedSteps.{from_last_is}
use Rattle.elementary.proofs.sine.quarter_sine.Goals as goal

pub returns : goal.returns
unfolding kernel.quarter_sine kernel.raw_sine
returns c =
    rw (
      c.min.ensures,
      c.mulhi-2.ensures.value,
      c.horner.ensures
          ∙ from_last_is first_coefficient coefficients c.mulhi.result,
      c.mulhi.ensures.value,
    ) refl
