use mathlib.Core.Path.{◌≡◌, refl, ap, ◌∙◌}
use lib.ListN.{length}
use Rattle.lists.proofs.Arrays.{length_of_values}
use Rattle.drawn.proofs.Circles.{circles_many}
use Rattle.intersections.specs.Points.{collected}
use Rattle.intersections.proofs.Few.{few_read}
use Rattle.table.proofs.ready.Ready.of.Goals as goal

pub returns : goal.returns
returns c =
    let p = c.args.plan in
    let circles = c.plan_circles-circles.ensures in
    let ten : length p.heads ≡ 10 = (let h = c.well_formed in search length_of_values) in record {
      n = λ few. ap length circles ∙ circles_many p ten few;
      circles = circles;
      points = c.collect_intersections-points.ensures
          ∙ ap collected (few_read _ c.deref.ensures.1 ∙ c.deref.ensures.0 ∙ circles);
      bounds = refl;
    }
