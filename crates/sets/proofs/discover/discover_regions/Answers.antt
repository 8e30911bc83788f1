-- `discover::discover_regions`: the steps are those of specs/Sets.antt, by proofs/Assembled.antt.
use Rattle.std.proofs.Common.{◌≡◌, ap, ◌∙◌, sym, arith}
use Rattle.masks.specs.Presence.{stands}
use Rattle.intersections.specs.Heads.{first_ten}
use Rattle.sets.specs.Regions.{set_bytes}
use Rattle.sets.specs.Steps.{mask_of, in_mask_of}
use Rattle.sets.proofs.Assembled.{all, bytes_of, found, cont_lt, found_is, assembled_found, assembled, set_bytes_are}
use Rattle.sets.proofs.Overlapping.{over_turned}
use Rattle.sets.proofs.discover.discover_regions.Goals as goal
use Rattle.sets.proofs.discover.discover_regions.Goals.{After-min, After-add_singles}

-- the masks found before the levels
found_are : (c : After-add_singles) → let cs = c.first_ten-circles.result.now in
    c.add_singles.new.found ≡ bytes_of cs c.args.points.now c.min.result (found cs c.args.points.now c.min.result)
found_are c =
    let met = c.add_points-meeting in
    let con = c.containing_heads-containing in
    let cs = c.first_ten-circles.result.now in
    found_is cs c.args.points.now c.min.result (omega arith) (mask_of con.result) con.ensures
    (in_mask_of met.result) met.ensures.found_value met.ensures.meeting_value c.add_pairs.ensures c.add_singles.ensures

-- all heads are those of the circles
sets_are : (c : After-min) → let cs = c.first_ten-circles.result.now in
    bytes_of cs c.args.points.now c.min.result (all cs c.args.points.now c.min.result)
    ≡ set_bytes (first_ten c.args.circles.now) c.args.points.now
sets_are c =
    set_bytes_are c.first_ten-circles.result.now c.args.points.now c.min.result
    (omega (arith, c.first_ten-circles.ensures.most))
    ∙ ap (λ cs. set_bytes cs c.args.points.now) c.first_ten-circles.ensures.value

pub twice_contained-twice_contained-requires : goal.twice_contained-twice_contained-requires
twice_contained-twice_contained-requires c =
    let con = c.containing_heads-containing in
    cont_lt c.first_ten-circles.result.now c.args.points.now c.min.result (omega arith) (mask_of con.result) con.ensures

pub invariant_of-levels : goal.invariant_of-levels
invariant_of-levels c =
    let over = c.overlapping_heads-overlapping in
    record {
      twice_is = c.twice_contained-twice_contained.ensures;
      turned = over_turned c.min.result (stands c.add_singles.new.found) (mask_of over.result) over.ensures;
    }

pub returns-then-twice_contained-eq0 : goal.returns-then-twice_contained-eq0
returns-then-twice_contained-eq0 c =
    let con = c.containing_heads-containing in
    assembled_found c.first_ten-circles.result.now c.args.points.now c.min.result (omega arith) (mask_of con.result)
    con.ensures
    (found_are (goal.at.returns-then-twice_contained-eq0 c).After-add_singles)
    (sym c.twice_contained-twice_contained.ensures ∙ c.if-twice_contained-eq0.true)
    ∙ sets_are (goal.at.returns-then-twice_contained-eq0 c).After-min

pub returns : goal.returns
returns c =
    let con = c.containing_heads-containing in
    let over = c.overlapping_heads-overlapping in
    assembled c.first_ten-circles.result.now c.args.points.now c.min.result (omega arith) (mask_of con.result)
    con.ensures
    (found_are (goal.at.returns c).After-add_singles) (mask_of over.result) over.ensures c.add.ensures
    ∙ sets_are (goal.at.returns c).After-min
