-- `breaks::clear_of_edges`: no edge's line crosses.
use Rattle.std.proofs.Common.{rules, tests, ◌∙◌, sym, not}
use Rattle.std.proofs.lemmas.Iterator.{YieldsList-from_slice}
use Rattle.std.proofs.lemmas.Iterator.Search.{all_from_yields_List}
use Rattle.binary64.specs.Constants.{one64}
use Rattle.binary64.specs.Functions.{absolute}
use Rattle.binary64.specs.Floats.{◌≤ᶠ◌}
use Rattle.inside.specs.Edges.{box_edges}
use Rattle.inside.specs.Breaks.{offset_of}
use Rattle.inside.proofs.Breaking.{none_crossed}
use Rattle.inside.proofs.breaks.clear_of_edges.Goals as goal

pub returns : goal.returns
returns c e =
    let a = c.args in
    none_crossed a.bounds a.c
    (sym (all_from_yields_List (λ edge. not (absolute (offset_of a.bounds a.c edge) ≤ᶠ one64)) _ _ _ c.all.ensures.ran
    (YieldsList-from_slice box_edges cc) (λ x b q k. search (rules, tests))) ∙ e)
