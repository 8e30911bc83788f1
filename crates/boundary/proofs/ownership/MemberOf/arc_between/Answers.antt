-- `ownership::MemberOf::arc_between`: whether there is a midpoint, and whose it is.
use Rattle.std.proofs.Common.{rules, sym, ◌∙◌}
use Rattle.boundary.specs.Outline.{gap, between}
use Rattle.boundary.proofs.Gaps.{one_if, none_between, some_between}
use Rattle.boundary.proofs.ownership.MemberOf.arc_between.Goals as goal

pub returns-in_err-middle : goal.returns-in_err-middle
returns-in_err-middle c = rw c.from_residual.ensures (sym (none_between _ _ _ _ _ (sym c.midpoint.ensures ∙ c.in_err-middle.was)))

pub returns : goal.returns
returns c =
    let a = c.args in
    one_if _ _ (between a.self.k a.self.circle a.phi_a (gap a.phi_a a.phi_b)) (c.then.ensures.variant ∙ c.owned.ensures) (search rules)
    ∙ sym (some_between _ _ _ _ _ c.in_ok-middle.middle (sym c.midpoint.ensures ∙ c.in_ok-middle.was))
