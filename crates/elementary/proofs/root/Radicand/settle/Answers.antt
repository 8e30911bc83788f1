-- `Radicand::settle` meets its contract: proofs/root/Certificate.antt.
use Rattle.std.proofs.Common.{ℕ, ◌≡◌, ◌+◌, ◌-◌, ◌*◌, ◌^◌, ◌<◌, subst, rules, arith}
use Rattle.elementary.specs.RootSteps.{Near, Balanced}
use Rattle.elementary.proofs.root.Certificate.{one_below}
use Rattle.elementary.proofs.root.Radicand.settle.Goals as goal

pub returns-then-radicand-q : goal.returns-then-radicand-q
returns-then-radicand-q c =
    let s = c.in_ok-square in
    let m = c.args.self.m in
    let q = c.args.q in
    let e : q ≡ q - 1 + 1 = omega (arith, c.requires) in
    let near : s.square + 2 < s.radicand + q * 3 → Near (m * 2 ^ 52) (q - 1) =
    λ k. one_below (m * 2 ^ 52) (q - 1) s.field-0.square s.field-0.radicand
    (subst (λ (z : ℕ). Balanced (m * 2 ^ 52) (z * z) s.field-0.square s.field-0.radicand) e s.ensures)
    (omega (arith, s.square-is, s.radicand-is, c.if-radicand-q.true, c.requires))
    (omega (arith, s.square-is, s.radicand-is, k, c.requires)) in
    search (rules, near)
