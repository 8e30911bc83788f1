-- `Radicand::weigh` meets its contract: proofs/root/Certificate.antt.
use Rattle.std.proofs.Common.{ℕ, ◌≤◌, subst}
use Rattle.elementary.proofs.root.Certificate.{balanced}
use Rattle.elementary.proofs.root.Radicand.weigh.Goals as goal

pub returns : goal.returns
returns c =
    let e = c.in_ok-ahead.ensures in
    rw e.1 (balanced c.args.self.m c.args.q c.requires e.0 (subst (λ (d : ℕ). d ≤ 2) e.1 c.if-ahead-gt2.false))
