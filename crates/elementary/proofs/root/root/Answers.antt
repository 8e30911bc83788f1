-- `root::root` meets its contract: the cases of proofs/root/Cases.antt.
use Rattle.std.proofs.Common.{◌≡◌, true, T, sym, ap, ◌∙◌, subst}
use lib.Ieee.{Float, binary64, fits}
use lib.Ieee.Bits.{of_bits-to_bits}
use Rattle.elementary.specs.Root.{root}
use Rattle.elementary.proofs.root.Cases.{above_bits, root_infinite, root_zero, root_other}
use Rattle.elementary.proofs.root.root.Goals as goal

-- what a program holds fits
held : (x : Float) → fits binary64 x ≡ true → T (fits binary64 x)
held x e = subst T (sym e) tt

pub invariant_of-root : goal.invariant_of-root
invariant_of-root c = record {
  above = above_bits c.args.x (held c.args.x c.well_formed.0.1) c.if-x.true;
  finite = c.if-bits-lt-INFINITY.true;
}

pub returns-then-bits-lt-INFINITY : goal.returns-then-bits-lt-INFINITY
returns-then-bits-lt-INFINITY c =
    c.root.ensures ∙ ap root (of_bits-to_bits binary64 c.args.x (held c.args.x c.well_formed.0.1))

pub returns-else-bits-lt-INFINITY : goal.returns-else-bits-lt-INFINITY
returns-else-bits-lt-INFINITY c =
    root_infinite c.args.x (held c.args.x c.well_formed.0.1) c.if-x.true c.if-bits-lt-INFINITY.false

pub returns-then-x-2 : goal.returns-then-x-2
returns-then-x-2 c = root_zero c.args.x c.if-x-2.true

pub returns-else-x-2 : goal.returns-else-x-2
returns-else-x-2 c = root_other c.args.x c.if-x.false c.if-x-2.false
