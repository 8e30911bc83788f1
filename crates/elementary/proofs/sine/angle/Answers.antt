-- `angle` meets its contract: Entry says that the product can be cut, and how large the angle is.
use Rattle.std.proofs.Common.{T, sym, subst}
use Rattle.elementary.proofs.sine.Entry.{cut_asks, cut_bound}
use Rattle.elementary.proofs.sine.angle.Goals as goal

pub truncating_f64_to_u64-requires : goal.truncating_f64_to_u64-requires
truncating_f64_to_u64-requires c =
    let asked = cut_asks c.args.v c.abs.result (subst T (sym c.well_formed.0.1) tt) c.requires c.abs.ensures in
    record { lower_bound = asked.0; upper_bound = asked.1 }

pub returns-clause-bound : goal.returns-clause-bound
returns-clause-bound c =
    cut_bound c.args.v c.abs.result (subst T (sym c.well_formed.0.1) tt) c.requires c.abs.ensures
    c.truncating_f64_to_u64.result c.truncating_f64_to_u64.ensures
