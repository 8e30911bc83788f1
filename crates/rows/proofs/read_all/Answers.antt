use Rattle.table.specs.Tables.{tables_in}
use Rattle.rows.proofs.Parts.{none_yet, one_more, read_of}
use Rattle.rows.proofs.read_all.Goals as goal

pub loop-init : goal.loop-init
loop-init g c = none_yet _ (tables_in c.args.tables.now) _ _ c.begin-reading.ensures

pub loop-preserved : goal.loop-preserved
loop-preserved g c =
    let t = tables_in c.args.tables.now in
    one_more _ _ _ t _ _ _ c.loop.invariant
    (read_of c.read.result c.map_err.result _ _ _ _ _ c.map_err.ensures.cases c.in_ok-n.was c.read.ensures.bytes)
    (c.feed.ensures.after_bytes t)
