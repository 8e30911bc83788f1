use Prim.Native.Nat.{ℕ}
use Rattle.regions.specs.Edit.{Row}
use Rattle.regions.proofs.Slices.{settled_of}
use Rattle.table.specs.Method.{clipped_table}
use Rattle.table.specs.Ready.{heads_in}
use Rattle.table.specs.Rows.{rows_written}
use Rattle.table.specs.Tables.{tables_in}
use Rattle.table.proofs.tables.write_tables.Goals as goal

pub returns-clause-written : goal.returns-clause-written
returns-clause-written c =
    let x = c.write_exclusives.ensures in
    let w = c.write_rows.ensures in
    let a = c.args in
    let r = a.ready.now in
    let t = a.tables.now in
    let many = c.len-n.ensures.value in
    let u = a.update in
    let rows : ℕ → Row = rows_written r u.change u.earlier.now u.later.now t.presence.now t.rows.now in
    settled_of clipped_table (heads_in r) rows (tables_in t)
    w.presence_after
    w.rows_after
    (rw many at x.exclusive_presence_after)
    (rw many at x.exclusives_after)
