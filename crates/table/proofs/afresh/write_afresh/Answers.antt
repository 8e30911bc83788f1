use mathlib.Core.Path.{ap, ◌∙◌}
use Rattle.std.specs.Option.{is_some}
use Rattle.geometry.specs.Rectangle.{area}
use Rattle.areas.specs.Sets.{plan_sets}
use Rattle.table.specs.Method.{method_over}
use Rattle.table.specs.Tables.{tables_in}
use Rattle.table.proofs.Calls.{serves, afresh_written}
use Rattle.table.proofs.afresh.write_afresh.Goals as goal

pub returns-clause-written : goal.returns-clause-written
returns-clause-written c =
    let a = c.args in
    let r = a.ready.now in
    let of = c.requires.1 in
    let room = c.requires.0 in
    rw (c.write_tables.ensures.written, c.default.ensures.0, c.default.ensures.1, of.n room.count)
    (afresh_written (method_over (is_some r.bounds) plan_sets) a.plan r
    (serves r.bounds plan_sets a.plan r of c.requires.2) a.sets.now (tables_in a.tables.now) room
    c.area.result (c.area.ensures ∙ ap area c.box_of.ensures))
