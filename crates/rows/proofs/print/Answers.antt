use Rattle.std.proofs.Common.{ℕ, ◌≤◌, List, Result, Ok, Err, OnOk, length, take, subst, rules}
use Rattle.std.specs.declared.option.Option.{Option}
use Rattle.std.specs.Io.KnownBytes.{Appends}
use Rattle.regions.specs.Slices.{LentTables}
use Rattle.table.specs.Method.{clipped_table}
use Rattle.table.specs.Tables.{tables_in}
use Rattle.file.specs.File.{read_file}
use Rattle.printing.specs.Text.{Printed}
use Rattle.reading.specs.Whole.{file_printed}
use Rattle.reading.specs.Reading.{state_in, AfterBytes}
use Rattle.rows.proofs.Parts.{text_at_front}
use Rattle.rows.proofs.print.Goals as goal

-- what is written is the text of each file that the state may be of
texts_written : {E : Type 0} (r : Result (Unit {0}) E) (old new : Option (List ℕ)) (out left : List ℕ) (n : ℕ)
    (Of : LentTables → List ℕ → Type 0) (text : LentTables → List ℕ → List ℕ)
    → OnOk r (Appends old new (take n left)) → n ≤ length out
    → ((t : LentTables) (s : List ℕ) → Of t s → Printed (text t s) out left n)
    → OnOk r ((t : LentTables) (s : List ℕ) → Of t s → Appends old new (text t s))
texts_written (Ok x) old new out left n Of text h few p = λ t s is. subst (Appends old new)
    (text_at_front (text t s) out left n few (p t s is)) h
texts_written (Err e) old new out left n Of text h few p = tt

pub returns-clause-ok : goal.returns-clause-ok
returns-clause-ok g c =
    let state = state_in c.args.reading (tables_in c.args.tables.now) in
    let n = c.print_file-n in
    let written : OnOk c.map_err.result
    (Appends (g.O.Write.contents c.args.out.now) (g.O.Write.contents c.write_all.new.self)
    (take n.result n.new.out)) = search rules in
    texts_written c.map_err.result _ _ _ n.new.out n.result
    (λ t s. AfterBytes clipped_table t s state) (λ t s. file_printed clipped_table t (read_file s))
    written n.ensures.upper_bound n.ensures.printed_2
