-- `feeding::Reading::feed` meets its contract. The invariant: the state is that after the bytes so far.
use mathlib.Core.Path.{◌≡◌}
use lib.ListN.{take}
use Rattle.table.specs.Method.{clipped_table}
use Rattle.table.specs.Tables.{tables_in, SameSlices}
use Rattle.reading.specs.Reading.{state_in, read_bytes}
use Rattle.reading.proofs.feeding.Reading.feed.Given as goal

abbrev pub invariant-loop-byte : goal.invariant-loop-byte
invariant-loop-byte l =
    record {
      state : state_in l.self (tables_in l.tables)
          ≡ read_bytes clipped_table (state_in l.initial.self (tables_in l.initial.tables)) (take l.byte-index l.bytes);
      same_slices : SameSlices l.initial.tables l.tables;
    }
