-- `feeding::Reading::feed` meets its contract. The invariant: the state is that after the bytes so far.
use mathlib.Core.Path.{◌≡◌, sym, ap, ◌∙◌}
use Rattle.std.proofs.lemmas.List.{take_all}
use lib.ListN.{get_or, take}
use Rattle.table.specs.Method.{clipped_table}
use Rattle.table.specs.Tables.{tables_in, plan_tables}
use Rattle.table.proofs.Calls.{same_self, same_then}
use Rattle.reading.specs.Reading.{state_in, state_of, read_byte, read_bytes}
use Rattle.reading.proofs.Bytes.{bytes_first, bytes_next, byte_read, piece_reads}
use Rattle.reading.proofs.feeding.Reading.feed.Goals as goal

pub loop-byte-init : goal.loop-byte-init
loop-byte-init c = record { state = sym (bytes_first clipped_table _); same_slices = same_self _ }

pub loop-byte-preserved : goal.loop-byte-preserved
loop-byte-preserved c =
    let l = c.loop-byte in
    let a = c.args in
    let b = get_or a.bytes.now l.byte-index 0 in
    let h = c.hand.ensures in
    let start = state_in a.self.now (tables_in a.tables.now) in
    let left = plan_tables c.hand.new.self.plan c.hand.new.tables in record {
      state = ap (λ r. state_of r left) h.reader
          ∙ byte_read clipped_table l.self.reader c.step-self.result (plan_tables l.self.plan l.tables) left b
          c.step-self.ensures h.left
          ∙ ap (λ s. read_byte clipped_table s b) l.invariant.state
          ∙ sym (bytes_next clipped_table start a.bytes.now l.byte-index c.loop-byte-test.true);
      same_slices = same_then l.invariant.same_slices h.same_slices;
    }

pub returns : goal.returns
returns c =
    let l = c.loop-byte in
    let bytes = c.args.bytes.now in
    let all : take l.byte-index bytes ≡ bytes = take_all l.byte-index bytes c.loop-byte-test.false in
    let start = state_in c.args.self.now (tables_in c.args.tables.now) in
    let read = l.invariant.state ∙ ap (read_bytes clipped_table start) all in record {
      state_after = read;
      after_bytes = λ t s before. read ∙ piece_reads clipped_table t s bytes _ before;
      same_slices = l.invariant.same_slices;
    }
