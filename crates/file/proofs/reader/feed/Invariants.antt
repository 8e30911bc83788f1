-- `file::reader::feed` meets its contract. Assumes nothing.
use mathlib.Core.Path.{◌≡◌}
use lib.ListN.{drop}
use Rattle.file.specs.Reader.{feed}
use Rattle.file.proofs.reader.feed.Given as goal

abbrev pub invariant-loop-b : goal.invariant-loop-b
invariant-loop-b l = feed l.reader (drop l.b-index l.bytes) ≡ feed l.initial.reader l.bytes
