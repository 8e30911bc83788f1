-- The parts of an input, one after another.
use Rattle.std.proofs.Common.{◌≡◌, ℕ, List, [], None, Some, Result, Ok, Err, OnOk, ◌++◌, length, take, IfSome}
use Rattle.std.proofs.Common.{subst, sym, ap, ap₂, ◌∙◌, drop, ◌≤◌, take_at, arith}
use Rattle.std.proofs.KnownBytes.{Consumes-nil, Consumes-trans}
use Rattle.std.specs.declared.option.Option.{Option}
use Rattle.std.specs.Prelude.{MatchResult, IsErrAnd}
use Rattle.std.specs.Io.KnownBytes.{Appends, Consumes, ReadConsumes}
use Rattle.regions.specs.Slices.{LentTables}
use Rattle.table.specs.Method.{clipped_table}
use Rattle.printing.specs.Text.{Printed}
use Rattle.printing.proofs.Putting.{put_fits}
use Rattle.file.specs.declared.reader.Reader.{Reader}
use Rattle.file.specs.Reader.{start}
use Rattle.plan.specs.declared.Plan.{Plan}
use Rattle.file.specs.File.{read_file}
use Rattle.reading.specs.Whole.{over, no_plan, file_printed}
use Rattle.reading.specs.Reading.{State, state_of, AfterBytes}
use Rattle.reading.proofs.Bytes.{begun_reads}
use Rattle.rows.specs.Program.{zero_tables, printed}

-- the bytes so far, and the state after them
abbrev pub SoFar : Option (List ℕ) → Option (List ℕ) → LentTables → State → Type 0
SoFar first now t state = (bs : List ℕ) × Consumes first now bs × AfterBytes clipped_table t bs state

-- before the first
pub none_yet : (first : Option (List ℕ)) (t : LentTables) (r : Reader) (p : Plan) → (r ≡ start) × (p ≡ no_plan)
    → SoFar first first t (state_of r (over t p))
none_yet first t r p e = (
  [],
  Consumes-nil first,
  subst (AfterBytes clipped_table t []) (sym (ap₂ (λ r p. state_of r (over t p)) e.0 e.1))
      (begun_reads clipped_table t),
)

-- one part more
pub one_more : (first old new : Option (List ℕ)) (t : LentTables) (bs : List ℕ) (before after : State)
    → SoFar first old t before → Consumes old new bs
    → ((s : List ℕ) → AfterBytes clipped_table t s before → AfterBytes clipped_table t (s ++ bs) after)
    → SoFar first new t after
one_more first old new t bs before after so took fed =
    (so.0 ++ bs, Consumes-trans first old new so.0 bs so.1 took, fed so.0 so.2)

-- what was read, where an error is given as another
abbrev value : {D : Type 0} → Result ℕ D → ℕ
value (Ok n) = n
value (Err e) = 0

pub read_of : {E D : Type 0} (r : Result ℕ E) (m : Result ℕ D) (n : ℕ) (P : E → D → Type 0) (old new : Option (List ℕ))
    (buf : List ℕ) → MatchResult r (λ x. m ≡ Ok x) (λ e. IsErrAnd m (P e)) → m ≡ Ok n → ReadConsumes old new r buf
    → Consumes old new (take n buf)
read_of {E} {D} (Ok x) m n P old new buf is ok took =
    subst (λ k. Consumes old new (take k buf)) (ap (value {D = D}) (sym is ∙ ok)) took.0
read_of (Err e) m n P old new buf is ok took = absurd (subst (λ m. IsErrAnd m (P e)) ok is)

-- a text that was put together at the front of a buffer with room for it
pub text_at_front : (text out left : List ℕ) (n : ℕ) → n ≤ length out → Printed text out left n → take n left ≡ text
text_at_front text out left n h p =
    let fits : length text ≤ length out = omega (arith, h, p.counted) in
    ap (take n) (p.bytes ∙ put_fits out text fits) ∙ take_at text (drop (length text) out) n (sym p.counted)

-- an input that was read to its end is printed as a whole file
pub all_printed : {E : Type 0} (r : Result (Unit {0}) E) (known old new : Option (List ℕ)) (state : State)
    → IfSome known (λ xs. AfterBytes clipped_table zero_tables xs state)
    → OnOk r ((t : LentTables) (s : List ℕ) → AfterBytes clipped_table t s state
    → Appends old new (file_printed clipped_table t (read_file s)))
    → OnOk r (IfSome known (λ xs. Appends old new (printed xs)))
all_printed (Ok u) None old new state i p = tt
all_printed (Ok u) (Some xs) old new state i p = p zero_tables xs i
all_printed (Err e) known old new state i p = tt
