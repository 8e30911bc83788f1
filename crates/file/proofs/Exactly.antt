-- The theorems that `specs/Exactly.antt` states: where a field began, by the steps of the reader; and the answer by the
-- first check that fails.
use Prim.Native.Nat.{ℕ, suc, ◌+◌, ◌-◌, ◌^◌, ◌<◌}
use mathlib.Core.Path.{◌≡◌, refl, sym, ap, ap₂, ◌∙◌, subst}
use mathlib.Core.Bool.{Bool, true, false, cond}
use mathlib.Core.List.{List, [], ◌∷◌, ◌++◌}
use mathlib.Core.Logic.{◌↔◌, ◌⊎◌, inl, inr, ⊎_elim}
use native.Mathlib.Omega.{arith}
use lib.Dec.{ltb}
use lib.IntN.{ℤ}
use lib.ListN.{length}
use Rattle.std.specs.Prelude.{Some, None, Ok, Err}
use Rattle.lists.specs.Every.{Every, every_append}
use Rattle.plan.specs.declared.Item.{Item}
use Rattle.plan.specs.declared.Item.TheVariants.{Count, Map, Coordinate, Side, Radius, HeadNumber}
use Rattle.plan.specs.declared.Plan.{Plan}
use Rattle.plan.specs.declared.Refusal.{Refusal}
use Rattle.plan.specs.declared.Refusal.TheVariants.{Ended}
use Rattle.plan.specs.Book.{with_head}
use Rattle.plan.specs.Exactly.{Satisfied, Numbered}
use Rattle.plan.specs.Fields.{IsCoordinate, IsSide, IsRadius}
use Rattle.plan.specs.Table.{Answered, taken, refused, refusal_at, holds, refusal_of, number_of, answer_number}
use Rattle.plan.specs.Table.{answer_offset}
use Rattle.plan.proofs.Answers.{same_refusal, same_offset}
use Rattle.plan.proofs.Exactly.{holds_exactly, satisfied_or_not, first_as, first_alike}
use Rattle.plan.proofs.Fields.{field_numbers}
use Rattle.file.specs.declared.reader.Completed.TheVariants.{ThePlan}
use Rattle.file.specs.declared.reader.Reader.{Reader}
use Rattle.file.specs.declared.reader.Stage.{Stage}
use Rattle.file.specs.declared.reader.Stage.TheVariants.{AtCount, AtMap, AtByte0, AtByte1, AtByte2, AtByte3, AtEdit}
use Rattle.file.specs.declared.reader.Stage.TheVariants.{Stopped}
use Rattle.file.specs.declared.reader.Target.{Target}
use Rattle.file.specs.declared.reader.Target.TheVariants.{TheBox, HeadAt, EditOf}
use Rattle.file.specs.File.{next_offset, number32, read_file}
use Rattle.file.specs.Reader.{count_of, item_of, next_field, start, goes_on, check_or, begin, map_read, value_read}
use Rattle.file.specs.Reader.{to_field, turn, to_head, complete_at, complete, seek, choose, step_at, step, finished_at}
use Rattle.file.specs.Reader.{feed}
use Rattle.file.specs.Same.{end_of}
use Rattle.file.specs.Exactly.{Check, check_of, checks_at, checks_of, checks, PlacedAt, ChecksPlaced, AllPassed}
use Rattle.file.specs.Exactly.{Passed, FirstAt, RefusedBy, Wanted, FileTaken, FileEnded, FileRefused, FileAnswers}
use Rattle.file.specs.Exactly.{FileNumber, FileField, FileFour, FileFive, FileEleven, FieldItems, FileSevenNever}
use Rattle.file.proofs.Offsets.{fed_at, ended_at}
use Rattle.file.proofs.Reading.{by_test, checked}
use Rattle.file.proofs.Same.{reader_answers}

-- ---- where a field began

-- the bytes of a number that are read lie between the field's offset and the reader's
abbrev Began : Stage → ℕ → ℕ → Type 0
Began AtCount from at = Unit {0}
Began AtMap from at = Unit {0}
Began AtByte0 from at = at ≡ from
Began (AtByte1 a) from at = at ≡ next_offset from
Began (AtByte2 a b) from at = at ≡ next_offset (next_offset from)
Began (AtByte3 a b c) from at = at ≡ next_offset (next_offset (next_offset from))
Began AtEdit from at = Unit {0}
Began (Stopped why) from at = Unit {0}

abbrev BeganAt : Reader → Type 0
BeganAt r = Began r.stage r.from r.at

to_head_began : (r : Reader) (p : Plan) (i : ℕ) → BeganAt (to_head r p i)
unfolding to_head
to_head_began r p i = by_test BeganAt (ltb i p.n) (turn r p (HeadAt i) AtMap None) (turn r p TheBox AtEdit (Some ThePlan)) (λ e. tt) (λ e. tt)

completed_began : (t : Target) (r : Reader) → BeganAt (complete_at t r)
unfolding complete_at
completed_began TheBox r = to_head_began r r.plan 0
completed_began (HeadAt i) r = to_head_began r (with_head r.plan i r.head) (suc i)
completed_began (EditOf k) r = tt

sought_began : (r : Reader) (i : ℕ) → BeganAt (seek r i)
unfolding seek
sought_began r i =
    let next = next_field (count_of r.target - i) r.map i in
    by_test BeganAt (ltb next (count_of r.target)) (to_field r next) (complete r) (λ e. refl) (λ e. completed_began r.target r)

step_began : (stage : Stage) (r : Reader) (b : ℕ) → Began stage r.from r.at → BeganAt (step_at stage r b)
unfolding step_at
step_began AtCount r b k = checked BeganAt (Count b) r.at r (begin r b) tt tt
step_began AtMap r b k =
    checked BeganAt (Map (count_of r.target) b) r.at r (seek (map_read r b) 0) (sought_began (map_read r b) 0) tt
step_began AtByte0 r b k = ap next_offset k
step_began (AtByte1 a) r b k = ap next_offset k
step_began (AtByte2 a a') r b k = ap next_offset k
step_began (AtByte3 a a' a'') r b k =
    let z = number32 a a' a'' b in
    checked BeganAt (item_of r.target r.field z) r.from r (seek (value_read r z) (suc r.field)) (sought_began (value_read r z) (suc r.field)) tt
step_began AtEdit r b k = checked BeganAt (HeadNumber b r.plan.n) r.at r (choose r b) tt tt
step_began (Stopped why) r b k = tt

fed_began : (r : Reader) (s : List ℕ) → BeganAt r → BeganAt (feed r s)
unfolding feed
fed_began r [] k = k
fed_began r (b ∷ s) k = fed_began (step r b) s (step_began r.stage r b k)

-- what holds of an x or a y, of a side and of a radius holds of each field's item
each_field : (P : Item → Type 0) (t : Target) (i : ℕ) (z : ℤ) → P (Coordinate z) → P (Side z) → P (Radius z)
    → P (item_of t i z)
each_field P TheBox i z place side radius = by_test P _ (Coordinate z) (Side z) (λ e. place) (λ e. side)
each_field P (HeadAt j) i z place side radius = by_test P _ (Coordinate z) (Radius z) (λ e. place) (λ e. radius)
each_field P (EditOf k) i z place side radius = by_test P _ (Coordinate z) (Radius z) (λ e. place) (λ e. radius)

field_placed : (t : Target) (i : ℕ) (z : ℤ) (k offset : ℕ) → offset + 3 ≡ k → PlacedAt k (item_of t i z) offset
field_placed t i z k offset e = each_field (λ item. PlacedAt k item offset) t i z e e e

placed_at : (stage : Stage) (r : Reader) (b k : ℕ) → r.at ≡ k → k < 2 ^ 64 - 1 → Began stage r.from r.at
    → Every (λ c. PlacedAt k c.item c.offset) (checks_at stage r b)
placed_at AtCount r b k e h g = (e, tt)
placed_at AtMap r b k e h g = (e, tt)
placed_at AtByte0 r b k e h g = tt
placed_at (AtByte1 a) r b k e h g = tt
placed_at (AtByte2 a a') r b k e h g = tt
placed_at (AtByte3 a a' a'') r b k e h g =
    (field_placed r.target r.field (number32 a a' a'' b) k r.from (omega arith), tt)
placed_at AtEdit r b k e h g = (e, tt)
placed_at (Stopped why) r b k e h g = tt

pub checks_placed : ChecksPlaced
checks_placed s b h =
    let r = feed start s in
    let last = fed_at start s (omega arith) tt in
    let here : r.at ≡ length s = omega (arith, last.0) in
    placed_at r.stage r b (length s) here h (fed_began start s tt)

-- ---- the reader stops exactly at the first check that fails

-- a check that is passed, and one that is not
passed : (P : Reader → Type 0) (item : Item) (from : ℕ) (r next : Reader) → Satisfied item → P next
    → P (check_or item from r next)
passed P item from r next s k =
    subst (λ t. P (goes_on (cond t taken (refused (refusal_of item) from)) r next)) (sym ((holds_exactly item).1 s)) k

failed : (item : Item) (from : ℕ) (r next : Reader) → ¬ Satisfied item
    → (check_or item from r next).stage ≡ Stopped (refusal_at (refusal_of item) from)
failed item from r next s = go (holds item) refl
  where
    go : (t : Bool) → holds item ≡ t
        → (goes_on (cond t taken (refused (refusal_of item) from)) r next).stage ≡ Stopped (refusal_at (refusal_of item) from)
    go true e = absurd (s ((holds_exactly item).0 e))
    go false e = refl

stopped_step : (r : Reader) (b : ℕ) (refusal : Refusal) (o : ℕ) (stage : Stage) → stage ≡ Stopped (refusal_at refusal o)
    → (step_at stage r b).stage ≡ Stopped (refusal_at refusal o)
unfolding step_at
stopped_step r b refusal o stage e = subst (λ t. (step_at t r b).stage ≡ Stopped (refusal_at refusal o)) (sym e) refl

stays_stopped : (s : List ℕ) (r : Reader) (refusal : Refusal) (o : ℕ) → r.stage ≡ Stopped (refusal_at refusal o)
    → (feed r s).stage ≡ Stopped (refusal_at refusal o)
unfolding feed
stays_stopped [] r refusal o e = e
stays_stopped (b ∷ s) r refusal o e = stays_stopped s (step r b) refusal o (stopped_step r b refusal o r.stage e)

module _ (refusal : Refusal) (o : ℕ) where
  -- where one of these checks is the first that fails, by this refusal at this offset, the reader stops by it
  abbrev StopsAt : List Check → Reader → List ℕ → Type 0
  StopsAt cs r s = FirstAt (RefusedBy refusal) o cs → (feed r s).stage ≡ Stopped (refusal_at refusal o)

  -- one check, and then the rest
  one_fails : (item : Item) (from : ℕ) (r next : Reader) (s : List ℕ)
      → StopsAt (checks (check_or item from r next) s) (check_or item from r next) s
      → StopsAt (check_of item from ∷ checks (check_or item from r next) s) (check_or item from r next) s
  one_fails item from r next s rest =
      ⊎_elim
      (λ u.
      let stopped = failed item from r next u.0 ∙ ap₂ (λ x at. Stopped (refusal_at x at)) u.1.0 u.1.1 in
      stays_stopped s (check_or item from r next) refusal o stopped)
      (λ u. rest u.1)

  fails_at : (stage : Stage) (r : Reader) (b : ℕ) (s : List ℕ)
      → StopsAt (checks (step_at stage r b) s) (step_at stage r b) s
      → StopsAt (checks_at stage r b ++ checks (step_at stage r b) s) (step_at stage r b) s
  unfolding step_at
  fails_at AtCount r b s rest u = one_fails (Count b) r.at r (begin r b) s rest u
  fails_at AtMap r b s rest u = one_fails (Map (count_of r.target) b) r.at r (seek (map_read r b) 0) s rest u
  fails_at AtByte0 r b s rest u = rest u
  fails_at (AtByte1 a) r b s rest u = rest u
  fails_at (AtByte2 a a') r b s rest u = rest u
  fails_at (AtByte3 a a' a'') r b s rest u =
      let z = number32 a a' a'' b in
      one_fails (item_of r.target r.field z) r.from r (seek (value_read r z) (suc r.field)) s rest u
  fails_at AtEdit r b s rest u = one_fails (HeadNumber b r.plan.n) r.at r (choose r b) s rest u
  fails_at (Stopped why) r b s rest u = rest u

  fails_stop : (s : List ℕ) (r : Reader) → FirstAt (RefusedBy refusal) o (checks r s)
      → (feed r s).stage ≡ Stopped (refusal_at refusal o)
  unfolding feed checks
  fails_stop [] r u = absurd u
  fails_stop (b ∷ s) r u = fails_at r.stage r b s (fails_stop s (step r b)) u

-- not stopped
abbrev Running : Stage → Type 0
Running AtCount = Unit {0}
Running AtMap = Unit {0}
Running AtByte0 = Unit {0}
Running (AtByte1 a) = Unit {0}
Running (AtByte2 a b) = Unit {0}
Running (AtByte3 a b c) = Unit {0}
Running AtEdit = Unit {0}
Running (Stopped why) = ⊥

abbrev Runs : Reader → Type 0
Runs r = Running r.stage

to_head_runs : (r : Reader) (p : Plan) (i : ℕ) → Runs (to_head r p i)
unfolding to_head
to_head_runs r p i = by_test Runs (ltb i p.n) (turn r p (HeadAt i) AtMap None) (turn r p TheBox AtEdit (Some ThePlan)) (λ e. tt) (λ e. tt)

completed_runs : (t : Target) (r : Reader) → Runs (complete_at t r)
unfolding complete_at
completed_runs TheBox r = to_head_runs r r.plan 0
completed_runs (HeadAt i) r = to_head_runs r (with_head r.plan i r.head) (suc i)
completed_runs (EditOf k) r = tt

sought_runs : (r : Reader) (i : ℕ) → Runs (seek r i)
unfolding seek
sought_runs r i =
    let next = next_field (count_of r.target - i) r.map i in
    by_test Runs (ltb next (count_of r.target)) (to_field r next) (complete r) (λ e. tt) (λ e. completed_runs r.target r)

passes_at : (stage : Stage) (r : Reader) (b : ℕ) (s : List ℕ) → Running stage
    → (Runs (step_at stage r b) → AllPassed (checks (step_at stage r b) s) → Runs (feed (step_at stage r b) s))
    → AllPassed (checks_at stage r b ++ checks (step_at stage r b) s) → Runs (feed (step_at stage r b) s)
unfolding step_at
passes_at AtCount r b s k rest u = rest (passed Runs (Count b) r.at r (begin r b) u.0 tt) u.1
passes_at AtMap r b s k rest u =
    rest (passed Runs (Map (count_of r.target) b) r.at r (seek (map_read r b) 0) u.0 (sought_runs (map_read r b) 0)) u.1
passes_at AtByte0 r b s k rest u = rest tt u
passes_at (AtByte1 a) r b s k rest u = rest tt u
passes_at (AtByte2 a a') r b s k rest u = rest tt u
passes_at (AtByte3 a a' a'') r b s k rest u =
    let z = number32 a a' a'' b in
    rest (passed Runs (item_of r.target r.field z) r.from r (seek (value_read r z) (suc r.field)) u.0 (sought_runs (value_read r z) (suc r.field))) u.1
passes_at AtEdit r b s k rest u = rest (passed Runs (HeadNumber b r.plan.n) r.at r (choose r b) u.0 tt) u.1
passes_at (Stopped why) r b s k rest u = absurd k

passes_run : (s : List ℕ) (r : Reader) → Runs r → AllPassed (checks r s) → Runs (feed r s)
unfolding feed checks
passes_run [] r k u = k
passes_run (b ∷ s) r k u = passes_at r.stage r b s k (passes_run s (step r b)) u

-- ---- the answer

refused_taken : (r : Refusal) (o : ℕ) → refused r o ≡ taken → ⊥
refused_taken r o e = let z : ◌≡◌ {A = ℕ} 0 1 = cc e in omega arith

-- some check fails, or none does
abbrev SomeFails : List Check → Type 0
SomeFails cs = (r : Refusal) × (o : ℕ) × FirstAt (RefusedBy r) o cs

decided : (cs : List Check) → AllPassed cs ⊎ SomeFails cs
decided [] = inl tt
decided (c ∷ cs) =
    ⊎_elim (λ s. ⊎_elim (λ u. inl (s, u)) (λ u. inr (u.0, u.1, inr (s, u.2))) (decided cs))
    (λ s. inr (refusal_of c.item, c.offset, inl (s, (refl, refl)))) (satisfied_or_not c.item)

-- no check is refused under 1 or 7
abbrev OfFiles : Item → Type 0
OfFiles item = ¬ Numbered 1 item × ¬ Numbered 7 item

field_of_files : (t : Target) (i : ℕ) (z : ℤ) → OfFiles (item_of t i z)
field_of_files t i z =
    each_field OfFiles t i z (omega arith, omega arith) (omega arith, omega arith) (omega arith, omega arith)

of_files_at : (stage : Stage) (r : Reader) (b : ℕ) → Every (λ c. OfFiles c.item) (checks_at stage r b)
of_files_at AtCount r b = ((omega arith, omega arith), tt)
of_files_at AtMap r b = ((omega arith, omega arith), tt)
of_files_at AtByte0 r b = tt
of_files_at (AtByte1 a) r b = tt
of_files_at (AtByte2 a a') r b = tt
of_files_at (AtByte3 a a' a'') r b = (field_of_files r.target r.field (number32 a a' a'' b), tt)
of_files_at AtEdit r b = ((omega arith, omega arith), tt)
of_files_at (Stopped why) r b = tt

checks_of_files : (s : List ℕ) (r : Reader) → Every (λ c. OfFiles c.item) (checks r s)
unfolding checks
checks_of_files [] r = tt
checks_of_files (b ∷ s) r =
    let here = of_files_at r.stage r b in
    every_append (λ c. OfFiles c.item) (checks_of r b) (checks (step r b) s) here (checks_of_files s (step r b))

refusal_of_files : (cs : List Check) (r : Refusal) (o : ℕ) → Every (λ c. OfFiles c.item) cs → FirstAt (RefusedBy r) o cs
    → (number_of r ≡ 1 → ⊥) × (number_of r ≡ 7 → ⊥)
refusal_of_files [] r o k u = absurd u
refusal_of_files (c ∷ cs) r o k u =
    ⊎_elim (λ v. subst (λ x. (number_of x ≡ 1 → ⊥) × (number_of x ≡ 7 → ⊥)) v.1.0 k.0)
    (λ v. refusal_of_files cs r o k.1 v.1) u

module _ (s : List ℕ) where
  answer : end_of (read_file s) ≡ finished_at (feed start s).stage (feed start s).at
  answer = sym (reader_answers s)

  -- a check fails: its refusal and its offset
  failing : (r : Refusal) (o : ℕ) → FirstAt (RefusedBy r) o (checks start s) → end_of (read_file s) ≡ refused r o
  failing r o u = answer ∙ ap (λ stage. finished_at stage (feed start s).at) (fails_stop r o s start u)

  never_ended : (r : Refusal) (o : ℕ) → FirstAt (RefusedBy r) o (checks start s)
      → (number_of r ≡ 1 → ⊥) × (number_of r ≡ 7 → ⊥)
  never_ended r o u = refusal_of_files (checks start s) r o (checks_of_files s start) u

  -- every check is passed: taken, or 1
  running_taken : (stage : Stage) (at : ℕ) → finished_at stage at ≡ taken → stage ≡ AtEdit
  running_taken AtCount at e = absurd (refused_taken Ended at e)
  running_taken AtMap at e = absurd (refused_taken Ended at e)
  running_taken AtByte0 at e = absurd (refused_taken Ended at e)
  running_taken (AtByte1 a) at e = absurd (refused_taken Ended at e)
  running_taken (AtByte2 a b) at e = absurd (refused_taken Ended at e)
  running_taken (AtByte3 a b c) at e = absurd (refused_taken Ended at e)
  running_taken AtEdit at e = refl
  running_taken (Stopped why) at e = absurd (refused_taken why.refusal why.at e)

  running_wanted : (stage : Stage) (at : ℕ) (r : Refusal) (o : ℕ) → Running stage → finished_at stage at ≡ refused r o
      → Wanted stage × (r ≡ Ended)
  running_wanted AtCount at r o k e = (tt, sym (same_refusal e))
  running_wanted AtMap at r o k e = (tt, sym (same_refusal e))
  running_wanted AtByte0 at r o k e = (tt, sym (same_refusal e))
  running_wanted (AtByte1 a) at r o k e = (tt, sym (same_refusal e))
  running_wanted (AtByte2 a b) at r o k e = (tt, sym (same_refusal e))
  running_wanted (AtByte3 a b c) at r o k e = (tt, sym (same_refusal e))
  running_wanted AtEdit at r o k e = absurd (refused_taken r o (sym e))
  running_wanted (Stopped why) at r o k e = absurd k

  wanted_ended : (stage : Stage) (at : ℕ) → Wanted stage → finished_at stage at ≡ refused Ended at
  wanted_ended AtCount at k = refl
  wanted_ended AtMap at k = refl
  wanted_ended AtByte0 at k = refl
  wanted_ended (AtByte1 a) at k = refl
  wanted_ended (AtByte2 a b) at k = refl
  wanted_ended (AtByte3 a b c) at k = refl
  wanted_ended AtEdit at k = absurd k
  wanted_ended (Stopped why) at k = absurd k

  -- an answer where some check fails is that check's
  the_failing : (r : Refusal) (o : ℕ) → end_of (read_file s) ≡ refused r o → SomeFails (checks start s)
      → FirstAt (RefusedBy r) o (checks start s)
  the_failing r o e u =
      let same : refused u.0 u.1 ≡ refused r o = sym (failing u.0 u.1 u.2) ∙ e in
      let refusal : u.0 ≡ r = same_refusal same in
      let offset : u.1 ≡ o = same_offset same in
      subst (λ x. FirstAt (RefusedBy x) o (checks start s)) refusal
      (subst (λ x. FirstAt (RefusedBy u.0) x (checks start s)) offset u.2)

  runs : AllPassed (checks start s) → Running (feed start s).stage
  runs u = passes_run s start tt u

pub file_taken : FileTaken
file_taken s = (
  (λ e.
      ⊎_elim
      (λ u. (u, running_taken s (feed start s).stage (feed start s).at (sym (answer s) ∙ e)))
      (λ u. absurd (refused_taken u.0 u.1 (sym (failing s u.0 u.1 u.2) ∙ e)))
      (decided (checks start s))),
  (λ u. answer s ∙ ap (λ stage. finished_at stage (feed start s).at) u.1),
)

pub file_ended : FileEnded
file_ended s o = (
  (λ e.
      ⊎_elim
      (λ u. (u, (running_wanted s (feed start s).stage (feed start s).at Ended o (runs s u) (sym (answer s) ∙ e)).0, ended_at s o e))
      (λ u. absurd ((never_ended s Ended o (the_failing s Ended o e u)).0 refl))
      (decided (checks start s))),
  (λ u.
      let last : (feed start s).at ≡ o = omega (arith, (fed_at start s (omega arith) tt).0) in
      answer s ∙ wanted_ended s (feed start s).stage (feed start s).at u.1 ∙ ap (refused Ended) last),
)

pub file_refused : FileRefused
file_refused s r o n = (
  (λ e.
      ⊎_elim
      (λ u. absurd (n (running_wanted s (feed start s).stage (feed start s).at r o (runs s u) (sym (answer s) ∙ e)).1))
      (the_failing s r o e)
      (decided (checks start s))),
  failing s r o,
)

-- the number of the first check that fails, from its refusal, and back
to_number : (r : Refusal) (o : ℕ) (cs : List Check) → FirstAt (RefusedBy r) o cs → FirstAt (Numbered (number_of r)) o cs
to_number r o cs u = first_as Passed (λ c v. (ap number_of v.0, v.1)) cs u

from_number : (k o : ℕ) (cs : List Check) → FirstAt (Numbered k) o cs
    → (r : Refusal) × (number_of r ≡ k) × FirstAt (RefusedBy r) o cs
from_number k o [] u = absurd u
from_number k o (c ∷ cs) u =
    ⊎_elim (λ v. (refusal_of c.item, v.1.0, inl (v.0, (refl, v.1.1))))
    (λ v. let rest = from_number k o cs v.1 in (rest.0, rest.1, inr (v.0, rest.2))) u

pub file_number : FileNumber
file_number s k o h = ((λ q. given (end_of (read_file s)) refl q.0 q.1), found)
  where
    given : (a : Answered) → end_of (read_file s) ≡ a → answer_number a ≡ k → answer_offset a ≡ o
        → FirstAt (Numbered k) o (checks start s)
    given (Ok done) e n at = absurd (omega (arith, n))
    given (Err r) e n at =
        let first = (file_refused s r.refusal r.at (λ q. let is = ap number_of q in omega (arith, is, n))).0 e in
        let here = to_number r.refusal r.at (checks start s) first in
        subst (λ i. FirstAt (Numbered i) o (checks start s)) n
        (subst (λ i. FirstAt (Numbered (number_of r.refusal)) i (checks start s)) at here)

    found : FirstAt (Numbered k) o (checks start s) → FileAnswers s k o
    found u =
        let r = from_number k o (checks start s) u in
        let is = (file_refused s r.0 o (λ q. let one = ap number_of q in omega (arith, one, r.1))).1 r.2 in
        (ap answer_number is ∙ r.1, ap answer_offset is)

-- ---- the numbers of the fields

file_field : (k : ℕ) (Those : Item → Type 0) → 1 < k → ((item : Item) → Numbered k item ↔ Those item)
    → FileField k Those
file_field k Those h kind s o =
    let is = file_number s k o h in
    let here : (c : Check) → (Numbered k c.item × (c.offset ≡ o)) ↔ (Those c.item × (c.offset ≡ o)) =
    λ c. ((λ v. ((kind c.item).0 v.0, v.1)), (λ v. ((kind c.item).1 v.0, v.1))) in
    let those = first_alike Passed here (checks start s) in
    ((λ q. those.0 (is.0 q)), (λ u. is.1 (those.1 u)))

pub file_four : FileFour
file_four = file_field 4 IsCoordinate (omega arith) field_numbers.coordinate

pub file_five : FileFive
file_five = file_field 5 IsSide (omega arith) field_numbers.side

pub file_eleven : FileEleven
file_eleven = file_field 11 IsRadius (omega arith) field_numbers.radius

pub field_items : FieldItems
field_items = record {
  box_place = λ z. (refl, refl);
  box_sides = λ z. (refl, refl);
  head_place = λ j z. (refl, refl);
  head_radius = λ j z. refl;
  edit_place = λ k z. (refl, refl);
  edit_radius = λ k z. refl;
}

pub file_seven_never : FileSevenNever
file_seven_never s e = go (end_of (read_file s)) refl e
  where
    go : (a : Answered) → end_of (read_file s) ≡ a → answer_number a ≡ 7 → ⊥
    go (Ok done) q e = omega arith
    go (Err r) q e =
        ⊎_elim
        (λ u. let is : number_of r.refusal ≡ 1 = ap number_of (running_wanted s (feed start s).stage (feed start s).at r.refusal r.at (runs s u) (sym (answer s) ∙ q)).1 in omega arith)
        (λ u. (never_ended s r.refusal r.at (the_failing s r.refusal r.at q u)).1 e)
        (decided (checks start s))
