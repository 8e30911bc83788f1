-- The theorems that `specs/Applied.antt` states: what a step of the reader leaves of the plan, before the plan is
-- handed out and after; then the fold over the bytes, and the book by `edit_taken` of `plan`.
use Prim.Native.Nat.{ℕ, suc, ◌-◌, ◌^◌, ◌≤◌}
use mathlib.Core.Path.{◌≡◌, refl, sym, ap, ◌∙◌, subst}
use mathlib.Core.List.{List, [], ◌∷◌}
use native.Mathlib.Omega.{arith}
use lib.Dec.{ltb}
use lib.IntN.{ℤ}
use lib.ListN.{length, length-set}
use Rattle.plan.specs.Table.{Answered, taken, refused}
use Rattle.std.specs.Prelude.{Option, Some, None}
use Rattle.plan.specs.declared.Item.TheVariants.{Count, Map, HeadNumber}
use Rattle.plan.specs.declared.Lent.{Lent}
use Rattle.plan.specs.declared.Plan.{Plan}
use Rattle.plan.specs.Limits.{Acceptable}
use Rattle.lists.specs.Run.{after}
use Rattle.plan.specs.Book.{head_of, with_head, applied, leaves, book}
use Rattle.plan.proofs.Exactly.{edit_taken}
use Rattle.plan.proofs.Keeps.{applied_acceptable}
use Rattle.file.specs.declared.reader.Completed.{Completed}
use Rattle.file.specs.declared.reader.Completed.TheVariants.{ThePlan, AnEdit}
use Rattle.file.specs.declared.reader.Reader.{Reader}
use Rattle.file.specs.declared.reader.Stage.{Stage}
use Rattle.file.specs.declared.reader.Stage.TheVariants.{AtCount, AtMap, AtByte0, AtByte1, AtByte2, AtByte3, AtEdit}
use Rattle.file.specs.declared.reader.Stage.TheVariants.{Stopped}
use Rattle.file.specs.declared.reader.Target.{Target}
use Rattle.file.specs.declared.reader.Target.TheVariants.{TheBox, HeadAt, EditOf}
use Rattle.file.specs.File.{Got, got, stop, number32, plan_part, File, ends, gives_plan, gives_edit, edits, then_edits}
use Rattle.file.specs.File.{read_file}
use Rattle.file.specs.Reader.{count_of, item_of, next_field, start, begin, map_read, plan_put, value_read, to_field}
use Rattle.file.specs.Reader.{turn, to_head, complete_at, complete, seek, choose, step_at, step, finish, feed, handing}
use Rattle.file.specs.Reader.{hand, handed_over}
use Rattle.file.specs.Same.{end_of}
use Rattle.file.specs.Sound.{EditsWithin, FileWithin}
use Rattle.file.specs.Applied.{plan_after, entries, ReaderPlan, ReaderBook, TakenGives}
use Rattle.file.proofs.Reading.{by_test, checked}
use Rattle.file.proofs.Same.{reader_reads, reader_answers}
use Rattle.file.proofs.Sound.{file_sound}

-- ---- the two parts of a file

-- a target of the plan, and one of the edits
abbrev OfPlan : Target → Type 0
OfPlan TheBox = Unit {0}
OfPlan (HeadAt i) = Unit {0}
OfPlan (EditOf k) = ⊥

abbrev OfEdits : Target → Type 0
OfEdits TheBox = ⊥
OfEdits (HeadAt i) = ⊥
OfEdits (EditOf k) = Unit {0}

-- the plan is not handed out yet; where the reader has stopped nothing will be
abbrev InPlan : Stage → Target → Type 0
InPlan AtCount t = Unit {0}
InPlan AtMap t = OfPlan t
InPlan AtByte0 t = OfPlan t
InPlan (AtByte1 a) t = OfPlan t
InPlan (AtByte2 a b) t = OfPlan t
InPlan (AtByte3 a b c) t = OfPlan t
InPlan AtEdit t = ⊥
InPlan (Stopped why) t = Unit {0}

-- the plan is handed out
abbrev InEdits : Stage → Target → Type 0
InEdits AtCount t = ⊥
InEdits AtMap t = OfEdits t
InEdits AtByte0 t = OfEdits t
InEdits (AtByte1 a) t = OfEdits t
InEdits (AtByte2 a b) t = OfEdits t
InEdits (AtByte3 a b c) t = OfEdits t
InEdits AtEdit t = Unit {0}
InEdits (Stopped why) t = Unit {0}

-- ---- a step within the plan

-- where it leads, by what is handed out
abbrev Onward : Option Completed → Stage → Target → Type 0
Onward None stage t = InPlan stage t
Onward (Some ThePlan) stage t = InEdits stage t
Onward (Some (AnEdit e)) stage t = ⊥

abbrev FromPlan : Reader → Type 0
FromPlan r = Onward r.handed r.stage r.target

plan_to_head : (r : Reader) (p : Plan) (i : ℕ) → FromPlan (to_head r p i)
unfolding to_head
plan_to_head r p i =
    by_test FromPlan (ltb i p.n) (turn r p (HeadAt i) AtMap None) (turn r p TheBox AtEdit (Some ThePlan)) (λ e. tt) (λ e. tt)

plan_completed : (t : Target) (r : Reader) → OfPlan t → FromPlan (complete_at t r)
unfolding complete_at
plan_completed TheBox r h = plan_to_head r r.plan 0
plan_completed (HeadAt i) r h = plan_to_head r (with_head r.plan i r.head) (suc i)
plan_completed (EditOf k) r h = absurd h

plan_sought : (r : Reader) (i : ℕ) → OfPlan r.target → FromPlan (seek r i)
unfolding seek
plan_sought r i h =
    let next = next_field (count_of r.target - i) r.map i in
    by_test FromPlan (ltb next (count_of r.target)) (to_field r next) (complete r) (λ e. h) (λ e. plan_completed r.target r h)

plan_step : (stage : Stage) (r : Reader) (b : ℕ) → InPlan stage r.target → FromPlan (step_at stage r b)
unfolding step_at
plan_step AtCount r b h = checked FromPlan (Count b) r.at r (begin r b) tt tt
plan_step AtMap r b h =
    checked FromPlan (Map (count_of r.target) b) r.at r (seek (map_read r b) 0) (plan_sought (map_read r b) 0 h) tt
plan_step AtByte0 r b h = h
plan_step (AtByte1 a) r b h = h
plan_step (AtByte2 a a') r b h = h
plan_step (AtByte3 a a' a'') r b h =
    let z = number32 a a' a'' b in
    checked FromPlan (item_of r.target r.field z) r.from r (seek (value_read r z) (suc r.field))
    (plan_sought (value_read r z) (suc r.field) h) tt
plan_step AtEdit r b h = absurd h
plan_step (Stopped why) r b h = tt

-- ---- a step within the edits

-- it leads on within them, and what it hands out takes the plan p to the state's plan
abbrev FromEdits : Plan → Reader → Type 0
FromEdits p r = InEdits r.stage r.target × ((f : File) → plan_after p (hand r f) ≡ plan_after r.plan f)

edits_completed : (t : Target) (r : Reader) → OfEdits t → FromEdits r.plan (complete_at t r)
unfolding complete_at plan_after
edits_completed TheBox r h = absurd h
edits_completed (HeadAt i) r h = absurd h
edits_completed (EditOf k) r h = (tt, λ f. refl)

edits_sought : (r : Reader) (i : ℕ) → OfEdits r.target → FromEdits r.plan (seek r i)
unfolding seek
edits_sought r i h =
    let next = next_field (count_of r.target - i) r.map i in
    by_test (FromEdits r.plan) (ltb next (count_of r.target)) (to_field r next) (complete r) (λ e. (h, λ f. refl))
    (λ e. edits_completed r.target r h)

-- a field of an edit leaves the plan as it is
edit_field : (t : Target) (i : ℕ) (z : ℤ) (p : Plan) → OfEdits t → plan_put t i z p ≡ p
edit_field TheBox i z p h = absurd h
edit_field (HeadAt j) i z p h = absurd h
edit_field (EditOf k) i z p h = refl

edits_step : (stage : Stage) (r : Reader) (b : ℕ) → InEdits stage r.target → FromEdits r.plan (step_at stage r b)
unfolding step_at
edits_step AtCount r b h = absurd h
edits_step AtMap r b h =
    checked (FromEdits r.plan) (Map (count_of r.target) b) r.at r (seek (map_read r b) 0)
    (edits_sought (map_read r b) 0 h) (tt, λ f. refl)
edits_step AtByte0 r b h = (h, λ f. refl)
edits_step (AtByte1 a) r b h = (h, λ f. refl)
edits_step (AtByte2 a a') r b h = (h, λ f. refl)
edits_step (AtByte3 a a' a'') r b h =
    let z = number32 a a' a'' b in
    let next = seek (value_read r z) (suc r.field) in
    checked (FromEdits r.plan) (item_of r.target r.field z) r.from r next
    (subst (λ p. FromEdits p next) (edit_field r.target r.field z r.plan h) (edits_sought (value_read r z) (suc r.field) h))
    (tt, λ f. refl)
edits_step AtEdit r b h =
    checked (FromEdits r.plan) (HeadNumber b r.plan.n) r.at r (choose r b) (tt, λ f. refl) (tt, λ f. refl)
edits_step (Stopped why) r b h = (tt, λ f. refl)

-- ---- the bytes

edits_fed : (s : List ℕ) (r : Reader) (a : Answered) → InEdits r.stage r.target
    → (feed r s).plan ≡ plan_after r.plan (handed_over r s (ends a))
unfolding feed handed_over plan_after
edits_fed [] r a h = refl
edits_fed (b ∷ s) r a h =
    let now = edits_step r.stage r b h in
    edits_fed s (step r b) a now.0 ∙ sym (now.1 (handed_over (step r b) s (ends a)))

-- what is handed out leaves the plan q, once a plan is handed out
abbrev LeavesPlan : File → Plan → Type 0
LeavesPlan (ends a) q = Unit {0}
LeavesPlan (gives_plan p f) q = q ≡ plan_after p f
LeavesPlan (gives_edit e f) q = ⊥

on_handed : (handed : Option Completed) (r : Reader) (s : List ℕ) (a : Answered) → Onward handed r.stage r.target
    → (InPlan r.stage r.target → LeavesPlan (handed_over r s (ends a)) (feed r s).plan)
    → LeavesPlan (handing handed r.plan (handed_over r s (ends a))) (feed r s).plan
on_handed None r s a h rest = rest h
on_handed (Some ThePlan) r s a h rest = edits_fed s r a h
on_handed (Some (AnEdit e)) r s a h rest = absurd h

plan_fed : (s : List ℕ) (r : Reader) (a : Answered) → InPlan r.stage r.target
    → LeavesPlan (handed_over r s (ends a)) (feed r s).plan
unfolding feed handed_over
plan_fed [] r a h = tt
plan_fed (b ∷ s) r a h =
    on_handed (step r b).handed (step r b) s a (plan_step r.stage r b h) (plan_fed s (step r b) a)

pub reader_plan : ReaderPlan
reader_plan s p f e =
    subst (λ g. LeavesPlan g (feed start s).plan) (reader_reads s ∙ e) (plan_fed s start (finish (feed start s)) tt)

-- ---- the book

edits_booked : (lent : Lent) (f : File) (p : Plan) → 2 ^ p.n ≤ lent.rows → Acceptable p → length p.heads ≡ 10
    → EditsWithin p f → book p (entries lent f) ≡ plan_after p f
unfolding after entries plan_after
edits_booked lent (ends a) p enough ok ten within = refl
edits_booked lent (gives_plan q f) p enough ok ten within = absurd within
edits_booked lent (gives_edit e f) p enough ok ten within =
    ap (λ a. book (leaves a p (applied p e)) (entries lent f)) ((edit_taken p e lent ten).1 (ok, within.0, enough))
    ∙ edits_booked lent f (applied p e) enough (applied_acceptable p e ten ok within.0) (length-set p.heads e.head (head_of e) ∙ ten) within.1

pub reader_book : ReaderBook
reader_book s p f lent enough e =
    let within = subst FileWithin e (file_sound s) in
    reader_plan s p f e ∙ sym (edits_booked lent f p enough within.0 within.1 within.2)

-- ---- a taken file

plan_given : (most : ℕ) (g : Got Plan) → end_of (then_edits most g) ≡ taken
    → (p : Plan) × (f : File) × (then_edits most g ≡ gives_plan p f)
unfolding end_of
plan_given most (got p at s) e = (p, edits most p at s, refl)
plan_given most (stop r at) e =
    let fails : refused r at ≡ taken = e in
    let z : ◌≡◌ {A = ℕ} 0 1 = cc in
    absurd (omega arith)

pub taken_gives : TakenGives
unfolding read_file
taken_gives s e = plan_given (length s) (plan_part 0 s) (sym (reader_answers s) ∙ e)
