-- The book (document 01, "Edits in a list"): a plan and nothing more. Where the checks refuse an edit the book stays;
-- otherwise head k takes the three values and all else stays. What a list of edits keeps is proved in
-- `proofs/Keeps.antt`.
use Rattle.std.specs.Prelude.{ℕ, ◌≡◌, List, [], ◌∷◌, length, set, Ok, Err}
use Rattle.lists.specs.Run as Run
use Rattle.lists.specs.Run.{Step}
use Rattle.heads.specs.declared.Head.{Head}
use Rattle.plan.specs.declared.Edit.{Edit}
use Rattle.plan.specs.declared.Lent.{Lent}
use Rattle.plan.specs.declared.Plan.{Plan}
use Rattle.plan.specs.Checks.{edit_answer}
use Rattle.plan.specs.Limits.{Acceptable, AcceptableEdit}
use Rattle.plan.specs.Table.{Answered, heads_after}

-- the head that an edit asks for
abbrev pub head_of : Edit → Head
head_of e = record { x = e.x; y = e.y; radius = e.radius }

-- the plan with another head k
abbrev pub with_head : Plan → ℕ → Head → Plan
with_head p k h = record { ground = p.ground; n = p.n; heads = set p.heads k h }

-- a taken edit: head k takes the three values and all else stays
abbrev pub applied : Plan → Edit → Plan
applied p e = with_head p e.head (head_of e)

-- what an answer leaves: taken, the new; refused, the old
abbrev pub leaves : {A : Type 0} → Answered → A → A → A
leaves (Ok done) p q = q
leaves (Err e) p q = p

-- one edit against the book
abbrev pub entered : Plan → Edit → Lent → Plan
entered p e lent = leaves (edit_answer p e lent) p (applied p e)

-- an edit in a list, with the lengths lent for it
pub record Entry : Type 0 where
  pub edit : Edit
  pub lent : Lent

-- the same as a step, with its answer
abbrev pub book_step : Plan → Entry → Step Plan Answered
book_step p e = record { left = entered p e.edit e.lent; answer = edit_answer p e.edit e.lent }

-- the plan that a list of edits leaves, and the answer to each
abbrev pub book : Plan → List Entry → Plan
book = Run.after book_step

abbrev pub answers : Plan → List Entry → List Answered
answers = Run.answers book_step

-- some edit of a list was taken
abbrev pub AnyTaken : List Answered → Type 0
AnyTaken [] = ⊥
AnyTaken (Ok done ∷ rest) = Unit {0}
AnyTaken (Err e ∷ rest) = AnyTaken rest

-- ---- what a list of edits keeps

-- how many heads there are, the box, and the room for ten heads
pub record Keeps (p q : Plan) : Type 0 where
  pub n : q.n ≡ p.n
  pub ground : q.ground ≡ p.ground
  pub room : length q.heads ≡ length p.heads

-- an edit leaves as many heads as `heads_after` says
abbrev pub AppliedHeads : Type 0
AppliedHeads = (p : Plan) (e : Edit) → (applied p e).n ≡ heads_after p e

-- the book keeps them
abbrev pub BookKeeps : Type 0
BookKeeps = (p : Plan) (es : List Entry) → Keeps p (book p es)

-- a taken edit of a plan within the limits leaves a plan within the limits
abbrev pub AppliedAcceptable : Type 0
AppliedAcceptable =
    (p : Plan) (e : Edit) → length p.heads ≡ 10 → Acceptable p → AcceptableEdit p.n e → Acceptable (applied p e)

-- a list of edits of a plan within the limits leaves a plan within the limits
abbrev pub BookAcceptable : Type 0
BookAcceptable = (p : Plan) (es : List Entry) → length p.heads ≡ 10 → Acceptable p → Acceptable (book p es)
