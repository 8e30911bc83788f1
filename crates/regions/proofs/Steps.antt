-- What a step writes and what it leaves: the rows below a count are new, the others stay; and what a list of steps keeps from the first taken one on.
use Prim.Native.Nat.{ℕ, ◌≤◌, ◌<◌, ◌^◌}
use mathlib.Core.Path.{◌≡◌, refl, sym, ap, ◌∙◌}
use mathlib.Core.List.{List, [], ◌∷◌}
use native.Mathlib.Nat.{le_refl, lt_of_lt_of_le, max-eq_left}
use native.Mathlib.Omega.{arith}
use borrow.Author.Tests.{lt-ltb, le-ltb}
use Rattle.std.specs.Prelude.{Ok, Err}
use Rattle.lists.specs.Run.{Step, after, answers}
use Rattle.plan.specs.Table.{Answered, taken}
use Rattle.plan.specs.declared.Edit.{Edit}
use Rattle.plan.specs.declared.Plan.{Plan}
use Rattle.plan.specs.declared.Refused.{Refused}
use Rattle.plan.specs.Book.{AnyTaken}
use Rattle.regions.specs.Edit.{Row}
use Rattle.regions.specs.Table.{Method, PlanTable, overlaid, settled, rows_over}
use Rattle.regions.specs.Demand.{ExclusivesOf, BeyondStays}

-- an edit writes 2^n rows
pub rows-over : (p : Plan) (e : Edit) → rows_over p e ≡ 2 ^ p.n
rows-over p e = ap (λ n. 2 ^ n) (max-eq_left (le_refl p.n))

-- ---- the rows below the count, and the others

module _ (count : ℕ) (new old : ℕ → Row) (S : ℕ) where
  pub overlaid_below : S < count → overlaid count new old S ≡ new S
  overlaid_below h = rw (lt-ltb S count h)

  pub overlaid_beyond : count ≤ S → overlaid count new old S ≡ old S
  overlaid_beyond h = rw (le-ltb S count h)

module _ (m : Method) (count : ℕ) (p : Plan) (rows : ℕ → Row) (s : PlanTable) where
  pub settled_exclusives : 2 ^ p.n ≤ count → ExclusivesOf m p.n (overlaid count rows s.rows) (settled m count p rows s).exclusives
  settled_exclusives h S h_s =
      overlaid_below count (m.exclusives.of p.n (overlaid count rows s.rows)) s.exclusives S (lt_of_lt_of_le h_s h)

  pub settled_beyond : BeyondStays count s (settled m count p rows s)
  settled_beyond S h = (
    overlaid_beyond count rows s.rows S h,
    overlaid_beyond count (m.exclusives.of p.n (overlaid count rows s.rows)) s.exclusives S h,
  )

-- ---- a list in which some step is taken, or none

refused_not_taken : (r : Refused) → Err r ≡ taken → ⊥
refused_not_taken r q = let z : ◌≡◌ {A = ℕ} 0 1 = cc q in omega arith

module _ {State Entry : Type 0} (step : State → Entry → Step State Answered) where
  module _ (Q : State → Type 0) (set : (s : State) (e : Entry) → (step s e).answer ≡ taken → Q (step s e).left)
      (keep : (s : State) (e : Entry) → Q s → Q (step s e).left) where
    -- what every step keeps holds after a list
    pub after_keeps : (es : List Entry) (s : State) → Q s → Q (after step s es)
    unfolding after
    after_keeps [] s k = k
    after_keeps (e ∷ es) s k = after_keeps es (step s e).left (keep s e k)

    any_first : (s : State) (e : Entry) (es : List Entry) (rest : List Answered) → (AnyTaken rest → Q (after step (step s e).left es))
        → (a : Answered) → (step s e).answer ≡ a → AnyTaken (a ∷ rest) → Q (after step (step s e).left es)
    any_first s e es rest next (Ok done) q t = after_keeps es (step s e).left (set s e q)
    any_first s e es rest next (Err r) q t = next t

    -- what a taken step brings about and every step keeps holds after a list in which one was taken
    pub any_taken : (es : List Entry) (s : State) → AnyTaken (answers step s es) → Q (after step s es)
    unfolding after answers
    any_taken [] s t = absurd t
    any_taken (e ∷ es) s t = any_first s e es (answers step (step s e).left es) (any_taken es (step s e).left) (step s e).answer refl t

  module _ (same : (s : State) (e : Entry) → ((step s e).answer ≡ taken → ⊥) → (step s e).left ≡ s) where
    none_first : (s : State) (e : Entry) (es : List Entry) (rest : List Answered)
        → ((AnyTaken rest → ⊥) → after step (step s e).left es ≡ (step s e).left)
        → (a : Answered) → (step s e).answer ≡ a → (AnyTaken (a ∷ rest) → ⊥) → after step (step s e).left es ≡ s
    none_first s e es rest next (Ok done) q t = absurd (t tt)
    none_first s e es rest next (Err r) q t = next t ∙ same s e (λ k. refused_not_taken r (sym q ∙ k))

    -- a list in which no step is taken leaves all
    pub none_taken : (es : List Entry) (s : State) → (AnyTaken (answers step s es) → ⊥) → after step s es ≡ s
    unfolding after answers
    none_taken [] s t = refl
    none_taken (e ∷ es) s t = none_first s e es (answers step (step s e).left es) (none_taken es (step s e).left) (step s e).answer refl t
