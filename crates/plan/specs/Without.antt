-- A plan without some of its heads. Those that are kept close up, in their order; the box is the same. Two cases: one
-- head taken out, and all closed heads left out. Proved in proofs/Without.antt.
use Rattle.std.specs.Prelude.{ℕ, suc, ◌-◌, ◌≤◌, ◌<◌, Bool, true, false, not, List, ◌∷◌, ◌++◌, ◌≡◌}
use Rattle.std.specs.Prelude.{map, length, get_or, take, drop, replicate}
use Rattle.heads.specs.Pair.{is_closed}
use Rattle.heads.specs.declared.Head.{Head}
use Rattle.lists.specs.Kept.{kept, all_but, remaining, kept_below}
use Rattle.lists.specs.Lists.{keep}
use Rattle.plan.specs.declared.Plan.{Plan}
use Rattle.plan.specs.Limits.{Acceptable, no_head}

-- q is p without the heads that are not kept
pub record Without (keeps : List Bool) (p q : Plan) : Type 0 where
  pub count : q.n ≡ kept_below keeps p.n
  pub ground : q.ground ≡ p.ground
  pub heads : take q.n q.heads ≡ remaining keeps (take p.n p.heads)
  -- a plan has room for ten
  pub ten : length q.heads ≡ 10

-- which is then as acceptable as p
abbrev pub AcceptableWithout : Type 0
AcceptableWithout =
    (keeps : List Bool) (p q : Plan) → length p.heads ≡ 10 → Acceptable p → Without keeps p q → Acceptable q

-- all heads that are not kept are closed
abbrev pub OnlyClosed : List Bool → Plan → Type 0
OnlyClosed keeps p = (i : ℕ) → i < p.n → kept keeps i ≡ false → is_closed (get_or p.heads i no_head) ≡ true

-- ---- one head taken out

-- The heads above head k move down by one, the freed place becomes the all-zero head, and the places past n stay.
unfoldable pub lifted : Plan → ℕ → Plan
lifted p k = record {
  ground = p.ground;
  n = p.n - 1;
  heads = take k p.heads ++ (take (p.n - suc k) (drop (suc k) p.heads) ++ (no_head ∷ drop p.n p.heads));
}

abbrev pub LiftedWithout : Type 0
LiftedWithout = (p : Plan) (k : ℕ) → length p.heads ≡ 10 → p.n ≤ 10 → k < p.n → Without (all_but k) p (lifted p k)

-- ---- all closed heads left out

-- the heads that are not closed, in order
unfoldable pub heads_not_closed : Plan → List Head
unfolding keep
heads_not_closed p = keep (λ h. not (is_closed h)) (take p.n p.heads)

-- the plan of those alone
unfoldable pub plan_not_closed : Plan → Plan
unfolding heads_not_closed
plan_not_closed p = record {
  ground = p.ground;
  n = length (heads_not_closed p);
  heads = heads_not_closed p ++ replicate (10 - length (heads_not_closed p)) no_head;
}

-- which heads they are
abbrev pub places_not_closed : Plan → List Bool
places_not_closed p = map (λ h. not (is_closed h)) (take p.n p.heads)

pub record NotClosedWithout (p : Plan) : Type 0 where
  pub without : Without (places_not_closed p) p (plan_not_closed p)
  pub only_closed : OnlyClosed (places_not_closed p) p
  -- no closed head is left
  pub none_closed : (i : ℕ) → i < (plan_not_closed p).n → is_closed (get_or (plan_not_closed p).heads i no_head) ≡ false
