-- A plan without some of its heads (specs/Without.antt).
use mathlib.Core.Path.{◌≡◌, refl, sym, ap, ap₂, ◌∙◌, subst}
use mathlib.Core.Bool.{Bool, true, false, not, true≢false}
use mathlib.Core.List.{List, ◌∷◌, ◌++◌, append_assoc}
use Prim.Native.Nat.{ℕ, suc, ◌+◌, ◌-◌, ◌≤◌, ◌<◌}
use native.Mathlib.Omega.{arith}
use lib.ListN.{length, get_or, take, drop, replicate, length-append, length-drop, get_or-append}
use lib.Seq.{length-take-le, get_or-take, take-append_seam}
use Rattle.std.proofs.lemmas.List.{length-replicate, take-take, drop-take}
use Rattle.heads.specs.Pair.{is_closed}
use Rattle.heads.specs.declared.Head.{Head}
use Prim.{Unit, tt}
use Rattle.lists.specs.Every.{Every, every_at, every_all, every_kept}
use Rattle.lists.specs.Kept.{all_but, remaining, place, kept_below}
use Rattle.lists.proofs.Kept.{kept_few, place_lt, remaining_at, remaining_length, remaining_keep, all_but_below}
use Rattle.lists.proofs.Kept.{all_but_remaining}
use Rattle.lists.proofs.Lists.{get_d_mapped, keep_length}
use Rattle.plan.specs.declared.Plan.{Plan}
use Rattle.plan.specs.Limits.{GroundWithin, HeadWithin, no_head}
use Rattle.plan.specs.Without.{Without, AcceptableWithout, OnlyClosed, lifted, LiftedWithout, heads_not_closed}
use Rattle.plan.specs.Without.{plan_not_closed}
use Rattle.plan.specs.Without.{places_not_closed, NotClosedWithout}

module _ (keeps : List Bool) (p q : Plan) (w : Without keeps p q) where
  -- head i of those kept is the head at its place
  pub head_without : (i : ℕ) → i < q.n → get_or q.heads i no_head ≡ get_or p.heads (place keeps i) no_head
  head_without i h =
      sym (get_or-take q.n q.heads i no_head h) ∙ ap (λ hs. get_or hs i no_head) w.heads
      ∙ remaining_at keeps (take p.n p.heads) i no_head
      ∙ get_or-take p.n p.heads (place keeps i) no_head (place_lt keeps i p.n (omega (arith, w.count)))

pub acceptable_without : AcceptableWithout
acceptable_without keeps p q ten ok w =
    let box : GroundWithin q.ground = subst GroundWithin (sym w.ground) (ok.x, ok.y, ok.width, ok.height) in
    record {
      count = omega (arith, w.count, kept_few keeps p.n, ok.count);
      x = box.0;
      y = box.1;
      width = box.2;
      height = box.3;
      heads = λ i h.
          subst HeadWithin (sym (head_without keeps p q w i h))
          (ok.heads (place keeps i) (place_lt keeps i p.n (omega (arith, w.count))));
    }

-- ---- one head taken out

module _ (hs : List Head) (n k : ℕ) (ten : length hs ≡ 10) (few : n ≤ 10) (h : k < n) where
  low : List Head
  low = take k hs

  high : List Head
  high = take (n - suc k) (drop (suc k) hs)

  rest : List Head
  rest = no_head ∷ drop n hs

  low_long : length low ≡ k
  unfolding low
  low_long = length-take-le k hs (omega (arith, ten))

  high_long : length high ≡ n - suc k
  unfolding high
  high_long = length-take-le (n - suc k) (drop (suc k) hs) (omega (arith, ten, length-drop (suc k) hs))

  long : length (low ++ (high ++ rest)) ≡ 10
  unfolding rest
  long =
      omega (
        arith,
        length-append low
            (high ++ rest),
        length-append high rest,
        low_long,
        high_long,
        length-drop n hs,
        ten,
      )

  lower : take k (take n hs) ≡ low
  unfolding low
  lower = take-take k n hs (omega arith)

  higher : drop (suc k) (take n hs) ≡ high
  unfolding high
  higher =
      let s : suc k + (n - suc k) ≡ n = omega arith in
      ap (λ (m : ℕ). drop (suc k) (take m hs)) (sym s) ∙ drop-take (suc k) (n - suc k) hs

  closed_up : take (n - 1) (low ++ (high ++ rest)) ≡ remaining (all_but k) (take n hs)
  closed_up =
      let s : n - 1 ≡ length (low ++ high) = omega (arith, length-append low high, low_long, high_long) in
      ap₂ take s (sym (append_assoc low high rest)) ∙ take-append_seam (low ++ high) rest
      ∙ sym (all_but_remaining k (take n hs) ∙ ap₂ ◌++◌ lower higher)

pub lifted_without : LiftedWithout
unfolding lifted low high rest
lifted_without p k ten few h = record {
  count = omega (arith, all_but_below k p.n h);
  ground = refl;
  heads = closed_up p.heads p.n k ten few h;
  ten = long p.heads p.n k ten few h;
}

-- ---- all closed heads left out

module _ (p : Plan) (ten : length p.heads ≡ 10) (few : p.n ≤ 10) where
  long_enough : length (take p.n p.heads) ≡ p.n
  long_enough = length-take-le p.n p.heads (omega (arith, ten))

  are_remaining : heads_not_closed p ≡ remaining (places_not_closed p) (take p.n p.heads)
  unfolding heads_not_closed
  are_remaining = sym (remaining_keep (λ h. not (is_closed h)) (take p.n p.heads))

  few_remain : length (heads_not_closed p) ≤ p.n
  unfolding heads_not_closed
  few_remain = omega (arith, keep_length (λ h. not (is_closed h)) (take p.n p.heads), long_enough)

  only_closed : OnlyClosed (places_not_closed p) p
  only_closed i h e =
      by (is_closed (get_or p.heads i no_head)) refl
      (sym (ap (λ x. not (is_closed x)) (get_or-take p.n p.heads i no_head h))
      ∙ sym (get_d_mapped (λ x. not (is_closed x)) (take p.n p.heads) i no_head true (omega (arith, long_enough)))
      ∙ e)
    where
      by : (b : Bool) → is_closed (get_or p.heads i no_head) ≡ b → not (is_closed (get_or p.heads i no_head)) ≡ false
          → is_closed (get_or p.heads i no_head) ≡ true
      by true q r = q
      by false q r = absurd (true≢false (sym (ap not q) ∙ r))

  all_not_closed : Every (λ h. is_closed h ≡ false) (heads_not_closed p)
  unfolding heads_not_closed
  all_not_closed =
      every_kept (λ h. Unit {0}) (λ h. is_closed h ≡ false) (λ h. not (is_closed h)) (take p.n p.heads)
      (every_all (λ h. Unit {0}) (take p.n p.heads) (λ h. tt)) (λ h t e. not_true (is_closed h) e)
    where
      not_true : (b : Bool) → not b ≡ true → b ≡ false
      not_true true e = absurd (true≢false (sym e))
      not_true false e = refl

  pub not_closed_without : NotClosedWithout p
  unfolding plan_not_closed
  not_closed_without = record {
    without = record {
      count = ap length are_remaining ∙ remaining_length (places_not_closed p) (take p.n p.heads)
          ∙ ap (kept_below (places_not_closed p)) long_enough;
      ground = refl;
      heads =
          take-append_seam (heads_not_closed p) (replicate (10 - length (heads_not_closed p)) no_head)
          ∙ are_remaining;
      ten = omega (
        arith,
        length-append (heads_not_closed p) (replicate (10 - length (heads_not_closed p)) no_head),
        length-replicate (10 - length (heads_not_closed p)) no_head,
        few_remain,
        few,
      );
    };
    only_closed = only_closed;
    none_closed = λ i h. ap is_closed (get_or-append (heads_not_closed p) _ no_head i h)
        ∙ every_at (λ x. is_closed x ≡ false) (heads_not_closed p) i no_head h all_not_closed;
  }
