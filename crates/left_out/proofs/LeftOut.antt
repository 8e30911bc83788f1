-- A closed head is as if it were not there (specs/LeftOut.antt).
use mathlib.Core.Path.{◌≡◌, refl, sym, ap, ◌∙◌}
use mathlib.Core.Bool.{Bool, true, false, not, true≢false}
use Prim.Native.Nat.{ℕ, zero, suc, ◌≤◌}
use native.Mathlib.Omega.{arith}
use borrow.Author.Tests.{eqb-true}
use lib.Dec.{eqb}
use lib.ListN.{length, take, length-map}
use lib.Seq.{length-take-le}
use Rattle.lists.specs.Kept.{all_but}
use Rattle.lists.proofs.Kept.{all_but_kept}
use Rattle.heads.specs.Pair.{is_closed}
use Rattle.plan.specs.Without.{lifted, plan_not_closed, places_not_closed}
use Rattle.plan.proofs.Exactly.{plan_taken}
use Rattle.plan.proofs.Without.{acceptable_without, lifted_without, not_closed_without}
use Rattle.regions.specs.Table.{head_at}
use Rattle.left_out.specs.LeftOut.{LeftOut, OneLeftOut, AllLeftOut}
use Rattle.left_out.proofs.Plan.{table_same, open_table_same, overlap_same, overlap_of_same}
use Rattle.left_out.proofs.Gradients.{gradients_same, open_gradients_same}

pub left_out : LeftOut
left_out keeps p q short ten ok w closed = record {
  acceptable = acceptable_without keeps p q ten ok w;
  answer = (plan_taken q w.ten).1 (acceptable_without keeps p q ten ok w);
  table = table_same keeps p q short ten ok w closed;
  open_table = open_table_same keeps p q short ten ok w closed;
  gradients = gradients_same keeps p q short ten ok w closed;
  open_gradients = open_gradients_same keeps p q short ten ok w closed;
  overlap = overlap_same keeps p q short ten ok w closed;
  overlap_of = overlap_of_same keeps p q short ten ok w closed;
}

all_but_length : (k : ℕ) → length (all_but k) ≡ suc k
all_but_length zero = refl
all_but_length (suc k) = ap suc (all_but_length k)

pub one_left_out : OneLeftOut
one_left_out p k ten ok h closed =
    left_out (all_but k) p (lifted p k) (omega (arith, all_but_length k)) ten ok (lifted_without p k ten ok.count h)
    (λ i l e. by i (eqb i k) refl (sym (all_but_kept k i) ∙ e))
  where
    by : (i : ℕ) (b : Bool) → eqb i k ≡ b → not (eqb i k) ≡ false → is_closed (head_at p i) ≡ true
    by i true q e = ap (λ (j : ℕ). is_closed (head_at p j)) (eqb-true i k q) ∙ closed
    by i false q e = absurd (true≢false (sym (ap not q) ∙ e))

pub all_left_out : AllLeftOut
all_left_out p ten ok =
    let parts = not_closed_without p ten ok.count in
    left_out (places_not_closed p) p (plan_not_closed p) short ten ok parts.without parts.only_closed
  where
    short : length (places_not_closed p) ≤ p.n
    short = omega (
      arith,
      length-map (take p.n p.heads) (λ h. not (is_closed h)),
      length-take-le p.n p.heads (omega (arith, ten, ok.count)),
    )
