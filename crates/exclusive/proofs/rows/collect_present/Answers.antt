-- `rows::collect_present` meets its contract. The invariant: the first so many are the present rows below s.
use mathlib.Core.Path.{◌≡◌, refl, ap, ◌∙◌}
use mathlib.Core.Bool.{Bool, true, false}
use mathlib.Core.List.{List}
use Prim.Native.Nat.{ℕ, ◌+◌, ◌≤◌, ◌<◌}
use native.Mathlib.Nat.{le_refl}
use native.Mathlib.Omega.{arith}
use mir.Val.{bool_byte}
use lib.Dec.{eqb}
use lib.ListN.{get_or, length, take, set, length-set}
use lib.Seq.{take-set-le}
use Rattle.lists.specs.Lists.{keep}
use Rattle.lists.specs.Written.{tab}
use Rattle.masks.specs.Presence.{stands}
use Rattle.exclusive.proofs.Places.{rows_below, below_with, below_without, put}
use Rattle.exclusive.proofs.rows.collect_present.Goals as goal

-- mask s at the next place, which is taken if its row is present
next : (present : ℕ → Bool) (masks : List ℕ) (n s : ℕ) → n < length masks → take n masks ≡ rows_below present s
    → (b : Bool) → present s ≡ b → take (n + bool_byte b) (set masks n s) ≡ rows_below present (s + 1)
next present masks n s h e true p = put masks (rows_below present s) n s h e ∙ below_with present s p
next present masks n s h e false p =
    let z : n + 0 ≡ n = omega arith in
    ap (λ (k : ℕ). take k (set masks n s)) z ∙ take-set-le n masks n s (le_refl n) ∙ e ∙ below_without present s p

one : (b : Bool) → bool_byte b ≤ 1
one true = omega arith
one false = omega arith

pub loop-s-init : goal.loop-s-init
unfolding keep tab
loop-s-init c = record { found = omega arith; room = c.told-masks; rows = refl }

pub loop-s-preserved : goal.loop-s-preserved
loop-s-preserved c =
    let l = c.loop-s in let i = l.invariant in let P = c.args.present.now.bytes.now in
    let b = eqb (get_or P l.s 0) 1 in record {
      found = omega (arith, one b);
      room = length-set l.masks l.n l.s ∙ i.room;
      rows = ap (λ (k : ℕ). take (l.n + k) (set l.masks l.n l.s)) c.from-n.ensures
          ∙ next (stands P) l.masks l.n l.s (omega arith) i.rows b refl;
    }
