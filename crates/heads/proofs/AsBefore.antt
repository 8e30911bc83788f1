-- What is said of heads of radii above 0 did not move when heads could be closed.
use Rattle.std.specs.Prelude.{ℕ, zero, suc, ◌<◌, ◌≡◌, refl, Bool, false, ◌&&◌, ◌||◌, leb, pos, negsuc}
use Rattle.std.proofs.Common.{arith, sym, ap, ap₂, ◌∙◌}
use Rattle.std.proofs.lemmas.Bool.{le-leb}
use Rattle.std.proofs.lemmas.Bool.Decides.{nat_tests}
use Rattle.heads.specs.Limits.{radius_limit}
use Rattle.heads.specs.AsBefore.{HeadsAsBefore, RadiiAsBefore}
use Rattle.heads.specs.Relation.{closed, either_closed}
use Rattle.heads.specs.Cases.{relation_of_outlines, meets_of_outlines, meets_once_of_outlines, contains_of_outlines}

pub above_not_closed : (r : ℕ) → 0 < r → closed r ≡ false
above_not_closed r h = grind (arith, nat_tests, h)

above_neither_closed : (a b : ℕ) → 0 < a → 0 < b → either_closed a b ≡ false
above_neither_closed a b h g = ap₂ (λ (p q : Bool). p || q) (above_not_closed a h) (above_not_closed b g)

pub heads_as_before : HeadsAsBefore
heads_as_before D a b h g = record {
  relation = relation_of_outlines D a b (above_neither_closed a b h g);
  meets = meets_of_outlines D a b (above_neither_closed a b h g);
  meets_once = meets_once_of_outlines D a b (above_neither_closed a b h g);
  contains = contains_of_outlines D a b (above_neither_closed a b h g);
}

pub radii_as_before : RadiiAsBefore
radii_as_before (pos zero) other = absurd (other refl)
radii_as_before (pos (suc n)) other =
    ap (λ (least : Bool). least && leb (suc n) radius_limit)
    (le-leb 0 (suc n) (omega arith) ∙ sym (le-leb 1 (suc n) (omega arith)))
radii_as_before (negsuc n) other = refl
