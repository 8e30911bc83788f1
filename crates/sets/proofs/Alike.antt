-- Answers that say the same give the same sets.
use mathlib.Core.Path.{◌≡◌, refl, ap, ap₂, ◌∙◌, fun_ext}
use mathlib.Core.Bool.{Bool, not, ◌&&◌, ◌||◌}
use mathlib.Core.List.{List}
use Prim.Native.Nat.{ℕ, zero, suc, ◌-◌, ◌<◌}
use lib.Count.{ones}
use lib.Dec.{eqb}
use lib.ListN.{length}
use Rattle.masks.specs.Mask.{in_set, single, without_head, subset}
use Rattle.lists.proofs.Somes.{some_cong}
use Rattle.geometry.proofs.AsBefore.{above_not_closed, circles_as_before}
use Rattle.intersections.specs.declared.points.IntersectionPoint.{IntersectionPoint}
use Rattle.intersections.specs.Members.{circle_at}
use Rattle.intersections.specs.Points.{collected}
use Rattle.intersections.proofs.Alike.{collected_as_before}
use Rattle.masks.specs.Gather.{gather_same}
use Rattle.sets.specs.Alike.{SetsAlike, RegionsAsBefore, SetsAsBefore}
use Rattle.sets.specs.Sets.{witnessed, with_parts, overlapping, containing, all_pairs, one_in_all}
use Rattle.sets.specs.Sets.{in_level, with_levels, is_set}
use Rattle.sets.specs.Regions.{is_one_head}
use Rattle.sets.specs.Regions.{in_outline_regions}
use Rattle.sets.proofs.Pairing.{pairs_agree}

-- a level asks which heads contain another of heads below n only
level_same : (n : ℕ) (found : ℕ → Bool) (others c d : ℕ → ℕ) → ((i : ℕ) → i < n → c i ≡ d i)
    → (e S : ℕ) → in_level n found others c e S ≡ in_level n found others d e S
unfolding in_level one_in_all
level_same n found others c d same zero S = refl
level_same n found others c d same (suc e) S =
    ap (λ (b : Bool). not (found S) && b)
    (ap₂ (λ (p q : Bool). all_pairs n others S && (p && q))
    (some_cong n _ _ (λ i k. ap (λ (m : ℕ). in_set S i && subset n (without_head n S i) m) (same i k)))
    (some_cong n _ _ (λ i k. ap (λ (b : Bool). in_set S i && b)
    (level_same n found others c d same e (without_head n S i)))))

pub sets_alike : SetsAlike
unfolding is_set witnessed
sets_alike n singles singles' adopters adopters' meets meets' contains contains' e_s e_a e_m e_c S =
    let same : with_parts n (witnessed n singles adopters meets contains)
    ≡ with_parts n (witnessed n singles' adopters' meets' contains') =
    ap (with_parts n) (fun_ext (λ T. ap₂ ◌||◌ (e_s T)
    (ap₂ ◌||◌ (e_a T) (pairs_agree n meets meets' contains contains' e_m e_c T)))) in
    let found : ℕ → Bool = with_parts n (witnessed n singles' adopters' meets' contains') in
    ap (λ (f : ℕ → Bool). with_levels n f (overlapping n f) (containing n contains) S) same
    ∙ ap (λ (b : Bool). found S || b)
    (level_same n found (overlapping n found) (containing n contains) (containing n contains')
    (λ i h. gather_same n _ _ (λ j k. e_c j i k h)) (ones S - 2) S)

pub regions_as_before : RegionsAsBefore
unfolding is_one_head
regions_as_before circles points above =
    sets_alike (length circles) _ _ _ _ _ _ _ _
    (λ S. some_cong (length circles) _ _ (λ i h. ap (λ (b : Bool). eqb S (single (length circles) i) && not b)
    (above_not_closed (circle_at circles i) (above i h))))
    (λ S. refl) (λ i j h k. refl)
    (λ i j h k. (circles_as_before (circle_at circles i) (circle_at circles j) (above i h) (above j k)).contains)

pub sets_as_before : SetsAsBefore
sets_as_before circles above S =
    regions_as_before circles (collected circles) above S
    ∙ ap (λ (points : List IntersectionPoint). in_outline_regions circles points S) (collected_as_before circles above)
