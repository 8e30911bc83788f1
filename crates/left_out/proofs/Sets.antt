-- A mask of the circles kept is among their sets exactly if, spread, it is among the sets of all: phase by phase, as
-- in specs/Sets.antt of `sets`.
use mathlib.Core.Path.{◌≡◌, refl, sym, ap, ap₂, ◌∙◌}
use mathlib.Core.Bool.{Bool, true, false, not, ◌&&◌, ◌||◌, and-false, or-true, true≢false}
use mathlib.Core.List.{List, [], ◌∷◌, map}
use Prim.Native.Nat.{ℕ, zero, suc, ◌-◌, ◌<◌}
use native.Mathlib.Omega.{arith}
use lib.Count.{ones}
use lib.Dec.{eqb, leb}
use lib.ListN.{length}
use borrow.Author.Tests.{ne_eqb, eq-eqb}
use Rattle.std.proofs.lemmas.Bool.{or_parts}
use Rattle.lists.specs.Some.{some, any}
use Rattle.lists.proofs.Somes.{some_cong, some_none}
use Rattle.masks.specs.Mask.{in_set, single, with_head, without_head, subset}
use Rattle.masks.specs.Gather.{in_gather, gather_same}
use Rattle.geometry.specs.Circle.{is_closed, contains}
use Rattle.geometry.specs.declared.circle.Circle.{Circle}
use Rattle.intersections.specs.declared.points.IntersectionPoint.{IntersectionPoint}
use Rattle.intersections.specs.Points.{collected}
use Rattle.masks.specs.Subset.{every_cong}
use Rattle.sets.specs.Sets.{pair, paired, pairs_of, is_pair, witnessed, is_part, with_parts, overlapping, containing}
use Rattle.sets.specs.Sets.{all_pairs, one_in_all, in_level, is_set}
use Rattle.sets.specs.Regions.{is_one_head, closed_at, is_adopters_of, parents, meets_at, contains_at, in_regions}
use Rattle.sets.proofs.Closed.{closed_in_no_set}
use Rattle.lists.specs.Kept.{kept, remaining, place, kept_below}
use Rattle.masks.specs.Spread.{spread}
use Rattle.left_out.specs.Circles.{OnlyClosedCircles, renumbered, SetsLeftOut}
use Rattle.lists.proofs.Kept.{place_lt, number_of_place, some_kept}
use Rattle.masks.proofs.Spread.{in_place, in_left_out, place_eqb, spread_eqb, ones_spread, every_kept, gather_kept}
use Rattle.masks.proofs.Spread.{subset_kept}
use Rattle.left_out.proofs.Points.{many, same, points_left_out, not_place}

-- ---- masks made from masks

module _ (keeps : List Bool) (n : ℕ) where
  abbrev m : ℕ
  m = kept_below keeps n

  -- a loop over the heads before one of those kept
  some_before : (i : ℕ) (f : ℕ → Bool) → ((j : ℕ) → j < place keeps i → kept keeps j ≡ false → f j ≡ false)
      → some (place keeps i) f ≡ some i (λ j. f (place keeps j))
  some_before i f none =
      some_kept keeps (place keeps i) f none
      ∙ ap (λ (w : ℕ). some w (λ j. f (place keeps j))) (number_of_place keeps i)

  single_spread : (i : ℕ) → single n (place keeps i) ≡ spread keeps (single m i)
  single_spread i =
      gather_kept keeps n (λ l. eqb l (place keeps i)) (λ l h e. not_place keeps l i e)
      ∙ ap (spread keeps)
      (gather_same m (λ l. eqb (place keeps l) (place keeps i)) (λ l. eqb l i) (λ l h. place_eqb keeps l i))

  with_spread : (T i : ℕ) → with_head n (spread keeps T) (place keeps i) ≡ spread keeps (with_head m T i)
  with_spread T i =
      gather_kept keeps n (λ l. in_set (spread keeps T) l || eqb l (place keeps i))
      (λ l h e. ap₂ ◌||◌ (in_left_out keeps T l e) (not_place keeps l i e))
      ∙ ap (spread keeps)
      (gather_same m (λ l. in_set (spread keeps T) (place keeps l) || eqb (place keeps l) (place keeps i))
      (λ l. in_set T l || eqb l i)
      (λ l h. ap₂ ◌||◌ (in_place keeps T l) (place_eqb keeps l i)))

  without_spread : (T i : ℕ) → without_head n (spread keeps T) (place keeps i) ≡ spread keeps (without_head m T i)
  without_spread T i =
      gather_kept keeps n (λ l. in_set (spread keeps T) l && not (eqb l (place keeps i)))
      (λ l h e. ap (λ (b : Bool). b && not (eqb l (place keeps i))) (in_left_out keeps T l e))
      ∙ ap (spread keeps)
      (gather_same m (λ l. in_set (spread keeps T) (place keeps l) && not (eqb (place keeps l) (place keeps i)))
      (λ l. in_set T l && not (eqb l i))
      (λ l h. ap₂ (λ (a b : Bool). a && not b) (in_place keeps T l) (place_eqb keeps l i)))

  pair_spread : (i j : ℕ) → pair n (place keeps i) (place keeps j) ≡ spread keeps (pair m i j)
  pair_spread i j = ap (λ (S : ℕ). with_head n S (place keeps j)) (single_spread i) ∙ with_spread (single m i) j

  -- a mask with a head left out is none that is spread
  not_spread : (S T i : ℕ) → kept keeps i ≡ false → in_set S i ≡ true → eqb (spread keeps T) S ≡ false
  not_spread S T i e h =
      ne_eqb (spread keeps T) S
      (λ q. true≢false (sym h ∙ ap (λ (U : ℕ). in_set U i) (sym q) ∙ in_left_out keeps T i e))

  in_pair_first : (i j : ℕ) → i < n → in_set (pair n i j) i ≡ true
  in_pair_first i j h =
      in_gather n (λ l. in_set (single n i) l || eqb l j) i h
      ∙ ap (λ (b : Bool). b || eqb i j) (in_gather n (λ l. eqb l i) i h ∙ eq-eqb i i refl)

  in_with : (S i : ℕ) → i < n → in_set (with_head n S i) i ≡ true
  in_with S i h =
      in_gather n (λ l. in_set S l || eqb l i) i h ∙ ap (λ (b : Bool). in_set S i || b) (eq-eqb i i refl)
      ∙ or-true (in_set S i)

-- ---- the sets, from answers that agree on the heads kept, where no set has a head left out

module _ (keeps : List Bool) (n : ℕ) (is_single is_single' is_adopters is_adopters' : ℕ → Bool)
    (meets meets' holds holds' : ℕ → ℕ → Bool)
    (alone : (T : ℕ) → is_single (spread keeps T) ≡ is_single' T)
    (adopted : (T : ℕ) → is_adopters (spread keeps T) ≡ is_adopters' T)
    (met : (i j : ℕ) → meets (place keeps i) (place keeps j) ≡ meets' i j)
    (held : (i j : ℕ) → holds (place keeps i) (place keeps j) ≡ holds' i j)
    (holds_none : (k i : ℕ) → kept keeps k ≡ false → holds k i ≡ false)
    (no_set : (k S : ℕ) → k < n → kept keeps k ≡ false → in_set S k ≡ true
    → is_set n is_single is_adopters meets holds S ≡ false) where
  abbrev w : ℕ
  w = kept_below keeps n

  abbrev first : ℕ → Bool
  first = witnessed n is_single is_adopters meets holds

  abbrev first' : ℕ → Bool
  first' = witnessed w is_single' is_adopters' meets' holds'

  abbrev found : ℕ → Bool
  found = with_parts n first

  abbrev found' : ℕ → Bool
  found' = with_parts w first'

  no_found : (k S : ℕ) → k < n → kept keeps k ≡ false → in_set S k ≡ true → found S ≡ false
  unfolding is_set
  no_found k S h o e = (or_parts (found S) _ (no_set k S h o e)).0

  no_first : (k S : ℕ) → k < n → kept keeps k ≡ false → in_set S k ≡ true → first S ≡ false
  no_first k S h o e = (or_parts (first S) (is_part n first S) (no_found k S h o e)).0

  pair_left_out : (T : ℕ) → is_pair n meets holds (spread keeps T) ≡ is_pair w meets' holds' T
  unfolding is_pair
  pair_left_out T =
      some_kept keeps n (λ i. pairs_of n meets holds i S)
      (λ i h o. some_none i (λ j. eqb S (pair n i j) && paired meets holds i j)
      (λ j l. ap (λ (b : Bool). b && paired meets holds i j)
      (not_spread keeps n (pair n i j) T i o (in_pair_first keeps n i j h))))
      ∙ some_cong w (λ i. pairs_of n meets holds (place keeps i) S) (λ i. pairs_of w meets' holds' i T) row
    where
      S : ℕ
      S = spread keeps T

      row : (i : ℕ) → i < w → pairs_of n meets holds (place keeps i) S ≡ pairs_of w meets' holds' i T
      row i l =
          some_before keeps n i (λ j. eqb S (pair n (place keeps i) j) && paired meets holds (place keeps i) j)
          (λ j h o. ap (λ (b : Bool). b && paired meets holds (place keeps i) j)
          (not_spread keeps n (pair n (place keeps i) j) T j o
          (in_with keeps n (single n (place keeps i)) j (omega (arith, place_lt keeps i n l)))))
          ∙ some_cong i
          (λ j. eqb S (pair n (place keeps i) (place keeps j)) && paired meets holds (place keeps i) (place keeps j))
          (λ j. eqb T (pair w i j) && paired meets' holds' i j)
          (λ j g. ap₂ ◌&&◌ (ap (eqb S) (pair_spread keeps n i j) ∙ spread_eqb keeps T (pair w i j))
          (ap₂ ◌||◌ (met i j) (ap₂ ◌||◌ (held i j) (held j i))))

  first_left_out : (T : ℕ) → first (spread keeps T) ≡ first' T
  unfolding witnessed
  first_left_out T = ap₂ ◌||◌ (alone T) (ap₂ ◌||◌ (adopted T) (pair_left_out T))

  part_left_out : (T : ℕ) → is_part n first (spread keeps T) ≡ is_part w first' T
  unfolding is_part
  part_left_out T =
      let S = spread keeps T in
      ap₂ (λ (c : ℕ) (b : Bool). leb 2 c && b) (ones_spread keeps T)
      (some_kept keeps n (λ i. not (in_set S i) && first (with_head n S i))
      (λ i h o. ap (λ (b : Bool). not (in_set S i) && b) (no_first i (with_head n S i) h o (in_with keeps n S i h))
      ∙ and-false (not (in_set S i)))
      ∙ some_cong w (λ i. not (in_set S (place keeps i)) && first (with_head n S (place keeps i)))
      (λ i. not (in_set T i) && first' (with_head w T i))
      (λ i g. ap₂ (λ (a b : Bool). not a && b) (in_place keeps T i)
      (ap first (with_spread keeps n T i) ∙ first_left_out (with_head w T i))))

  found_left_out : (T : ℕ) → found (spread keeps T) ≡ found' T
  found_left_out T = ap₂ ◌||◌ (first_left_out T) (part_left_out T)

  -- ---- levels

  abbrev over : ℕ → ℕ
  over = overlapping n found

  abbrev over' : ℕ → ℕ
  over' = overlapping w found'

  abbrev cont : ℕ → ℕ
  cont = containing n holds

  abbrev cont' : ℕ → ℕ
  cont' = containing w holds'

  over_left_out : (i : ℕ) → over (place keeps i) ≡ spread keeps (over' i)
  over_left_out i =
      gather_kept keeps n (λ j. found (pair n (place keeps i) j))
      (λ j h o. no_found j (pair n (place keeps i) j) h o (in_with keeps n (single n (place keeps i)) j h))
      ∙ ap (spread keeps)
      (gather_same w (λ j. found (pair n (place keeps i) (place keeps j))) (λ j. found' (pair w i j))
      (λ j g. ap found (pair_spread keeps n i j) ∙ found_left_out (pair w i j)))

  cont_left_out : (i : ℕ) → cont (place keeps i) ≡ spread keeps (cont' i)
  cont_left_out i =
      gather_kept keeps n (λ j. holds j (place keeps i)) (λ j h o. holds_none j (place keeps i) o)
      ∙ ap (spread keeps)
      (gather_same w (λ j. holds (place keeps j) (place keeps i)) (λ j. holds' j i) (λ j g. held j i))

  -- the others of a head in a mask, among all as among those kept
  others_in : (f f' : ℕ → ℕ) (T i : ℕ) → f (place keeps i) ≡ spread keeps (f' i)
      → subset n (without_head n (spread keeps T) (place keeps i)) (f (place keeps i))
      ≡ subset w (without_head w T i) (f' i)
  others_in f f' T i e =
      ap₂ (subset n) (without_spread keeps n T i) e ∙ subset_kept keeps n (without_head w T i) (f' i)

  pairs_left_out : (T : ℕ) → all_pairs n over (spread keeps T) ≡ all_pairs w over' T
  unfolding all_pairs
  pairs_left_out T =
      let S = spread keeps T in
      every_kept keeps n (λ i. not (in_set S i) || subset n (without_head n S i) (over i))
      (λ i h o. ap (λ (b : Bool). not b || subset n (without_head n S i) (over i)) (in_left_out keeps T i o))
      ∙ every_cong w
      (λ i. not (in_set S (place keeps i)) || subset n (without_head n S (place keeps i)) (over (place keeps i)))
      (λ i. not (in_set T i) || subset w (without_head w T i) (over' i))
      (λ i l. ap₂ (λ (a b : Bool). not a || b) (in_place keeps T i) (others_in over over' T i (over_left_out i)))

  one_left_out : (T : ℕ) → one_in_all n cont (spread keeps T) ≡ one_in_all w cont' T
  unfolding one_in_all
  one_left_out T =
      let S = spread keeps T in
      some_kept keeps n (λ i. in_set S i && subset n (without_head n S i) (cont i))
      (λ i h o. ap (λ (b : Bool). b && subset n (without_head n S i) (cont i)) (in_left_out keeps T i o))
      ∙ some_cong w
      (λ i. in_set S (place keeps i) && subset n (without_head n S (place keeps i)) (cont (place keeps i)))
      (λ i. in_set T i && subset w (without_head w T i) (cont' i))
      (λ i l. ap₂ ◌&&◌ (in_place keeps T i) (others_in cont cont' T i (cont_left_out i)))

  level_left_out : (d T : ℕ) → in_level n found over cont d (spread keeps T) ≡ in_level w found' over' cont' d T
  unfolding in_level
  level_left_out zero T = ap₂ (λ (c : ℕ) (b : Bool). eqb c 2 && b) (ones_spread keeps T) (found_left_out T)
  level_left_out (suc d) T =
      let S = spread keeps T in
      ap₂ (λ (a b : Bool). not a && b) (found_left_out T)
      (ap₂ ◌&&◌ (pairs_left_out T)
      (ap₂ ◌&&◌ (one_left_out T)
      (some_kept keeps n (λ i. in_set S i && in_level n found over cont d (without_head n S i))
      (λ i h o. ap (λ (b : Bool). b && in_level n found over cont d (without_head n S i)) (in_left_out keeps T i o))
      ∙ some_cong w (λ i. in_set S (place keeps i) && in_level n found over cont d (without_head n S (place keeps i)))
      (λ i. in_set T i && in_level w found' over' cont' d (without_head w T i))
      (λ i g. ap₂ ◌&&◌ (in_place keeps T i)
      (ap (in_level n found over cont d) (without_spread keeps n T i) ∙ level_left_out d (without_head w T i))))))

  pub set_left_out : (T : ℕ)
      → is_set n is_single is_adopters meets holds (spread keeps T) ≡ is_set w is_single' is_adopters' meets' holds' T
  unfolding is_set
  set_left_out T =
      ap₂ ◌||◌ (found_left_out T)
      (ap (λ (c : ℕ). in_level n found over cont (c - 2) (spread keeps T)) (ones_spread keeps T)
      ∙ level_left_out (ones T - 2) T)

-- ---- circles

any_of_mapped : {A : Type 0} (f : A → A) (p q : A → Bool) → ((x : A) → p (f x) ≡ q x) → (l : List A)
    → any p (map f l) ≡ any q l
unfolding any
any_of_mapped f p q e [] = refl
any_of_mapped f p q e (x ∷ l) = ap₂ ◌||◌ (e x) (any_of_mapped f p q e l)

module _ (cs : List Circle) (keeps : List Bool) (closed : OnlyClosedCircles keeps cs) where
  abbrev rest : List Circle
  rest = remaining keeps cs

  abbrev n : ℕ
  n = length cs

  alone : (T : ℕ)
      → is_one_head n (closed_at cs) (spread keeps T) ≡ is_one_head (kept_below keeps n) (closed_at rest) T
  unfolding is_one_head
  alone T =
      some_kept keeps n (λ i. eqb (spread keeps T) (single n i) && not (closed_at cs i))
      (λ i h o. ap (λ (b : Bool). eqb (spread keeps T) (single n i) && not b) (closed i o)
      ∙ and-false (eqb (spread keeps T) (single n i)))
      ∙ some_cong (kept_below keeps n)
      (λ i. eqb (spread keeps T) (single n (place keeps i)) && not (closed_at cs (place keeps i)))
      (λ i. eqb T (single (kept_below keeps n) i) && not (closed_at rest i))
      (λ i l. ap₂ ◌&&◌
      (ap (eqb (spread keeps T)) (single_spread keeps n i) ∙ spread_eqb keeps T (single (kept_below keeps n) i))
      (ap (λ (c : Circle). not (is_closed c)) (same cs keeps closed i)))

  adopted : (T : ℕ) → is_adopters_of (collected cs) (spread keeps T) ≡ is_adopters_of (collected rest) T
  adopted T =
      ap (any (λ (q : IntersectionPoint). eqb (spread keeps T) q.adopters)) (points_left_out cs keeps closed)
      ∙ any_of_mapped (renumbered keeps) (λ q. eqb (spread keeps T) q.adopters) (λ q. eqb T q.adopters)
      (λ q. spread_eqb keeps T q.adopters) (collected rest)

  met : (i j : ℕ) → meets_at (collected cs) (place keeps i) (place keeps j) ≡ meets_at (collected rest) i j
  met i j =
      ap (any (parents (place keeps i) (place keeps j))) (points_left_out cs keeps closed)
      ∙ any_of_mapped (renumbered keeps) (parents (place keeps i) (place keeps j)) (parents i j)
      (λ q. ap₂ ◌||◌ (ap₂ ◌&&◌ (place_eqb keeps q.first i) (place_eqb keeps q.second j))
      (ap₂ ◌&&◌ (place_eqb keeps q.first j) (place_eqb keeps q.second i)))
      (collected rest)

  holds_none : (k i : ℕ) → kept keeps k ≡ false → contains_at cs k i ≡ false
  holds_none k i o = rw (closed k o)

  sets_kept : (T : ℕ) → in_regions cs (collected cs) (spread keeps T) ≡ in_regions rest (collected rest) T
  sets_kept T =
      set_left_out keeps n (is_one_head n (closed_at cs)) (is_one_head (kept_below keeps n) (closed_at rest))
      (is_adopters_of (collected cs))
      (is_adopters_of (collected rest)) (meets_at (collected cs)) (meets_at (collected rest)) (contains_at cs)
      (contains_at rest) alone adopted met
      (λ i j. ap₂ contains (same cs keeps closed i) (same cs keeps closed j)) holds_none
      (λ k S h o e. closed_in_no_set cs k h (closed k o) S e) T
      ∙ ap (λ (m : ℕ). is_set m (is_one_head m (closed_at rest)) (is_adopters_of (collected rest))
      (meets_at (collected rest)) (contains_at rest) T)
      (sym (many cs keeps closed))

pub sets_left_out : SetsLeftOut
sets_left_out cs keeps closed T = sets_kept cs keeps closed T
