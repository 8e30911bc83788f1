-- The steps of discover_regions together give the bytes of specs/Sets.antt: each step looks at masks of n heads only,
-- where the bytes of the step before say what they stand for.
use mathlib.Core.Path.{◌≡◌, refl, sym, ap, ap₂, ◌∙◌}
use mathlib.Core.Bool.{Bool, not, ◌&&◌, ◌||◌}
use mathlib.Core.List.{List}
use Prim.Native.Nat.{ℕ, zero, suc, ◌-◌, ◌^◌, ◌≤◌, ◌<◌}
use native.Mathlib.Omega.{arith}
use Rattle.std.proofs.lemmas.Bool.Decides.{nat_tests}
use lib.Count.{ones}
use lib.Dec.{eqb, leb, ltb}
use lib.ListN.{length}
use Rattle.masks.specs.Mask.{in_set, without_head, subset}
use Rattle.masks.specs.Gather.{gather_lt, in_gather, gather_same}
use Rattle.masks.specs.Presence.{byte, stands, byte_stands}
use Rattle.lists.specs.Written.{written}
use Rattle.lists.proofs.Writing.{written_before, written_cong}
use Rattle.lists.proofs.Somes.{some_cong}
use Rattle.geometry.specs.declared.circle.Circle.{Circle}
use Rattle.intersections.specs.declared.points.IntersectionPoint.{IntersectionPoint}
use Rattle.masks.specs.Subset.{every_cong}
use Rattle.sets.specs.Marked.{marked}
use Rattle.sets.specs.Sets.{pair, is_pair, witnessed, with_parts, all_pairs, one_in_all, in_level, with_levels}
use Rattle.sets.specs.Sets.{overlapping, containing, is_set}
use Rattle.sets.specs.Regions.{is_one_head, closed_at, is_adopters_of, meets_at, contains_at, set_bytes}
use Rattle.sets.specs.Steps.{twice_contained, adopted, joined_below}
use Rattle.sets.proofs.Masks.{count_most}
use Rattle.sets.proofs.Marks.{zeros, marks, marked_again}
use Rattle.sets.proofs.Singles.{one_head_beyond, one_head_few, pair_beyond, adopter_parts}
use Rattle.sets.proofs.Taken.{part_agree}
use Rattle.sets.proofs.Pairing.{pairs_agree}
use Rattle.sets.proofs.TwiceContained.{nothing_joins}

-- ---- tests that agree on masks of n heads

module _ (n : ℕ) (f g : ℕ → Bool) (same : (T : ℕ) → T < 2 ^ n → f T ≡ g T) where
  pub parts_agree : (S : ℕ) → S < 2 ^ n → with_parts n f S ≡ with_parts n g S
  parts_agree S hs = ap₂ ◌||◌ (same S hs) (part_agree n S f g same)

  pub overlapping_agree : (i : ℕ) → overlapping n f i ≡ overlapping n g i
  overlapping_agree i = gather_same n _ _ (λ j k. same (pair n i j) (gather_lt n _))

  module _ (o p c d : ℕ → ℕ) (over : (i : ℕ) → i < n → o i ≡ p i) (cont : (i : ℕ) → i < n → c i ≡ d i) where
    pub level_agree : (e S : ℕ) → S < 2 ^ n → in_level n f o c e S ≡ in_level n g p d e S
    unfolding in_level all_pairs one_in_all
    level_agree zero S hs = grind (arith, same S hs)
    level_agree (suc e) S hs =
        let others = without_head n S in
        ap₂ ◌&&◌ (ap not (same S hs))
        (ap₂ ◌&&◌ (every_cong n _ _ (λ i k. ap (λ (m : ℕ). not (in_set S i) || subset n (others i) m) (over i k)))
        (ap₂ ◌&&◌ (some_cong n _ _ (λ i k. ap (λ (m : ℕ). in_set S i && subset n (others i) m) (cont i k)))
        (some_cong n _ _ (λ i k. ap (λ (b : Bool). in_set S i && b) (level_agree e (others i) (gather_lt n _))))))

-- ---- bytes

-- the bytes of a table say what was written
says : (p : ℕ → Bool) (m S : ℕ) (l : List ℕ) → S < m → stands (written (λ T. byte (p T)) m l) S ≡ p S
says p m S l h = ap (λ (x : ℕ). eqb x 1) (written_before (λ T. byte (p T)) m S l 0 h) ∙ byte_stands (p S)

module _ (cs : List Circle) (points : List IntersectionPoint) (n : ℕ) where
  -- the masks found in steps 1 to 4, and all
  abbrev pub found : ℕ → Bool
  found =
      with_parts n
      (witnessed n (is_one_head n (closed_at cs)) (is_adopters_of points) (meets_at points) (contains_at cs))

  abbrev pub all : ℕ → Bool
  all = is_set n (is_one_head n (closed_at cs)) (is_adopters_of points) (meets_at points) (contains_at cs)

  -- the bytes of a test of the masks of n heads
  abbrev pub bytes_of : (ℕ → Bool) → List ℕ
  bytes_of p = written (λ S. byte (p S)) (2 ^ n) (zeros 1024)

  agree : (p q : ℕ → Bool) → ((S : ℕ) → S < 2 ^ n → p S ≡ q S) → bytes_of p ≡ bytes_of q
  agree p q e = written_cong _ _ (2 ^ n) (zeros 1024) (zeros 1024) (λ S h. ap byte (e S h)) refl

  pub set_bytes_are : n ≡ length cs → bytes_of all ≡ set_bytes cs points
  set_bytes_are e = rw e refl

  -- the heads that contain each head, as code has them
  module _ (ten : n ≤ 10) (c : ℕ → ℕ) (cont : (i : ℕ) → i < n → c i ≡ containing n (contains_at cs) i) where
    -- they are masks of n heads
    pub cont_lt : (i : ℕ) → i < n → c i < 2 ^ n
    cont_lt i h = rw (cont i h) (gather_lt n _)

    -- steps 1 to 4, from the heads that meet each head and those that contain it
    pub found_is : {a b F : List ℕ} (meets : ℕ → ℕ → Bool) → a ≡ marked (adopted n (is_adopters_of points)) (zeros 1024)
        → ((i j : ℕ) → i < 10 → j < 10 → meets i j ≡ meets_at points i j)
        → b ≡ marked (is_pair n meets (λ i j. in_set (c j) i)) a → F ≡ marked (is_one_head n (closed_at cs)) b
        → F ≡ bytes_of found
    unfolding witnessed
    found_is meets e_a e_m e_b e_f =
        let pairs = is_pair n meets (λ i j. in_set (c j) i) in
        let same = pairs_agree n meets (meets_at points) (λ i j. in_set (c j) i) (contains_at cs)
        (λ i j h k. e_m i j (omega (arith, ten)) (omega (arith, ten)))
        (λ i j h k. grind (arith, cont j k, in_gather n (λ i. contains_at cs i j) i h)) in
        rw (e_f, e_b, e_a, marked_again, marked_again)
        (marks _ found (2 ^ n) (count_most n ten)
        (λ S h. grind (
          arith,
          nat_tests,
          same S,
          adopter_parts n (is_one_head n (closed_at cs)) (is_adopters_of points) (meets_at points)
              (contains_at cs) (λ S. one_head_few n S (closed_at cs)) S h,
        ))
        (λ S h. grind (
          arith,
          nat_tests,
          one_head_beyond n S (closed_at cs) h,
          pair_beyond n S meets (λ i j. in_set (c j) i) h,
        )))

    -- what the levels make of the masks found
    module _ {F : List ℕ} (e_f : F ≡ bytes_of found) where
      -- where no head is contained twice, they add nothing
      pub assembled_found : twice_contained n c ≡ 0 → F ≡ bytes_of all
      unfolding is_set
      assembled_found none =
          let same : twice_contained n (containing n (contains_at cs)) ≡ twice_contained n c =
          gather_same n _ _ (λ i h. ap (λ (m : ℕ). leb 2 (ones (without_head n m i))) (sym (cont i h))) in
          e_f ∙ agree found _
          (λ S h. sym (nothing_joins n found (overlapping n found) (containing n (contains_at cs)) S h (same ∙ none)))

      -- else the masks that join
      pub assembled : {R : List ℕ} (o : ℕ → ℕ) → ((i : ℕ) → i < n → o i ≡ overlapping n (stands F) i)
          → R ≡ marked (joined_below n (stands F) o c (2 ^ n)) F → R ≡ bytes_of all
      unfolding is_set
      assembled o e_o e_r =
          let say_f : (T : ℕ) → T < 2 ^ n → stands F T ≡ found T =
          λ T h. ap (λ (l : List ℕ). stands l T) e_f ∙ says found (2 ^ n) T (zeros 1024) h in
          let over : (i : ℕ) → i < n → o i ≡ overlapping n found i =
          λ i h. e_o i h ∙ overlapping_agree n (stands F) found say_f i in
          let below : ℕ → Bool = λ S. ltb S (2 ^ n) && found S in
          let is_f : F ≡ marked below (zeros 1024) =
          e_f ∙ sym (marks below found (2 ^ n) (count_most n ten) (λ S h. grind (arith, nat_tests))
          (λ S h. grind (arith, nat_tests))) in
          e_r ∙ ap (marked (joined_below n (stands F) o c (2 ^ n))) is_f ∙ marked_again below _ (zeros 1024)
          ∙ marks _ (with_levels n found (overlapping n found) (containing n (contains_at cs))) (2 ^ n)
          (count_most n ten)
          (λ S h. grind (
            arith,
            nat_tests,
            level_agree n (stands F) found say_f o (overlapping n found) c
                (containing n (contains_at cs)) over cont (ones S - 2) S h,
          ))
          (λ S h. grind (arith, nat_tests))
