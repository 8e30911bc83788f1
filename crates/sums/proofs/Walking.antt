-- Laws of the walk round the heads of a set.
use mathlib.Core.Path.{◌≡◌, refl, sym, ap, subst, ◌∙◌}
use mathlib.Core.Bool.{Bool, true, false, cond}
use mathlib.Core.List.{List, [], ◌∷◌, ◌++◌, map-append, append-nil, append_assoc}
use Prim.Native.Nat.{ℕ, zero, suc, ◌+◌, ◌-◌, ◌*◌, ◌/◌, ◌%◌, ◌^◌, ◌≤◌, ◌<◌}
use native.Mathlib.Nat.{le_trans}
use native.Mathlib.Numerals.{add-one}
use native.Mathlib.Omega.{arith}
use borrow.Author.Tests.{ltb-true, ltb-false, lt-ltb, le-ltb, eq-eqb, ne_eqb}
use Rattle.std.specs.Prelude.{Option, None, Some}
use Rattle.std.specs.Option.{option_to_list}
use Rattle.std.specs.List.{position, position_or_len}
use Rattle.std.proofs.lemmas.List.Sums.{fails_before_first, passes_at_first}
use lib.Bits.{bit_and}
use lib.Count.{ones, count_trailing_zeros}
use lib.Dec.{eqb, ltb}
use lib.ListN.{length, get_or, drop, drop_of_length-le}
use lib.Seq.{drop-cons, take_all}
use lib.Ieee.{Float}
use lib.Pow.{pow_mono}
use Rattle.masks.specs.Mask.{bit, in_set, subset, Subset}
use Rattle.masks.specs.Lowest.{trailing_in, trailing_lt}
use Rattle.masks.specs.Operations.{in_of_one, bit_beyond}
use Rattle.masks.specs.Size.{ones_of_zero}
use Rattle.masks.specs.Subset.{and_test, subset_head, subset_le}
use Rattle.lists.specs.Every.{Every, every_append}
use Rattle.lists.specs.Lists.{up_to, keep}
use Rattle.geometry.specs.declared.circle.Circle.{Circle}
use Rattle.intersections.specs.Members.{circle_at}
use Rattle.intersections.specs.Heads.{first_ten}
use Rattle.intersections.proofs.Few.{few_read}
use Rattle.boundary.specs.declared.arcs.BoundaryArc.{BoundaryArc}
use Rattle.boundary.specs.declared.sort.Mark.{Mark}
use Rattle.boundary.specs.Marks.{no_mark}
use Rattle.boundary.specs.Outline.{gap, between, full_circle, probe}
use Rattle.gaps.specs.declared.marks.HeadMarks.{HeadMarks}
use Rattle.gaps.specs.Gaps.{owned_in, is_arc, next_of}
use Rattle.gaps.specs.Numbers.{first_places, gap_number}
use Rattle.gaps.specs.Marks.{adopted_by, angles_in, phi_at, unmarked, gap_letters}
use Rattle.gaps.proofs.Next.{next_is}
use Rattle.gaps.proofs.Numbering.{by_cases}
use Rattle.sums.specs.declared.pass.Pass.{Pass}
use Rattle.sums.specs.Walk.{head_of as arc_head}
use Rattle.sums.specs.Walk.{marks_of, gap_in, whole_in, gaps_in, head_in, part_in, heads_in, arcs_by}
use Rattle.sums.specs.Walk.{Angled, next_place, gap_arc, arc_at, Placed, Listing, arcs_listed, Added, AddedBy}
use Rattle.sums.proofs.Ranks.{owned_by_mask, arc_by_mask}
use Rattle.sums.proofs.Held.{standing_near, standing_whole, placed_near, lets_held, owners_held, marks_few}

-- ---- the arc of a place

module _ (circles : List Circle) (heads : List HeadMarks) (j a : ℕ) (small : a < 32) where
  head_of : (j * 32 + a) / 32 ≡ j
  head_of = omega (arith, small)

  index_of : (j * 32 + a) % 32 ≡ a
  index_of = omega (arith, small)

  next-of : next_place heads (j * 32 + a) ≡ j * 32 + (a + 1) % length (marks_of heads j)
  unfolding next_place
  next-of = rw (head_of, index_of)

  angled : a < length (marks_of heads j) → Angled heads (j * 32 + a)
  angled h = rw (head_of, index_of) h

  -- the gap to the b-th angle
  abbrev gap_to : ℕ → BoundaryArc
  gap_to b =
      between j (circle_at circles j) (phi_at (marks_of heads j) a)
      (gap (phi_at (marks_of heads j) a) (phi_at (marks_of heads j) b))

  gap-arc : (b : ℕ) → b < 32 → gap_arc circles heads (j * 32 + a) (j * 32 + b) ≡ gap_to b
  unfolding gap_arc
  gap-arc b k =
      let same : (j * 32 + b) / 32 ≡ j = omega (arith, k) in
      let index : (j * 32 + b) % 32 ≡ b = omega (arith, k) in
      rw (head_of, index_of, same, index)

  module _ (low : j < 10) where
    pub neighbour_arc : (a + 1) % length (marks_of heads j) < 32
        → arc_at circles heads (j * 32 + a) ≡ gap_to ((a + 1) % length (marks_of heads j))
    unfolding arc_at
    neighbour_arc k =
        rw (lt-ltb (j * 32 + a) 320 (omega (arith, small, low)), next-of)
        (gap-arc ((a + 1) % length (marks_of heads j)) k)

    pub neighbour_head : arc_head (j * 32 + a) ≡ j
    unfolding arc_head
    neighbour_head = rw (lt-ltb (j * 32 + a) 320 (omega (arith, small, low))) head_of

    pub neighbour_placed : (needed : ℕ) → a < length (marks_of heads j) → Placed needed heads (j * 32 + a)
    neighbour_placed needed h =
        let less : j * 32 + a < 320 = omega (arith, low, small) in
        placed_near needed heads (j * 32 + a) (omega (arith, less))
        (standing_near needed heads (j * 32 + a) less ∙ rw (head_of, index_of) (lt-ltb a (length (marks_of heads j)) h))

    module _ (b : ℕ) (k : b < 32) where
      abbrev far : ℕ
      far = 330 + (j * 32 + a) * 320 + (j * 32 + b)

      from : (far - 330) / 320 ≡ j * 32 + a
      from = omega (arith, low, k)

      to : (far - 330) % 320 ≡ j * 32 + b
      to = omega (arith, low, k)

      pub other_arc : arc_at circles heads far ≡ gap_to b
      unfolding arc_at
      other_arc = rw (le-ltb far 320 (omega arith), le-ltb far 330 (omega arith), from, to) (gap-arc b k)

      pub other_head : arc_head far ≡ j
      unfolding arc_head
      other_head = rw (le-ltb far 320 (omega arith), le-ltb far 330 (omega arith), from) head_of

pub other_placed : (heads : List HeadMarks) (needed j a b : ℕ) → j < 10 → length (marks_of heads j) ≤ 32
    → a < length (marks_of heads j) → b < length (marks_of heads j)
    → Placed needed heads (330 + (j * 32 + a) * 320 + (j * 32 + b))
other_placed heads needed j a b low few ha hb =
    let from : (330 + (j * 32 + a) * 320 + (j * 32 + b) - 330) / 320 ≡ j * 32 + a = omega (arith, low, few, hb) in
    let to : (330 + (j * 32 + a) * 320 + (j * 32 + b) - 330) % 320 ≡ j * 32 + b = omega (arith, low, few, hb) in
    record {
      near = λ g. absurd (omega (arith, g));
      start = λ _. rw from (angled [] heads j a (omega arith) ha);
      end = λ _. rw to (angled [] heads j b (omega arith) hb);
      same = λ _. rw (from, to) (head_of [] heads j a (omega arith) ∙ sym (head_of [] heads j b (omega arith)));
    }

-- the whole circle of a head
pub whole_arc : (circles : List Circle) (heads : List HeadMarks) (j : ℕ) → j < 10
    → arc_at circles heads (320 + j) ≡ full_circle j (circle_at circles j)
unfolding arc_at
whole_arc circles heads j h =
    let e : 320 + j - 320 ≡ j = omega arith in
    rw (le-ltb (320 + j) 320 (omega arith), lt-ltb (320 + j) 330 (omega arith), e)

pub whole_placed : (heads : List HeadMarks) (needed j : ℕ) → j < 10 → in_set needed j ≡ true
    → Placed needed heads (320 + j)
whole_placed heads needed j h e =
    let same : 320 + j - 320 ≡ j = omega arith in
    placed_near needed heads (320 + j) (omega (arith, h))
    (standing_whole needed heads (320 + j) (omega arith) ∙ rw same e)

-- ---- the marks of a head that a set adopts

module _ (S : ℕ) (marks : List Mark) where
  -- the angles from place i on
  abbrev pub angles_beyond : ℕ → List Float
  angles_beyond i = angles_in S (drop i marks)

  next_angle : (i : ℕ) → i < length marks → adopted_by S (get_or marks i no_mark) ≡ true
      → angles_beyond i ≡ phi_at marks i ∷ angles_beyond (i + 1)
  unfolding angles_in keep
  next_angle i h e = rw (add-one i, drop-cons marks i no_mark h, e)

  no_next : (i : ℕ) → i < length marks → adopted_by S (get_or marks i no_mark) ≡ false
      → angles_beyond i ≡ angles_beyond (i + 1)
  unfolding angles_in keep
  no_next i h e = rw (add-one i, drop-cons marks i no_mark h, e)

  none_left : (i : ℕ) → length marks ≤ i → angles_beyond i ≡ []
  unfolding angles_in keep
  none_left i h = rw (drop_of_length-le marks h)

  -- up to the first place whose point the set adopts
  skip_to : (r : ℕ) → r ≤ length marks → ((i : ℕ) → i < r → adopted_by S (get_or marks i no_mark) ≡ false)
      → angles_in S marks ≡ angles_beyond r
  skip_to zero h g = refl
  skip_to (suc r) h g =
      skip_to r (omega arith) (λ i k. g i (omega arith)) ∙ no_next r (omega arith) (g r (omega arith))
      ∙ ap angles_beyond (add-one r)

  pub no_angle : None ≡ position (adopted_by S) marks → angles_in S marks ≡ []
  no_angle e = by (ltb (position_or_len (adopted_by S) marks) (length marks)) refl
    where
      by : (b : Bool) → ltb (position_or_len (adopted_by S) marks) (length marks) ≡ b → angles_in S marks ≡ []
      by true q = absurd (grind (arith, rw q at e))
      by false q =
          skip_to (length marks) (omega arith)
          (λ i h. fails_before_first (adopted_by S) marks i no_mark (omega (arith, h, ltb-false _ _ q)))
          ∙ none_left (length marks) (omega arith)

  -- it is a place, and the first angle stands there, with those after it
  pub first_angle : {first : ℕ} → Some first ≡ position (adopted_by S) marks
      → (first < length marks) × (angles_in S marks ≡ phi_at marks first ∷ angles_beyond (first + 1))
  first_angle {first = first} e = by (ltb (position_or_len (adopted_by S) marks) (length marks)) refl
    where
      by : (b : Bool) → ltb (position_or_len (adopted_by S) marks) (length marks) ≡ b
          → (first < length marks) × (angles_in S marks ≡ phi_at marks first ∷ angles_beyond (first + 1))
      by true q =
          let is : first ≡ position_or_len (adopted_by S) marks = grind (arith, rw q at e) in
          let less = ltb-true (position_or_len (adopted_by S) marks) (length marks) q in
          let p = position_or_len (adopted_by S) marks in
          rw is (
            less,
            skip_to p (omega (arith, less)) (λ i h. fails_before_first (adopted_by S) marks i no_mark h)
                ∙ next_angle p less (passes_at_first (adopted_by S) marks no_mark less),
          )
      by false q = absurd (grind (arith, rw q at e))

-- ---- numbers put on the list

module _ (circles : List Circle) (needed : ℕ) (heads : List HeadMarks) (list : List ℕ) where
  pub added_one : (p : ℕ) {more : List BoundaryArc} → more ≡ arc_at circles heads p ∷ [] → Placed needed heads p
      → AddedBy circles needed heads more list (list ++ (p ∷ []))
  added_one p e one =
      record {
        said = map-append (arc_at circles heads) list (p ∷ []) ∙ ap (λ t. arcs_listed circles heads list ++ t) (sym e);
        placed = λ all. every_append (Placed needed heads) list (p ∷ []) all (one, tt);
      }

  pub added_none : {more : List BoundaryArc} → more ≡ [] → AddedBy circles needed heads more list list
  added_none e = record { said = sym (rw e (append-nil (arcs_listed circles heads list))); placed = λ all. all }

pub added_on : {circles : List Circle} {needed : ℕ} {heads : List HeadMarks} {a b c : List ℕ} {x y : List BoundaryArc}
    → AddedBy circles needed heads x a b → AddedBy circles needed heads y b c
    → AddedBy circles needed heads (x ++ y) a c
added_on {x = x} {y = y} f g =
    record { said = g.said ∙ ap (λ t. t ++ y) f.said ∙ append_assoc _ x y; placed = λ all. g.placed (f.placed all) }

-- ---- one gap, of any head of which it is held who lets it have the gap from this mark to the next

module _ (circles : List Circle) (heads : List HeadMarks) (needed S j : ℕ) (most : length circles ≤ 10)
    (below : S < 2 ^ length circles) (head : j < length circles) (in-S : in_set S j ≡ true)
    (many : length (marks_of heads j) ≤ 32) (a b : ℕ) (ha : a < length (marks_of heads j))
    (hb : b < length (marks_of heads j))
    (held : let marks = marks_of heads j in
    (get_or marks a no_mark).lets
    ≡ gap_letters circles j (phi_at marks a) (phi_at marks ((a + 1) % length marks))) where
  abbrev marks : List Mark
  marks = marks_of heads j

  head_low : j < 10
  head_low = omega (arith, head, most)

  abbrev phi_a : Float
  phi_a = phi_at (marks_of heads j) a

  abbrev phi_b : Float
  phi_b = phi_at (marks_of heads j) b

  -- the gap has no number and is no arc, or it is the arc of its number, which is one of head j
  abbrev pub Numbered : Option ℕ → Type 0
  Numbered None =
      let marks = marks_of heads j in
      gap_in circles S j (phi_at marks a) (phi_at marks b) ≡ []
  Numbered (Some p) =
      let marks = marks_of heads j in
      (gap_in circles S j (phi_at marks a) (phi_at marks b) ≡ arc_at circles heads p ∷ []) × Placed needed heads p
      × (arc_head p ≡ j)

  by_arc : (p : ℕ) → arc_at circles heads p ≡ between j (circle_at circles j) phi_a (gap phi_a phi_b)
      → Placed needed heads p → arc_head p ≡ j → (s : Bool) → is_arc circles S j phi_a phi_b ≡ s
      → Numbered (cond s (Some p) None)
  unfolding gap_in
  by_arc p is placed own true e = (rw (e, is), placed, own)
  by_arc p is placed own false e = rw e

  -- between neighbours, by who lets the head have it
  module _ (next : b ≡ next_of a (length (marks_of heads j))) where
    after : b ≡ (a + 1) % length (marks_of heads j)
    after = next ∙ next_is a (length (marks_of heads j)) ha

    by_mask : subset 64 S (get_or (marks_of heads j) a no_mark).lets ≡ is_arc circles S j phi_a phi_b
    by_mask =
        sym (and_test 64 S (get_or (marks_of heads j) a no_mark).lets
        (le_trans below (pow_mono {i = length circles} {j = 64} (omega (arith, most)))))
        ∙ ap (λ m. eqb (bit_and S m) S) held
        ∙ arc_by_mask circles S j below in-S phi_a (phi_at marks ((a + 1) % length marks))
        ∙ ap (λ m. is_arc circles S j phi_a (phi_at marks m)) (sym after)

    neighbour : (s : Bool) → subset 64 S (get_or (marks_of heads j) a no_mark).lets ≡ s
        → Numbered (cond s (Some (j * 32 + a)) None)
    neighbour s e =
        by_arc (j * 32 + a)
        (neighbour_arc circles heads j a (omega (arith, many, ha)) head_low (omega (arith, many, hb, after))
        ∙ ap (λ m. between j (circle_at circles j) phi_a (gap phi_a (phi_at marks m))) (sym after))
        (neighbour_placed circles heads j a (omega (arith, many, ha)) head_low needed ha)
        (neighbour_head circles heads j a (omega (arith, many, ha)) head_low) s (sym by_mask ∙ e)

  -- any other, worked out
  other : (s : Bool) → is_arc circles S j phi_a phi_b ≡ s
      → Numbered (cond s (Some (330 + (j * 32 + a) * 320 + (j * 32 + b))) None)
  other s e =
      by_arc (330 + (j * 32 + a) * 320 + (j * 32 + b))
      (other_arc circles heads j a (omega (arith, many, ha)) head_low b (omega (arith, many, hb)))
      (other_placed heads needed j a b head_low many ha hb)
      (other_head circles heads j a (omega (arith, many, ha)) head_low b (omega (arith, many, hb))) s e

  -- circles and marks are few enough to be read whole, and all marks stand for angles
  pub gap_numbered : {number : Option ℕ} {l : List Mark} {h : HeadMarks}
      → number ≡ gap_number (first_ten circles) (first_places l) (length l) S j a b
      → l ≡ h.marks.items → h ≡ get_or heads j unmarked
      → Numbered number
  gap_numbered e el eh =
      let own : _ ≡ marks = el ∙ ap (λ t. t.marks.items) eh in
      subst Numbered (sym (e ∙ rw (own, few_read circles most, take_all 32 marks many) refl))
      (by_cases circles marks (length marks) S j a b head ha hb Numbered neighbour other)

  numbered_on : (list : List ℕ) (number : Option ℕ) → Numbered number
      → AddedBy circles needed heads (gap_in circles S j phi_a phi_b) list (list ++ option_to_list number)
  numbered_on list None none = rw (append-nil list) (added_none circles needed heads list none)
  numbered_on list (Some p) one = added_one circles needed heads list p one.0 one.1

  heads_on : (number : Option ℕ) → Numbered number → Every (λ p. arc_head p ≡ j) (option_to_list number)
  heads_on None none = tt
  heads_on (Some p) one = (one.2, tt)

  -- a list with the number put on, if there is one, stands for the arc of the gap too, if it is one; that is of head j
  pub gap_listed : {number : Option ℕ} {l : List Mark} {h : HeadMarks}
      → number ≡ gap_number (first_ten circles) (first_places l) (length l) S j a b
      → l ≡ h.marks.items → h ≡ get_or heads j unmarked
      → (list : List ℕ)
      → let marks = marks_of heads j in
      AddedBy circles needed heads (gap_in circles S j (phi_at marks a) (phi_at marks b)) list
      (list ++ option_to_list number)
      × Every (λ p. arc_head p ≡ j) (option_to_list number)
  gap_listed {number = number} e el eh list =
      let one = gap_numbered e el eh in (numbered_on list number one, heads_on number one)

-- A list that stands for some arcs stands for them and for what is put on.
pub listing_on : {circles : List Circle} {needed : ℕ} {heads : List HeadMarks} {arcs more : List BoundaryArc}
    {list after : List ℕ} → Listing circles needed heads arcs list → AddedBy circles needed heads more list after
    → Listing circles needed heads (arcs ++ more) after
listing_on {more = more} l f =
    record { said = f.said ∙ ap (λ t. t ++ more) l.said; placed = f.placed l.placed }

-- ---- a set of heads of the pass

module _ (pass : Pass) (S : ℕ) (within : Subset S pass.needed) where
  abbrev circles : List Circle
  circles = pass.circles.now

  abbrev heads : List HeadMarks
  heads = pass.heads.now.items

  pub set_below : S < 2 ^ length pass.circles.now
  set_below = omega (arith, subset_le S pass.needed within, pass.below)

  set_wide : S < 2 ^ 64
  set_wide = le_trans set_below (pow_mono {i = length pass.circles.now} {j = 64} (omega (arith, pass.ten)))

  module _ (j : ℕ) (head : j < length pass.circles.now) (in-S : in_set S j ≡ true) where
    pub in-needed : in_set pass.needed j ≡ true
    in-needed = subset_head S pass.needed within j in-S

    low : j < 10
    low = omega (arith, head, pass.ten)

    -- one gap, of what is held of the heads of a pass
    pub pass_gap_listed : (a b : ℕ) (ha : a < length (marks_of pass.heads.now.items j))
        (hb : b < length (marks_of pass.heads.now.items j)) {number : Option ℕ} {l : List Mark} {h : HeadMarks}
        → number ≡ gap_number (first_ten pass.circles.now) (first_places l) (length l) S j a b
        → l ≡ h.marks.items → h ≡ get_or pass.heads.now.items j unmarked
        → (list : List ℕ)
        → let marks = marks_of pass.heads.now.items j in
        Added pass (gap_in pass.circles.now S j (phi_at marks a) (phi_at marks b)) list (list ++ option_to_list number)
    pass_gap_listed a b ha hb e el eh list =
        (gap_listed circles heads pass.needed S j pass.ten set_below head in-S (marks_few pass j) a b ha hb
        (lets_held pass j head in-needed a ha) e el eh list).0

    -- ---- no angle: the whole circle, by the mask of those that let the head have its probe

    whole_by : subset 64 S (get_or pass.heads.now.items j unmarked).owners
        ≡ owned_in circles S j (probe (circle_at circles j))
    whole_by =
        sym (and_test 64 S (get_or pass.heads.now.items j unmarked).owners set_wide)
        ∙ ap (λ k. eqb (bit_and S k) S) (owners_held pass j head in-needed)
        ∙ owned_by_mask circles S j (probe (circle_at circles j)) set_below

    module _ (none : angles_in S (marks_of pass.heads.now.items j) ≡ []) (list : List ℕ) where
      pub whole_yes : subset 64 S (get_or pass.heads.now.items j unmarked).owners ≡ true
          → Added pass (head_in pass.circles.now S j (angles_in S (marks_of pass.heads.now.items j))) list
          (list ++ ((320 + j) ∷ []))
      unfolding head_in whole_in
      whole_yes e =
          added_one circles pass.needed heads list (320 + j)
          (rw (none, whole_arc circles heads j low) (rw (sym whole_by ∙ e)))
          (whole_placed pass.heads.now.items pass.needed j low in-needed)

      pub whole_no : subset 64 S (get_or pass.heads.now.items j unmarked).owners ≡ false
          → Added pass (head_in pass.circles.now S j (angles_in S (marks_of pass.heads.now.items j))) list list
      unfolding head_in whole_in
      whole_no e = added_none circles pass.needed heads list (rw none (rw (sym whole_by ∙ e)))

-- ---- the walk round one head

-- The gaps up to the mark `last` are listed, and with those from it on all of the head's arcs are: S adopts no mark
-- after it and before b.
pub record Round (pass : Pass) (S j first : ℕ) (initial list : List ℕ) (last b : ℕ) : Type 0 where
  pub first_below : first < length (marks_of pass.heads.now.items j)
  pub last_below : last < length (marks_of pass.heads.now.items j)
  pub past : last < b
  pub room : length list ≤ j * 32 + last
  pub rest : (after : List ℕ)
      → let cs = pass.circles.now in let marks = marks_of pass.heads.now.items j in
      Added pass (gaps_in cs S j (phi_at marks first) (phi_at marks last ∷ angles_beyond S marks b)) list after
      → Added pass (head_in cs S j (angles_in S marks)) initial after

module _ (pass : Pass) (S j first : ℕ) where
  abbrev phi : ℕ → Float
  phi = phi_at (marks_of pass.heads.now.items j)

  abbrev beyond : ℕ → List Float
  beyond = angles_beyond S (marks_of pass.heads.now.items j)

  abbrev gaps : List Float → List BoundaryArc
  gaps = gaps_in pass.circles.now S j (phi_at (marks_of pass.heads.now.items j) first)

  gaps_step : (a b : Float) (l : List Float) → gaps (a ∷ (b ∷ l)) ≡ gap_in pass.circles.now S j a b ++ gaps (b ∷ l)
  unfolding gaps_in
  gaps_step a b l = refl

  gaps_last : (a : Float) → gaps (a ∷ []) ≡ gap_in pass.circles.now S j a (phi first)
  unfolding gaps_in
  gaps_last a = refl

  head_gaps : (l : List Float) → head_in pass.circles.now S j (phi first ∷ l) ≡ gaps (phi first ∷ l)
  unfolding head_in
  head_gaps l = refl

  pub round_start : (list : List ℕ) → Some first ≡ position (adopted_by S) (marks_of pass.heads.now.items j)
      → length list ≤ j * 32 → Round pass S j first list list first (first + 1)
  round_start list e room =
      let x = first_angle S (marks_of pass.heads.now.items j) e in
      record {
        first_below = x.0;
        last_below = x.0;
        past = omega arith;
        room = omega (arith, room);
        rest = λ after h.
            subst (λ t. Added pass t list after)
            (sym (ap (head_in pass.circles.now S j) x.1 ∙ head_gaps (beyond (first + 1)))) h;
      }

  module _ {initial list : List ℕ} {last b : ℕ} (w : Round pass S j first initial list last b) where
    -- S does not adopt b
    pub round_skips : b < length (marks_of pass.heads.now.items j)
        → adopted_by S (get_or (marks_of pass.heads.now.items j) b no_mark) ≡ false
        → Round pass S j first initial list last (b + 1)
    round_skips h none =
        record {
          first_below = w.first_below;
          last_below = w.last_below;
          past = omega (arith, w.past);
          room = w.room;
          rest = λ after k.
              w.rest after
              (subst (λ t. Added pass (gaps (phi last ∷ t)) list after)
              (sym (no_next S (marks_of pass.heads.now.items j) b h none)) k);
        }

    -- it does
    pub round_next : {list' : List ℕ} → b < length (marks_of pass.heads.now.items j)
        → adopted_by S (get_or (marks_of pass.heads.now.items j) b no_mark) ≡ true
        → length list' ≤ length list + 1
        → (let marks = marks_of pass.heads.now.items j in
        Added pass (gap_in pass.circles.now S j (phi_at marks last) (phi_at marks b)) list list')
        → Round pass S j first initial list' b (b + 1)
    round_next h here more added =
        record {
          first_below = w.first_below;
          last_below = h;
          past = omega arith;
          room = omega (arith, w.room, w.past, more);
          rest = λ after k.
              w.rest after
              (subst (λ t. Added pass t list after)
              (sym (ap (λ t. gaps (phi last ∷ t)) (next_angle S (marks_of pass.heads.now.items j) b h here)
              ∙ gaps_step (phi last) (phi b) (beyond (b + 1))))
              (added_on added k));
        }

    pub round_end : {list' : List ℕ} → length (marks_of pass.heads.now.items j) ≤ b
        → (let marks = marks_of pass.heads.now.items j in
        Added pass (gap_in pass.circles.now S j (phi_at marks last) (phi_at marks first)) list list')
        → Added pass (head_in pass.circles.now S j (angles_in S (marks_of pass.heads.now.items j))) initial list'
    round_end {list' = list'} h added =
        w.rest list'
        (subst (λ t. Added pass t list list')
        (sym (ap (λ t. gaps (phi last ∷ t)) (none_left S (marks_of pass.heads.now.items j) b h)
        ∙ gaps_last (phi last)))
        added)

-- ---- head by head

module _ (pass : Pass) (S j : ℕ) where
  -- the arcs of the heads below n
  abbrev below : ℕ → List BoundaryArc
  below n = heads_in pass.circles.now (marks_of pass.heads.now.items) S n

  head_more : in_set S j ≡ true
      → below (j + 1) ≡ below j ++ head_in pass.circles.now S j (angles_in S (marks_of pass.heads.now.items j))
  unfolding heads_in up_to part_in
  head_more e = rw (add-one j, e)

  head_same : in_set S j ≡ false → below (j + 1) ≡ below j
  unfolding heads_in up_to part_in
  head_same e = rw (add-one j, e) (append-nil (below j))

  pub heads_more : {a b c : List ℕ} → in_set S j ≡ true
      → Added pass (heads_in pass.circles.now (marks_of pass.heads.now.items) S j) a b
      → Added pass (head_in pass.circles.now S j (angles_in S (marks_of pass.heads.now.items j))) b c
      → Added pass (heads_in pass.circles.now (marks_of pass.heads.now.items) S (j + 1)) a c
  heads_more {a = a} {c = c} e f g = subst (λ t. Added pass t a c) (sym (head_more e)) (added_on f g)

  pub heads_same : {a b : List ℕ} → in_set S j ≡ false
      → Added pass (heads_in pass.circles.now (marks_of pass.heads.now.items) S j) a b
      → Added pass (heads_in pass.circles.now (marks_of pass.heads.now.items) S (j + 1)) a b
  heads_same {a = a} {b = b} e f = subst (λ t. Added pass t a b) (sym (head_same e)) f

module _ (circles : List Circle) (heads : List HeadMarks) (S : ℕ) where
  pub heads_none : [] ≡ heads_in circles (marks_of heads) S 0
  unfolding heads_in up_to
  heads_none = refl

  pub arcs_many : (ones S ≡ 1 → ⊥) → {arcs : List BoundaryArc}
      → arcs ≡ heads_in circles (marks_of heads) S (length circles)
      → arcs ≡ arcs_by circles (marks_of heads) S
  unfolding arcs_by
  arcs_many e said = said ∙ rw (ne_eqb (ones S) 1 e)

  pub arcs_one : ones S ≡ 1 → count_trailing_zeros 64 S < 10
      → arc_at circles heads (320 + count_trailing_zeros 64 S) ∷ [] ≡ arcs_by circles (marks_of heads) S
  unfolding arcs_by
  arcs_one e h = rw (whole_arc circles heads (count_trailing_zeros 64 S) h, eq-eqb (ones S) 1 e)

-- the head of a single
module _ (n S : ℕ) (most : n ≤ 10) (below : S < 2 ^ n) (one : ones S ≡ 1) where
  wide : S < 2 ^ 64
  wide = le_trans below (pow_mono {i = n} {j = 64} (omega arith))

  some : 0 < S
  some = grind (arith, one, ones_of_zero)

  there : bit S (count_trailing_zeros 64 S) ≡ 1
  there = trailing_in 64 S (trailing_lt 64 S some wide)

  pub single_in : in_set S (count_trailing_zeros 64 S) ≡ true
  single_in = in_of_one S (count_trailing_zeros 64 S) there

  pub single_below : count_trailing_zeros 64 S < n
  single_below = grind (arith, there, bit_beyond n S (count_trailing_zeros 64 S) below)
