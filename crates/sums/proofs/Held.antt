-- What is held of the heads of a pass, and which numbers stand for arcs of theirs.
use mathlib.Core.Path.{◌≡◌, refl, sym, ap, ◌∙◌}
use mathlib.Core.Bool.{Bool, true, false}
use mathlib.Core.List.{List, [], ◌∷◌}
use Prim.Native.Nat.{ℕ, suc, ◌+◌, ◌-◌, ◌/◌, ◌%◌, ◌≤◌, ◌<◌}
use native.Mathlib.Omega.{arith}
use borrow.Author.Tests.{lt-ltb, le-ltb, ltb-true, ltb-false}
use lib.Dec.{ltb}
use lib.ListN.{length, get_or, get_or-eq_default}
use Rattle.std.proofs.lemmas.List.{get_or_default}
use Rattle.masks.specs.Mask.{in_set}
use Rattle.lists.specs.Every.{Every, every_map}
use Rattle.lists.specs.Lists.{keep}
use Rattle.lists.proofs.Writing.{length_tab, get_d_tab}
use Rattle.geometry.specs.declared.circle.Circle.{Circle}
use Rattle.intersections.specs.Members.{circle_at}
use Rattle.intersections.proofs.Masks.{head_below}
use Rattle.boundary.specs.declared.sort.Mark.{Mark}
use Rattle.boundary.specs.Marks.{no_mark}
use Rattle.boundary.specs.Outline.{probe}
use Rattle.gaps.specs.declared.marks.HeadMarks.{HeadMarks}
use Rattle.gaps.specs.Marks.{marks_at, adopted_by, angles_in, phi_at, letters, gap_letters, lets_at, let_at}
use Rattle.gaps.specs.Marks.{marks_let, head_marked, unmarked}
use Rattle.gaps.proofs.Next.{next_is, next_less}
use Rattle.gaps.proofs.Marking as marking
use Rattle.gaps.proofs.Marking.{heads_many, head_in, head_out}
use Rattle.sums.specs.declared.pass.Pass.{Pass}
use Rattle.sums.specs.Walk.{marks_of, Angled, head_of, standing, Placed}

-- ---- the head of a number

pub head_near : (p : ℕ) → p < 320 → head_of p ≡ p / 32
unfolding head_of
head_near p h = rw (lt-ltb p 320 h)

pub head_whole : (p : ℕ) → 320 ≤ p → p < 330 → head_of p ≡ p - 320
unfolding head_of
head_whole p h k = rw (le-ltb p 320 h, lt-ltb p 330 k)

pub head_far : (p : ℕ) → 330 ≤ p → head_of p ≡ (p - 330) / 320 / 32
unfolding head_of
head_far p h = let wide : 320 ≤ p = omega arith in rw (le-ltb p 320 wide, le-ltb p 330 h)

pub ruleset heads_named = (head_near, head_whole, head_far)

module _ (needed : ℕ) (heads : List HeadMarks) (p : ℕ) where
  pub standing_near : p < 320 → standing needed heads p ≡ ltb (p % 32) (length (marks_of heads (p / 32)))
  unfolding standing
  standing_near h = rw (lt-ltb p 320 h)

  pub standing_whole : 320 ≤ p → standing needed heads p ≡ in_set needed (p - 320)
  unfolding standing
  standing_whole h = rw (le-ltb p 320 h)

pub placed_near : (needed : ℕ) (heads : List HeadMarks) (p : ℕ) → p < 330 → standing needed heads p ≡ true
    → Placed needed heads p
placed_near needed heads p h is =
    record {
      near = λ _. is;
      start = λ g. absurd (omega (arith, h, g));
      end = λ g. absurd (omega (arith, h, g));
      same = λ g. absurd (omega (arith, h, g));
    }

-- ---- marks with who lets the head have the gaps

module _ (circles : List Circle) (j : ℕ) (marks : List Mark) where
  pub let_many : length (marks_let circles j marks) ≡ length marks
  unfolding marks_let
  let_many = length_tab (let_at circles j marks) (length marks)

  let_read : (i : ℕ) → i < length marks → get_or (marks_let circles j marks) i no_mark ≡ let_at circles j marks i
  unfolding marks_let
  let_read i h = get_d_tab (let_at circles j marks) (length marks) i no_mark h

  let_phi : (i : ℕ) → i < length marks → phi_at (marks_let circles j marks) i ≡ phi_at marks i
  unfolding let_at
  let_phi i h = ap (λ m. m.phi) (let_read i h)

  let_adopters : (i : ℕ) → i < length marks
      → (get_or (marks_let circles j marks) i no_mark).adopters ≡ (get_or marks i no_mark).adopters
  unfolding let_at
  let_adopters i h = ap (λ m. m.adopters) (let_read i h)

  pub let_letters : (a : ℕ) → a < length marks
      → let l = marks_let circles j marks in
      (get_or l a no_mark).lets ≡ gap_letters circles j (phi_at l a) (phi_at l ((a + 1) % length l))
  unfolding let_at lets_at
  let_letters a h =
      let next : (a + 1) % length marks < length marks =
      rw (sym (next_is a (length marks) h)) (next_less a (length marks) h) in
      rw (let_many, let_phi a h, let_phi ((a + 1) % length marks) next)
      (ap (λ m. m.lets) (let_read a h) ∙ rw (lt-ltb a (length marks) h) refl)

-- the angles of a set are told by the angles and the adopters
same_angles : (S : ℕ) (a b : List Mark) → length a ≡ length b
    → ((i : ℕ) → i < length a → phi_at a i ≡ phi_at b i)
    → ((i : ℕ) → i < length a → (get_or a i no_mark).adopters ≡ (get_or b i no_mark).adopters)
    → angles_in S a ≡ angles_in S b
unfolding angles_in keep adopted_by
same_angles S [] [] e f g = refl
same_angles S [] (y ∷ b) e f g = absurd (omega (arith, e))
same_angles S (x ∷ a) [] e f g = absurd (omega (arith, e))
same_angles S (x ∷ a) (y ∷ b) e f g =
    grind (
      arith,
      f 0 (omega arith),
      g 0 (omega arith),
      same_angles S a b (omega (arith, e)) (λ i h. f (suc i) (omega (arith, h))) (λ i h. g (suc i) (omega (arith, h))),
    )

pub let_angles : (circles : List Circle) (S j : ℕ) (marks : List Mark)
    → angles_in S (marks_let circles j marks) ≡ angles_in S marks
let_angles circles S j marks =
    let many = let_many circles j marks in
    same_angles S (marks_let circles j marks) marks many (λ i h. let_phi circles j marks i (omega (arith, h, many)))
    (λ i h. let_adopters circles j marks i (omega (arith, h, many)))

-- ---- the heads of a pass

module _ (pass : Pass) where
  abbrev circles : List Circle
  circles = pass.circles.now

  abbrev heads : List HeadMarks
  heads = pass.heads.now.items

  pub held_many : length pass.heads.now.items ≡ length pass.circles.now
  held_many = ap length pass.held ∙ heads_many circles pass.points.now pass.needed

  -- as code reads a head
  pub head_read : (d : HeadMarks) {l : List HeadMarks} {j : ℕ} → l ≡ pass.heads.now.items
      → j < length pass.circles.now
      → get_or l j d ≡ get_or pass.heads.now.items j unmarked
  head_read d {j = j} el below =
      ap (λ l. get_or l j d) el ∙ get_or_default heads j d unmarked (omega (arith, held_many, below))

  module _ (j : ℕ) (below : j < length pass.circles.now) (in-needed : in_set pass.needed j ≡ true) where
    head_is : get_or heads j unmarked ≡ head_marked circles pass.points.now j
    head_is = ap (λ l. get_or l j unmarked) pass.held
        ∙ head_in circles pass.points.now pass.needed j unmarked below in-needed

    pub marks_held : marks_of pass.heads.now.items j
        ≡ marks_let pass.circles.now j (marks_at (circle_at pass.circles.now j) j pass.points.now)
    unfolding head_marked
    marks_held = ap (λ h. h.marks.items) head_is

    -- who lets the head have its probe, and the gap from each mark to the next
    pub owners_held : (get_or pass.heads.now.items j unmarked).owners
        ≡ letters pass.circles.now j (probe (circle_at pass.circles.now j))
    unfolding head_marked
    owners_held = ap (λ h. h.owners) head_is

    pub lets_held : (a : ℕ) → a < length (marks_of pass.heads.now.items j)
        → let marks = marks_of pass.heads.now.items j in
        (get_or (marks_of pass.heads.now.items j) a no_mark).lets
        ≡ gap_letters pass.circles.now j (phi_at marks a) (phi_at marks ((a + 1) % length marks))
    lets_held a h =
        rw marks_held
        (let_letters circles j (marks_at (circle_at circles j) j pass.points.now) a
        (omega (arith, h, ap length marks_held, let_many circles j (marks_at (circle_at circles j) j pass.points.now))))

  -- a head with a mark is one of those of `needed`
  marked : (j : ℕ) → 0 < length (marks_of pass.heads.now.items j)
      → (j < length pass.circles.now) × (in_set pass.needed j ≡ true)
  marked j h = by (ltb j (length circles)) (in_set pass.needed j) refl refl
    where
      by : (b i : Bool) → ltb j (length circles) ≡ b → in_set pass.needed j ≡ i
          → (j < length circles) × (in_set pass.needed j ≡ true)
      by true true e f = (ltb-true j (length circles) e, f)
      by true false e f =
          let none = ap (λ l. length (marks_of l j)) pass.held
          ∙ ap (λ m. length m.marks.items)
          (head_out circles pass.points.now pass.needed j unmarked (ltb-true j (length circles) e) f) in
          absurd (omega (arith, none, h))
      by false i e f =
          let past : length heads ≤ j = omega (arith, held_many, ltb-false j (length circles) e) in
          let none = ap (λ m. length m.marks.items) (get_or-eq_default heads unmarked past) in
          absurd (omega (arith, none, h))

  pub marks_few : (j : ℕ) → length (marks_of pass.heads.now.items j) ≤ 32
  marks_few j = by (ltb 0 (length (marks_of heads j))) refl
    where
      by : (b : Bool) → ltb 0 (length (marks_of heads j)) ≡ b → length (marks_of heads j) ≤ 32
      by true e =
          let m = marked j (ltb-true 0 (length (marks_of heads j)) e) in
          omega (
            arith,
            ap length (marks_held j m.0 m.1),
            let_many circles j (marks_at (circle_at circles j) j pass.points.now),
            marking.marks_few (circle_at circles j) j pass.points.now,
          )
      by false e = omega (arith, ltb-false 0 (length (marks_of heads j)) e)

  module _ (p : ℕ) (placed : Placed pass.needed pass.heads.now.items p) where
    near : p < 320 → Angled pass.heads.now.items p
    near h =
        ltb-true (p % 32) (length (marks_of heads (p / 32)))
        (sym (standing_near pass.needed heads p h) ∙ placed.near (omega (arith, h)))

    -- its arc is one of a head of `needed`, and it can be read
    pub placed_below : head_of p < length pass.circles.now
    placed_below = by (ltb p 320) (ltb p 330) refl refl
      where
        by : (s t : Bool) → ltb p 320 ≡ s → ltb p 330 ≡ t → head_of p < length circles
        by true t e e' = let h = ltb-true p 320 e in rw (head_near p h) (marked (p / 32) (omega (arith, near h))).0
        by false true e e' =
            let h = ltb-false p 320 e in
            let k = ltb-true p 330 e' in
            rw (head_whole p h k)
            (head_below pass.needed (length circles) (p - 320) pass.below
            (sym (standing_whole pass.needed heads p h) ∙ placed.near k))
        by false false e e' =
            let h = ltb-false p 330 e' in
            rw (head_far p h) (marked ((p - 330) / 320 / 32) (omega (arith, placed.start h))).0

    pub placed_ten : head_of p < 10
    placed_ten = omega (arith, placed_below, pass.ten)

    pub near_read : p < 320 → p % 32 < length (marks_of pass.heads.now.items (head_of p))
    near_read h = rw (head_near p h) (near h)

    pub start_read : 330 ≤ p → (p - 330) / 320 % 32 < length (marks_of pass.heads.now.items (head_of p))
    start_read h = rw (head_far p h) (placed.start h)

    pub end_read : 330 ≤ p → (p - 330) % 320 % 32 < length (marks_of pass.heads.now.items (head_of p))
    end_read h = rw (head_far p h, placed.same h) (placed.end h)

  pub list_below : (list : List ℕ) → Every (Placed pass.needed pass.heads.now.items) list
      → Every (λ p. head_of p < length pass.circles.now) list
  list_below list placed = every_map list placed_below placed
