-- The gradients of rows from what is held of each arc: without a box its three slopes, in the box the shares of its
-- parts.
use mathlib.Core.Path.{◌≡◌, refl, sym, ap, ◌∙◌}
use mathlib.Core.Bool.{Bool, true, false}
use mathlib.Core.List.{List, [], ◌∷◌, ◌++◌, foldl, foldl-append, append_assoc}
use Prim.Native.Nat.{ℕ, zero, suc, min, ◌+◌, ◌-◌, ◌*◌, ◌≤◌, ◌<◌}
use native.Mathlib.Omega.{arith}
use borrow.Author.Tests.{lt-ltb, eqb-true, eqb-false}
use lib.Dec.{eqb}
use lib.ListN.{length, get_or, set, take, drop, replicate, length-append, length-drop}
use lib.Seq.{get_or-set_same, get_or-set_other, take-length, take-append-le, drop-append_seam}
use lib.Ieee.{Float, nan}
use Rattle.std.specs.Prelude.{Option, None, Some}
use Rattle.std.proofs.lemmas.List.{drop-append-le, take-map}
use Rattle.lists.specs.Every.{Every, every_take}
use Rattle.lists.specs.Lists.{over_pairs}
use Rattle.binary64.specs.Constants.{zero64, half64}
use Rattle.binary64.specs.Floats.{◌+ᶠ◌, ◌*ᶠ◌}
use Rattle.geometry.specs.declared.bounds.Bounds.{Bounds}
use Rattle.geometry.specs.declared.circle.Circle.{Circle}
use Rattle.intersections.specs.Members.{circle_at}
use Rattle.boundary.specs.declared.arcs.BoundaryArc.{BoundaryArc}
use Rattle.boundary.specs.Set.{arcs_held, region_arcs}
use Rattle.inside.specs.Breaks.{breaks}
use Rattle.inside.specs.Parts.{summed}
use Rattle.inside.proofs.Breaking.{pairs_next, pairs_none}
use Rattle.outline.specs.declared.terms.Triple.{Triple}
use Rattle.outline.specs.Area.{arc_slopes, add_slopes, add_gradient, area_of}
use Rattle.outline.specs.Terms.{add_triple, add_three_at, slopes_of, arc_slopes_are}
use Rattle.clip.specs.Area.{empty_box}
use Rattle.clip.specs.Arc.{head_arc_integral_with_gradient}
use Rattle.clip.specs.Gradient.{WithGradient, with_gradient, onto, part_slopes, sub_arc_with_gradient}
use Rattle.clip.specs.Gradient.{part_integral, part_shares, add_part_with_gradient}
use Rattle.clip.specs.Gradient.{clipped_arc_integral_with_gradient, add_clipped_arc_with_gradient}
use Rattle.clip.specs.Gradient.{add_clipped_arcs_with_gradient}
use Rattle.clip.specs.Gradient.{add_edges_with_gradient, clipped_with_gradient}
use Rattle.clip.proofs.Rows.{gradient_by_sum}
use Rattle.gaps.specs.declared.marks.HeadMarks.{HeadMarks}
use Rattle.sums.specs.declared.pass.Pass.{Pass}
use Rattle.sums.specs.declared.shares.Along.{Along}
use Rattle.sums.specs.declared.terms.TermsAndSlopes.{TermsAndSlopes}
use Rattle.sums.specs.Walk.{head_of, arc_at, arcs_listed, outline_arcs, Listing}
use Rattle.sums.specs.Values.{term_of, sum_of, add_terms}
use Rattle.sums.specs.Slopes.{with_slopes, add_slopes_at, add_parts_at}
use Rattle.sums.specs.Slopes.{add_shares, shares_between, PartsPut, PartsHeld, PartsValued}
use Rattle.sums.proofs.Held.{list_below}
use Rattle.sums.proofs.Valuing.{arc_head, sum_by_arcs, sum_open}

-- ---- sums over numbers are sums over their arcs

module _ (circles : List Circle) (heads : List HeadMarks) where
  slopes-named : (g : List Float) (p : ℕ) → head_of p < length circles
      → arc_slopes g (circle_at circles (head_of p)) (arc_at circles heads p)
      ≡ add_slopes circles g (arc_at circles heads p)
  unfolding add_slopes
  slopes-named g p h = rw (arc_head circles heads p, lt-ltb (head_of p) (length circles) h)

  slopes-at : (g : List Float) (p : ℕ) → head_of p < length circles
      → add_slopes_at circles heads g p ≡ add_slopes circles g (arc_at circles heads p)
  unfolding term_of
  slopes-at g p h =
      let a = arc_at circles heads p in
      let c = circle_at circles (head_of p) in
      ap (λ (j : ℕ). add_three_at (j * 3) (slopes_of c a) g) (sym (arc_head circles heads p))
      ∙ sym (arc_slopes_are g c a) ∙ slopes-named g p h

  pub slopes_sum : (l : List ℕ) → Every (λ p. head_of p < length circles) l → (g : List Float)
      → foldl (add_slopes_at circles heads) g l ≡ add_gradient circles g (arcs_listed circles heads l)
  slopes_sum = sum_by_arcs circles heads (add_slopes_at circles heads) (add_slopes circles) slopes-at

  module _ (box : Bounds) where
    parts_at : (s : WithGradient) (p : ℕ) → head_of p < length circles
        → add_parts_at box circles heads s p ≡ add_clipped_arc_with_gradient box circles s (arc_at circles heads p)
    unfolding add_parts_at add_clipped_arc_with_gradient
    parts_at s p h = rw (arc_head circles heads p, lt-ltb (head_of p) (length circles) h)

    pub parts_sum : (l : List ℕ) → Every (λ p. head_of p < length circles) l → (s : WithGradient)
        → foldl (add_parts_at box circles heads) s l
        ≡ add_clipped_arcs_with_gradient box circles s (arcs_listed circles heads l)
    parts_sum = sum_by_arcs circles heads (add_parts_at box circles heads)
        (add_clipped_arc_with_gradient box circles) parts_at

-- ---- shares

-- those that are put behind others, whatever comes after them
pub shares_behind : (before these : List Triple) {after : List Triple} → after ≡ before ++ these
    → shares_between (length before) (length after) after ≡ these
shares_behind before these {after} e =
    let many : length after - length before ≡ length these = omega (arith, ap length e, length-append before these) in
    ap (λ l. take (length after - length before) (drop (length before) l)) e
    ∙ rw (drop-append_seam before these, many) (take-length these)

pub shares_before : (from to : ℕ) (shares more : List Triple) → from ≤ to → to ≤ length shares
    → shares_between from to (shares ++ more) ≡ shares_between from to shares
shares_before from to shares more h k =
    rw (drop-append-le from shares more (omega (arith, h, k)))
    (take-append-le (to - from) (drop from shares) more (omega (arith, h, k, length-drop from shares)))

-- one more, added last
pub shares_next : (off : ℕ) (shares : List Triple) (t : Triple) (g : List Float)
    → add_shares off (shares ++ t ∷ []) g ≡ add_three_at off t (add_shares off shares g)
shares_next off shares t g = foldl-append (λ g t. add_three_at off t g) g shares (t ∷ [])

-- ---- the parts of one arc, put one after another

-- The shares of the parts before those of `rest` are put behind those before.
pub record Putting (box : Bounds) (c : Circle) (off : ℕ) (before : List Triple) (breaks rest : List Float) (sum : Float)
    (shares : List Triple)
    : Type 0 where
  pub these : List Triple
  pub behind : shares ≡ before ++ these
  pub few : length these + length rest ≤ 26
  pub on : (g : List Float)
      → over_pairs (add_part_with_gradient box c off) (with_gradient sum (add_shares off these g)) rest
      ≡ over_pairs (add_part_with_gradient box c off) (with_gradient zero64 g) breaks

module _ {box : Bounds} {c : Circle} {off : ℕ} {before : List Triple} {breaks : List Float} where
  module _ {rest : List Float} {sum : Float} {shares : List Triple}
      (so_far : Putting box c off before breaks rest sum shares) where
    module _ (more : 2 ≤ length rest) {a b : Float} (ea : a ≡ get_or (take 2 rest) 0 nan)
        (eb : b ≡ get_or (take 2 rest) 1 nan) where
      -- the next part, as the fold takes it
      next : (s : WithGradient)
          → over_pairs (add_part_with_gradient box c off) (add_part_with_gradient box c off s a b) (drop 1 rest)
          ≡ over_pairs (add_part_with_gradient box c off) s rest
      next s = rw (ea, eb) (pairs_next (add_part_with_gradient box c off) s nan rest more)

      -- it is not summed
      skipped : (s : WithGradient) → summed box c a b ≡ false → add_part_with_gradient box c off s a b ≡ s
      unfolding add_part_with_gradient
      skipped s h = rw h

      pub putting_skips : summed box c a b ≡ false → Putting box c off before breaks (drop 1 rest) sum shares
      putting_skips h =
          record {
            these = so_far.these;
            behind = so_far.behind;
            few = omega (arith, so_far.few, length-drop 1 rest);
            on = λ g.
                let s = with_gradient sum (add_shares off so_far.these g) in
                ap (λ s. over_pairs (add_part_with_gradient box c off) s (drop 1 rest)) (sym (skipped s h)) ∙ next s
                ∙ so_far.on g;
          }

      -- it is: its share is put behind those
      taken : (s : WithGradient) → summed box c a b ≡ true
          → add_part_with_gradient box c off s a b
          ≡ with_gradient (s.sum +ᶠ part_integral c a b) (add_three_at off (part_shares c a b) s.grad)
      unfolding add_part_with_gradient sub_arc_with_gradient part_slopes add_three_at part_integral part_shares
      taken s is = rw is

      pub putting_puts : summed box c a b ≡ true → {shares' : List Triple} → shares' ≡ shares ++ part_shares c a b ∷ []
          → Putting box c off before breaks (drop 1 rest) (sum +ᶠ part_integral c a b) shares'
      putting_puts is {shares'} e =
          let t = part_shares c a b in
          record {
            these = so_far.these ++ t ∷ [];
            behind = e ∙ rw so_far.behind (append_assoc before so_far.these (t ∷ []));
            few = omega (arith, more, so_far.few, length-drop 1 rest, length-append so_far.these (t ∷ []));
            on = λ g.
                let s = with_gradient sum (add_shares off so_far.these g) in
                rw (shares_next off so_far.these t g)
                (ap (λ s. over_pairs (add_part_with_gradient box c off) s (drop 1 rest)) (sym (taken s is)) ∙ next s
                ∙ so_far.on g);
          }

    -- the last part is past
    putting_whole : length rest < 2 → (g : List Float)
        → with_gradient sum (add_shares off so_far.these g)
        ≡ over_pairs (add_part_with_gradient box c off) (with_gradient zero64 g) breaks
    putting_whole none g =
        sym
        (pairs_none (add_part_with_gradient box c off) (with_gradient sum (add_shares off so_far.these g)) rest none)
        ∙ so_far.on g

pub putting_ends : {box : Bounds} {c : Circle} {arc : BoundaryArc} {before : List Triple} {angles rest : List Float}
    {sum : Float} {shares : List Triple}
    → Putting box c (arc.circle * 3) before angles rest sum shares → length rest < 2 → angles ≡ breaks box c arc
    → PartsPut box c arc before sum shares
unfolding clipped_arc_integral_with_gradient
putting_ends {box} {c} {arc} done none e =
    record {
      these = done.these;
      behind = done.behind;
      here = λ g. putting_whole done none g
          ∙ ap (over_pairs (add_part_with_gradient box c (arc.circle * 3)) (with_gradient zero64 g)) e;
    }

-- ---- the parts of all arcs

-- what is held stays so where more shares are put behind
pub held_on : {box : Bounds} {circles : List Circle} {heads : List HeadMarks} {shares : List Triple} {p : ℕ}
    {along : Along} (more : List Triple)
    → PartsHeld box circles heads shares p along → PartsHeld box circles heads (shares ++ more) p along
held_on {shares = shares} {p = p} {along = along} more held =
    record {
      order = held.order;
      room = omega (arith, held.room, length-append shares more);
      here = λ g.
          ap (λ l. with_gradient along.sum (add_shares (head_of p * 3) l g))
          (shares_before along.from along.to shares more held.order held.room)
          ∙ held.here g;
    }

-- nothing is held
pub none_there : {A : Type 0} (n p : ℕ) → get_or {A = Option A} (replicate n None) p None ≡ None
none_there zero p = refl
none_there (suc n) zero = refl
none_there (suc n) (suc p) = none_there n p

abbrev some_or : {A : Type 0} → A → Option A → A
some_or d None = d
some_or d (Some a) = a

-- of one arc more
pub parts_next : {box : Bounds} {circles : List Circle} {heads : List HeadMarks} {shares after : List Triple}
    (along : List (Option Along)) (p : ℕ) {sum : Float} {circle : Circle} {arc : BoundaryArc}
    → PartsValued box circles heads shares along → circle ≡ circle_at circles (head_of p) → arc ≡ arc_at circles heads p
    → PartsPut box circle arc shares sum after → p < length along
    → PartsValued box circles heads after
    (set along p (Some (record { from = length shares; to = length after; sum = sum })))
parts_next {box} {circles} {heads} {shares} {after} along p {sum} {circle} {arc} held ec ea put h q a e =
    by (eqb q p) refl
  where
    own : Along
    own = record { from = length shares; to = length after; sum = sum }

    long : length after ≡ length shares + length put.these
    long = ap length put.behind ∙ length-append shares put.these

    here : PartsHeld box circles heads after p own
    here =
        record {
          order = omega (arith, long);
          room = omega arith;
          here = λ g.
              ap (λ l. with_gradient sum (add_shares (head_of p * 3) l g)) (shares_behind shares put.these put.behind)
              ∙ ap (λ (j : ℕ). with_gradient sum (add_shares (j * 3) put.these g))
              (sym (ap (λ a. a.circle) ea ∙ arc_head circles heads p))
              ∙ put.here g ∙ rw (ec, ea);
        }

    other : (q ≡ p → ⊥) → PartsHeld box circles heads after q a
    other n = rw put.behind (held_on put.these (held q a (sym (get_or-set_other along p q (Some own) None n) ∙ e)))

    by : (b : Bool) → eqb q p ≡ b → PartsHeld box circles heads after q a
    by false t = other (eqb-false q p t)
    by true t =
        let same = eqb-true q p t in
        let read : Some own ≡ Some a = sym (rw same (get_or-set_same along p (Some own) None h)) ∙ e in
        let own-is : own ≡ a = ap (some_or own) read in
        rw same (rw (sym own-is) here)

-- ---- the arc of a number as code finds it

module _ (box : Bounds) (circles : List Circle) (heads : List HeadMarks) (p : ℕ) {circle : Circle} {arc : BoundaryArc}
    (ec : circle ≡ circle_at circles (head_of p)) (ea : arc ≡ arc_at circles heads p) where
  head_is : arc.circle ≡ head_of p
  head_is = ap (λ a. a.circle) ea ∙ arc_head circles heads p

  -- worked out in full, and added
  pub full_is : head_of p < 10 → (total : Float) (g : List Float) {r : Float} {grad : List Float}
      → with_gradient r grad ≡ head_arc_integral_with_gradient box circle arc g
      → with_gradient (total +ᶠ r) grad ≡ add_parts_at box circles heads (with_gradient total g) p
  unfolding add_parts_at head_arc_integral_with_gradient
  full_is low total g er =
      ap (onto total) (er ∙ rw (lt-ltb arc.circle 10 (omega (arith, head_is, low)), ec, ea))

-- its parts, as they are held, and added
pub held_is : {box : Bounds} {circles : List Circle} {heads : List HeadMarks} {shares : List Triple} {p : ℕ}
    {along : Along}
    → PartsHeld box circles heads shares p along → (total : Float) (g : List Float) {grad : List Float}
    → grad ≡ add_shares (head_of p * 3) (shares_between along.from along.to shares) g
    → with_gradient (total +ᶠ along.sum) grad ≡ add_parts_at box circles heads (with_gradient total g) p
unfolding add_parts_at
held_is held total g eg = rw eg (ap (onto total) (held.here g))

-- ---- the terms, held with the slopes

module _ (circles : List Circle) (heads : List HeadMarks) where
  pub with_terms : (list : List ℕ)
      → sum_of (λ total both. add_triple total both.terms) (term_of with_slopes circles heads) list
      ≡ foldl (add_terms circles heads) zero64 list
  unfolding term_of with_slopes
  with_terms list = refl

  -- the slopes of one arc more, in the entries of its head
  pub slopes_put : (g : List Float) (p : ℕ) {at head : ℕ} {both : TermsAndSlopes} → at ≡ min head 10 * 3
      → head ≡ head_of p → head ≤ 10 → both ≡ term_of with_slopes circles heads p
      → add_three_at at both.slopes g ≡ add_slopes_at circles heads g p
  unfolding term_of with_slopes
  slopes_put g p {at} ea eh few eb = let same : at ≡ head_of p * 3 = omega (arith, ea, eh, few) in rw (same, eb)

-- ---- the row of a set whose arcs the walk has listed: of them the first 180

module _ (pass : Pass) (S : ℕ) {list : List ℕ}
    (listing : Listing pass.circles.now pass.needed pass.heads.now.items
    (outline_arcs pass.circles.now pass.points.now S) list) (g : List Float) where
  abbrev cs : List Circle
  cs = pass.circles.now

  abbrev hs : List HeadMarks
  hs = pass.heads.now.items

  arcs_are : arcs_listed pass.circles.now pass.heads.now.items (take arcs_held list)
      ≡ region_arcs pass.circles.now pass.points.now S
  unfolding region_arcs
  arcs_are = sym (take-map (arc_at cs hs) arcs_held list) ∙ ap (take arcs_held) listing.said

  below : Every (λ p. head_of p < length pass.circles.now) (take arcs_held list)
  below = every_take (λ p. head_of p < length cs) arcs_held list (list_below pass list listing.placed)

  pub row_open_with : {sum : Float} {grad : List Float}
      → sum ≡ foldl (add_terms pass.circles.now pass.heads.now.items) zero64 (take arcs_held list)
      → grad ≡ foldl (add_slopes_at pass.circles.now pass.heads.now.items) g (take arcs_held list)
      → let arcs = region_arcs pass.circles.now pass.points.now S in
      with_gradient (half64 *ᶠ sum) grad
      ≡ with_gradient (area_of pass.circles.now arcs) (add_gradient pass.circles.now g arcs)
  unfolding area_of
  row_open_with es eg =
      rw (
        es,
        eg,
        sum_open cs hs (take arcs_held list) below zero64,
        slopes_sum cs hs (take arcs_held list) below g,
        arcs_are,
      )

  pub row_in_box_with : (box : Bounds) (own : List Circle) {total sum : Float} {grad grad' : List Float}
      → empty_box box ≡ false
      → with_gradient total grad
      ≡ foldl (add_parts_at box pass.circles.now pass.heads.now.items) (with_gradient zero64 g)
      (take arcs_held list)
      → with_gradient sum grad'
      ≡ add_edges_with_gradient box own (length pass.circles.now * 3) (with_gradient total grad)
      → with_gradient (half64 *ᶠ sum) grad'
      ≡ clipped_with_gradient box pass.circles.now own (region_arcs pass.circles.now pass.points.now S) g
  row_in_box_with box own {sum = sum} {grad' = grad'} open-box ea ee =
      gradient_by_sum box cs own (region_arcs cs pass.points.now S) g (with_gradient sum grad') open-box
      (ee ∙ rw (ea, parts_sum cs hs box (take arcs_held list) below (with_gradient zero64 g), arcs_are))
