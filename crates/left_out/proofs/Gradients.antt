-- Closed heads left out of a plan: its gradients, in the box and without it.
use mathlib.Core.Path.{◌≡◌, refl, sym, ap, ap₂, ◌∙◌, subst}
use mathlib.Core.Bool.{Bool, true, false, cond, true≢false}
use mathlib.Core.List.{List, [], ◌∷◌, ◌++◌, map, map-append}
use Prim.Native.Nat.{ℕ, zero, suc, ◌+◌, ◌-◌, ◌*◌, ◌/◌, ◌%◌, ◌^◌, ◌≤◌, ◌<◌}
use native.Mathlib.Decide.{ℕ_discrete}
use native.Mathlib.Nat.{mod-eq_of_lt, mul-add-mod_self_right, mul-add-div_right, div-eq_of_lt, add-zero}
use native.Mathlib.Omega.{arith}
use borrow.Author.Tests.{ltb-true, ltb-false}
use lib.Dec.{ltb}
use lib.Ieee.{Float, nan, lt}
use lib.ListN.{length, get_or, set, replicate, length-set}
use lib.Seq.{get_or-set_same, get_or-set_other}
use Rattle.std.proofs.lemmas.List.{drop_all, length-replicate, get_or-replicate}
use Rattle.binary64.specs.Constants.{zero64}
use Rattle.lists.specs.Kept.{place, kept_below}
use Rattle.lists.proofs.Kept.{place_from, place_injective, place_lt}
use Rattle.masks.specs.Operations.{in_of_zero, bit_of_zero}
use Rattle.masks.specs.Spread.{spread}
use Rattle.masks.proofs.Spread.{spread_zero}
use Rattle.geometry.specs.Rectangle.{area, bounds}
use Rattle.plan.specs.declared.Ground.{Ground}
use Rattle.plan.specs.declared.Plan.{Plan}
use Rattle.plan.specs.Limits.{Acceptable}
use Rattle.plan.specs.Without.{Without, OnlyClosed}
use Rattle.drawn.specs.Drawn.{box_of}
use Rattle.intersections.specs.Members.{Member, heads_of}
use Rattle.outline.specs.Area.{open_area, open_gradient}
use Rattle.clip.specs.Gradient.{WithGradient, clipped_gradient}
use Rattle.exclusive_gradients.specs.Gradient.{unless_replaced}
use Rattle.exclusive.specs.Exclusive.{unclamped}
use Rattle.regions.specs.Table.{plan_members}
use Rattle.sums.specs.Presence.{among}
use Rattle.areas.specs.Scatter.{entries_of, box_entries, put, scatter, scatter_clipped}
use Rattle.areas.specs.Clipped.{clipped_gradient_row}
use Rattle.areas.specs.Open.{open_gradient_row}
use Rattle.areas.specs.Gradients.{box_slopes, clipped_gradients_by, clipped_gradients, open_gradients}
use Rattle.areas.specs.Sets.{plan_sets}
use Rattle.areas.proofs.Gradients as areas
use Rattle.diagram.specs.Rows.{Slopes, is_there, in_row, area_at, slopes_at, exclusive_slope}
use Rattle.gradients.specs.Step.{clipped_plan, open_plan}
use Rattle.masks.specs.SpreadPlaces.{NamesLeftOut}
use Rattle.left_out.specs.Tables.{SameSlopes}
use Rattle.left_out.proofs.Members.{heads_spread}
use Rattle.left_out.proofs.Exclusives.{unclamped_left_out}
use Rattle.left_out.proofs.Plan.{above_zero, sets_same, sets_none, members_same}

-- ---- columns

-- the column, among all heads' entries, of an entry of those kept
abbrev column : List Bool → ℕ → ℕ
column keeps e = place keeps (e / 3) * 3 + e % 3

column_injective : (keeps : List Bool) (e f : ℕ) → column keeps e ≡ column keeps f → e ≡ f
column_injective keeps e f q =
    let same : place keeps (e / 3) ≡ place keeps (f / 3) = omega (arith, q) in
    omega (arith, q, same, place_injective keeps (e / 3) (f / 3) same)

-- entry i of head j
entry_at : (keeps : List Bool) (j i : ℕ) → i < 3 → place keeps j * 3 + i ≡ column keeps (j * 3 + i)
entry_at keeps j i h =
    let d : (j * 3 + i) / 3 ≡ j = omega arith in
    let m : (j * 3 + i) % 3 ≡ i = omega arith in
    sym (ap₂ (λ (a b : ℕ). place keeps a * 3 + b) d m)

entries_at : (keeps : List Bool) (js : List ℕ)
    → entries_of (map (place keeps) js) ≡ map (column keeps) (entries_of js)
unfolding entries_of
entries_at keeps [] = refl
entries_at keeps (j ∷ js) =
    let first : place keeps j * 3 ≡ column keeps (j * 3) =
    subst (λ (m : ℕ). place keeps j * 3 ≡ column keeps m) (add-zero (j * 3))
    (sym (add-zero (place keeps j * 3)) ∙ entry_at keeps j 0 (omega arith)) in
    ap₂ (λ (a : ℕ) (l : List ℕ). a ∷ l) first
    (ap₂ (λ (a : ℕ) (l : List ℕ). a ∷ l) (entry_at keeps j 1 (omega arith))
    (ap₂ (λ (a : ℕ) (l : List ℕ). a ∷ l) (entry_at keeps j 2 (omega arith)) (entries_at keeps js)))

module _ (keeps : List Bool) (n : ℕ) (short : length keeps ≤ n) where
  abbrev m : ℕ
  m = kept_below keeps n

  -- past all heads there is nothing left out
  place_past : (d : ℕ) → place keeps (m + d) ≡ n + d
  unfolding place
  place_past d =
      place_from keeps n d ∙ ap (λ (l : List Bool). n + place l d) (drop_all n keeps short)

  -- entry i of the box
  box_at : (i : ℕ) → i < 4 → n * 3 + i ≡ column keeps (m * 3 + i)
  box_at i h =
      let d : (m * 3 + i) / 3 ≡ m + i / 3 = omega arith in
      let r : (m * 3 + i) % 3 ≡ i % 3 = omega arith in
      sym (ap₂ (λ (a b : ℕ). place keeps a * 3 + b) d r ∙ ap (λ (a : ℕ). a * 3 + i % 3) (place_past (i / 3))
      ∙ omega arith)

  box_entries_at : box_entries n ≡ map (column keeps) (box_entries m)
  box_entries_at =
      ap₂ (λ (a : ℕ) (l : List ℕ). a ∷ l) first
      (ap₂ (λ (a : ℕ) (l : List ℕ). a ∷ l) (box_at 1 (omega arith))
      (ap₂ (λ (a : ℕ) (l : List ℕ). a ∷ l) (box_at 2 (omega arith))
      (ap (λ (a : ℕ). a ∷ []) (box_at 3 (omega arith)))))
    where
      first : n * 3 ≡ column keeps (m * 3)
      first =
          subst (λ (a : ℕ). n * 3 ≡ column keeps a) (add-zero (m * 3))
          (sym (add-zero (n * 3)) ∙ box_at 0 (omega arith))

  -- a row has the columns
  open_fits : (e : ℕ) → e < 3 * m → column keeps e < 3 * n
  open_fits e h = omega (arith, place_lt keeps (e / 3) n (omega arith))

  clipped_fits : (e : ℕ) → e < m * 3 + 4 → column keeps e < n * 3 + 4
  clipped_fits e h = by (ltb e (m * 3)) refl
    where
      by : (b : Bool) → ltb e (m * 3) ≡ b → column keeps e < n * 3 + 4
      by true q = omega (arith, place_lt keeps (e / 3) n (omega (arith, ltb-true e (m * 3) q)))
      by false q =
          let g : m * 3 ≤ e = ltb-false e (m * 3) q in
          let s : m + (e / 3 - m) ≡ e / 3 = omega arith in
          omega (arith, place_past (e / 3 - m), ap (place keeps) s)

-- ---- what is put at places, and at columns

module _ (keeps : List Bool) where
  -- the two lists agree at places and at columns
  record Agree (out out' : List Float) : Type 0 where
    fits : (e : ℕ) → e < length out → column keeps e < length out'
    at : (e : ℕ) → e < length out → get_or out' (column keeps e) nan ≡ get_or out e nan

  agree_set : (out out' : List Float) (p : ℕ) (x : Float) → Agree out out'
      → Agree (set out p x) (set out' (column keeps p) x)
  agree_set out out' p x a = record {
    fits = λ e h.
        subst (λ (w : ℕ). column keeps e < w) (sym (length-set out' (column keeps p) x)) (a.fits e (shorter e h));
    at = λ e h. by e (shorter e h) (ℕ_discrete e p);
  }
    where
      shorter : (e : ℕ) → e < length (set out p x) → e < length out
      shorter e h = subst (λ (w : ℕ). e < w) (length-set out p x) h

      by : (e : ℕ) → e < length out → Dec (e ≡ p)
          → get_or (set out' (column keeps p) x) (column keeps e) nan ≡ get_or (set out p x) e nan
      by e h (yes q) =
          let l : p < length out = subst (λ (w : ℕ). w < length out) q h in
          ap (λ (w : ℕ). get_or (set out' (column keeps p) x) (column keeps w) nan) q
          ∙ get_or-set_same out' (column keeps p) x nan (a.fits p l)
          ∙ sym (ap (λ (w : ℕ). get_or (set out p x) w nan) q ∙ get_or-set_same out p x nan l)
      by e h (no q) =
          get_or-set_other out' (column keeps p) (column keeps e) x nan (λ s. q (column_injective keeps e p s))
          ∙ a.at e h
          ∙ sym (get_or-set_other out p e x nan q)

  put_at : (ps : List ℕ) (g out out' : List Float) → Agree out out'
      → Agree (put ps g out) (put (map (column keeps) ps) g out')
  unfolding put
  put_at [] g out out' a = a
  put_at (p ∷ ps) [] out out' a = a
  put_at (p ∷ ps) (x ∷ g) out out' a =
      put_at ps g (set out p x) (set out' (column keeps p) x) (agree_set out out' p x a)

  zeros_agree : (w w' : ℕ) → ((e : ℕ) → e < w → column keeps e < w')
      → Agree (replicate w zero64) (replicate w' zero64)
  zeros_agree w w' fits = record {
    fits = λ e h. subst (λ (v : ℕ). column keeps e < v) (sym (length-replicate w' zero64)) (fits e (shorter e h));
    at = λ e h.
        get_or-replicate w' (column keeps e) zero64 nan (fits e (shorter e h))
        ∙ sym (get_or-replicate w e zero64 nan (shorter e h));
  }
    where
      shorter : (e : ℕ) → e < length (replicate w zero64) → e < w
      shorter e h = subst (λ (v : ℕ). e < v) (length-replicate w zero64) h

  -- two lists agree where those agree that they are equal to
  agree_as : {out out' : List Float} (by by' : List Float) → out ≡ by → out' ≡ by' → Agree by by' → Agree out out'
  agree_as {out} {out'} by by' e e' a =
      subst (λ (x : List Float). Agree x out') (sym e) (subst (λ (x : List Float). Agree by x) (sym e') a)

  clipped_at : (n : ℕ) → length keeps ≤ n → (js : List ℕ) (g : List Float)
      → Agree (scatter_clipped js (kept_below keeps n) g) (scatter_clipped (map (place keeps) js) n g)
  unfolding scatter_clipped
  clipped_at n short js g =
      let m = kept_below keeps n in
      subst (λ (ps : List ℕ). Agree (put (entries_of js ++ box_entries m) g (replicate (m * 3 + 4) zero64))
      (put ps g (replicate (n * 3 + 4) zero64)))
      (map-append (column keeps) (entries_of js) (box_entries m)
      ∙ sym (ap₂ ◌++◌ (entries_at keeps js) (box_entries_at keeps n short)))
      (put_at (entries_of js ++ box_entries m) g (replicate (m * 3 + 4) zero64) (replicate (n * 3 + 4) zero64)
      (zeros_agree (m * 3 + 4) (n * 3 + 4) (clipped_fits keeps n short)))

  open_at : (n : ℕ) → length keeps ≤ n → (js : List ℕ) (g : List Float)
      → Agree (scatter js (kept_below keeps n) g) (scatter (map (place keeps) js) n g)
  unfolding scatter
  open_at n short js g =
      let m = kept_below keeps n in
      subst (λ (ps : List ℕ). Agree (put (entries_of js) g (replicate (3 * m) zero64))
      (put ps g (replicate (3 * n) zero64))) (sym (entries_at keeps js))
      (put_at (entries_of js) g (replicate (3 * m) zero64) (replicate (3 * n) zero64)
      (zeros_agree (3 * m) (3 * n) (open_fits keeps n short)))

-- ---- rows

row_past : {A : Type 0} (b : Bool) (sets : ℕ → Bool) (box : A) (row : ℕ → A) (none : A) (S : ℕ) → 0 < S
    → in_row b sets box row none S ≡ cond (sets S) (row S) none
row_past b sets box row none zero h = absurd (omega arith)
row_past b sets box row none (suc S) h = refl

module _ (keeps : List Bool) (p q : Plan) (short : length keeps ≤ p.n) (ten : length p.heads ≡ 10) (ok : Acceptable p)
    (w : Without keeps p q) (closed : OnlyClosed keeps p) where
  above : (S : ℕ) → 0 < S → 0 < spread keeps S
  above = above_zero keeps p q short ten ok w closed

  sets : (S : ℕ) → plan_sets p (spread keeps S) ≡ plan_sets q S
  sets = sets_same keeps p q short ten ok w closed

  members : (S : ℕ) → S < 2 ^ q.n → plan_members p (spread keeps S) ≡ plan_members q S
  members = members_same keeps p q short ten ok w closed

  -- what stands in row S, seen by f in the one and by g in the other
  row_seen : {A B : Type 0} (f : A → Float) (g : B → Float) (b : Bool) (box none : A) (row : ℕ → A) (box' none' : B)
      (row' : ℕ → B)
      → f box ≡ g box' → f none ≡ g none'
      → ((S : ℕ) → S < 2 ^ q.n → 0 < S → f (row (spread keeps S)) ≡ g (row' S)) → (S : ℕ) → S < 2 ^ q.n
      → f (in_row b (plan_sets p) box row none (spread keeps S)) ≡ g (in_row b (plan_sets q) box' row' none' S)
  row_seen f g b box none row box' none' row' eb en er zero l =
      ap (λ (S : ℕ). f (in_row b (plan_sets p) box row none S)) (spread_zero keeps) ∙ either b
    where
      either : (c : Bool) → f (cond c box none) ≡ g (cond c box' none')
      either true = eb
      either false = en
  row_seen f g b box none row box' none' row' eb en er (suc S) l =
      ap f (row_past b (plan_sets p) box row none (spread keeps (suc S)) (above (suc S) (omega arith)))
      ∙ ap (λ (c : Bool). f (cond c (row (spread keeps (suc S))) none)) (sets (suc S)) ∙ either (plan_sets q (suc S))
    where
      either : (c : Bool) → f (cond c (row (spread keeps (suc S))) none) ≡ g (cond c (row' (suc S)) none')
      either true = er (suc S) l (omega arith)
      either false = en

  there_same : (b : Bool) (S : ℕ) → among b (plan_sets p) (spread keeps S) ≡ among b (plan_sets q) S
  there_same b zero = ap (among b (plan_sets p)) (spread_zero keeps)
  there_same b (suc S) = past (spread keeps (suc S)) (above (suc S) (omega arith)) ∙ sets (suc S)
    where
      past : (U : ℕ) → 0 < U → among b (plan_sets p) U ≡ plan_sets p U
      past zero h = absurd (omega arith)
      past (suc U) h = refl

  there_none : (b : Bool) (S : ℕ) → NamesLeftOut keeps p.n S → among b (plan_sets p) S ≡ false
  there_none b zero r = absurd (true≢false (sym r.named ∙ in_of_zero 0 r.head (bit_of_zero r.head)))
  there_none b (suc S) r = sets_none keeps p q short ten ok w closed (suc S) r

  -- ---- the exclusives of numbers that agree

  module _ (b : Bool) (areas areas' : ℕ → Float)
      (same : (S : ℕ) → S < 2 ^ q.n → areas (spread keeps S) ≡ areas' S) where
    less_same : (number number' : ℕ → Float) → ((S : ℕ) → S < 2 ^ q.n → number (spread keeps S) ≡ number' S)
        → (S : ℕ) → S < 2 ^ q.n
        → unless_replaced p.n (among b (plan_sets p)) areas number (spread keeps S)
        ≡ unless_replaced q.n (among b (plan_sets q)) areas' number' S
    less_same number number' alike S l =
        ap (λ (c : Bool). cond c (cond (lt (U areas) zero64) zero64 (U number)) zero64) (there_same b S)
        ∙ ap₂ (λ (x y : Float). cond (among b (plan_sets q) S) (cond (lt x zero64) zero64 y) zero64)
        (each areas areas' same) (each number number' alike)
      where
        U : (ℕ → Float) → Float
        U f = unclamped p.n (among b (plan_sets p)) f (spread keeps S)

        each : (f f' : ℕ → Float) → ((T : ℕ) → T < 2 ^ q.n → f (spread keeps T) ≡ f' T)
            → U f ≡ unclamped q.n (among b (plan_sets q)) f' S
        each f f' e =
            unclamped_left_out keeps p.n (among b (plan_sets p)) (among b (plan_sets q)) (λ T g. there_same b T)
            (λ k T h o i. there_none b T (record { head = k; below = h; left_out = o; named = i })) f f'
            (λ T g. e T (subst (λ (n : ℕ). T < 2 ^ n) (sym w.count) g)) S
            (subst (λ (n : ℕ). S < 2 ^ n) w.count l)
            ∙ ap (λ (n : ℕ). unclamped n (among b (plan_sets q)) f' S) (sym w.count)

  -- a row that names a head left out
  less_none : (b : Bool) (areas number : ℕ → Float) (S : ℕ) → NamesLeftOut keeps p.n S
      → unless_replaced p.n (among b (plan_sets p)) areas number S ≡ zero64
  less_none b areas number S r =
      ap
      (λ (c : Bool). cond c
      (cond (lt (unclamped p.n (among b (plan_sets p)) areas S) zero64) zero64
      (unclamped p.n (among b (plan_sets p)) number S))
      zero64)
      (there_none b S r)

  -- number x of the gradients, by its row and its entry
  slope_at : (n : ℕ) (g : Slopes) (S e : ℕ) → e < g.width
      → exclusive_slope n g (S * g.width + e)
      ≡ unless_replaced n (is_there g.rows) (area_at g.rows) (λ R. get_or (slopes_at g R) e nan) S
  slope_at n g S e h =
      let r : (S * g.width + e) % g.width ≡ e = mul-add-mod_self_right S g.width e ∙ mod-eq_of_lt h in
      let d : (S * g.width + e) / g.width ≡ S =
      mul-add-div_right {m = g.width} (omega arith) S e ∙ ap (λ (z : ℕ). S + z) (div-eq_of_lt h) ∙ add-zero S in
      ap₂ (λ (x y : ℕ). unless_replaced n (is_there g.rows) (area_at g.rows)
      (λ R. get_or (slopes_at g R) x nan) y) r d

  -- ---- rows with their gradients, of any width, whether there is a row of the box (`b`) or not

  module _ (b : Bool) (box : Plan → Float) (area_of : Plan → ℕ → Float) (width : Plan → ℕ)
      (gradients : Plan → ℕ → List Float) where
    abbrev made : Plan → Slopes
    made r = record {
      rows = record { has_box = b; box_area = box r; sets = plan_sets r; area = area_of r };
      width = width r;
      box_row = gradients r 0;
      row = gradients r;
    }

    -- of p and of q they agree, row by row
    record RowsAgree : Type 0 where
      box_area : box p ≡ box q
      area : (S : ℕ) → S < 2 ^ q.n → area_of p (spread keeps S) ≡ area_of q S
      room : q.n * 3 ≤ width q
      fits : (e : ℕ) → e < width q → column keeps e < width p
      many : (S : ℕ) → length (gradients q S) ≡ width q
      box_row : Agree keeps (gradients q 0) (gradients p 0)
      row : (S : ℕ) → S < 2 ^ q.n → 0 < S → Agree keeps (gradients q S) (gradients p (spread keeps S))

    module _ (rows : RowsAgree) where
      areas_same : (S : ℕ) → S < 2 ^ q.n → area_at (made p).rows (spread keeps S) ≡ area_at (made q).rows S
      areas_same =
          row_seen (λ x. x) (λ x. x) b (box p) zero64 (area_of p) (box q) zero64 (area_of q) rows.box_area refl
          (λ S l h. rows.area S l)

      entries_same : (S e : ℕ) → S < 2 ^ q.n → e < width q
          → get_or (slopes_at (made p) (spread keeps S)) (column keeps e) nan ≡ get_or (slopes_at (made q) S) e nan
      entries_same S e l h =
          row_seen (λ (x : List Float). get_or x (column keeps e) nan) (λ (x : List Float). get_or x e nan) b
          (gradients p 0) (replicate (width p) zero64) (gradients p) (gradients q 0) (replicate (width q) zero64)
          (gradients q)
          (rows.box_row.at e (within (gradients q 0) (rows.many 0)))
          ((zeros_agree keeps (width q) (width p) rows.fits).at e
          (within (replicate (width q) zero64) (length-replicate (width q) zero64)))
          (λ U g z. (rows.row U g z).at e (within (gradients q U) (rows.many U))) S l
        where
          within : (x : List Float) → length x ≡ width q → e < length x
          within x many = subst (λ (v : ℕ). e < v) (sym many) h

      slope_same : (S e : ℕ) → S < 2 ^ q.n → e < width q
          → exclusive_slope p.n (made p) (spread keeps S * width p + column keeps e)
          ≡ exclusive_slope q.n (made q) (S * width q + e)
      slope_same S e l h =
          slope_at p.n (made p) (spread keeps S) (column keeps e) (rows.fits e h)
          ∙ less_same b (area_at (made p).rows) (area_at (made q).rows) areas_same
          (λ R. get_or (slopes_at (made p) R) (column keeps e) nan) (λ R. get_or (slopes_at (made q) R) e nan)
          (λ U g. entries_same U e g h) S l
          ∙ sym (slope_at q.n (made q) S e h)

      slopes_same : SameSlopes made keeps p q
      slopes_same = record {
        present = λ S l. there_same b S;
        absent = there_none b;
        absent_areas = less_none b (area_at (made p).rows) (area_at (made p).rows);
        absent_slopes = λ S e r h.
            slope_at p.n (made p) S e h
            ∙ less_none b (area_at (made p).rows) (λ R. get_or (slopes_at (made p) R) e nan) S r;
        areas = λ S l.
            less_same b (area_at (made p).rows) (area_at (made q).rows) areas_same (area_at (made p).rows)
            (area_at (made q).rows) areas_same S l;
        heads = λ S j i l h g.
            ap (λ (e : ℕ). exclusive_slope p.n (made p) (spread keeps S * width p + e)) (entry_at keeps j i g)
            ∙ slope_same S (j * 3 + i) l (omega (arith, rows.room));
        box = λ S i l h g.
            ap (λ (e : ℕ). exclusive_slope p.n (made p) (spread keeps S * width p + e))
            (box_at keeps p.n short i h ∙ ap (λ (n : ℕ). column keeps (n * 3 + i)) (sym w.count))
            ∙ slope_same S (q.n * 3 + i) l g;
      }

  -- ---- in the box

  row_same : (S : ℕ) → S < 2 ^ q.n → clipped_gradient_row p (spread keeps S) ≡ clipped_gradient_row q S
  row_same S l =
      ap₂ (λ (g : Ground) (ms : List Member). clipped_gradient (bounds (box_of g)) ms) (sym w.ground) (members S l)

  fits : (e : ℕ) → e < q.n * 3 + 4 → column keeps e < p.n * 3 + 4
  fits e h = clipped_fits keeps p.n short e (subst (λ (n : ℕ). e < n * 3 + 4) w.count h)

  clipped_rows : (S : ℕ) → S < 2 ^ q.n → 0 < S → (b : Bool) → plan_sets q S ≡ b
      → Agree keeps (clipped_gradients plan_sets q S) (clipped_gradients plan_sets p (spread keeps S))
  clipped_rows S l h true e =
      let kept = kept_below keeps p.n in
      let g = (clipped_gradient_row q S).grad in
      agree_as keeps (scatter_clipped (heads_of kept S) kept g)
      (scatter_clipped (map (place keeps) (heads_of kept S)) p.n g)
      ((areas.clipped-gradients plan_sets q).present S h e
      ∙ ap (λ (n : ℕ). scatter_clipped (heads_of n S) n g) w.count)
      ((areas.clipped-gradients plan_sets p).present (spread keeps S) (above S h) (sets S ∙ e)
      ∙ ap₂ (λ (hs : List ℕ) (x : List Float). scatter_clipped hs p.n x) (heads_spread keeps p.n S)
      (ap (λ (s : WithGradient). s.grad) (row_same S l)))
      (clipped_at keeps p.n short (heads_of kept S) g)
  clipped_rows S l h false e =
      agree_as keeps (replicate (q.n * 3 + 4) zero64) (replicate (p.n * 3 + 4) zero64)
      ((areas.clipped-gradients plan_sets q).absent S h e)
      ((areas.clipped-gradients plan_sets p).absent (spread keeps S) (above S h) (sets S ∙ e))
      (zeros_agree keeps (q.n * 3 + 4) (p.n * 3 + 4) fits)

  clipped_box : Agree keeps (clipped_gradients plan_sets q 0) (clipped_gradients plan_sets p 0)
  unfolding clipped_gradients_by
  clipped_box =
      subst (λ (x : List Float). Agree keeps x (scatter_clipped [] p.n (box_slopes (area (box_of p.ground)))))
      (ap₂ (λ (n : ℕ) (g : Ground). scatter_clipped [] n (box_slopes (area (box_of g)))) (sym w.count) (sym w.ground))
      (clipped_at keeps p.n short [] (box_slopes (area (box_of p.ground))))

  pub gradients_same : SameSlopes (clipped_plan plan_sets) keeps p q
  gradients_same =
      slopes_same true (λ r. area (box_of r.ground)) (λ r S. (clipped_gradient_row r S).sum) (λ r. r.n * 3 + 4)
      (clipped_gradients plan_sets)
      (record {
        box_area = ap (λ (g : Ground). area (box_of g)) (sym w.ground);
        area = λ S l. ap (λ (s : WithGradient). s.sum) (row_same S l);
        room = omega arith;
        fits = fits;
        many = (areas.clipped-gradients plan_sets q).many;
        box_row = clipped_box;
        row = λ S l h. clipped_rows S l h (plan_sets q S) refl;
      })

  -- ---- without the box

  fits_open : (e : ℕ) → e < 3 * q.n → column keeps e < 3 * p.n
  fits_open e h = open_fits keeps p.n short e (subst (λ (n : ℕ). e < 3 * n) w.count h)

  open_rows : (S : ℕ) → S < 2 ^ q.n → 0 < S → (b : Bool) → plan_sets q S ≡ b
      → Agree keeps (open_gradients plan_sets q S) (open_gradients plan_sets p (spread keeps S))
  open_rows S l h true e =
      let kept = kept_below keeps p.n in
      let g = open_gradient_row q S in
      agree_as keeps (scatter (heads_of kept S) kept g) (scatter (map (place keeps) (heads_of kept S)) p.n g)
      ((areas.open-gradients plan_sets q).present S h e ∙ ap (λ (n : ℕ). scatter (heads_of n S) n g) w.count)
      ((areas.open-gradients plan_sets p).present (spread keeps S) (above S h) (sets S ∙ e)
      ∙ ap₂ (λ (hs : List ℕ) (x : List Float). scatter hs p.n x) (heads_spread keeps p.n S)
      (ap open_gradient (members S l)))
      (open_at keeps p.n short (heads_of kept S) g)
  open_rows S l h false e =
      agree_as keeps (replicate (3 * q.n) zero64) (replicate (3 * p.n) zero64)
      ((areas.open-gradients plan_sets q).absent S h e)
      ((areas.open-gradients plan_sets p).absent (spread keeps S) (above S h) (sets S ∙ e))
      (zeros_agree keeps (3 * q.n) (3 * p.n) fits_open)

  pub open_gradients_same : SameSlopes (open_plan plan_sets) keeps p q
  open_gradients_same =
      slopes_same false (λ r. zero64) (λ r S. open_area (plan_members r S)) (λ r. 3 * r.n) (open_gradients plan_sets)
      (record {
        box_area = refl;
        area = λ S l. ap open_area (members S l);
        room = omega arith;
        fits = fits_open;
        many = (areas.open-gradients plan_sets q).many;
        box_row =
            agree_as keeps (replicate (3 * q.n) zero64) (replicate (3 * p.n) zero64)
            (areas.open-gradients plan_sets q).none (areas.open-gradients plan_sets p).none
            (zeros_agree keeps (3 * q.n) (3 * p.n) fits_open);
        row = λ S l h. open_rows S l h (plan_sets q S) refl;
      })
