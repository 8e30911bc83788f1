-- Laws of a text put into a lent slice.
use mathlib.Core.Path.{◌≡◌, refl, sym, ap, ap₂, ◌∙◌}
use mathlib.Core.List.{List, [], ◌∷◌, ◌++◌, append_assoc}
use Prim.Native.Nat.{ℕ, zero, suc, ◌+◌, ◌≤◌}
use native.Mathlib.Numerals.{add-one}
use native.Mathlib.Omega.{arith}
use lib.ListN.{length, set, take, drop, length-append, length-set}
use lib.Seq.{set_at}
use Rattle.printing.specs.declared.text.Cursor.{Cursor}
use Rattle.printing.specs.Text.{put, Advances, Printed, PutFits, PutCut}

-- one text and then another
pub put_append : (out : List ℕ) (at : ℕ) (s t : List ℕ) → put out at (s ++ t) ≡ put (put out at s) (at + length s) t
unfolding put
put_append out at [] t = ap (λ n. put out n t) (omega arith)
put_append out at (b ∷ s) t =
    let e : suc at + length s ≡ at + suc (length s) = omega arith in
    put_append (set out at b) (suc at) s t ∙ ap (λ n. put (put (set out at b) (suc at) s) n t) e

-- one byte
pub put_one : (out : List ℕ) (at b : ℕ) → set out at b ≡ put out at (b ∷ [])
unfolding put
put_one out at b = refl

-- one byte more of what is left
pub put_next : (out : List ℕ) (at b : ℕ) (t : List ℕ) → put out at (b ∷ t) ≡ put (set out at b) (at + 1) t
unfolding put
put_next out at b t = ap (λ n. put (set out at b) n t) (sym (add-one at))

pub put_nothing : (out : List ℕ) (at : ℕ) → put out at [] ≡ out
unfolding put
put_nothing out at = refl

-- the slice keeps its length
pub length_put : (out : List ℕ) (at : ℕ) (t : List ℕ) → length (put out at t) ≡ length out
unfolding put
length_put out at [] = refl
length_put out at (b ∷ t) = length_put (set out at b) (suc at) t ∙ length-set out at b

-- there is no such place
pub set_past : {A : Type 0} (l : List A) (at : ℕ) (b : A) → length l ≤ at → l ≡ set l at b
set_past [] at b h = refl
set_past (x ∷ l) zero b h = absurd (omega arith)
set_past (x ∷ l) (suc at) b h = ap (λ t. x ∷ t) (set_past l at b (omega arith))

-- ---- at the front of the slice

-- after what was put before it
fits_after : (p out t : List ℕ) → length t ≤ length out → put (p ++ out) (length p) t ≡ p ++ (t ++ drop (length t) out)
unfolding put
fits_after p out [] h = refl
fits_after p [] (b ∷ t) h = absurd (omega arith)
fits_after p (x ∷ out) (b ∷ t) h =
    let q = p ++ (b ∷ []) in
    let n : length q ≡ suc (length p) = omega (arith, length-append p (b ∷ [])) in
    ap (λ l. put l (suc (length p)) t) (set_at p x out b (length p) refl ∙ sym (append_assoc p (b ∷ []) out))
    ∙ ap (λ m. put (q ++ out) m t) (sym n)
    ∙ fits_after q out t (omega arith)
    ∙ append_assoc p (b ∷ []) (t ++ drop (length t) out)

pub put_fits : PutFits
put_fits out t h = fits_after [] out t h

cut_after : (p out t : List ℕ) → length out ≤ length t → put (p ++ out) (length p) t ≡ p ++ take (length out) t
unfolding put
cut_after p [] [] h = refl
cut_after p (x ∷ out) [] h = absurd (omega arith)
cut_after p [] (b ∷ t) h =
    past (b ∷ t) (p ++ []) (length p) (omega (arith, length-append p []))
  where
    past : (t out : List ℕ) (at : ℕ) → length out ≤ at → put out at t ≡ out
    past [] out at h = refl
    past (b ∷ t) out at h =
        ap (λ l. put l (suc at) t) (sym (set_past out at b h)) ∙ past t out (suc at) (omega arith)
cut_after p (x ∷ out) (b ∷ t) h =
    let q = p ++ (b ∷ []) in
    let n : length q ≡ suc (length p) = omega (arith, length-append p (b ∷ [])) in
    ap (λ l. put l (suc (length p)) t) (set_at p x out b (length p) refl ∙ sym (append_assoc p (b ∷ []) out))
    ∙ ap (λ m. put (q ++ out) m t) (sym n)
    ∙ cut_after q out t (omega arith)
    ∙ append_assoc p (b ∷ []) (take (length out) t)

pub put_cut : PutCut
put_cut out t h = cut_after [] out t h

-- ---- a cursor, as texts are put at it

pub advance_none : (c : Cursor) → Advances [] c c
advance_none c = record { bytes = sym (put_nothing c.out.now c.at); place = omega arith; same_slice = refl }

-- a byte is put, or there is no place for it
pub byte_put : (b : ℕ) {c d : Cursor} → d.out.now ≡ set c.out.now c.at b → d.at ≡ c.at + 1
    → d.out.ghost_name ≡ c.out.ghost_name → Advances (b ∷ []) c d
byte_put b {c = c} bytes place same = record { bytes = bytes ∙ put_one c.out.now c.at b; place = place; same_slice = same }

-- one text and then another
pub advance_then : (s t : List ℕ) {a b c : Cursor} → Advances s a b → Advances t b c → Advances (s ++ t) a c
advance_then s t {a = a} first second = record {
  bytes = second.bytes ∙ ap₂ (λ o n. put o n t) first.bytes first.place ∙ sym (put_append a.out.now a.at s t);
  place = omega (arith, first.place, second.place, length-append s t);
  same_slice = second.same_slice ∙ first.same_slice;
}

-- all that was put at the front of the slice
pub printed_by : (text : List ℕ) {left : List ℕ} {a b : Cursor} → a.at ≡ 0 → left ≡ b.out.now → Advances text a b
    → Printed text a.out.now left b.at
printed_by text {a = a} e f all = record { counted = omega (arith, all.place, e); bytes = f ∙ all.bytes ∙ ap (λ n. put a.out.now n text) e }
