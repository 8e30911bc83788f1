use Rattle.std.proofs.Common.{◌≡◌, refl, ◌∙◌, subst, ℕ, zero, suc, ◌+◌, ◌<◌, List, map, pos, arith, rules}
use Rattle.std.proofs.Common.{slice_index_or}
use Rattle.std.specs.List.{range_with_len}
use Rattle.std.proofs.lemmas.List.FromFn.{fill_by_all}
use denote.Param.Members.{Mut, Called}
use Rattle.heads.specs.declared.Head.{Head}
use Rattle.watered.specs.Handed.{number_at, numbers_of}
use Rattle.watered.proofs.handed.numbers_of.Goals as goal

all_thirty : (l : List Head) → map (number_at l) (range_with_len 0 30) ≡ numbers_of l
unfolding number_at
all_thirty l = refl

-- calls at the n indices from i on gave what stands in ys there, as the library says it of `array::from_fn`
abbrev Made : {F B : Type 0} → Mut F (ℕ × Unit {0}) B → F → List B → ℕ → ℕ → Type 0
Made g f ys i zero = Unit {0}
Made {F} {B} g f ys i (suc n) =
    (q : F) × (y : B) × ((slice_index_or ys i y ≡ y) × ((d : B) → slice_index_or ys i d ≡ y))
    × Called g f (i, tt) y q × Made g q ys (i + 1) n

-- of a closure that stays the same
all_made : {F B : Type 0} (g : Mut F (ℕ × Unit {0}) B) (h : ℕ → B) (f : F)
    → ((i : ℕ) (y : B) (q : F) → Called g f (i, tt) y q → (y ≡ h i) × (q ≡ f))
    → (p : F) → p ≡ f → (ys : List B) (i n : ℕ) → Made g p ys i n
    → (k : ℕ) (d : B) → k < n → (j : ℕ) → j ≡ i + k → slice_index_or ys j d ≡ h j
all_made g h f step p e ys i zero r k d l j at = absurd (omega arith)
all_made g h f step p e ys i (suc n) r zero d l j at =
    let z : j ≡ i = omega arith in
    let made = step i r.1 r.0 (subst (λ (x : _). Called g x (i, tt) r.1 r.0) e r.3) in
    rw z (r.2.1 d ∙ made.0)
all_made g h f step p e ys i (suc n) r (suc k) d l j at =
    let made = step i r.1 r.0 (subst (λ (x : _). Called g x (i, tt) r.1 r.0) e r.3) in
    all_made g h f step r.0 made.1 ys (i + 1) n r.4 k d (omega arith) j (omega arith)

pub returns : goal.returns
returns c =
    let heads = c.args.heads in
    let made = c.from_fn.ensures.items in
    fill_by_all (number_at heads) c.from_fn.result 30 (pos 0) made.long
    (λ k h. all_made _ (number_at heads) _ (λ i y q called. (search rules, search rules)) _ refl _ 0 30 made.each k
    (pos 0) h k (omega arith))
    ∙ all_thirty heads
