-- Laws of items that move up by one place.
use mathlib.Core.Path.{◌≡◌, refl, sym, ap, ap₂, ◌∙◌}
use mathlib.Core.Bool.{Bool, true, false}
use mathlib.Core.List.{List, [], ◌∷◌, ◌++◌, append_assoc}
use Prim.Native.Nat.{ℕ, min, ◌+◌, ◌-◌, ◌≤◌, ◌<◌}
use native.Mathlib.Omega.{arith}
use borrow.Author.Tests.{ltb-true, ltb-false}
use borrow.Rule.Slice.PartMut.{put_mid, same_len_mid}
use lib.Dec.{ltb}
use lib.ListN.{length, take, drop, set, get_or, length-append, length-drop, drop_of_length-le}
use lib.Seq.{take_all}
use Rattle.std.specs.List.{insert}
use Rattle.std.proofs.lemmas.List.{take_more_set, drop-set-lt, drop_more, take-take, drop-take, length-take-le}
use Rattle.std.proofs.lemmas.Slice.{take-put_mid}

-- one item more moves up: x stands in its place, and it is carried on
pub carried_on : {A : Type 0} (l : List A) (i : ℕ) (x y : A) → i < length l → y ≡ get_or l i y
    → take (i + 1) (set l i x) ++ y ∷ drop (i + 1) (set l i x) ≡ take i l ++ x ∷ drop i l
carried_on l i x y low at =
    let after = drop (i + 1) l in
    rw (take_more_set l i x low, drop-set-lt (i + 1) l i x (omega arith), append_assoc (take i l) (x ∷ []) (y ∷ after))
    (ap (λ t. take i l ++ x ∷ t) (ap (λ z. z ∷ drop (i + 1) l) at ∙ sym (drop_more l i y low)))

-- x before place k of the first n of a list: those of them from k on have moved up by one, the last of them onto place n
pub put_in : {A : Type 0} (l part : List A) (k n : ℕ) (x last : A) → k ≤ n → n < length l
    → part ++ last ∷ [] ≡ x ∷ take (n - k) (drop k l)
    → take (n + 1) (set (put_mid k (n - k) l part) n last) ≡ insert (take n l) k x
put_in l part k n x last few room e =
    let rest = drop k l in
    let both = sym (length-append part (last ∷ [])) ∙ ap length e in
    let cut : length (take (n - k) rest) ≡ n - k = length-take-le (n - k) rest (omega (arith, length-drop k l)) in
    let many : length part ≡ n - k = omega (arith, both, cut) in
    let long : length (put_mid k (n - k) l part) ≡ length l =
    same_len_mid k (n - k) l part (many ∙ sym cut) in
    let some : n ≡ k + (n - k) = omega arith in
    take_more_set (put_mid k (n - k) l part) n last (omega (arith, long))
    ∙ ap (λ t. t ++ last ∷ []) (take-put_mid k (n - k) l part n (omega (arith, many)) (omega arith))
    ∙ append_assoc (take k l) part (last ∷ [])
    ∙ ap (λ t. take k l ++ t) e
    ∙ ap₂ (λ t u. t ++ x ∷ u) (sym (take-take k n l few))
    (sym (ap (λ m. drop k (take m l)) some ∙ drop-take k (n - k) l))

-- beyond the end is at the end
pub at_the_end : {A : Type 0} (l : List A) (k : ℕ) (x : A) → insert l (min k (length l)) x ≡ insert l k x
at_the_end l k x = by (ltb (length l) k) refl
  where
    by : (b : Bool) → ltb (length l) k ≡ b → insert l (min k (length l)) x ≡ insert l k x
    by true e =
        let more = ltb-true (length l) k e in
        let same : min k (length l) ≡ length l = omega (arith, more) in
        let gone : drop k l ≡ [] = drop_of_length-le l (omega (arith, more)) in
        let none : drop (length l) l ≡ [] = drop_of_length-le l (omega arith) in
        rw (same, take_all k l (omega (arith, more)), gone, take_all (length l) l (omega arith), none) refl
    by false e = let same : min k (length l) ≡ k = omega (arith, ltb-false (length l) k e) in rw same refl
