-- What each arm of `outline_relation` settles: t and s are the difference and the sum of the radii a and b as the code
-- has them.
use Rattle.std.proofs.Common.{ℕ, ◌+◌, ◌*◌, ◌<◌, ◌≡◌, Less, Equal, Greater, arith, sym, ap, ◌∙◌, subst}
use Rattle.std.specs.Int.{abs_diff}
use Rattle.std.specs.Ordering.{nat_cmp}
use Rattle.std.proofs.lemmas.Cmp.{ranked}
use Rattle.heads.specs.declared.Relation.TheVariants.{Apart, TouchingOutside, Crossing}
use Rattle.heads.specs.declared.Relation.TheVariants.{TouchingInside, Holding, Identical}
use Rattle.heads.specs.Relation.{gap, outline_relation}
use Rattle.heads.specs.Outlines.{outline_relation_is, gap_zero}

module _ (D a b t : ℕ) (h : t ≡ abs_diff a b) where
  gap_is : t ≡ gap a b
  unfolding gap
  gap_is = h

  -- below t²
  pub holding : Less ≡ nat_cmp D (t * t) → Holding ≡ outline_relation D a b
  holding o = sym (outline_relation_is Holding D a b (subst (λ (n : ℕ). D < n * n) gap_is (ranked D (t * t) Less o)))

  -- at t², and t is zero
  pub same : Equal ≡ nat_cmp D (t * t) → t ≡ 0 → Identical ≡ outline_relation D a b
  same o z =
      sym (outline_relation_is Identical D a b
      (ranked D (t * t) Equal o ∙ ap (λ (n : ℕ). n * n) z, gap_zero a b (sym gap_is ∙ z)))

  -- at t², and t is not zero
  pub inside : Equal ≡ nat_cmp D (t * t) → (t ≡ 0 → ⊥) → TouchingInside ≡ outline_relation D a b
  inside o z =
      let e : t ≡ gap a b = gap_is in
      sym (outline_relation_is TouchingInside D a b (omega arith, ranked D (t * t) Equal o ∙ ap (λ (n : ℕ). n * n) e))

  -- above t²
  module _ (s : ℕ) (k : s ≡ a + b) (o : Greater ≡ nat_cmp D (t * t)) where
    beyond : gap a b * gap a b < D
    beyond = subst (λ (n : ℕ). n * n < D) gap_is (ranked D (t * t) Greater o)

    -- and below s²
    pub crossing : Less ≡ nat_cmp D (s * s) → Crossing ≡ outline_relation D a b
    crossing l =
        sym (outline_relation_is Crossing D a b (beyond, subst (λ (n : ℕ). D < n * n) k (ranked D (s * s) Less l)))

    -- and at s²
    pub outside : Equal ≡ nat_cmp D (s * s) → TouchingOutside ≡ outline_relation D a b
    outside l =
        sym (outline_relation_is TouchingOutside D a b
        (beyond, subst (λ (n : ℕ). D ≡ n * n) k (ranked D (s * s) Equal l)))

    -- and above s²
    pub apart : Greater ≡ nat_cmp D (s * s) → Apart ≡ outline_relation D a b
    apart l = sym (outline_relation_is Apart D a b (subst (λ (n : ℕ). n * n < D) k (ranked D (s * s) Greater l)))
