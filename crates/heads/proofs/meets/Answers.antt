-- `heads::meets` meets its contract: by the relation.
use Rattle.std.proofs.Common.{refl, true, false, ◌≡◌, ◌⊎◌, inl, inr, ap, sym, ◌∙◌}
use Rattle.heads.specs.declared.Relation.{Relation}
use Rattle.heads.specs.declared.Relation.TheVariants.{Apart, TouchingOutside, Crossing}
use Rattle.heads.specs.declared.Relation.TheVariants.{TouchingInside, Holding, Identical}
use Rattle.heads.specs.Relation.{meeting}
use Rattle.heads.specs.Pair.{radius_of, squared_distance}
use Rattle.heads.specs.Cases.{meets_relation}
use Rattle.heads.proofs.meets.Goals as goal

named : (r : Relation) → (r ≡ TouchingOutside) ⊎ ((r ≡ Crossing) ⊎ (r ≡ TouchingInside)) → true ≡ meeting r
named r (inl e) = sym (ap meeting e)
named r (inr (inl e)) = sym (ap meeting e)
named r (inr (inr e)) = sym (ap meeting e)

unnamed : (r : Relation) → (r ≡ TouchingOutside → ⊥) → (r ≡ Crossing → ⊥) → (r ≡ TouchingInside → ⊥) → false ≡ meeting r
unnamed Apart o c i = refl
unnamed TouchingOutside o c i = absurd (o refl)
unnamed Crossing o c i = absurd (c refl)
unnamed TouchingInside o c i = absurd (i refl)
unnamed Holding o c i = refl
unnamed Identical o c i = refl

pub returns-in-TouchingOutside : goal.returns-in-TouchingOutside
returns-in-TouchingOutside c =
    let s = c.args in
    named c.relation_of.result c.in-TouchingOutside.is ∙ ap meeting c.relation_of.ensures
    ∙ sym (meets_relation (squared_distance s.a s.b) (radius_of s.a) (radius_of s.b))

pub returns-in_default : goal.returns-in_default
returns-in_default c =
    let s = c.args in
    unnamed c.relation_of.result c.in_default.not-TouchingOutside c.in_default.not-Crossing
    c.in_default.not-TouchingInside
    ∙ ap meeting c.relation_of.ensures
    ∙ sym (meets_relation (squared_distance s.a s.b) (radius_of s.a) (radius_of s.b))
