-- Which members of a set get no arc: what is claimed of outlines, and proved in proofs/OnePoint.antt.
use Rattle.std.specs.Prelude.{◌≡◌, List, ◌∷◌, ◌++◌, ℕ, suc, ◌+◌, ◌≤◌, length}
use Rattle.lists.specs.Every.{Every}
use Rattle.intersections.specs.Members.{Member}
use Rattle.boundary.specs.declared.arcs.BoundaryArc.{BoundaryArc}
use Rattle.boundary.specs.Outline.{outline}

-- no arc of the member at position k
abbrev pub NoneOf : ℕ → List BoundaryArc → Type 0
NoneOf k arcs = Every (λ arc. arc.circle ≡ k → ⊥) arcs

-- Document 01: "In a larger set a head with just one meeting point counted for it gets no arc there, even where it touches from inside: the Rust skips a gap
-- of a full turn, and so do we." The member m stands after those of `before`.
abbrev pub OnePointNoArc : Type 0
OnePointNoArc = (before after : List Member) (m : Member) → 2 ≤ length before + suc (length after) → length m.points ≡ 1
    → NoneOf (length before) (outline (before ++ (m ∷ after)))
