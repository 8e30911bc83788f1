-- The marks of a head: of each meeting point its angle and its adopters, in order of the angles, and who lets the head
-- have the gap from there to the next.
use Rattle.std.specs.Prelude.{ℕ, List, Float}
use Rattle.std.specs.Float.{nan}
use Rattle.boundary.specs.declared.sort.Mark.{Mark}
use Rattle.boundary.specs.Sort.{insert_by}

-- while nobody is held to let the head have a gap
abbrev pub mark : Float → ℕ → Mark
mark phi adopters = record { phi = phi; adopters = adopters; lets = 0 }

-- what stands for a mark that a list does not have
abbrev pub no_mark : Mark
no_mark = mark nan 0

-- x before the first of a greater angle
abbrev pub insert_mark : Mark → List Mark → List Mark
insert_mark = insert_by (λ m. m.phi)
