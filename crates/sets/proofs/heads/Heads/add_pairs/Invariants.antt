-- `Heads::add_pairs`: the pairs of the heads below i are marked, and those of head i with the heads below j.
use Rattle.std.proofs.Common.{◌≡◌, ℕ, Bool, List}
use Rattle.sets.specs.Sets.{pair, paired}
use Rattle.sets.specs.Steps.{in_mask_of}
use Rattle.sets.proofs.Marks.{marks_to, pairs_to}
use Rattle.sets.proofs.heads.Heads.add_pairs.Given as goal

-- head a contains head b, by the heads that contain each head
abbrev pub contains_by : List ℕ → ℕ → ℕ → Bool
contains_by containing a b = in_mask_of containing b a

abbrev pub invariant-loop-i : goal.invariant-loop-i
invariant-loop-i l =
    l.found ≡ pairs_to l.fn.self.n (in_mask_of l.meeting) (contains_by l.containing) l.i l.initial.found

abbrev pub invariant-loop-j : goal.invariant-loop-j
invariant-loop-j l =
    l.found ≡ marks_to (pair l.fn.self.n l.i) (paired (in_mask_of l.meeting) (contains_by l.containing) l.i) l.j
    l.initial.found
