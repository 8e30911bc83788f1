-- `outline::numbered_arcs`: the arcs so far, each with its head's number, and the arcs still to come give all.
use mathlib.Core.Path.{◌≡◌}
use mathlib.Core.List.{map, ◌++◌}
use Prim.Native.Nat.{◌+◌}
use lib.ListN.{length, take}
use Rattle.boundary.specs.Set.{numbered, arcs_held}
use Rattle.outline.proofs.outline.numbered_arcs.Given as goal

abbrev pub invariant-loop-arc : goal.invariant-loop-arc
invariant-loop-arc l =
    let of_head = numbered (map (λ m. m.head) l.set) in
    let rest = take l.arc-iterator.n l.arc-iterator.iter.rest.now in
    (l.all.items ++ map of_head rest ≡ map of_head (take arcs_held l.arcs))
    × (length l.all.items + l.arc-iterator.n ≡ arcs_held)
