-- A list of ten at most is read whole.
use mathlib.Core.Path.{◌≡◌}
use mathlib.Core.List.{List}
use Prim.Native.Nat.{◌≤◌}
use lib.ListN.{length}
use lib.Seq.{take_all}
use Rattle.intersections.specs.Heads.{first_ten}

pub few_read : {A : Type 0} (list : List A) → length list ≤ 10 → first_ten list ≡ list
few_read list few = take_all 10 list few
