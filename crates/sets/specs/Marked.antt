-- Presence bytes of which some are set to 1.
use Rattle.std.specs.Prelude.{ℕ, Bool, cond, List, get_or, length}
use Rattle.lists.specs.Written.{tab}

-- the bytes of the masks that pass are 1, the others as they were
unfoldable pub marked : (ℕ → Bool) → List ℕ → List ℕ
unfolding tab
marked p l = tab (λ S. cond (p S) 1 (get_or l S 0)) (length l)
