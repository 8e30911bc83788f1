-- `levels::level_start` meets its contract: the search from behind reads the rows before place hi.
use Rattle.std.proofs.Common.{rules, arith, ◌≡◌, ◌-◌, ◌≤◌, ◌<◌, length, get_or, take, ℕ}
use Rattle.std.proofs.Common.{refl, sym, ap, ◌∙◌, Option, Some, None}
use Rattle.std.proofs.lemmas.List.{get_or-take, length-take}
use Rattle.std.specs.Int.Count.{ones}
use Rattle.exclusive.proofs.levels.level_start.Goals as goal

-- the rows from place r on, of those before place hi, have as many heads as the last
abbrev AsMany : goal.After-map_or → ℕ → Type 0
AsMany c r = (k : ℕ) → r ≤ k → k < length (take c.args.hi c.args.rows.now)
    → ones (get_or (take c.args.hi c.args.rows.now) k 0) ≡ ones (get_or c.args.rows.now (c.args.hi - 1) 0)

found : (c : goal.After-map_or) (o : Option ℕ) → c.rposition.result ≡ o → AsMany c c.map_or.result
found c (Some last) e = search rules
found c None e = search rules

pub returns-clause-as_many_heads : goal.returns-clause-as_many_heads
returns-clause-as_many_heads c =
    λ i h l. sym (ap ones (get_or-take c.args.hi c.args.rows.now i 0 l))
    ∙ found c c.rposition.result refl i h (omega (arith, length-take c.args.hi c.args.rows.now))
