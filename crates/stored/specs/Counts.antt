-- How the lines of a list are counted, and what is printed of one that differs.
use Rattle.std.specs.Prelude.{ℕ, Bool, List, [], ◌∷◌, ◌++◌, ◌+◌, ◌%◌, ◌^◌, codes, cond, ltb, get_or, set, replicate}
use Rattle.std.specs.Fmt.{decimal}
use Rattle.stored.specs.declared.counts.Counts.{Counts}

-- no line
abbrev pub none : Counts
none = record { by_letter = replicate 128 0; lines = 0; differing = 0 }

-- one more, as far as 64 bits go
abbrev pub one_more : ℕ → ℕ
one_more n = (n + 1) % 2 ^ 64

-- the line that is counted next: the first has number 1
abbrev pub next : Counts → ℕ
next c = one_more c.lines

-- the counts with a line of this letter more, which agrees or differs
abbrev pub counted : Counts → ℕ → Bool → Counts
counted c letter agrees = record {
  by_letter = cond (ltb letter 128) (set c.by_letter letter (one_more (get_or c.by_letter letter 0))) c.by_letter;
  lines = next c;
  differing = cond agrees c.differing (one_more c.differing);
}

-- what is printed of the next line: nothing, if it agrees
abbrev pub told : Counts → Bool → List ℕ
told c agrees = cond agrees [] (codes "differs: line " ++ decimal (next c) ++ 10 ∷ [])
