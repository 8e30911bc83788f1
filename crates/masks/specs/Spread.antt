-- A mask of the heads kept as a mask of all heads: its bits are spread over the places kept, and a zero bit stands at
-- each place left out. Its laws are in proofs/Spread.antt.
use Rattle.std.specs.Prelude.{ℕ, ◌+◌, ◌*◌, ◌/◌, ◌%◌, Bool, true, false, List, [], ◌∷◌}

unfoldable pub spread : List Bool → ℕ → ℕ
spread [] T = T
spread (true ∷ keeps) T = T % 2 + 2 * spread keeps (T / 2)
spread (false ∷ keeps) T = 2 * spread keeps T
