-- What a contract sees of a list that has places for a fixed number of items.
use Rattle.std.specs.Prelude.{List}

-- The items, in order, and what stands at the places that are free: a copy has that too, and nobody reads it.
pub record BoundedList (T : Type 0) : Type 0 where
  pub items : List T
  pub spare : List T
