-- What a searcher is seen as.
use Rattle.std.specs.Prelude.{ℕ}

-- how many cells the grids have that it searches, and the last time step of an arrival
pub record Scratch : Type 0 where
  pub cells : ℕ
  pub horizon : ℕ
