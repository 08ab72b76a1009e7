use Rattle.std.proofs.Common.{◌≡◌, ℕ, suc, ◌<◌, ◌≤◌, length}
use Rattle.plain_book.specs.Pool.{calendars_in, place_of, IsPool}
use Rattle.plain_book.proofs.pool.own_places.Given as goal

abbrev pub invariant-loop-cell : goal.invariant-loop-cell
invariant-loop-cell l =
    IsPool l.places.items l.pool.items
    × (calendars_in l.pool.items l.places.items ≡ calendars_in l.fn.pool.items l.fn.places.items)
    × (length l.places.items ≡ length l.fn.places.items)
    × (length l.pool.items ≡ suc l.cell)
    × ((c : ℕ) → c < l.cell → place_of l.places.items c ≡ suc c)
    × ((c : ℕ) → l.cell ≤ c → place_of l.places.items c ≡ 0)
