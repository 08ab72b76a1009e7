-- Where a time stands among records in rising order.
use Rattle.std.specs.Prelude.{ℕ, suc, List, [], ◌∷◌, Option, Some, None, unwrap_or, nat_lt, if◌then◌else◌}
use Rattle.fleet_base.specs.declared.request.Record.{Record}

-- how many records stand before the first that begins after that time
abbrev pub place_in : ℕ → List Record → ℕ
place_in t [] = 0
place_in t (r ∷ rs) = if nat_lt t r.from then 0 else suc (place_in t rs)

-- the last record that begins at that time or before
abbrev pub last_begun : ℕ → List Record → Option Record
last_begun t [] = None
last_begun t (r ∷ rs) = if nat_lt t r.from then None else Some (unwrap_or (last_begun t rs) r)
