-- Reading rows one after the other, as a loop does.
use Rattle.std.proofs.Common.{◌≡◌, ℕ, ◌+◌, ◌<◌, ◌≤◌, Bool, true, false, cond, List, [], ◌∷◌, ◌++◌, length, Option, Some, None, Result, Ok, Err, refl, sym, ap, ◌∙◌, append_assoc, arith}
use Rattle.std.specs.Prelude.{All, IfSome, IsNone}
use Rattle.std.proofs.lemmas.Bool.{ltb-true}
use Rattle.std.proofs.lemmas.List.{append-nil, length-append}
use Rattle.std.proofs.lemmas.List.Elements.{All-push}
use Rattle.fleet_base.specs.declared.request.Request.{Request}
use Rattle.fleet_base.specs.Terrain.{Terrain}
use Rattle.text_lines.specs.Numbered.{Numbered}
use Rattle.text_lines.specs.Faults.{Fault, ◌>>=◌}
use Rattle.scen_text.specs.declared.fault.ScenKind.{ScenKind}
use Rattle.scen_text.specs.ScenGrammar.{IsOnGrid, next_row, is_kept, rows_from}

-- what was read before, and what is still read
abbrev pub with_front : List Request → Result (List Request) (Fault ScenKind) → Result (List Request) (Fault ScenKind)
with_front front read = read >>= λ others. Ok (front ++ others)

regroup : (front : List Request) (request : Request) (kept : Bool) (read : Result (List Request) (Fault ScenKind))
    → with_front front (read >>= λ others. Ok (cond kept (request ∷ others) others)) ≡ with_front (front ++ cond kept (request ∷ []) []) read
regroup front request true (Ok others) = ap (λ (requests : List Request). Ok requests) (sym (append_assoc front (request ∷ []) others))
regroup front request false (Ok others) = ap (λ (requests : List Request). Ok (requests ++ others)) (sym (append-nil front))
regroup front request kept (Err fault) = refl

-- a row that is right
pub goes_on : (g : Terrain) (take : Option ℕ) (index : ℕ) (rows : List Numbered) (row : Numbered) (after : List Numbered) (front : List Request) (request : Request) (total : Result (List Request) (Fault ScenKind))
    → rows ≡ row ∷ after → next_row g take index row.fields ≡ Ok request → with_front front (rows_from g take index rows) ≡ total
    → with_front (front ++ cond (is_kept take index) (request ∷ []) []) (rows_from g take (index + 1) after) ≡ total
unfolding rows_from
goes_on g take index rows row after front request total e right so_far =
    let one : with_front front (rows_from g take index rows) ≡ with_front (front ++ cond (is_kept take index) (request ∷ []) []) (rows_from g take (index + 1) after)
    = rw (e, right) (regroup front request (is_kept take index) (rows_from g take (index + 1) after)) in
    sym one ∙ so_far

-- a row with a fault
pub bad_row : (g : Terrain) (take : Option ℕ) (index : ℕ) (rows : List Numbered) (row : Numbered) (after : List Numbered) (front : List Request) (kind : ScenKind) (total : Result (List Request) (Fault ScenKind))
    → rows ≡ row ∷ after → next_row g take index row.fields ≡ Err kind → with_front front (rows_from g take index rows) ≡ total
    → total ≡ Err (record { line = row.line; kind = kind })
unfolding rows_from
bad_row g take index rows row after front kind total e wrong so_far =
    let one : with_front front (rows_from g take index rows) ≡ Err (record { line = row.line; kind = kind }) = rw (e, wrong) refl in
    sym so_far ∙ one

-- all rows were read
pub is_done : (g : Terrain) (take : Option ℕ) (index : ℕ) (rows : List Numbered) (front : List Request) (total : Result (List Request) (Fault ScenKind))
    → rows ≡ [] → with_front front (rows_from g take index rows) ≡ total → total ≡ Ok front
unfolding rows_from
is_done g take index rows front total e so_far =
    let one : with_front front (rows_from g take index rows) ≡ Ok front = rw e (ap (λ (requests : List Request). Ok requests) (append-nil front)) in
    sym so_far ∙ one

-- ---- the requests that are kept

-- a row that is kept is one of the first 32,767
pub kept_room : (take : Option ℕ) (index : ℕ) → IfSome take (λ count. count ≤ 32767) → (IsNone take → index < 32767) → is_kept take index ≡ true → index < 32767
kept_room None index few room kept = room refl
kept_room (Some count) index few room kept = let below : index < count = ltb-true _ _ kept in omega (arith, few)

-- no more requests than rows
pub kept_length : (front : List Request) (request : Request) (kept : Bool) (index : ℕ) → length front ≤ index → length (front ++ cond kept (request ∷ []) []) ≤ index + 1
kept_length front request true index h = omega (arith, length-append front (request ∷ []))
kept_length front request false index h = omega (arith, length-append {A = Request} front [])

-- no more than 32,767 requests
pub kept_few : (front : List Request) (request : Request) (kept : Bool) (index : ℕ) → length front ≤ index → length front ≤ 32767 → (kept ≡ true → index < 32767) → length (front ++ cond kept (request ∷ []) []) ≤ 32767
kept_few front request true index h few room = let below : index < 32767 = room refl in omega (arith, length-append front (request ∷ []))
kept_few front request false index h few room = omega (arith, length-append {A = Request} front [])

-- requests on the grid
pub kept_on_grid : (g : Terrain) (front : List Request) (request : Request) (kept : Bool) → All (IsOnGrid g) front → IsOnGrid g request → All (IsOnGrid g) (front ++ cond kept (request ∷ []) [])
kept_on_grid g front request true all one = All-push (IsOnGrid g) front request all one
kept_on_grid g front request false all one = rw (append-nil front) all
