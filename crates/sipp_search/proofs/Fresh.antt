-- A state is added that is queued at once: what comes of it is what would if it were added unseen, and offered its arrival then.
use Rattle.std.proofs.Common.{arith, subst, sym, ap, ◌∙◌, refl, inl, inr, set}
use Rattle.std.proofs.lemmas.Option.{slice_get_within, same_Some, none-some}
use Rattle.std.proofs.lemmas.List.{map-append}
use Rattle.std.specs.Prelude.{◌≡◌, ◌≢◌, ℕ, zero, suc, ◌+◌, ◌<◌, ◌≤◌, ◌++◌, ◌∷◌, [], List, Some, length, slice_get, max}
use Rattle.fleet_base.specs.declared.grid.Cell.{Cell}
use Rattle.fleet_base.specs.declared.request.Request.{Request}
use Rattle.fleet_base.specs.Terrain.{Terrain}
use Rattle.calendars.specs.Assignments.{Assignment}
use Rattle.static_distance.specs.Distance.{IsDistance}
use Rattle.sipp_search.specs.declared.states.Spot.{Spot}
use Rattle.sipp_search.specs.declared.states.State.{State}
use Rattle.sipp_search.specs.declared.states.Mark.TheVariants.{Unseen}
use Rattle.sipp_search.specs.Marks.{spots_of, unseen, queued, offered}
use Rattle.sipp_search.specs.Arena.{AreChained, ComeBefore}
use Rattle.sipp_search.specs.Entry.{IsEntry}
use Rattle.sipp_search.specs.Progress.{IsBound, AreSpots, IsUnderWay, Improves}
use Rattle.sipp_search.specs.Running.{HasGrown, KeepsSpots}
use Rattle.sipp_search.specs.Visiting.{IsSource, HasLedInto}
use Rattle.sipp_search.proofs.Lists.{stands_left, stands_map, set_last}
use Rattle.sipp_search.proofs.Chains.{added_cases, added_stands}
use Rattle.sipp_search.proofs.Marking.{offered_improves, improves-trans}
use Rattle.sipp_search.proofs.Moving.{grown_improves, grown_way}
use Rattle.sipp_search.proofs.Entering.{entered_first}

-- a cell with no state has none of any place
pub none_before : (spots : List Spot) (newest : List ℕ) (c : Cell) (n : ℕ) → AreChained spots newest → slice_get newest c.0 ≡ Some 0 → ComeBefore spots c n
none_before spots newest c n chained none i p at cell =
    let below : i < 0 = (chained.last c 0 none).none_later i p (slice_get_within spots i p at) at cell in
    absurd (omega arith)

pub before_more : (spots : List Spot) (c : Cell) (n : ℕ) → ComeBefore spots c n → ComeBefore spots c (n + 1)
before_more spots c n before i p at cell = omega (arith, before i p at cell)

-- so no state stands there
pub none_at : (states : List State) (c : Cell) (n : ℕ) → ComeBefore (spots_of states) c n → (i : ℕ) (s : State) → slice_get states i ≡ Some s → s.spot.cell ≡ c → s.spot.place ≢ n
none_at states c n before i s at cell place =
    let below : s.spot.place < n = before i s.spot (stands_map (λ (z : State). z.spot) states i s at) cell in
    omega arith

only_unseen : (p : Spot) (k : ℕ) (s : State) → slice_get (unseen p ∷ []) k ≡ Some s → s.mark ≡ Unseen
only_unseen p zero s at = ap (λ (z : State). z.mark) (sym (same_Some (unseen p) s at))
only_unseen p (suc k) s at = absurd (none-some s at)

pub grown_by_one : (states : List State) (p : Spot) → HasGrown states (states ++ unseen p ∷ [])
grown_by_one states p = record { fresh = unseen p ∷ []; unseen = only_unseen p; grown = refl }

-- a state of a spot is added, queued at e
module _ (old new : List State) (p : Spot) (e : ℕ) (added : new ≡ old ++ queued p e ∷ []) where
  offers : set (old ++ unseen p ∷ []) (length old) (offered (unseen p) e) ≡ new
  offers = set_last old (unseen p) (queued p e) ∙ sym added

  spots_are : spots_of new ≡ spots_of old ++ p ∷ []
  spots_are = ap spots_of added ∙ map-append (λ (z : State). z.spot) old (queued p e ∷ [])

  same_spots : spots_of new ≡ spots_of (old ++ unseen p ∷ [])
  same_spots = spots_are ∙ sym (map-append (λ (z : State). z.spot) old (unseen p ∷ []))

  pub queued_spots : KeepsSpots old new
  queued_spots i r at = rw spots_are (stands_left (spots_of old) (p ∷ []) i r at)

  pub queued_improves : Improves old new
  queued_improves =
      let mid : List State = old ++ unseen p ∷ [] in
      improves-trans old mid new (grown_improves old mid (grown_by_one old p))
      (subst (λ (xs : List State). Improves mid xs) offers (offered_improves mid (length old) e (unseen p) (added_stands old (unseen p))))

  pub queued_before : (c : Cell) (n : ℕ) → ComeBefore (spots_of old) c n → p.place < n → ComeBefore (spots_of new) c n
  queued_before c n before less i r at cell =
      let here : slice_get (spots_of old ++ p ∷ []) i ≡ Some r = rw spots_are at at in
      elim (added_cases (spots_of old) p i r here) [
        | inl one ↦ before i r one cell
        | inr one ↦ (let same : p.place ≡ r.place = ap (λ (z : Spot). z.place) one.1 in omega arith)
      ]

  -- the earliest move into it was seen
  module _ (g : Terrain) (q : Request) (horizon : ℕ) (a : Assignment) (cursor x : ℕ) (from : Spot) (r : ℕ) where
    pub queued_led : IsDistance g q.goal p.cell p.left → IsUnderWay g q horizon a old cursor x → e ≡ max p.interval.from (r + 1) → IsSource g q horizon a from r p.cell
        → AreSpots g q horizon a (spots_of new) → IsEntry (a from.cell.0) (a p.cell.0) from.interval p.interval r e → IsBound g q.goal → cursor ≤ e + p.left → e + p.left ≤ horizon
        → IsUnderWay g q horizon a new cursor x × HasLedInto g q horizon a new from r p.cell p.interval
    queued_led distance way is source spots entry bound after in_time =
        let mid : List State = old ++ unseen p ∷ [] in
        let way' = grown_way g q horizon a old mid cursor x (grown_by_one old p) way in
        let spots' : AreSpots g q horizon a (spots_of mid) = subst (λ (ps : List Spot). AreSpots g q horizon a ps) same_spots spots in
        subst (λ (xs : List State). IsUnderWay g q horizon a xs cursor x × HasLedInto g q horizon a xs from r p.cell p.interval) offers
        (entered_first g q horizon a cursor x mid from r p distance way' e is source spots' (length old) (unseen p, added_stands old (unseen p), refl, refl) entry bound after in_time)
