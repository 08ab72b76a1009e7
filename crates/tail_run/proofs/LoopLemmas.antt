-- What one answer more changes, in the words of the loops over the answers.
use Rattle.std.proofs.Common.{◌≡◌, ℕ, ◌+◌, ◌||◌, Bool, true, false, cond, List, [], ◌∷◌, ◌++◌, length, take, Option, Some, None}
use Rattle.std.proofs.Common.{refl, sym, ap, ap₂, subst, ◌∙◌, arith, not, append-nil}
use Rattle.std.specs.Prelude.{filter, slice_get, is_some, if◌then◌else◌}
use Rattle.std.specs.List.{list_any, filter_map, cons_option}
use Rattle.std.specs.BTreeMap.{is_at}
use Rattle.std.proofs.lemmas.List.Elements.{filter_map-append}
use Rattle.std.proofs.lemmas.List.Folds.{list_any-append}
use Rattle.fleet_base.specs.declared.request.RouteId.{RouteId}
use Rattle.fleet_base.specs.declared.request.Request.{Request}
use Rattle.fleet_base.specs.declared.request.Live.{Live}
use Rattle.fleet_base.specs.declared.request.Entry.{Entry}
use Rattle.fleet_base.specs.declared.request.Entry.TheVariants as E
use Rattle.fleet_base.specs.History.{same_id}
use Rattle.fleet_base.specs.TimedWalk.{TimedWalk}
use Rattle.plain_book.specs.Kept.{id_cmp}
use Rattle.plain_book.proofs.Entries.{at_is_same}
use Rattle.lane_runs.specs.declared.answer.Answer.{Answer}
use Rattle.lane_runs.specs.declared.answer.Answer.TheVariants.{Made, Gone}
use Rattle.tail_run.specs.Leaving.{ended_in, routes_in, ended_ids, ended_count, HasIds, route_unless}
use Rattle.tail_run.proofs.LeavingLemmas.{count_more, ended_more, take_push}

-- ---- the set's test of a key

any_alike : (p q : RouteId → Bool) → ((key : RouteId) → p key ≡ q key) → (keys : List RouteId) → list_any p keys ≡ list_any q keys
any_alike p q alike [] = refl
any_alike p q alike (key ∷ keys) = ap₂ (λ a b. a || b) (alike key) (any_alike p q alike keys)

pub set_has : (keys : List RouteId) (id : RouteId) → list_any (is_at (id_cmp id)) keys ≡ list_any (λ key. same_id key id) keys
set_has keys id = any_alike (is_at (id_cmp id)) (λ key. same_id key id) (at_is_same id) keys

-- ---- one answer more

length_some : (o : Option RouteId) → is_some o ≡ true → length (cons_option o []) ≡ 1
length_some (Some id) h = refl
length_some None h = absurd (cc)

length_none : (o : Option RouteId) → is_some o ≡ false → length (cons_option o []) ≡ 0
length_none (Some id) h = absurd (cc)
length_none None h = refl

-- an id more in the set
id_more : (keys more ids : List RouteId) (id : RouteId) → HasIds keys ids
    → ((q : RouteId) → list_any (is_at (id_cmp q)) more ≡ cond (is_at (id_cmp id) q) true (list_any (is_at (id_cmp q)) keys)) → HasIds more (ids ++ id ∷ [])
id_more keys more ids id has updates q =
    sym (set_has more q) ∙ updates q ∙ ap₂ (λ t a. cond t true a) (at_is_same id q) (set_has keys q ∙ has q)
    ∙ by_test (same_id q id) (list_any (λ e. same_id q e) ids) ∙ sym (list_any-append (λ e. same_id q e) ids (id ∷ []))
  where
    by_test : (t a : Bool) → cond t true a ≡ (a || (t || false))
    by_test true true = refl
    by_test true false = refl
    by_test false true = refl
    by_test false false = refl

module _ (answers : List Answer) (k : ℕ) (a : Answer) (at : slice_get answers k ≡ Some a) where
  pub counted : (n : ℕ) → n ≡ ended_count (take k answers) → is_some (ended_in a) ≡ true → n + 1 ≡ ended_count (take (k + 1) answers)
  counted n so_far some = ap₂ (λ m d. m + d) so_far (sym (length_some (ended_in a) some)) ∙ sym (count_more answers k a at)

  pub not_counted : (n : ℕ) → n ≡ ended_count (take k answers) → is_some (ended_in a) ≡ false → n ≡ ended_count (take (k + 1) answers)
  not_counted n so_far none =
      let same : n ≡ n + 0 = omega arith in
      same ∙ ap₂ (λ m d. m + d) so_far (sym (length_none (ended_in a) none)) ∙ sym (count_more answers k a at)

  pub ended_some : (keys more : List RouteId) (id : RouteId) → HasIds keys (ended_ids (take k answers)) → ended_in a ≡ Some id
      → ((q : RouteId) → list_any (is_at (id_cmp q)) more ≡ cond (is_at (id_cmp id) q) true (list_any (is_at (id_cmp q)) keys))
      → HasIds more (ended_ids (take (k + 1) answers))
  ended_some keys more id has some updates =
      let next : ended_ids (take (k + 1) answers) ≡ ended_ids (take k answers) ++ id ∷ [] = ended_more answers k a at ∙ ap (λ o. ended_ids (take k answers) ++ cons_option o []) some in
      subst (HasIds more) (sym next) (id_more keys more (ended_ids (take k answers)) id has updates)

  pub ended_none : (keys : List RouteId) → HasIds keys (ended_ids (take k answers)) → ended_in a ≡ None → HasIds keys (ended_ids (take (k + 1) answers))
  ended_none keys has none =
      let next : ended_ids (take (k + 1) answers) ≡ ended_ids (take k answers) =
      ended_more answers k a at ∙ ap (λ o. ended_ids (take k answers) ++ cons_option o []) none ∙ append-nil (ended_ids (take k answers)) in
      subst (HasIds keys) (sym next) has

  module _ (keys : List RouteId) (routes : List Live) (so_far : routes ≡ filter_map (route_unless keys) (take k answers)) where
    live_more : (o : Option Live) → route_unless keys a ≡ o → routes ++ cons_option o [] ≡ filter_map (route_unless keys) (take (k + 1) answers)
    live_more o is =
        ap₂ (λ rs r. rs ++ cons_option r []) so_far (sym is)
        ∙ sym (ap (filter_map (route_unless keys)) (take_push answers k a at) ∙ filter_map-append (route_unless keys) (take k answers) (a ∷ []))

    pub live_some : (r : Live) → route_unless keys a ≡ Some r → routes ++ r ∷ [] ≡ filter_map (route_unless keys) (take (k + 1) answers)
    live_some r is = live_more (Some r) is

    pub live_none : route_unless keys a ≡ None → routes ≡ filter_map (route_unless keys) (take (k + 1) answers)
    live_none is = sym (append-nil routes) ∙ live_more None is

-- ---- a route that the set has, or has not

module _ (keys : List RouteId) (answer : Answer) (order : ℕ) (entry : Entry) (id : RouteId) (era : ℕ) (q : Request) (w : TimedWalk)
    (made : answer ≡ Made order entry) (committed : entry ≡ E.Commit id era q w) where
  tested : (t : Bool) → t ≡ list_any (is_at (id_cmp id)) keys → route_unless keys answer ≡ (if t then None else Some (record { id = id; walk = w }))
  tested t h =
      ap (route_unless keys) (made ∙ ap (λ e. Made order e) committed)
      ∙ ap (λ b. if b then None else Some (record { id = id; walk = w })) (sym (h ∙ set_has keys id))

  pub was_ended : true ≡ list_any (is_at (id_cmp id)) keys → None ≡ route_unless keys answer
  was_ended h = sym (tested true h)

  pub is_live : (copy : TimedWalk) → copy ≡ w → false ≡ list_any (is_at (id_cmp id)) keys → Some (record { id = id; walk = copy }) ≡ route_unless keys answer
  is_live copy same h = ap (λ v. Some (record { id = id; walk = v })) same ∙ sym (tested false h)

-- the routes that no key of a set of the ended ids has are those that are live after the answers
pub live_is_rest : (keys ends : List RouteId) → HasIds keys ends → (xs : List Answer)
    → filter_map (route_unless keys) xs ≡ filter (λ r. not (list_any (λ id. same_id r.id id) ends)) (routes_in xs)
live_is_rest keys ends has [] = refl
live_is_rest keys ends has (Made n (E.Commit id era q w) ∷ xs) = by_test _ _ (has id) (live_is_rest keys ends has xs)
  where
    rest : List Live
    rest = filter (λ r. not (list_any (λ e. same_id r.id e) ends)) (routes_in xs)

    by_test : (s t : Bool) → s ≡ t → filter_map (route_unless keys) xs ≡ rest
        → cons_option (if s then None else Some (record { id = id; walk = w })) (filter_map (route_unless keys) xs) ≡ cond (not t) (record { id = id; walk = w } ∷ rest) rest
    by_test true true e h = h
    by_test true false e h = absurd (cc)
    by_test false true e h = absurd (cc)
    by_test false false e h = ap (λ (l : List Live). record { id = id; walk = w } ∷ l) h
live_is_rest keys ends has (Made n (E.Cancel id era) ∷ xs) = live_is_rest keys ends has xs
live_is_rest keys ends has (Made n (E.NoRoute stamp caller era q) ∷ xs) = live_is_rest keys ends has xs
live_is_rest keys ends has (Gone n t ∷ xs) = live_is_rest keys ends has xs
