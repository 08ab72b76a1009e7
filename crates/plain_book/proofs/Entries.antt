-- The map of walks by their ids, as a list of live routes.
use Rattle.std.proofs.Common.{◌≡◌, ◌≢◌, ℕ, inl, inr, Bool, true, false, List, [], ◌∷◌, Some, None, refl, sym, ap, ◌∙◌, subst, cond, not}
use Rattle.std.specs.Prelude.{All, filter, ◌||◌, IsPermutation, is_some}
use Rattle.std.specs.declared.cmp.Ordering.{Ordering}
use Rattle.std.specs.declared.cmp.Ordering.TheVariants.{Less, Equal, Greater}
use Rattle.std.specs.Ordering.{ordering_then, nat_cmp, is_eq, match_ordering}
use Rattle.std.specs.Cmp.{unsigned_tied}
use Rattle.std.proofs.lemmas.Bool.{eq-eqb, eqb-true}
use Rattle.std.specs.List.{list_any}
use Rattle.std.specs.List.Sorted.{IsStrictlySortedBy}
use Rattle.std.specs.Map.{keys_of, lookup, remove_entry}
use Rattle.std.specs.BTreeMap.{insert_entry, is_at}
use Rattle.std.proofs.lemmas.Map.Keys.{sorted_head, sorted_tail}
use Rattle.std.proofs.lemmas.List.Elements.{All-from_recursion, All-head, All-tail}
use Rattle.fleet_base.specs.declared.request.RouteId.{RouteId}
use Rattle.fleet_base.specs.declared.request.Live.{Live}
use Rattle.fleet_base.specs.TimedWalk.{TimedWalk}
use Rattle.fleet_base.specs.History.{same_id, IsLive}
use Rattle.fleet_base.specs.Order.{IsAmong}
use Rattle.fleet_base.proofs.Reorder.{Reorder, keep, turn, both, Reorder-refl, Reorder-is_permutation}
use Rattle.plain_book.specs.Kept.{live_of, routes_of, id_cmp}
use Rattle.plain_book.proofs.Members.{among_all, other_id, same_ids, same_id-from, same_id-true, id_cases}
use Rattle.plain_book.proofs.KeptTraffic.{HasEachOnce}

-- two numbers in order
equal_if : (o : Ordering) → is_eq o ≡ true → o ≡ Equal
equal_if Less h = absurd (cc)
equal_if Equal h = refl
equal_if Greater h = absurd (cc)

number_equal : (a b : ℕ) → nat_cmp a b ≡ Equal → a ≡ b
number_equal a b h = eqb-true a b (sym (unsigned_tied a b) ∙ ap is_eq h)

number_same : (a : ℕ) → nat_cmp a a ≡ Equal
number_same a = equal_if (nat_cmp a a) (unsigned_tied a a ∙ eq-eqb a a refl)

then_equal : (first second : Ordering) → ordering_then first second ≡ Equal → (first ≡ Equal) × (second ≡ Equal)
then_equal Less second h = absurd (cc)
then_equal Equal second h = (refl, h)
then_equal Greater second h = absurd (cc)

pub ids_equal : (a b : RouteId) → id_cmp a b ≡ Equal → a ≡ b
ids_equal a b h =
    let parts = then_equal (nat_cmp a.stamp b.stamp) (nat_cmp a.caller b.caller) h in
    same_ids a b (number_equal a.stamp b.stamp parts.0) (number_equal a.caller b.caller parts.1)

pub id_same : (a : RouteId) → id_cmp a a ≡ Equal
id_same a = ap (λ (o : Ordering). ordering_then o (nat_cmp a.caller a.caller)) (number_same a.stamp) ∙ number_same a.caller

-- the map's test of a key
pub at_is_same : (id key : RouteId) → is_at (id_cmp id) key ≡ same_id key id
at_is_same id key = elim (id_cases key id) [
  | inl same ↦ ap is_eq (subst (λ (k : RouteId). id_cmp id k ≡ Equal) (sym same) (id_same id)) ∙ sym (same_id-from key id same)
  | inr differ ↦ not_equal differ (id_cmp id key) refl ∙ sym (not_same differ (same_id key id) refl)
]
  where
    not_equal : key ≢ id → (o : Ordering) → id_cmp id key ≡ o → is_eq o ≡ false
    not_equal differ Less e = refl
    not_equal differ Equal e = absurd (differ (sym (ids_equal id key e)))
    not_equal differ Greater e = refl

    not_same : key ≢ id → (b : Bool) → same_id key id ≡ b → b ≡ false
    not_same differ true e = absurd (differ (same_id-true key id e))
    not_same differ false e = refl

-- ids in order are each there once
key_of_route : (m : Live) (es : List (RouteId × TimedWalk)) → IsAmong m (routes_of es) → IsAmong m.id (keys_of es)
key_of_route m [] h = absurd h
key_of_route m (e ∷ es) (inl same) = inl (ap (λ (r : Live). r.id) same)
key_of_route m (e ∷ es) (inr later) = inr (key_of_route m es later)

later_differs : (e : RouteId × TimedWalk) (es : List (RouteId × TimedWalk)) → IsStrictlySortedBy id_cmp (keys_of (e ∷ es)) → (m : Live) → IsAmong m (routes_of es) → m.id ≢ e.0
later_differs e es ordered m h same =
    let less : id_cmp e.0 m.id ≡ Less =
    among_all (λ (k : RouteId). id_cmp e.0 k ≡ Less) m.id (keys_of es) (All-from_recursion (λ (k : RouteId). id_cmp e.0 k ≡ Less) (keys_of es) (sorted_head id_cmp e.0 (keys_of es) ordered)) (key_of_route m es h) in
    let equal : id_cmp e.0 m.id ≡ Equal = subst (λ (k : RouteId). id_cmp e.0 k ≡ Equal) (sym same) (id_same e.0) in
    cc

pub each_once : (es : List (RouteId × TimedWalk)) → IsStrictlySortedBy id_cmp (keys_of es) → HasEachOnce (routes_of es)
each_once es ordered = record { once = go es ordered }
  where
    go : (es : List (RouteId × TimedWalk)) → IsStrictlySortedBy id_cmp (keys_of es) → (l m : Live) → IsAmong l (routes_of es) → IsAmong m (routes_of es) → l.id ≡ m.id → l ≡ m
    go [] ordered l m h k same = absurd h
    go (e ∷ es) ordered l m (inl first) (inl second) same = sym first ∙ second
    go (e ∷ es) ordered l m (inl first) (inr later) same =
        absurd (later_differs e es ordered m later (sym same ∙ ap (λ (r : Live). r.id) (sym first)))
    go (e ∷ es) ordered l m (inr later) (inl second) same =
        absurd (later_differs e es ordered l later (same ∙ ap (λ (r : Live). r.id) (sym second)))
    go (e ∷ es) ordered l m (inr h) (inr k) same = go es (sorted_tail id_cmp e.0 (keys_of es) ordered) l m h k same

-- a new id: the map's list has one route more
pub insert_permutes : (es : List (RouteId × TimedWalk)) (id : RouteId) (w : TimedWalk) → All (λ (r : Live). r.id ≢ id) (routes_of es)
    → IsPermutation (routes_of (insert_entry id_cmp es id w)) (live_of (id, w) ∷ routes_of es)
insert_permutes es id w others = Reorder-is_permutation (go es others)
  where
    go : (es : List (RouteId × TimedWalk)) → All (λ (r : Live). r.id ≢ id) (routes_of es) → Reorder (routes_of (insert_entry id_cmp es id w)) (live_of (id, w) ∷ routes_of es)
    go [] others = Reorder-refl (live_of (id, w) ∷ [])
    go (e ∷ es) others =
        at (All-head (λ (r : Live). r.id ≢ id) (live_of e) (routes_of es) others) (go es (All-tail (λ (r : Live). r.id ≢ id) (live_of e) (routes_of es) others)) (id_cmp id e.0) refl
      where
        at : e.0 ≢ id → Reorder (routes_of (insert_entry id_cmp es id w)) (live_of (id, w) ∷ routes_of es) → (o : Ordering) → id_cmp id e.0 ≡ o
            → Reorder (routes_of (match_ordering o ((id, w) ∷ e ∷ es) ((e.0, w) ∷ es) (e ∷ insert_entry id_cmp es id w))) (live_of (id, w) ∷ live_of e ∷ routes_of es)
        at differ rest Less is = Reorder-refl (live_of (id, w) ∷ live_of e ∷ routes_of es)
        at differ rest Equal is = absurd (differ (sym (ids_equal id e.0 is)))
        at differ rest Greater is = both (keep rest) turn

-- the route of an id
pub route_at : (id : RouteId) (w : TimedWalk) (es : List (RouteId × TimedWalk)) → lookup (is_at (id_cmp id)) es ≡ Some w → IsAmong (live_of (id, w)) (routes_of es)
route_at id w [] h = absurd (cc)
route_at id w (e ∷ es) h = at (λ found. route_at id w es found) (is_at (id_cmp id) e.0) refl h
  where
    at : (lookup (is_at (id_cmp id)) es ≡ Some w → IsAmong (live_of (id, w)) (routes_of es)) → (b : Bool) → is_at (id_cmp id) e.0 ≡ b → cond b (Some e.1) (lookup (is_at (id_cmp id)) es) ≡ Some w → IsAmong (live_of (id, w)) (live_of e ∷ routes_of es)
    at later true is found =
        let key : e.0 ≡ id = same_id-true e.0 id (sym (at_is_same id e.0) ∙ is) in
        let walk : e.1 ≡ w = cc in
        inl (ap (λ (k : RouteId). live_of (k, e.1)) key ∙ ap (λ (v : TimedWalk). live_of (id, v)) walk)
    at later false is found = inr (later found)

-- whether an id is live
pub live_at : (id : RouteId) (es : List (RouteId × TimedWalk)) → is_some (lookup (is_at (id_cmp id)) es) ≡ list_any (λ r. same_id r.id id) (routes_of es)
live_at id [] = refl
live_at id (e ∷ es) = at (is_at (id_cmp id) e.0) (at_is_same id e.0) (live_at id es)
  where
    at : (b : Bool) → b ≡ same_id e.0 id → is_some (lookup (is_at (id_cmp id)) es) ≡ list_any (λ r. same_id r.id id) (routes_of es)
        → is_some (cond b (Some e.1) (lookup (is_at (id_cmp id)) es)) ≡ (same_id e.0 id || list_any (λ r. same_id r.id id) (routes_of es))
    at true is rest = ap (λ (b : Bool). b || list_any (λ r. same_id r.id id) (routes_of es)) is
    at false is rest = rest ∙ ap (λ (b : Bool). b || list_any (λ r. same_id r.id id) (routes_of es)) is

-- an id taken out of the map
pub remove_filters : (id : RouteId) (es : List (RouteId × TimedWalk)) → IsStrictlySortedBy id_cmp (keys_of es)
    → routes_of (remove_entry (is_at (id_cmp id)) es) ≡ filter (λ r. not (same_id r.id id)) (routes_of es)
remove_filters id [] ordered = refl
remove_filters id (e ∷ es) ordered =
    at (is_at (id_cmp id) e.0) (at_is_same id e.0) (remove_filters id es (sorted_tail id_cmp e.0 (keys_of es) ordered))
  where
    keeps : (rs : List Live) → ((m : Live) → IsAmong m rs → m.id ≢ id) → filter (λ r. not (same_id r.id id)) rs ≡ rs
    keeps [] differ = refl
    keeps (r ∷ rs) differ =
        ap (λ (b : Bool). cond b (r ∷ filter (λ r. not (same_id r.id id)) rs) (filter (λ r. not (same_id r.id id)) rs)) (other_id r.id id (differ r (inl refl)))
        ∙ ap (λ (l : List Live). r ∷ l) (keeps rs (λ m h. differ m (inr h)))

    at : (b : Bool) → b ≡ same_id e.0 id → routes_of (remove_entry (is_at (id_cmp id)) es) ≡ filter (λ r. not (same_id r.id id)) (routes_of es)
        → routes_of (cond b es (e ∷ remove_entry (is_at (id_cmp id)) es))
        ≡ cond (not (same_id e.0 id)) (live_of e ∷ filter (λ r. not (same_id r.id id)) (routes_of es)) (filter (λ r. not (same_id r.id id)) (routes_of es))
    at true is rest =
        let key : e.0 ≡ id = same_id-true e.0 id (sym is) in
        sym (keeps (routes_of es) (λ m h same. later_differs e es ordered m h (same ∙ sym key)))
        ∙ ap (λ (b : Bool). cond (not b) (live_of e ∷ filter (λ r. not (same_id r.id id)) (routes_of es)) (filter (λ r. not (same_id r.id id)) (routes_of es))) is
    at false is rest =
        ap (λ (l : List Live). live_of e ∷ l) rest
        ∙ ap (λ (b : Bool). cond (not b) (live_of e ∷ filter (λ r. not (same_id r.id id)) (routes_of es)) (filter (λ r. not (same_id r.id id)) (routes_of es))) is

pub none_live : (id : RouteId) (es : List (RouteId × TimedWalk)) → None ≡ lookup (is_at (id_cmp id)) es → ¬ (IsLive id (routes_of es))
none_live id es found live =
    let nothing : is_some (lookup (is_at (id_cmp id)) es) ≡ false = ap is_some (sym found) in
    let some : is_some (lookup (is_at (id_cmp id)) es) ≡ true = live_at id es ∙ live in
    cc

pub some_live : (id : RouteId) (w : TimedWalk) (es : List (RouteId × TimedWalk)) → Some w ≡ lookup (is_at (id_cmp id)) es → IsLive id (routes_of es)
some_live id w es found = sym (live_at id es) ∙ ap is_some (sym found)
