-- The answers of a run, in the order of print, keep the lanes where their entries do.
use Rattle.std.proofs.Common.{◌≡◌, ◌≢◌, ℕ, zero, suc, ◌+◌, ◌-◌, ◌<◌, ◌≤◌, inl, inr, List, [], ◌∷◌, get_or, Option, Some, None, sym, ap, ◌∙◌, subst, arith}
use Rattle.std.specs.Prelude.{All, Contains, IfSome, slice_get}
use Rattle.std.proofs.lemmas.List.Elements.{All-nil, All-cons, All-tail, All-weaker}
use Rattle.std.proofs.lemmas.List.Sorted.{Contains-permutation, IsPermutation-sym, IsPermutation-trans}
use Rattle.std.proofs.lemmas.Option.{slice_get_within, slice_get-get_or}
use Rattle.fleet_base.specs.declared.request.RouteId.{RouteId}
use Rattle.fleet_base.specs.declared.request.Entry.{Entry}
use Rattle.fleet_base.specs.declared.request.Entry.TheVariants as E
use Rattle.fleet_base.specs.Terrain.{Terrain}
use Rattle.fleet_base.specs.History.{Past, nothing, followed_by, reply_of, era_of, IsAbove, IsAllowed, EachFollows, IsLegal}
use Rattle.fleet_base.specs.Journal.{ComesFirst, Precedes}
use Rattle.fleet_base.proofs.WalkLemmas.{nat_cases}
use Rattle.order_text.specs.declared.order.Order.{Order}
use Rattle.order_text.specs.declared.order.Order.TheVariants.{Plan, Cancel}
use Rattle.order_text.specs.declared.lane.Lane.{Lane}
use Rattle.order_text.specs.Lanes.{all_orders, after_lane, IsLane, AreNumberedFrom, AreLanes}
use Rattle.lane_runs.specs.declared.answer.Answer.{Answer}
use Rattle.lane_runs.specs.declared.answer.Answer.TheVariants.{Made, Gone}
use Rattle.lane_runs.specs.Answers.{entries_made, order_of, Fits}
use Rattle.lane_runs.specs.Runs.{IsRun, KeepsLanes}
use Rattle.lane_runs.proofs.NameLemmas.{lane_names}
use Rattle.journal_lines.specs.Printing.{AreAJournal, ArePrinted}
use Rattle.journal_lines.proofs.Numbering.{Pairs, All-at}
use Rattle.tail_run.specs.Finished.{LanesInOrder}
use Rattle.tail_run.proofs.KeepingLemmas.{Apart, same_some, found_at, has_at, get_split, order_at, apart_moved, places_apart, run_apart, lane_since, made_pairs, in_order_pairs}

-- ---- no two entries of a legal history have the same key

-- an entry after this past: its era isn't lower, and a reply's stamp is above those of its caller
record ComesAfter (p : Past) (e : Entry) : Type 0 where
  era : p.era ≤ era_of e
  above : IfSome (reply_of e) (λ id. All (IsAbove id) p.replies)

above_fewer : (old : RouteId) (replies : List RouteId) (r : Option RouteId) → IfSome r (λ id. All (IsAbove id) (old ∷ replies)) → IfSome r (λ id. All (IsAbove id) replies)
above_fewer old replies None h = h
above_fewer old replies (Some id) h = All-tail (IsAbove id) old replies h

after_more : (p : Past) (x y : Entry) → ComesAfter (followed_by p x) y → ComesAfter p y
after_more p (E.Commit id era q w) y after = record { era = after.era; above = above_fewer id p.replies (reply_of y) after.above }
after_more p (E.Cancel id era) y after = let later = after.era in record { era = omega arith; above = after.above }
after_more p (E.NoRoute stamp caller era q) y after =
    record { era = after.era; above = above_fewer record { stamp = stamp; caller = caller } p.replies (reply_of y) after.above }

module _ (g : Terrain) (horizon : ℕ) where
  after_past : (p : Past) (e : Entry) → IsAllowed g horizon p e → ComesAfter p e
  after_past p (E.Commit id era q w) may = let e = may.in_era in record { era = omega arith; above = may.new_stamp.above }
  after_past p (E.Cancel id era) may = let e = may.in_era in record { era = omega arith; above = tt }
  after_past p (E.NoRoute stamp caller era q) may = let e = may.in_era in record { era = omega arith; above = may.new_stamp.above }

  all_after : (p : Past) (es : List Entry) → EachFollows (IsAllowed g horizon) p es → All (ComesAfter p) es
  all_after p [] h = All-nil (ComesAfter p)
  all_after p (e ∷ es) h =
      All-cons (ComesAfter p) e es (after_past p e h.0) (All-weaker (ComesAfter (followed_by p e)) (ComesAfter p) (λ y. after_more p e y) es (all_after (followed_by p e) es h.1))

abbrev SameKey : Entry → Entry → Type 0
SameKey x y = (era_of x ≡ era_of y) × ComesFirst (reply_of x) (reply_of y) × ComesFirst (reply_of y) (reply_of x)

same_key : (x y : Entry) → Precedes x y → Precedes y x → SameKey x y
same_key x y (inl less) (inl more) = absurd (omega arith)
same_key x y (inl less) (inr same) = let e = same.0 in absurd (omega arith)
same_key x y (inr same) (inl less) = let e = same.0 in absurd (omega arith)
same_key x y (inr same) (inr back) = (same.0, same.1, back.1)

same_reply : (a b : RouteId) → ComesFirst (Some a) (Some b) → ComesFirst (Some b) (Some a) → (a.caller ≡ b.caller) × (a.stamp ≡ b.stamp)
same_reply a b (inl less) (inl more) = absurd (omega arith)
same_reply a b (inl less) (inr same) = let e = same.0 in absurd (omega arith)
same_reply a b (inr same) (inl less) = let e = same.0 in absurd (omega arith)
same_reply a b (inr same) (inr back) = let e = same.0 in let low = same.1 in let high = back.1 in (omega arith, e)

not_again : (old : RouteId) (replies : List RouteId) (r : Option RouteId) → IfSome r (λ id. All (IsAbove id) (old ∷ replies)) → ComesFirst (Some old) r → ComesFirst r (Some old) → ⊥
not_again old replies None above first second = second
not_again old replies (Some new) above first second =
    let same = same_reply old new first second in
    let stamp = same.1 in
    let more : old.stamp < new.stamp = above 0 old (omega arith) same.0 in
    omega arith

module _ (g : Terrain) (horizon : ℕ) where
  key_once : (p : Past) (x y : Entry) → IsAllowed g horizon p x → ComesAfter (followed_by p x) y → Precedes x y → Precedes y x → ⊥
  key_once p (E.Commit id era q w) y may after first second =
      let same = same_key (E.Commit id era q w) y first second in
      not_again id p.replies (reply_of y) after.above same.1 same.2
  key_once p (E.Cancel id era) y may after first second =
      let same = same_key (E.Cancel id era) y first second in
      let here = may.in_era in let later = after.era in let e = same.0 in omega arith
  key_once p (E.NoRoute stamp caller era q) y may after first second =
      let same = same_key (E.NoRoute stamp caller era q) y first second in
      not_again record { stamp = stamp; caller = caller } p.replies (reply_of y) after.above same.1 same.2

  keys_from : (p : Past) (es : List Entry) → EachFollows (IsAllowed g horizon) p es → Pairs (λ x y. Precedes x y → Precedes y x → ⊥) es
  keys_from p [] h = tt
  keys_from p (e ∷ es) h = (
    All-weaker (ComesAfter (followed_by p e)) (λ y. Precedes e y → Precedes y e → ⊥) (λ y. key_once p e y h.0) es (all_after g horizon (followed_by p e) es h.1),
    keys_from (followed_by p e) es h.1,
  )

  no_same_keys : (es : List Entry) → IsLegal g horizon es → Pairs (λ x y. Precedes x y → Precedes y x → ⊥) es
  no_same_keys es legal = keys_from nothing es legal

pairs_at : {X : Type 0} (R : X → X → Type 0) (xs : List X) (i j : ℕ) (x y : X) → Pairs R xs → slice_get xs i ≡ Some x → slice_get xs j ≡ Some y → i < j → R x y
pairs_at R [] i j x y pairs at there less = absurd (cc)
pairs_at R (z ∷ xs) i zero x y pairs at there less = absurd (omega arith)
pairs_at {X} R (z ∷ xs) zero (suc j) x y pairs at there less = subst (λ (a : X). R a y) (same_some z x at) (All-at (R z) xs j y pairs.0 there)
pairs_at R (z ∷ xs) (suc i) (suc j) x y pairs at there less = pairs_at R xs i j x y pairs.1 at there (omega arith)

-- of the entries at two places of a legal history not each comes first
pub keys_differ : (g : Terrain) (horizon : ℕ) (es : List Entry) → IsLegal g horizon es → (i j : ℕ) (x y : Entry) → slice_get es i ≡ Some x → slice_get es j ≡ Some y
    → i ≢ j → Precedes x y → Precedes y x → ⊥
keys_differ g horizon es legal i j x y at there apart first second = elim (nat_cases i j) [
  | inl less ↦ pairs_at (λ a b. Precedes a b → Precedes b a → ⊥) es i j x y (no_same_keys g horizon es legal) at there less first second
  | inr over ↦ elim (nat_cases j i) [
    | inl more ↦ pairs_at (λ a b. Precedes a b → Precedes b a → ⊥) es j i y x (no_same_keys g horizon es legal) there at more second first
    | inr under ↦ apart (omega arith)
  ]
]

-- ---- the first order of a lane isn't gone

order_in_lane : (base : ℕ) (lanes : List Lane) (i p n : ℕ) (lane : Lane) (o : Order) → AreNumberedFrom base lanes → slice_get lanes p ≡ Some lane → slice_get (all_orders lanes) i ≡ Some o
    → n ≡ base + i → lane.first ≤ n → n < after_lane lane → slice_get lane.orders (n - lane.first) ≡ Some o
order_in_lane base [] i p n lane o numbered at here number low high = absurd (cc)
order_in_lane base (l ∷ ls) i zero n lane o numbered at here number low high =
    let first = numbered.0 in
    let same = same_some l lane at in
    let place : i ≡ n - lane.first = omega (arith, ap (λ (z : Lane). z.first) same) in
    elim (get_split l.orders (all_orders ls) i o here) [
      | inl mine ↦ subst (λ (z : Lane × ℕ). slice_get z.0.orders z.1 ≡ Some o) (λ k. (same k, place k)) mine
      | inr later ↦ let e = later.1 in absurd (omega (arith, ap after_lane same, ap (λ (z : Lane). z.first) same))
    ]
order_in_lane base (l ∷ ls) i (suc p) n lane o numbered at here number low high =
    let first = numbered.0 in
    elim (get_split l.orders (all_orders ls) i o here) [
      | inl mine ↦ absurd (omega (arith, lane_since (after_lane l) ls p lane numbered.1 at, slice_get_within l.orders i o mine))
      | inr later ↦ let e = later.1 in order_in_lane (after_lane l) ls later.0 p n lane o numbered.1 at later.2 (omega arith) low high
    ]

module _ (cells : ℕ) (lanes : List Lane) (all : List Answer) (are : AreLanes cells lanes) (run : IsRun lanes all) where
  gone_late : (p n target : ℕ) (lane : Lane) → slice_get lanes p ≡ Some lane → lane.first ≤ n → n < after_lane lane → Contains all (Gone n target) → lane.first < n
  gone_late p n target lane at low high has =
      let f = found_at run.by_number (Gone n target) (Contains-permutation all run.by_number (Gone n target) (IsPermutation-sym run.by_number all run.same) has) in
      let o = order_at 0 (all_orders lanes) run.by_number f.0 (Gone n target) run.right f.1 in
      by_order o.0 (order_in_lane 0 lanes f.0 p n lane o.0 are.numbered at o.1 o.3 low high) (run.right.fits f.0 o.0 (Gone n target) o.1 f.1).1
    where
      by_order : (o : Order) → slice_get lane.orders (n - lane.first) ≡ Some o → Fits 0 run.by_number o (Gone n target) → lane.first < n
      by_order (Plan q) there fits = absurd fits
      by_order (Cancel t) there fits =
          let named = (lane_names cells lane (All-at (IsLane cells) lanes p lane are.each at)).plan (n - lane.first) t there in
          let less = named.1 in
          omega arith

-- ---- cancels that are gone, back to an entry

-- The answer at place k, to order n, and those before it back to one with an entry: they answer the orders one by one.
record IsChain (printed : List Answer) (lane : Lane) (k n : ℕ) : Type 0 where
  back : ℕ
  place : ℕ
  order : ℕ
  entry : Entry
  at : slice_get printed place ≡ Some (Made order entry)
  begun : lane.first ≤ order
  ends : k ≡ place + back
  number : n ≡ order + back
  along : (t : ℕ) → t ≤ back → (a : Answer) × (slice_get printed (place + t) ≡ Some a) × (order_of a ≡ order + t)

module _ (cells : ℕ) (lanes : List Lane) (all printed : List Answer) (are : AreLanes cells lanes) (run : IsRun lanes all) (order : ArePrinted all printed) where
  in_all : (k : ℕ) (a : Answer) → slice_get printed k ≡ Some a → Contains all a
  in_all k a at = Contains-permutation printed all a (IsPermutation-sym all printed order.same) (has_at printed k a at)

  chain : (p k : ℕ) (lane : Lane) (a : Answer) → slice_get lanes p ≡ Some lane → slice_get printed k ≡ Some a → lane.first ≤ order_of a → order_of a < after_lane lane
      → IsChain printed lane k (order_of a)
  chain p k lane (Made n e) here at low high = record {
    back = 0;
    place = k;
    order = n;
    entry = e;
    at = at;
    begun = low;
    ends = omega arith;
    number = omega arith;
    along = λ t none. (Made n e, ap (slice_get printed) (omega arith) ∙ at, omega arith);
  }
  chain p zero lane (Gone n target) here at low high = let b = order.gone 0 n target at in let e = b.next in absurd (omega arith)
  chain p (suc k) lane (Gone n target) here at low high =
      let b = order.gone (suc k) n target at in
      let next = b.next in
      let number = b.order in
      let late = gone_late cells lanes all are run p n target lane here low high (in_all (suc k) (Gone n target) at) in
      let place : b.place ≡ k = omega arith in
      let c = chain p k lane b.before here (subst (λ (m : ℕ). slice_get printed m ≡ Some b.before) place b.at) (omega arith) (omega arith) in
      let ends = c.ends in
      let first = c.number in
      record {
        back = c.back + 1;
        place = c.place;
        order = c.order;
        entry = c.entry;
        at = c.at;
        begun = c.begun;
        ends = omega arith;
        number = omega arith;
        along = λ t within. elim (nat_cases c.back t) [
          | inl past ↦ (Gone n target, ap (slice_get printed) (omega arith) ∙ at, omega arith)
          | inr on ↦ c.along t on
        ];
      }

  apart : Apart printed
  apart = apart_moved all printed order.same (run_apart lanes all run)

  module _ (g : Terrain) (horizon : ℕ) (legal : IsLegal g horizon (entries_made printed)) (in_lanes : LanesInOrder lanes all) where
    -- of two chains of one lane that of the earlier orders is printed first
    chains : (p i j m n : ℕ) (lane : Lane) → slice_get lanes p ≡ Some lane → m < after_lane lane → n < after_lane lane → IsChain printed lane i m → IsChain printed lane j n → i < j → n < m → ⊥
    chains p i j m n lane here within within' c d less back =
        let ci = c.ends in
        let dj = d.ends in
        let cm = c.number in
        let dn = d.number in
        -- else order n would be answered within the first chain
        let lower : d.order < c.order = elim (nat_cases n c.order) [
          | inl under ↦ omega arith
          | inr over ↦
              let met = c.along (n - c.order) (omega arith) in
              let last = d.along d.back (omega arith) in
              let e = met.2 in
              let f = last.2 in
              let place = places_apart printed (c.place + (n - c.order)) (d.place + d.back) met.0 last.0 apart met.1 last.1 (omega arith) in
              absurd (omega arith)
        ] in
        -- else place i would be within the second
        let before : c.place < d.place = elim (nat_cases i d.place) [
          | inl under ↦ omega arith
          | inr over ↦
              let met = d.along (i - d.place) (omega arith) in
              let last = c.along c.back (omega arith) in
              let e = met.2 in
              let f = last.2 in
              let same : met.0 ≡ last.0 = same_some met.0 last.0 (sym met.1 ∙ (ap (slice_get printed) (omega arith) ∙ last.1)) in
              absurd (omega (arith, ap order_of same))
        ] in
        made_pairs (λ x y. Precedes x y → Precedes y x → ⊥) printed c.place d.place c.order d.order c.entry d.entry (no_same_keys g horizon (entries_made printed) legal) c.at d.at before
        (made_pairs Precedes printed c.place d.place c.order d.order c.entry d.entry (in_order_pairs (entries_made printed) order.in_order) c.at d.at before)
        (in_lanes d.order c.order d.entry c.entry record { place = p; lane = lane; at = here; first = (d.begun, omega arith); second = (c.begun, omega arith) } lower
        (in_all d.place (Made d.order d.entry) d.at) (in_all c.place (Made c.order c.entry) c.at))

    lanes_kept : KeepsLanes lanes printed
    lanes_kept i j d less within one =
        let at = slice_get-get_or printed i d (omega arith) in
        let there = slice_get-get_or printed j d within in
        elim (nat_cases (order_of (get_or printed i d)) (order_of (get_or printed j d))) [
          | inl before ↦ before
          | inr over ↦ absurd (elim (nat_cases (order_of (get_or printed j d)) (order_of (get_or printed i d))) [
            | inl back ↦
                chains one.place i j (order_of (get_or printed i d)) (order_of (get_or printed j d)) one.lane one.at one.first.1 one.second.1
                (chain one.place i one.lane (get_or printed i d) one.at at one.first.0 one.first.1) (chain one.place j one.lane (get_or printed j d) one.at there one.second.0 one.second.1) less back
            | inr under ↦ omega (arith, places_apart printed i j (get_or printed i d) (get_or printed j d) apart at there (omega arith))
          ])
        ]

-- A run whose entries keep the lanes in the order of the journal keeps the lanes in the order of print.
pub keeps : (g : Terrain) (horizon cells : ℕ) (lanes : List Lane) (all printed : List Answer) → AreLanes cells lanes → IsRun lanes all → IsLegal g horizon (entries_made printed)
    → LanesInOrder lanes all → ArePrinted all printed → KeepsLanes lanes printed
keeps g horizon cells lanes all printed are run legal in_lanes order = lanes_kept cells lanes all printed are run order g horizon legal in_lanes

-- So it is a journal.
pub journal_of : (g : Terrain) (horizon cells : ℕ) (lanes : List Lane) (all printed : List Answer) → AreLanes cells lanes → IsRun lanes all → IsLegal g horizon (entries_made printed)
    → LanesInOrder lanes all → ArePrinted all printed → AreAJournal g horizon lanes printed
journal_of g horizon cells lanes all printed are run legal in_lanes order = record {
  run = record { by_number = run.by_number; right = run.right; whole = run.whole; same = IsPermutation-trans run.by_number all printed run.same order.same };
  legal = legal;
  in_order = order.in_order;
  keeps = keeps g horizon cells lanes all printed are run legal in_lanes order;
  gone = order.gone;
}
