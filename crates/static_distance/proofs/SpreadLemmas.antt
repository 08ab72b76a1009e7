-- Spreading: what each step of the flood keeps, and that the moves that are counted are the distances.
use Rattle.std.proofs.Common.{◌≡◌, ℕ, suc, ◌+◌, ◌<◌, ◌≤◌, inl, inr, List, Some, refl, sym, subst, ◌∙◌, arith}
use Rattle.std.specs.Prelude.{slice_get}
use Rattle.std.proofs.lemmas.Bool.{cases_lt}
use Rattle.std.proofs.lemmas.Option.{same_Some}
use Rattle.fleet_base.specs.declared.grid.Cell.{Cell}
use Rattle.fleet_base.specs.declared.grid.Side.{Side}
use Rattle.fleet_base.specs.Terrain.{Terrain, IsOpen, IsBeside}
use Rattle.static_distance.specs.declared.place.Place.{Place}
use Rattle.static_distance.specs.Distance.{IsWay, there, move, IsDistance}
use Rattle.static_distance.specs.Levels.{apart, IsCounted}
use Rattle.static_distance.specs.Spreading.{Flood, IsKnown, HasLed, WaitsWell, IsFlood, HasSpread}
use Rattle.static_distance.proofs.Ways.{beside_back}
use Rattle.static_distance.proofs.Places.{low_apart}

-- a mark counts one number of moves
counted_once : (marks : List ℕ) (c : Cell) (j k : ℕ) → IsCounted marks c j → IsCounted marks c k → j ≡ k
counted_once marks c j k one two = let same : suc j ≡ suc k = same_Some (suc j) (suc k) (sym one ∙ two) in omega arith

module _ (g : Terrain) where
  -- from a way to a cell beside it
  pub way_on : {goal c n : Cell} {k : ℕ} (side : Side) → IsWay g goal c k → IsBeside g side c n → IsOpen g n → IsWay g goal n (k + 1)
  way_on {goal} {c} {n} side way beside opened = let back = beside_back g side c n beside in move back.0 opened back.1 way

  -- a step to an open cell that is one closer stays on the level
  pub flow_well : (f : Flood) (c n : Cell) (side : Side) → WaitsWell g f f.level c → IsBeside g side c n → IsOpen g n
      → apart g f.toward n + 1 ≡ apart g f.toward c → WaitsWell g f f.level n
  flow_well f c n side (k, on_level, way) beside opened closer = (k + 1, omega arith, way_on side way beside opened)

  -- a step to an open cell that is one farther leads to the level after the next
  pub away_well : (f : Flood) (c n : Cell) (side : Side) → WaitsWell g f f.level c → IsBeside g side c n → IsOpen g n
      → apart g f.toward n ≡ apart g f.toward c + 1 → WaitsWell g f (f.level + 2) n
  away_well f c n side (k, on_level, way) beside opened farther = (k + 1, omega arith, way_on side way beside opened)

  -- a flood stays one where its parts are written as what they are equal to
  same_parts : (f : Flood) (goal : Cell) (toward : Place) (level : ℕ) (marks : List ℕ)
      → f.goal ≡ goal → f.toward ≡ toward → f.level ≡ level → f.marks ≡ marks
      → IsFlood g (record f { goal = goal; toward = toward; level = level; marks = marks }) → IsFlood g f
  same_parts f goal toward level marks same_goal same_toward same_level same_marks is =
      subst (λ (z : Cell). IsFlood g (record f { goal = z })) (sym same_goal)
      (subst (λ (z : Place). IsFlood g (record f { goal = goal; toward = z })) (sym same_toward)
      (subst (λ (z : ℕ). IsFlood g (record f { goal = goal; toward = toward; level = z })) (sym same_level)
      (subst (λ (z : List ℕ). IsFlood g (record f { goal = goal; toward = toward; level = level; marks = z })) (sym same_marks) is)))

  -- The cells of `batch` are counted.
  module _ (batch : Cell → Type 0) (old new : Flood) (is : IsFlood g old) (has : HasSpread g batch old new) where
    abbrev spread_to : Flood
    spread_to = record new { goal = old.goal; toward = old.toward; level = old.level }

    spread_low : (c : Cell) (k : ℕ) → IsCounted new.marks c k → k + apart g old.toward c ≤ old.level
    spread_low c k counted = elim (has.only c k counted) [
      | inl (chosen, on_level) ↦ omega arith
      | inr before ↦ is.low c k before
    ]

    spread_sound : (c : Cell) (k : ℕ) → IsCounted new.marks c k → IsWay g old.goal c k
    spread_sound c k counted = elim (has.only c k counted) [
      | inl (chosen, on_level) ↦ let well = has.batch_well c chosen in subst (λ (i : ℕ). IsWay g old.goal c i) (omega (arith, well.1)) well.2
      | inr before ↦ is.sound c k before
    ]

    -- what was known is still known
    spread_kept : (c : Cell) (j : ℕ) → IsKnown g old c j → IsKnown g spread_to c j
    spread_kept c j (k, most, inl counted) = (k, most, inl (has.still c k counted))
    spread_kept c j (k, most, inr (inl (waits, on_level))) = elim (has.here_kept c waits) [
      | inl still_there ↦ (k, most, inr (inl (still_there, on_level)))
      | inr (i, counted) ↦ (i, omega (arith, spread_low c i counted), inl counted)
    ]
    spread_kept c j (k, most, inr (inr (waits, on_level))) = elim (has.next_kept c waits) [
      | inl still_there ↦ (k, most, inr (inr (still_there, on_level)))
      | inr (i, counted) ↦ (i, omega (arith, spread_low c i counted), inl counted)
    ]

    spread_led : (c : Cell) (k : ℕ) → IsCounted new.marks c k → (side : Side) → HasLed g spread_to c k side
    spread_led c k counted side n beside opened = elim (has.only c k counted) [
      | inr before ↦ spread_kept n (k + 1) (is.led c k before side n beside opened)
      | inl (chosen, on_level) ↦ elim (has.spread c n side chosen beside opened) [
        | inl (j, known) ↦
            let back = beside_back g side c n beside in
            let near : apart g old.toward c ≤ apart g old.toward n + 1 = low_apart g old.toward back.0 n c back.1 in
            (j, omega (arith, spread_low n j known), inl known)
        | inr (inl (waits, closer)) ↦ (k + 1, omega arith, inr (inl (waits, omega arith)))
        | inr (inr (waits, farther)) ↦ (k + 1, omega arith, inr (inr (waits, omega arith)))
      ]
    ]

    pub spread_flood : IsFlood g new
    spread_flood = same_parts new old.goal old.toward old.level new.marks has.goal has.toward has.level refl (record {
      sound = spread_sound;
      low = spread_low;
      here_well = has.here_well;
      next_well = has.next_well;
      begun = λ opened. spread_kept old.goal 0 (is.begun opened);
      led = spread_led;
    })

  -- No cell of this level waits: the one after the next is this level.
  pub risen_flood : (old new : Flood) → IsFlood g old → ((c : Cell) → old.here c → ⊥)
      → new.goal ≡ old.goal → new.toward ≡ old.toward → new.marks ≡ old.marks → new.level ≡ old.level + 2
      → ((c : Cell) → old.next c → new.here c) → ((c : Cell) → new.here c → old.next c) → ((c : Cell) → new.next c → ⊥) → IsFlood g new
  risen_flood old new is none goal toward marks level risen rose empty = same_parts new old.goal old.toward (old.level + 2) old.marks goal toward level marks (record {
    sound = is.sound;
    low = λ c k counted. (let low = is.low c k counted in omega arith);
    here_well = λ c waits. is.next_well c (rose c waits);
    next_well = λ c waits. absurd (empty c waits);
    begun = λ opened. kept old.goal 0 (is.begun opened);
    led = λ c k counted side n beside opened. kept n (k + 1) (is.led c k counted side n beside opened);
  })
    where
      kept : (c : Cell) (j : ℕ) → IsKnown g old c j → IsKnown g (record new { goal = old.goal; toward = old.toward; level = old.level + 2; marks = old.marks }) c j
      kept c j (k, most, inl counted) = (k, most, inl counted)
      kept c j (k, most, inr (inl (waits, on_level))) = absurd (none c waits)
      kept c j (k, most, inr (inr (waits, on_level))) = (k, most, inr (inl (risen c waits, on_level)))

  -- Nothing is counted, and only the goal waits, if it is open.
  pub begun_flood : (f : Flood) → f.level ≡ apart g f.toward f.goal → ((c : Cell) (k : ℕ) → IsCounted f.marks c k → ⊥)
      → ((c : Cell) → f.here c → (c ≡ f.goal) × IsOpen g c) → (IsOpen g f.goal → f.here f.goal) → ((c : Cell) → f.next c → ⊥) → IsFlood g f
  begun_flood f level free only first empty = record {
    sound = λ c k counted. absurd (free c k counted);
    low = λ c k counted. absurd (free c k counted);
    here_well = λ c waits.
        (let one = only c waits in
        subst (λ (z : Cell). WaitsWell g f f.level z) (sym one.0) (0, omega (arith, level), there (subst (λ (z : Cell). IsOpen g z) one.0 one.1)));
    next_well = λ c waits. absurd (empty c waits);
    begun = λ opened. (0, omega arith, inr (inl (first opened, omega (arith, level))));
    led = λ c k counted side. absurd (free c k counted);
  }

  -- The flood depends on its sets alone, and not on how they are given.
  pub flood_same : (old new : Flood) → IsFlood g old → new.goal ≡ old.goal → new.toward ≡ old.toward → new.level ≡ old.level → new.marks ≡ old.marks
      → ((c : Cell) → old.here c → new.here c) → ((c : Cell) → new.here c → old.here c)
      → ((c : Cell) → old.next c → new.next c) → ((c : Cell) → new.next c → old.next c) → IsFlood g new
  flood_same old new is goal toward level marks here here_back next next_back = same_parts new old.goal old.toward old.level old.marks goal toward level marks (record {
    sound = is.sound;
    low = is.low;
    here_well = λ c waits. is.here_well c (here_back c waits);
    next_well = λ c waits. is.next_well c (next_back c waits);
    begun = λ opened. kept old.goal 0 (is.begun opened);
    led = λ c k counted side n beside opened. kept n (k + 1) (is.led c k counted side n beside opened);
  })
    where
      kept : (c : Cell) (j : ℕ) → IsKnown g old c j → IsKnown g (record new { goal = old.goal; toward = old.toward; level = old.level; marks = old.marks }) c j
      kept c j (k, most, inl counted) = (k, most, inl counted)
      kept c j (k, most, inr (inl (waits, on_level))) = (k, most, inr (inl (here c waits, on_level)))
      kept c j (k, most, inr (inr (waits, on_level))) = (k, most, inr (inr (next c waits, on_level)))

  -- What is counted is least, and where nothing waits all that has a way is counted.
  module _ (f : Flood) (is : IsFlood g f) where
    -- at most j moves were counted for the cell
    abbrev HasCountBelow : Cell → ℕ → Type 0
    HasCountBelow c j = (k : ℕ) × (k ≤ j) × IsCounted f.marks c k

    -- from a counted cell to a cell beside it
    led_on : (c d : Cell) (side : Side) (k : ℕ) → IsOpen g c → IsBeside g side c d → HasCountBelow d k → IsKnown g f c (k + 1)
    led_on c d side k opened beside (i, most, counted) =
        let back = beside_back g side c d beside in
        let led : IsKnown g f c (i + 1) = is.led d i counted back.0 c back.1 opened in
        (led.0, omega (arith, led.1), led.2)

    known_counted : (c : Cell) (j : ℕ) → j + apart g f.toward c < f.level → IsKnown g f c j → HasCountBelow c j
    known_counted c j below (k, most, inl counted) = (k, most, counted)
    known_counted c j below (k, most, inr (inl (waits, on_level))) = absurd (omega arith)
    known_counted c j below (k, most, inr (inr (waits, on_level))) = absurd (omega arith)

    -- a way whose moves are below the level begins on a counted cell
    complete : {c : Cell} {j : ℕ} → IsWay g f.goal c j → j + apart g f.toward c < f.level → HasCountBelow c j
    complete (there opened) below = known_counted f.goal 0 below (is.begun opened)
    complete (move {c} {d} {k} side opened beside rest) below =
        let near : apart g f.toward d ≤ apart g f.toward c + 1 = low_apart g f.toward side c d beside in
        known_counted c (k + 1) below (led_on c d side k opened beside (complete rest (omega arith)))

    -- a cell that isn't counted lies on this level or a later one
    pub flood_far : (c : Cell) → slice_get f.marks c.0 ≡ Some 0 → (k : ℕ) → IsWay g f.goal c k → f.level ≤ k + apart g f.toward c
    flood_far c none k way = elim (cases_lt (k + apart g f.toward c) f.level) [
      | inr far ↦ far
      | inl less ↦ absurd (
          let has : HasCountBelow c k = complete way less in
          let bad : 0 ≡ suc has.0 = same_Some 0 (suc has.0) (sym none ∙ has.2) in
          omega arith)
    ]

    pub flood_distance : (c : Cell) (k : ℕ) → IsCounted f.marks c k → IsDistance g f.goal c k
    flood_distance c k counted = record {
      way = is.sound c k counted;
      least = λ j way. elim (cases_lt j k) [
        | inr more ↦ more
        | inl less ↦ absurd (
            let low : k + apart g f.toward c ≤ f.level = is.low c k counted in
            let has : HasCountBelow c j = complete way (omega arith) in
            let same : has.0 ≡ k = counted_once f.marks c has.0 k has.2 counted in
            let most : has.0 ≤ j = has.1 in
            omega arith)
      ];
    }

    module _ (none_here : (c : Cell) → f.here c → ⊥) (none_next : (c : Cell) → f.next c → ⊥) where
      nothing_waits : (c : Cell) (j : ℕ) → IsKnown g f c j → HasCountBelow c j
      nothing_waits c j (k, most, inl counted) = (k, most, counted)
      nothing_waits c j (k, most, inr (inl (waits, on_level))) = absurd (none_here c waits)
      nothing_waits c j (k, most, inr (inr (waits, on_level))) = absurd (none_next c waits)

      all_counted : {c : Cell} {j : ℕ} → IsWay g f.goal c j → HasCountBelow c j
      all_counted (there opened) = nothing_waits f.goal 0 (is.begun opened)
      all_counted (move {c} {d} {k} side opened beside rest) = nothing_waits c (k + 1) (led_on c d side k opened beside (all_counted rest))

      pub flood_no_way : (c : Cell) → slice_get f.marks c.0 ≡ Some 0 → (k : ℕ) → IsWay g f.goal c k → ⊥
      flood_no_way c free k way =
          let has : HasCountBelow c k = all_counted way in
          let bad : 0 ≡ suc has.0 = same_Some 0 (suc has.0) (sym free ∙ has.2) in
          omega arith
