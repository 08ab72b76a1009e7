-- The flood by spans: what waits where no span is listed, the rise of the level, the beginning, and what one spread makes of it.
use Rattle.std.proofs.Common.{◌≡◌, ◌≢◌, ℕ, zero, suc, ◌+◌, ◌-◌, ◌<◌, ◌≤◌, ◌⊎◌, inl, inr, List, [], ◌∷◌, length, Some, true, false, refl, sym, ap, subst, ◌∙◌, arith}
use Rattle.std.specs.Prelude.{slice_get, ◌↔◌}
use Rattle.std.proofs.lemmas.Option.{slice_get_within, same_Some, none-some}
use Rattle.fleet_base.specs.declared.grid.Cell.{Cell}
use Rattle.fleet_base.specs.declared.grid.Side.{Side}
use Rattle.fleet_base.specs.declared.grid.Side.TheVariants.{Up, Left, Right, Down}
use Rattle.std.specs.Prelude.{Vec}
use Rattle.std.specs.Global.{Global}
use Rattle.fleet_base.specs.Terrain.{Terrain, IsOpen, IsAt, IsBeside}
use Rattle.fleet_base.proofs.TrafficLemmas.{same_cells}
use Rattle.row_words.specs.Words.{IsSet, Flows, begin, rise, fall, IsFilled}
use Rattle.row_words.proofs.WordLemmas.{is_empty}
use Rattle.static_distance.specs.declared.span.Span.{Span}
use Rattle.static_distance.specs.declared.place.Place.{Place}
use Rattle.static_distance.specs.declared.waiting.Waiting.{Waiting}
use Rattle.static_distance.specs.declared.distances.Distances.{Distances}
use Rattle.static_distance.specs.Levels.{IsCounted, apart}
use Rattle.static_distance.specs.Layers.{told}
use Rattle.static_distance.specs.Marks.{mark_of, marks_in, marks_of}
use Rattle.static_distance.specs.Waiting.{IsListed}
use Rattle.static_distance.specs.Spreading.{Flood, WaitsWell, IsFlood, HasCount, HasSpread}
use Rattle.static_distance.specs.Spans.{IsSpan, IsCellAt, Holds, Stands, AreListed, IsFree, AreSpans, flood_of, flood_with, IsStep, IsLed, HasSpreadTo, IsShut, HasCounted}
use Rattle.static_distance.specs.Rows.{HasMore, IsLedInRow}
use Rattle.static_distance.proofs.Ways.{way_open}
use Rattle.static_distance.proofs.Places.{column_at, apart_at}
use Rattle.static_distance.proofs.MarkLemmas.{many_marks, counted_told, told_mark}
use Rattle.static_distance.proofs.RowLemmas.{row_left, row_right}
use Rattle.static_distance.proofs.SpreadLemmas.{risen_flood, flow_well, away_well, spread_flood}

pub no_items : {X : Type 0} (xs : List X) → length xs ≡ 0 → xs ≡ []
no_items [] none = refl
no_items (x ∷ xs) none = absurd (omega arith)

-- a word that has a cell isn't 0
pub held_word : (g : Terrain) (s : Span) (word : ℕ) (c : Cell) → Holds g s word c → word ≢ 0
held_word g s word c (i, set, at) zero_word = is_empty word zero_word i set

-- where no span is listed no cell waits
pub none_stand : (g : Terrain) (known words : List ℕ) (spans : List Span) (c : Cell) → AreListed g known words spans → spans ≡ [] → Stands g known words c → ⊥
none_stand g known words spans c are empty stands =
    let listed : IsListed spans stands.span.number = are.listed stands.span.number stands.word stands.known_is stands.at (held_word g stands.span stands.word c stands.holds) in
    none-some listed.1 (rw empty at listed.2)

-- where no cell of this level waits, the next level is this one
pub risen_spans : (g : Terrain) (old : Distances) (here next : Waiting) → AreSpans g old → old.here.spans.items ≡ [] → here.words ≡ old.next.words → next.words ≡ old.here.words
    → IsFlood g (flood_of g old) → IsFlood g (flood_of g (record old { level = old.level + 2; here = here; next = next }))
risen_spans g old here next are empty here_is next_is is =
    risen_flood g (flood_of g old) (flood_of g (record old { level = old.level + 2; here = here; next = next })) is
    (λ c stands. none_stand g old.known old.here.words.items old.here.spans.items c are.here_listed empty stands) refl refl refl refl
    (λ c stands. subst (λ (w : Vec ℕ Global). Stands g old.known w.items c) (sym here_is) stands)
    (λ c stands. subst (λ (w : Vec ℕ Global). Stands g old.known w.items c) here_is stands)
    (λ c stands. none_stand g old.known old.here.words.items old.here.spans.items c are.here_listed empty (subst (λ (w : Vec ℕ Global). Stands g old.known w.items c) next_is stands))

-- Cells side by side in a span.
right_of : (g : Terrain) (s : Span) (i : ℕ) (c d : Cell) → IsCellAt g s i c → IsCellAt g s (i + 1) d → IsBeside g Right c d
right_of g s i c d (inside, at) (inside', at') = (s.column + i, s.row, at, subst (λ (x : ℕ). IsAt g d x s.row) (omega arith) at')

left_of : (g : Terrain) (s : Span) (i : ℕ) (c d : Cell) → IsCellAt g s (i + 1) c → IsCellAt g s i d → IsBeside g Left c d
left_of g s i c d (inside, at) (inside', at') = (s.column + i, s.row, subst (λ (x : ℕ). IsAt g c x s.row) (omega arith) at, at')

step_right : (g : Terrain) (s : Span) (i : ℕ) (toward : Place) (c d : Cell) → IsCellAt g s i c → IsCellAt g s (i + 1) d → s.column + i < toward.column → apart g toward d + 1 ≡ apart g toward c
step_right g s i toward c d (inside, at) (inside', at') less = omega (arith, apart_at g toward c (s.column + i) s.row at, apart_at g toward d (s.column + (i + 1)) s.row at')

step_left : (g : Terrain) (s : Span) (i : ℕ) (toward : Place) (c d : Cell) → IsCellAt g s (i + 1) c → IsCellAt g s i d → toward.column < s.column + (i + 1) → apart g toward d + 1 ≡ apart g toward c
step_left g s i toward c d (inside, at) (inside', at') less = omega (arith, apart_at g toward c (s.column + (i + 1)) s.row at, apart_at g toward d (s.column + i) s.row at')

-- one place has one cell
pub cell_once : (g : Terrain) (s : Span) (i : ℕ) (c d : Cell) → IsCellAt g s i c → IsCellAt g s i d → c ≡ d
cell_once g s i c d (inside, (wide, high, is)) (inside', (wide', high', is')) = same_cells c d (is ∙ sym is')

-- a cell is counted or not
mark_cases : (marks : List ℕ) (i : ℕ) → i < length marks → (slice_get marks i ≡ Some 0) ⊎ ((k : ℕ) × (slice_get marks i ≡ Some (suc k)))
mark_cases [] i inside = absurd (omega arith)
mark_cases (zero ∷ marks) zero inside = inl refl
mark_cases (suc k ∷ marks) zero inside = inr (k, refl)
mark_cases (m ∷ marks) (suc i) inside = mark_cases marks i (omega arith)

count_cases : (g : Terrain) (marks : List ℕ) (c : Cell) → length marks ≡ length g.cells → IsOpen g c → (slice_get marks c.0 ≡ Some 0) ⊎ HasCount marks c
count_cases g marks c fit opened = let inside : c.0 < length g.cells = slice_get_within g.cells c.0 true opened in mark_cases marks c.0 (omega (arith, fit))

-- an open cell of a span that wasn't looked at isn't counted, and one of another span where the span's word has it
module _ (g : Terrain) (d : Distances) (s : Span) (i : ℕ) (c : Cell) (spans : AreSpans g d) (is : IsSpan g s) (at : IsCellAt g s i c) (opened : IsOpen g c) where
  pub unknown_free : slice_get d.known s.number ≢ Some 1 → slice_get (marks_of g d) c.0 ≡ Some 0
  unknown_free unknown = elim (count_cases g (marks_of g d) c spans.marks_fit opened) [
    | inl free ↦ free
    | inr counted ↦ absurd (unknown (spans.looked s i counted.0 c is at counted.1))
  ]

  pub word_free : slice_get d.known s.number ≡ Some 1 → (w : ℕ) → slice_get d.free.items s.number ≡ Some w → IsSet w i ↔ (slice_get (marks_of g d) c.0 ≡ Some 0)
  word_free known w there = (
    λ set. (let cell = spans.free_only s w i is known there set at.0 in subst (λ (z : Cell). slice_get (marks_of g d) z.0 ≡ Some 0) (cell_once g s i cell.0 c cell.1 at) cell.2.1),
    λ free. spans.free_all s w i c is known there at (opened, free),
  )

-- a cell that is counted is on a level that the layers of its span tell, and its moves are what is left of it
module _ (g : Terrain) (d : Distances) (s : Span) (i : ℕ) (c : Cell) (spans : AreSpans g d) (is : IsSpan g s) (at : IsCellAt g s i c) (opened : IsOpen g c)
    (many : d.few ≡ false) (counted : ¬ (slice_get (marks_of g d) c.0 ≡ Some 0)) where
  has_count : HasCount (marks_of g d) c
  has_count = elim (count_cases g (marks_of g d) c spans.marks_fit opened) [
    | inl none ↦ absurd (counted none)
    | inr has ↦ has
  ]

  pub counted_span : slice_get d.known s.number ≡ Some 1
  counted_span = spans.looked s i has_count.0 c is at has_count.1

  pub counted_level : told d.layers s.number i ≢ 0
  counted_level =
      let in_layers : IsCounted (marks_in g d.toward d.known d.layers) c has_count.0 = subst (λ (ms : List ℕ). IsCounted ms c has_count.0) (many_marks g d many) has_count.1 in
      counted_told g s is d.toward d.known d.layers i c at has_count.0 in_layers

  pub counted_moves : (level : ℕ) → told d.layers s.number i ≡ suc level → IsCounted (marks_of g d) c (level - apart g d.toward c)
  counted_moves level on_level =
      ap (λ (ms : List ℕ). slice_get ms c.0) (many_marks g d many)
      ∙ (told_mark g s is d.toward d.known d.layers i c at (slice_get_within g.cells c.0 true opened) counted_span
      ∙ ap (λ (t : ℕ). Some (mark_of 1 t (apart g d.toward c))) on_level)

-- The batch of a span: what flows from its seeds, over free cells, toward the column that is aimed at.
module _ (g : Terrain) (s : Span) (seeds free up down batch : ℕ) (old : Distances) (span : IsSpan g s) (known : slice_get old.known s.number ≡ Some 1) (spans : AreSpans g old)
    (free_is : slice_get old.free.items s.number ≡ Some free) (within : (i : ℕ) → IsSet free i → i < 64) (up_is : (i : ℕ) → IsSet up i ↔ ((i < 64) × (s.column + i < old.toward.column)))
    (down_is : (i : ℕ) → IsSet down i ↔ ((i < 64) × (old.toward.column < s.column + i))) (filled : IsFilled seeds free up down batch) (flood : IsFlood g (flood_with g old s seeds)) where
  abbrev before : Flood
  before = flood_with g old s seeds

  flows_free : {i : ℕ} → Flows seeds free up down i → IsSet free i
  flows_free (begin seed is_free) = is_free
  flows_free (rise flow upward is_free) = is_free
  flows_free (fall flow downward is_free) = is_free

  -- the cell at a place of the batch
  cell_of : (i : ℕ) → IsSet free i → (c : Cell) × IsCellAt g s i c × IsFree g (marks_of g old) c
  cell_of i is_free = spans.free_only s free i span known free_is is_free (within i is_free)

  flows_well : {i : ℕ} → Flows seeds free up down i → (c : Cell) → IsCellAt g s i c → WaitsWell g before old.level c
  flows_well {i} (begin seed is_free) c at = flood.here_well c (inr (i, seed, at))
  flows_well (rise {i} flow upward is_free) c at =
      let from = cell_of i (flows_free flow) in
      let mine = cell_of (i + 1) is_free in
      let beside : IsBeside g Right from.0 c = right_of g s i from.0 c from.1 at in
      flow_well g before from.0 c Right (flows_well flow from.0 from.1) beside (subst (λ (z : Cell). IsOpen g z) (cell_once g s (i + 1) mine.0 c mine.1 at) mine.2.0)
      (step_right g s i old.toward from.0 c from.1 at ((up_is i).0 upward).1)
  flows_well (fall {i} flow downward is_free) c at =
      let from = cell_of (i + 1) (flows_free flow) in
      let mine = cell_of i is_free in
      let beside : IsBeside g Left from.0 c = left_of g s i from.0 c from.1 at in
      flow_well g before from.0 c Left (flows_well flow from.0 from.1) beside (subst (λ (z : Cell). IsOpen g z) (cell_once g s i mine.0 c mine.1 at) mine.2.0)
      (step_left g s i old.toward from.0 c from.1 at ((down_is (i + 1)).0 downward).1)

  pub batch_free : (i : ℕ) → IsSet batch i → IsSet free i
  batch_free i set = flows_free (filled.only i set)

  pub batch_well : (c : Cell) → Holds g s batch c → WaitsWell g before old.level c
  batch_well c (i, set, at) = flows_well (filled.only i set) c at

  pub batch_low : (c : Cell) → Holds g s batch c → apart g old.toward c ≤ old.level
  batch_low c held = let well = batch_well c held in omega (arith, well.1)

  -- a seed was counted before, or is in the batch
  seed_cases : (c : Cell) → Holds g s seeds c → Holds g s batch c ⊎ HasCount (marks_of g old) c
  seed_cases c (i, seed, at) =
      let well = flood.here_well c (inr (i, seed, at)) in
      let opened : IsOpen g c = way_open g well.2 in
      elim (count_cases g (marks_of g old) c spans.marks_fit opened) [
        | inr counted ↦ inr counted
        | inl none ↦ inl (i, filled.all i (begin seed (spans.free_all s free i c span known free_is at (opened, none))), at)
      ]

  -- where the batch is empty all seeds were counted before
  pub passed_spans : batch ≡ 0 → IsFlood g (flood_of g old)
  passed_spans empty = spread_flood g (λ c. ⊥) before (flood_of g old) flood (record {
    goal = refl;
    toward = refl;
    level = refl;
    batch_well = λ c none. absurd none;
    counted = λ c none k on_level. absurd none;
    still = λ c k is. is;
    only = λ c k is. inr is;
    here_well = λ c stands. flood.here_well c (inl stands);
    next_well = λ c stands. flood.next_well c stands;
    here_kept = λ c waits. elim waits [
      | inl stands ↦ inl stands
      | inr seed ↦ inr (elim (seed_cases c seed) [
        | inl held ↦ absurd (held_word g s batch c held empty)
        | inr is ↦ is
      ])
    ];
    next_kept = λ c stands. inl stands;
    spread = λ c n side none beside opened. absurd none;
  })

  -- After the batch is counted no free cell of its span is led to closer in the row.
  module _ (d1 d : Distances) (counted : HasCounted g s batch old d1) (marks_same : marks_of g d ≡ marks_of g d1) (toward_same : d.toward ≡ old.toward) where
    free_old : (n : Cell) → IsFree g (marks_of g d) n → IsFree g (marks_of g old) n
    free_old n (opened, none) = elim (count_cases g (marks_of g old) n spans.marks_fit opened) [
      | inl free_before ↦ (opened, free_before)
      | inr is ↦ absurd (
          let now : IsCounted (marks_of g d1) n is.0 = counted.still n is.0 is.1 in
          let bad : 0 ≡ suc is.0 = same_Some 0 (suc is.0) (sym none ∙ (ap (λ (ms : List ℕ). slice_get ms n.0) marks_same ∙ now)) in
          omega arith)
    ]

    batch_counted : (n : Cell) → Holds g s batch n → IsFree g (marks_of g d) n → ⊥
    batch_counted n held (opened, none) =
        let well = batch_well n held in
        let now : IsCounted (marks_of g d1) n well.0 = counted.counted n well.0 held well.1 in
        let bad : 0 ≡ suc well.0 = same_Some 0 (suc well.0) (sym none ∙ (ap (λ (ms : List ℕ). slice_get ms n.0) marks_same ∙ now)) in
        omega arith

    set_free : (n : Cell) (i : ℕ) → IsFree g (marks_of g d) n → IsCellAt g s i n → IsSet free i
    set_free n i is_free at = spans.free_all s free i n span known free_is at (free_old n is_free)

    pub shut_left : IsShut g Left s batch d
    shut_left c n (j, set, (inside, at)) (x, y, at_c, at_n) is_free step i (inside', at') =
        let column_c : s.column + j ≡ x + 1 = sym (column_at g c (s.column + j) s.row at) ∙ column_at g c (x + 1) y at_c in
        let column_n : s.column + i ≡ x = sym (column_at g n (s.column + i) s.row at') ∙ column_at g n x y at_n in
        let next : j ≡ i + 1 = omega arith in
        let step' : apart g old.toward n + 1 ≡ apart g old.toward c = subst (λ (p : Place). IsStep g p true c n) toward_same step in
        let closer : old.toward.column < s.column + j = omega (arith, apart_at g old.toward c (s.column + j) s.row at, apart_at g old.toward n (s.column + i) s.row at') in
        let flow : Flows seeds free up down (i + 1) = subst (λ (m : ℕ). Flows seeds free up down m) next (filled.only j set) in
        let downward : IsSet down (i + 1) = subst (λ (m : ℕ). IsSet down m) next ((down_is j).1 (inside, closer)) in
        batch_counted n (i, filled.all i (fall flow downward (set_free n i is_free (inside', at'))), (inside', at')) is_free

    pub shut_right : IsShut g Right s batch d
    shut_right c n (j, set, (inside, at)) (x, y, at_c, at_n) is_free step i (inside', at') =
        let column_c : s.column + j ≡ x = sym (column_at g c (s.column + j) s.row at) ∙ column_at g c x y at_c in
        let column_n : s.column + i ≡ x + 1 = sym (column_at g n (s.column + i) s.row at') ∙ column_at g n (x + 1) y at_n in
        let next : i ≡ j + 1 = omega arith in
        let step' : apart g old.toward n + 1 ≡ apart g old.toward c = subst (λ (p : Place). IsStep g p true c n) toward_same step in
        let closer : s.column + j < old.toward.column = omega (arith, apart_at g old.toward c (s.column + j) s.row at, apart_at g old.toward n (s.column + i) s.row at') in
        let upward : IsSet up j = (up_is j).1 (inside, closer) in
        let is_set : IsSet free (j + 1) = subst (λ (m : ℕ). IsSet free m) next (set_free n i is_free (inside', at')) in
        let mine : IsSet batch i = subst (λ (m : ℕ). IsSet batch m) (sym next) (filled.all (j + 1) (rise (filled.only j set) upward is_set)) in
        batch_counted n (i, mine, (inside', at')) is_free

  -- The batch is counted, and then its cells are left by the four sides.
  module _ (d1 d2 d3 d4 : Distances) (counted : HasCounted g s batch old d1) (one : HasSpreadTo g Up s batch d1 d2) (two : HasSpreadTo g Down s batch d2 d3)
      (row : HasMore g (λ on n. IsLedInRow g s batch d3 on n) d3 d4) where
    marks_is : marks_of g d4 ≡ marks_of g d1
    marks_is = row.kept.marks ∙ (two.kept.marks ∙ one.kept.marks)

    toward_is : d1.toward ≡ old.toward
    toward_is = counted.toward

    here_before : (c : Cell) → Stands g d1.known d1.here.words.items c → Stands g old.known old.here.words.items c
    here_before c stands = subst (λ (w : Waiting). Stands g old.known w.words.items c) counted.here (subst (λ (k : List ℕ). Stands g k d1.here.words.items c) counted.known stands)

    here_after : (c : Cell) → Stands g old.known old.here.words.items c → Stands g d4.known d4.here.words.items c
    here_after c stands =
        row.kept.here c (two.kept.here c (one.kept.here c
        (subst (λ (k : List ℕ). Stands g k d1.here.words.items c) (sym counted.known) (subst (λ (w : Waiting). Stands g old.known w.words.items c) (sym counted.here) stands))))

    next_before : (c : Cell) → Stands g d1.known d1.next.words.items c → Stands g old.known old.next.words.items c
    next_before c stands = subst (λ (w : Waiting). Stands g old.known w.words.items c) counted.next (subst (λ (k : List ℕ). Stands g k d1.next.words.items c) counted.known stands)

    next_after : (c : Cell) → Stands g old.known old.next.words.items c → Stands g d4.known d4.next.words.items c
    next_after c stands =
        row.kept.next c (two.kept.next c (one.kept.next c
        (subst (λ (k : List ℕ). Stands g k d1.next.words.items c) (sym counted.known) (subst (λ (w : Waiting). Stands g old.known w.words.items c) (sym counted.next) stands))))

    -- who is led to waits well
    led_here : (side : Side) (d : Distances) (c : Cell) → d.toward ≡ old.toward → IsLed g side s batch d true c → WaitsWell g before old.level c
    led_here side d c toward led =
        flow_well g before led.from c side (batch_well led.from led.held) led.beside led.free.0 (subst (λ (p : Place). IsStep g p true led.from c) toward led.step)

    led_next : (side : Side) (d : Distances) (c : Cell) → d.toward ≡ old.toward → IsLed g side s batch d false c → WaitsWell g before (old.level + 2) c
    led_next side d c toward led =
        away_well g before led.from c side (batch_well led.from led.held) led.beside led.free.0 (subst (λ (p : Place). IsStep g p false led.from c) toward led.step)

    here_well : (c : Cell) → Stands g d4.known d4.here.words.items c → WaitsWell g before old.level c
    here_well c stands4 = elim (row.here_only c stands4) [
      | inr (inl led) ↦ led_here Left d3 c (two.kept.toward ∙ (one.kept.toward ∙ toward_is)) led
      | inr (inr led) ↦ led_here Right d3 c (two.kept.toward ∙ (one.kept.toward ∙ toward_is)) led
      | inl stands3 ↦ elim (two.here_only c stands3) [
        | inr led ↦ led_here Down d2 c (one.kept.toward ∙ toward_is) led
        | inl stands2 ↦ elim (one.here_only c stands2) [
          | inr led ↦ led_here Up d1 c toward_is led
          | inl stands1 ↦ flood.here_well c (inl (here_before c stands1))
        ]
      ]
    ]

    next_well : (c : Cell) → Stands g d4.known d4.next.words.items c → WaitsWell g before (old.level + 2) c
    next_well c stands4 = elim (row.next_only c stands4) [
      | inr (inl led) ↦ led_next Left d3 c (two.kept.toward ∙ (one.kept.toward ∙ toward_is)) led
      | inr (inr led) ↦ led_next Right d3 c (two.kept.toward ∙ (one.kept.toward ∙ toward_is)) led
      | inl stands3 ↦ elim (two.next_only c stands3) [
        | inr led ↦ led_next Down d2 c (one.kept.toward ∙ toward_is) led
        | inl stands2 ↦ elim (one.next_only c stands2) [
          | inr led ↦ led_next Up d1 c toward_is led
          | inl stands1 ↦ flood.next_well c (next_before c stands1)
        ]
      ]
    ]

    abbrev Waits : Cell → Cell → Type 0
    Waits c n = (Stands g d4.known d4.here.words.items n × IsStep g old.toward true c n) ⊎ (Stands g d4.known d4.next.words.items n × IsStep g old.toward false c n)

    row_waits : (c n : Cell) → (Stands g d4.known d4.here.words.items n × IsStep g d3.toward true c n) ⊎ (Stands g d4.known d4.next.words.items n × IsStep g d3.toward false c n) → Waits c n
    row_waits c n (inl (stands, step)) = inl (stands, subst (λ (p : Place). IsStep g p true c n) (two.kept.toward ∙ (one.kept.toward ∙ toward_is)) step)
    row_waits c n (inr (stands, step)) = inr (stands, subst (λ (p : Place). IsStep g p false c n) (two.kept.toward ∙ (one.kept.toward ∙ toward_is)) step)

    -- a free cell beside one of the batch waits in the end
    free_waits : (c n : Cell) (side : Side) → Holds g s batch c → IsBeside g side c n → IsFree g (marks_of g d1) n → Waits c n
    free_waits c n Up held beside free_one = elim (one.led c n held beside free_one) [
      | inl (stands, step) ↦ inl (row.kept.here n (two.kept.here n stands), subst (λ (p : Place). IsStep g p true c n) toward_is step)
      | inr (stands, step) ↦ inr (row.kept.next n (two.kept.next n stands), subst (λ (p : Place). IsStep g p false c n) toward_is step)
    ]
    free_waits c n Down held beside free_one = elim (two.led c n held beside (subst (λ (ms : List ℕ). IsFree g ms n) (sym one.kept.marks) free_one)) [
      | inl (stands, step) ↦ inl (row.kept.here n stands, subst (λ (p : Place). IsStep g p true c n) (one.kept.toward ∙ toward_is) step)
      | inr (stands, step) ↦ inr (row.kept.next n stands, subst (λ (p : Place). IsStep g p false c n) (one.kept.toward ∙ toward_is) step)
    ]
    free_waits c n Left held beside free_one = row_waits c n (row_left g s batch d3 d4 row c n held beside (subst (λ (ms : List ℕ). IsFree g ms n) (sym (two.kept.marks ∙ one.kept.marks)) free_one))
    free_waits c n Right held beside free_one = row_waits c n (row_right g s batch d3 d4 row c n held beside (subst (λ (ms : List ℕ). IsFree g ms n) (sym (two.kept.marks ∙ one.kept.marks)) free_one))

    pub has_spread : length (marks_of g d1) ≡ length g.cells → HasSpread g (λ c. Holds g s batch c) before (flood_of g d4)
    has_spread fit = record {
      goal = row.kept.goal ∙ (two.kept.goal ∙ (one.kept.goal ∙ counted.goal));
      toward = row.kept.toward ∙ (two.kept.toward ∙ (one.kept.toward ∙ counted.toward));
      level = row.kept.level ∙ (two.kept.level ∙ (one.kept.level ∙ counted.level));
      batch_well = batch_well;
      counted = λ c held k on_level. subst (λ (ms : List ℕ). IsCounted ms c k) (sym marks_is) (counted.counted c k held on_level);
      still = λ c k is. subst (λ (ms : List ℕ). IsCounted ms c k) (sym marks_is) (counted.still c k is);
      only = λ c k is. counted.only c k (subst (λ (ms : List ℕ). IsCounted ms c k) marks_is is);
      here_well = here_well;
      next_well = next_well;
      here_kept = λ c waits. elim waits [
        | inl stands ↦ inl (here_after c stands)
        | inr seed ↦ inr (elim (seed_cases c seed) [
          | inl held ↦ let well = batch_well c held in (well.0, subst (λ (ms : List ℕ). IsCounted ms c well.0) (sym marks_is) (counted.counted c well.0 held well.1))
          | inr is ↦ (is.0, subst (λ (ms : List ℕ). IsCounted ms c is.0) (sym marks_is) (counted.still c is.0 is.1))
        ])
      ];
      next_kept = λ c stands. inl (next_after c stands);
      spread = λ c n side held beside opened. elim (count_cases g (marks_of g d1) n fit opened) [
        | inr is ↦ inl (is.0, subst (λ (ms : List ℕ). IsCounted ms n is.0) (sym marks_is) is.1)
        | inl none ↦ inr (free_waits c n side held beside (opened, none))
      ];
    }

    pub spread_spans : length (marks_of g d1) ≡ length g.cells → IsFlood g (flood_of g d4)
    spread_spans fit = spread_flood g (λ c. Holds g s batch c) before (flood_of g d4) flood (has_spread fit)
