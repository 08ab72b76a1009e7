-- From the cells of a span to those beside them in the row.
use Rattle.std.proofs.Common.{◌≡◌, ◌≢◌, ℕ, ◌+◌, ◌-◌, ◌*◌, ◌^◌, ◌<◌, ◌≤◌, ◌⊎◌, ◌↔◌, inl, inr, Bool, true, false, nat_lt, List, Some, slice_get, refl, sym, ◌∙◌, subst, arith}
use Rattle.std.proofs.lemmas.Bool.{cases_lt, cases_eq}
use Rattle.fleet_base.specs.declared.grid.Cell.{Cell}
use Rattle.fleet_base.specs.declared.grid.Side.{Side}
use Rattle.fleet_base.specs.declared.grid.Side.TheVariants.{Left, Right}
use Rattle.fleet_base.specs.Terrain.{Terrain, IsAt, IsBeside}
use Rattle.row_words.specs.Words.{IsSet}
use Rattle.row_words.proofs.WordLemmas.{set_below}
use Rattle.static_distance.specs.declared.place.Place.{Place}
use Rattle.static_distance.specs.declared.span.Span.{Span}
use Rattle.static_distance.specs.declared.distances.Distances.{Distances}
use Rattle.static_distance.specs.Marks.{marks_of}
use Rattle.static_distance.specs.Spans.{IsSpan, IsCellAt, Holds, Stands, IsFree, AreSpans, HasEntered, IsStep, IsLed, IsShut}
use Rattle.static_distance.specs.Rows.{HasMore, IsIn, IsLedInRow, IsLedWithin, IsLedOut}
use Rattle.static_distance.proofs.SideLemmas.{at_once, same_at, before_at, after_at, nearer, step_to, step_once, left_closer, left_farther, right_closer, right_farther, Enters, more_entered, more_twice, more_same, more_none, more_waits}

-- ---- within the span

-- the places of the word from which the next lesser column is farther, each moved there
pub away_left : (word near far away column toward : ℕ) → word < 2 ^ 64 → ((i : ℕ) → IsSet near i ↔ ((i < 64) × (toward < column + i)))
    → ((i : ℕ) → IsSet far i ↔ (IsSet word i × ¬ (IsSet near i))) → ((i : ℕ) → IsSet away i ↔ IsSet far (i + 1))
    → (i : ℕ) → IsSet away i ↔ (IsSet word (i + 1) × (column + (i + 1) ≤ toward))
away_left word near far away column toward fits near_is far_is away_is i = (
  λ set. (let parts : IsSet word (i + 1) × ¬ (IsSet near (i + 1)) = (far_is (i + 1)).0 ((away_is i).0 set) in (
    parts.0,
    elim (cases_lt toward (column + (i + 1))) [
      | inl less ↦ absurd (parts.1 ((near_is (i + 1)).1 (set_below word (i + 1) fits parts.0, less)))
      | inr more ↦ more
    ],
  )),
  λ (set, more). (away_is i).1 ((far_is (i + 1)).1 (set, λ near_set. (let less = ((near_is (i + 1)).0 near_set).1 in omega arith))),
)

-- the places of the word from which the next greater column is farther, each moved there
pub away_right : (word near far away column toward : ℕ) → word < 2 ^ 64 → ((i : ℕ) → IsSet near i ↔ ((i < 64) × (column + i < toward)))
    → ((i : ℕ) → IsSet far i ↔ (IsSet word i × ¬ (IsSet near i))) → ((i : ℕ) → IsSet away i ↔ ((j : ℕ) × (i ≡ j + 1) × (i < 64) × IsSet far j))
    → (i : ℕ) → IsSet away i ↔ ((j : ℕ) × (i ≡ j + 1) × (i < 64) × IsSet word j × (toward ≤ column + j))
away_right word near far away column toward fits near_is far_is away_is i = (
  λ set. (let moved : (j : ℕ) × (i ≡ j + 1) × (i < 64) × IsSet far j = (away_is i).0 set in
      let parts : IsSet word moved.0 × ¬ (IsSet near moved.0) = (far_is moved.0).0 moved.3 in (
        moved.0,
        moved.1,
        moved.2,
        parts.0,
        elim (cases_lt (column + moved.0) toward) [
          | inl less ↦ absurd (parts.1 ((near_is moved.0).1 (set_below word moved.0 fits parts.0, less)))
          | inr more ↦ more
        ],
      )),
  λ (j, after, below, set, more). (away_is i).1 (j, after, below, (far_is j).1 (set, λ near_set. (let less = ((near_is j).0 near_set).1 in omega arith))),
)

-- places of free cells are within the row
pub free_inside : (g : Terrain) (s : Span) (word free : ℕ) (d : Distances) → IsSpan g s → AreSpans g d → slice_get d.known s.number ≡ Some 1
    → slice_get d.free.items s.number ≡ Some free → word < 2 ^ 64 → ((i : ℕ) → IsSet word i → IsSet free i) → (i : ℕ) → IsSet word i → s.column + i < g.width
free_inside g s word free d is are known at fits within i set = (are.free_only s free i is known at (within i set) (set_below word i fits set)).1.1.0

-- Left: the cells of the word from which the lesser column is closer lead to no free cell of the span.
module _ (g : Terrain) (s : Span) (word away : ℕ) (old : Distances) (is : IsSpan g s) (inside : (i : ℕ) → IsSet word i → s.column + i < g.width)
    (fits : word < 2 ^ 64) (shut : IsShut g Left s word old) (away_is : (i : ℕ) → IsSet away i ↔ (IsSet word (i + 1) × (s.column + (i + 1) ≤ old.toward.column))) where
  left_from : (n : Cell) → Holds g s away n → IsFree g (marks_of g old) n → IsLed g Left s word old false n
  left_from n (i, set, (below, at)) free =
      let parts : IsSet word (i + 1) × (s.column + (i + 1) ≤ old.toward.column) = (away_is i).0 set in
      let c : Cell = record { 0 = s.row * g.width + (s.column + (i + 1)) } in
      let from : IsAt g c (s.column + (i + 1)) s.row = (inside (i + 1) parts.0, is.row_in, refl) in
      let beside : IsBeside g Left c n = (s.column + i, s.row, same_at g c (s.column + (i + 1)) s.row (s.column + i + 1) s.row (omega arith) refl from, at) in
      record {
        from = c;
        held = (i + 1, parts.0, (set_below word (i + 1) fits parts.0, from));
        beside = beside;
        free = free;
        step = left_farther g old.toward c n (s.column + (i + 1)) s.row from beside parts.1;
      }

  left_to : (c n : Cell) (i : ℕ) → IsSet word (i + 1) → IsCellAt g s (i + 1) c → IsBeside g Left c n → IsFree g (marks_of g old) n
      → Holds g s away n × IsStep g old.toward false c n
  left_to c n i set (below, at) beside free =
      let to : IsAt g n (s.column + i) s.row = before_at g c n (s.column + i) s.row (same_at g c (s.column + (i + 1)) s.row (s.column + i + 1) s.row (omega arith) refl at) beside in
      let held : IsCellAt g s i n = (omega arith, to) in
      elim (cases_lt old.toward.column (s.column + (i + 1))) [
        | inl less ↦ absurd (shut c n (i + 1, set, (below, at)) beside free (left_closer g old.toward c n (s.column + (i + 1)) s.row at beside less) i held)
        | inr more ↦ ((i, (away_is i).1 (set, more), held), left_farther g old.toward c n (s.column + (i + 1)) s.row at beside more)
      ]

-- Right: the cells of the word from which the greater column is closer lead to no free cell of the span.
module _ (g : Terrain) (s : Span) (word away : ℕ) (old : Distances) (is : IsSpan g s) (shut : IsShut g Right s word old)
    (away_is : (i : ℕ) → IsSet away i ↔ ((j : ℕ) × (i ≡ j + 1) × (i < 64) × IsSet word j × (old.toward.column ≤ s.column + j))) where
  right_from : (n : Cell) → Holds g s away n → IsFree g (marks_of g old) n → IsLed g Right s word old false n
  right_from n (i, set, (below, at)) free =
      let parts : (j : ℕ) × (i ≡ j + 1) × (i < 64) × IsSet word j × (old.toward.column ≤ s.column + j) = (away_is i).0 set in
      let after : i ≡ parts.0 + 1 = parts.1 in
      let c : Cell = record { 0 = s.row * g.width + (s.column + parts.0) } in
      let within : s.column + parts.0 < g.width = omega (arith, at.0) in
      let from : IsAt g c (s.column + parts.0) s.row = (within, is.row_in, refl) in
      let beside : IsBeside g Right c n = (s.column + parts.0, s.row, from, same_at g n (s.column + i) s.row (s.column + parts.0 + 1) s.row (omega arith) refl at) in
      record {
        from = c;
        held = (parts.0, parts.3, (omega arith, from));
        beside = beside;
        free = free;
        step = right_farther g old.toward c n (s.column + parts.0) s.row from beside parts.4;
      }

  right_to : (c n : Cell) (i : ℕ) → IsSet word i → IsCellAt g s i c → i + 1 < 64 → IsBeside g Right c n → IsFree g (marks_of g old) n
      → Holds g s away n × IsStep g old.toward false c n
  right_to c n i set (below, at) room beside free =
      let to : IsAt g n (s.column + (i + 1)) s.row = same_at g n (s.column + i + 1) s.row (s.column + (i + 1)) s.row (omega arith) refl (after_at g c n (s.column + i) s.row at beside) in
      elim (cases_lt (s.column + i) old.toward.column) [
        | inl less ↦ absurd (shut c n (i, set, (below, at)) beside free (right_closer g old.toward c n (s.column + i) s.row at beside less) (i + 1) (room, to))
        | inr more ↦ ((i + 1, (away_is (i + 1)).1 (i, refl, room, set, more), (room, to)), right_farther g old.toward c n (s.column + i) s.row at beside more)
      ]

-- places of cells side by side in a span
left_place : (g : Terrain) (s : Span) (c n : Cell) (i j : ℕ) → IsCellAt g s j c → IsCellAt g s i n → IsBeside g Left c n → j ≡ i + 1
left_place g s c n i j (below, at) (within, to) (x, y, from, there) =
    let one = at_once g c (s.column + j) s.row (x + 1) y at from in
    let two = at_once g n (s.column + i) s.row x y to there in
    omega (arith, one.0, two.0)

right_place : (g : Terrain) (s : Span) (c n : Cell) (i j : ℕ) → IsCellAt g s j c → IsCellAt g s i n → IsBeside g Right c n → i ≡ j + 1
right_place g s c n i j (below, at) (within, to) (x, y, from, there) =
    let one = at_once g c (s.column + j) s.row x y at from in
    let two = at_once g n (s.column + i) s.row (x + 1) y to there in
    omega (arith, one.0, two.0)

-- a cell that is not the first of the span has one of the span before it, and one that is not the last has one after it
before_in : (g : Terrain) (s : Span) (c n : Cell) (j : ℕ) → IsCellAt g s j c → j ≢ 0 → IsBeside g Left c n → IsIn g s n
before_in g s c n j (below, at) later beside = (
  j - 1,
  (omega arith, before_at g c n (s.column + (j - 1)) s.row (same_at g c (s.column + j) s.row (s.column + (j - 1) + 1) s.row (omega arith) refl at) beside),
)

after_in : (g : Terrain) (s : Span) (c n : Cell) (j : ℕ) → IsCellAt g s j c → j ≢ 63 → IsBeside g Right c n → IsIn g s n
after_in g s c n j (below, at) other beside = (
  j + 1,
  (omega arith, same_at g n (s.column + j + 1) s.row (s.column + (j + 1)) s.row (omega arith) refl (after_at g c n (s.column + j) s.row at beside)),
)

-- The word `away` has the free cells of the span to which those of the word lead in the row.
module _ (g : Terrain) (s : Span) (word left right away : ℕ) (old new : Distances) (is : IsSpan g s) (inside : (i : ℕ) → IsSet word i → s.column + i < g.width)
    (fits : word < 2 ^ 64) (shut_left : IsShut g Left s word old) (shut_right : IsShut g Right s word old)
    (left_is : (i : ℕ) → IsSet left i ↔ (IsSet word (i + 1) × (s.column + (i + 1) ≤ old.toward.column)))
    (right_is : (i : ℕ) → IsSet right i ↔ ((j : ℕ) × (i ≡ j + 1) × (i < 64) × IsSet word j × (old.toward.column ≤ s.column + j)))
    (away_is : (i : ℕ) → IsSet away i ↔ (IsSet left i ⊎ IsSet right i)) where
  within_from : (on : Bool) (n : Cell) → Enters g s away false (marks_of g old) on n → IsLedWithin g s word old on n
  within_from on n (closer, (i, set, at), free) = (
    (i, at),
    elim ((away_is i).0 set) [
      | inl to_left ↦ inl (subst (λ (b : Bool). IsLed g Left s word old b n) closer (left_from g s word left old is inside fits shut_left left_is n (i, to_left, at) free))
      | inr to_right ↦ inr (subst (λ (b : Bool). IsLed g Right s word old b n) closer (right_from g s word right old is shut_right right_is n (i, to_right, at) free))
    ],
  )

  within_left : (n : Cell) → IsIn g s n → IsLed g Left s word old false n → Holds g s away n
  within_left n (i, at) led =
      let next : led.held.0 ≡ i + 1 = left_place g s led.from n i led.held.0 led.held.2 at led.beside in
      let found = left_to g s word left old is inside fits shut_left left_is led.from n i (subst (λ (k : ℕ). IsSet word k) next led.held.1)
      (subst (λ (k : ℕ). IsCellAt g s k led.from) next led.held.2) led.beside led.free in
      (found.0.0, (away_is found.0.0).1 (inl found.0.1), found.0.2)

  within_right : (n : Cell) → IsIn g s n → IsLed g Right s word old false n → Holds g s away n
  within_right n (i, at) led =
      let next : i ≡ led.held.0 + 1 = right_place g s led.from n i led.held.0 led.held.2 at led.beside in
      let found = right_to g s word right old is shut_right right_is led.from n led.held.0 led.held.1 led.held.2 (omega (arith, at.0)) led.beside led.free in
      (found.0.0, (away_is found.0.0).1 (inr found.0.1), found.0.2)

  within_to : (on : Bool) (n : Cell) → IsLedWithin g s word old on n → Enters g s away false (marks_of g old) on n
  within_to true n (within, inl led) = absurd (shut_left led.from n led.held led.beside led.free led.step within.0 within.1)
  within_to true n (within, inr led) = absurd (shut_right led.from n led.held led.beside led.free led.step within.0 within.1)
  within_to false n (within, inl led) = (refl, within_left n within led, led.free)
  within_to false n (within, inr led) = (refl, within_right n within led, led.free)

  pub spread_within : HasEntered g s away false old new → HasMore g (λ on n. IsLedWithin g s word old on n) old new
  spread_within has = more_same g (λ on n. Enters g s away false (marks_of g old) on n) (λ on n. IsLedWithin g s word old on n) old new (more_entered g s away false old new has) within_from within_to

-- ---- out of the span

-- where no cell of the word leads out of the span
pub spread_left_none : (g : Terrain) (s : Span) (word : ℕ) (d : Distances) → (s.column ≡ 0) ⊎ (¬ (IsSet word 0)) → HasMore g (λ on n. IsLedOut g Left s word d on n) d d
spread_left_none g s word d edge = more_none g (λ on n. IsLedOut g Left s word d on n) d none
  where
    at_first : (on : Bool) (n : Cell) → (led : IsLed g Left s word d on n) → led.held.0 ≡ 0 → ⊥
    at_first on n led first = elim edge [
      | inl column ↦ (let same = at_once g led.from (s.column + led.held.0) s.row (led.beside.0 + 1) led.beside.1 led.held.2.1 led.beside.2 in omega (arith, same.0))
      | inr clear ↦ clear (subst (λ (k : ℕ). IsSet word k) first led.held.1)
    ]

    none : (on : Bool) (n : Cell) → IsLedOut g Left s word d on n → ⊥
    none on n (led, out) = elim (cases_eq led.held.0 0) [
      | inl first ↦ at_first on n led first
      | inr later ↦ out (before_in g s led.from n led.held.0 led.held.2 later led.beside)
    ]

pub spread_right_none : (g : Terrain) (s : Span) (word : ℕ) (d : Distances) → (g.width ≤ s.column + 64) ⊎ (¬ (IsSet word 63)) → HasMore g (λ on n. IsLedOut g Right s word d on n) d d
spread_right_none g s word d edge = more_none g (λ on n. IsLedOut g Right s word d on n) d none
  where
    at_last : (on : Bool) (n : Cell) → (led : IsLed g Right s word d on n) → led.held.0 ≡ 63 → ⊥
    at_last on n led last = elim edge [
      | inl column ↦ (let to : IsAt g n (s.column + led.held.0 + 1) s.row = after_at g led.from n (s.column + led.held.0) s.row led.held.2.1 led.beside in omega (arith, to.0))
      | inr clear ↦ clear (subst (λ (k : ℕ). IsSet word k) last led.held.1)
    ]

    none : (on : Bool) (n : Cell) → IsLedOut g Right s word d on n → ⊥
    none on n (led, out) = elim (cases_eq led.held.0 63) [
      | inl last ↦ at_last on n led last
      | inr other ↦ out (after_in g s led.from n led.held.0 led.held.2 other led.beside)
    ]

-- t is the span before s, and the first cell of s leads to the last one of t
module _ (g : Terrain) (s t : Span) (word last : ℕ) (old new : Distances) (is : IsSpan g s) (row : t.row ≡ s.row) (column : t.column + 64 ≡ s.column) (first : IsSet word 0)
    (last_is : (i : ℕ) → IsSet last i ↔ (i ≡ 63)) where
  left_out_from : (on : Bool) (n : Cell) → Enters g t last (nat_lt old.toward.column s.column) (marks_of g old) on n → IsLedOut g Left s word old on n
  left_out_from on n (closer, (i, set, (below, at)), free) =
      let place : i ≡ 63 = (last_is i).0 set in
      let c : Cell = record { 0 = s.row * g.width + s.column } in
      let from : IsAt g c s.column s.row = (is.column_in, is.row_in, refl) in
      let beside : IsBeside g Left c n = (t.column + i, t.row, same_at g c s.column s.row (t.column + i + 1) t.row (omega arith) (sym row) from, at) in (
        record {
          from = c;
          held = (0, first, (omega arith, same_at g c s.column s.row (s.column + 0) s.row (omega arith) refl from));
          beside = beside;
          free = free;
          step = subst (λ (b : Bool). IsStep g old.toward b c n) closer (step_to g old.toward c n s.column s.row from Left beside);
        },
        λ (k, (inside, there)). (let same = at_once g n (t.column + i) t.row (s.column + k) s.row at there in omega (arith, same.0)),
      )

  left_out_to : (on : Bool) (n : Cell) → IsLedOut g Left s word old on n → Enters g t last (nat_lt old.toward.column s.column) (marks_of g old) on n
  left_out_to on n (led, out) = elim (cases_eq led.held.0 0) [
    | inl place ↦
        let from : IsAt g led.from s.column s.row = same_at g led.from (s.column + led.held.0) s.row s.column s.row (omega (arith, place)) refl led.held.2.1 in
        let to : IsAt g n (t.column + 63) s.row = before_at g led.from n (t.column + 63) s.row (same_at g led.from s.column s.row (t.column + 63 + 1) s.row (omega arith) refl from) led.beside in (
          step_once g old.toward led.from n (nat_lt old.toward.column s.column) on (step_to g old.toward led.from n s.column s.row from Left led.beside) led.step,
          (63, (last_is 63).1 refl, (omega arith, same_at g n (t.column + 63) s.row (t.column + 63) t.row refl (sym row) to)),
          led.free,
        )
    | inr later ↦ absurd (out (before_in g s led.from n led.held.0 led.held.2 later led.beside))
  ]

  pub spread_left_out : HasEntered g t last (nat_lt old.toward.column s.column) old new → HasMore g (λ on n. IsLedOut g Left s word old on n) old new
  spread_left_out has = more_same g (λ on n. Enters g t last (nat_lt old.toward.column s.column) (marks_of g old) on n) (λ on n. IsLedOut g Left s word old on n) old new
      (more_entered g t last (nat_lt old.toward.column s.column) old new has) left_out_from left_out_to

-- t is the span after s, and the last cell of s leads to the first one of t
module _ (g : Terrain) (s t : Span) (word first : ℕ) (old new : Distances) (is : IsSpan g s) (row : t.row ≡ s.row) (column : t.column ≡ s.column + 64) (last : IsSet word 63)
    (first_is : (i : ℕ) → IsSet first i ↔ (i ≡ 0)) where
  right_out_from : (on : Bool) (n : Cell) → Enters g t first (nat_lt (s.column + 63) old.toward.column) (marks_of g old) on n → IsLedOut g Right s word old on n
  right_out_from on n (closer, (i, set, (below, at)), free) =
      let place : i ≡ 0 = (first_is i).0 set in
      let c : Cell = record { 0 = s.row * g.width + (s.column + 63) } in
      let within : s.column + 63 < g.width = omega (arith, at.0) in
      let from : IsAt g c (s.column + 63) s.row = (within, is.row_in, refl) in
      let beside : IsBeside g Right c n = (s.column + 63, s.row, from, same_at g n (t.column + i) t.row (s.column + 63 + 1) s.row (omega arith) row at) in (
        record {
          from = c;
          held = (63, last, (omega arith, from));
          beside = beside;
          free = free;
          step = subst (λ (b : Bool). IsStep g old.toward b c n) closer (step_to g old.toward c n (s.column + 63) s.row from Right beside);
        },
        λ (k, (inside, there)). (let same = at_once g n (t.column + i) t.row (s.column + k) s.row at there in omega (arith, same.0)),
      )

  right_out_to : (on : Bool) (n : Cell) → IsLedOut g Right s word old on n → Enters g t first (nat_lt (s.column + 63) old.toward.column) (marks_of g old) on n
  right_out_to on n (led, out) = elim (cases_eq led.held.0 63) [
    | inl place ↦
        let from : IsAt g led.from (s.column + 63) s.row = same_at g led.from (s.column + led.held.0) s.row (s.column + 63) s.row (omega (arith, place)) refl led.held.2.1 in
        let to : IsAt g n (s.column + 63 + 1) s.row = after_at g led.from n (s.column + 63) s.row from led.beside in (
          step_once g old.toward led.from n (nat_lt (s.column + 63) old.toward.column) on (step_to g old.toward led.from n (s.column + 63) s.row from Right led.beside) led.step,
          (0, (first_is 0).1 refl, (omega arith, same_at g n (s.column + 63 + 1) s.row (t.column + 0) t.row (omega arith) (sym row) to)),
          led.free,
        )
    | inr other ↦ absurd (out (after_in g s led.from n led.held.0 led.held.2 other led.beside))
  ]

  pub spread_right_out : HasEntered g t first (nat_lt (s.column + 63) old.toward.column) old new → HasMore g (λ on n. IsLedOut g Right s word old on n) old new
  spread_right_out has = more_same g (λ on n. Enters g t first (nat_lt (s.column + 63) old.toward.column) (marks_of g old) on n) (λ on n. IsLedOut g Right s word old on n) old new
      (more_entered g t first (nat_lt (s.column + 63) old.toward.column) old new has) right_out_from right_out_to

-- ---- the whole row

-- who is led to is so where the same is counted and aimed at
led_same : (g : Terrain) (side : Side) (s : Span) (word : ℕ) (d e : Distances) (on : Bool) (n : Cell) → marks_of g e ≡ marks_of g d → e.toward ≡ d.toward → IsLed g side s word d on n
    → IsLed g side s word e on n
led_same g side s word d e on n marks toward led = record {
  from = led.from;
  held = led.held;
  beside = led.beside;
  free = subst (λ (ms : List ℕ). IsFree g ms n) (sym marks) led.free;
  step = subst (λ (p : Place). IsStep g p on led.from n) (sym toward) led.step;
}

-- a cell beside one of the span is in the span, or in another one
left_cases : (g : Terrain) (s : Span) (word : ℕ) (d : Distances) (on : Bool) (n : Cell) → IsLed g Left s word d on n → IsIn g s n ⊎ (¬ (IsIn g s n))
left_cases g s word d on n led = elim (cases_eq led.held.0 0) [
  | inl first ↦ inr (λ (i, at). (let next : led.held.0 ≡ i + 1 = left_place g s led.from n i led.held.0 led.held.2 at led.beside in omega arith))
  | inr later ↦ inl (before_in g s led.from n led.held.0 led.held.2 later led.beside)
]

right_cases : (g : Terrain) (s : Span) (word : ℕ) (d : Distances) (on : Bool) (n : Cell) → IsLed g Right s word d on n → IsIn g s n ⊎ (¬ (IsIn g s n))
right_cases g s word d on n led = elim (cases_eq led.held.0 63) [
  | inl last ↦ inr (λ (i, at). (let next : i ≡ led.held.0 + 1 = right_place g s led.from n i led.held.0 led.held.2 at led.beside in omega (arith, at.0)))
  | inr other ↦ inl (after_in g s led.from n led.held.0 led.held.2 other led.beside)
]

-- within the span first, then to the left of it, then to the right
module _ (g : Terrain) (s : Span) (word : ℕ) (old one two new : Distances) (within : HasMore g (λ on n. IsLedWithin g s word old on n) old one)
    (left : HasMore g (λ on n. IsLedOut g Left s word one on n) one two) (right : HasMore g (λ on n. IsLedOut g Right s word two on n) two new) where
  abbrev Parts : Bool → Cell → Type 0
  Parts on n = (IsLedWithin g s word old on n ⊎ IsLedOut g Left s word one on n) ⊎ IsLedOut g Right s word two on n

  parts_from : (on : Bool) (n : Cell) → Parts on n → IsLedInRow g s word old on n
  parts_from on n (inl (inl (inside, led))) = led
  parts_from on n (inl (inr (led, out))) = inl (led_same g Left s word one old on n (sym within.kept.marks) (sym within.kept.toward) led)
  parts_from on n (inr (led, out)) =
      inr (led_same g Right s word two old on n (sym (left.kept.marks ∙ within.kept.marks)) (sym (left.kept.toward ∙ within.kept.toward)) led)

  parts_to : (on : Bool) (n : Cell) → IsLedInRow g s word old on n → Parts on n
  parts_to on n (inl led) = elim (left_cases g s word old on n led) [
    | inl inside ↦ inl (inl (inside, inl led))
    | inr out ↦ inl (inr (led_same g Left s word old one on n within.kept.marks within.kept.toward led, out))
  ]
  parts_to on n (inr led) = elim (right_cases g s word old on n led) [
    | inl inside ↦ inl (inl (inside, inr led))
    | inr out ↦ inr (led_same g Right s word old two on n (left.kept.marks ∙ within.kept.marks) (left.kept.toward ∙ within.kept.toward) led, out)
  ]

  pub spread_row : HasMore g (λ on n. IsLedInRow g s word old on n) old new
  spread_row = more_same g Parts (λ on n. IsLedInRow g s word old on n) old new
      (more_twice g (λ on n. IsLedWithin g s word old on n ⊎ IsLedOut g Left s word one on n) (λ on n. IsLedOut g Right s word two on n) old two new
      (more_twice g (λ on n. IsLedWithin g s word old on n) (λ on n. IsLedOut g Left s word one on n) old one two within left) right)
      parts_from parts_to

-- each free cell beside one of the word's in the row waits then
module _ (g : Terrain) (s : Span) (word : ℕ) (old new : Distances) (has : HasMore g (λ on n. IsLedInRow g s word old on n) old new) where
  pub row_left : (c n : Cell) → Holds g s word c → IsBeside g Left c n → IsFree g (marks_of g old) n
      → (Stands g new.known new.here.words.items n × IsStep g old.toward true c n) ⊎ (Stands g new.known new.next.words.items n × IsStep g old.toward false c n)
  row_left c n (i, set, (below, at)) beside free =
      let step : IsStep g old.toward (nearer Left (s.column + i) s.row old.toward) c n = step_to g old.toward c n (s.column + i) s.row at Left beside in
      let led : IsLed g Left s word old (nearer Left (s.column + i) s.row old.toward) n = record { from = c; held = (i, set, (below, at)); beside = beside; free = free; step = step } in
      more_waits g (λ on m. IsLedInRow g s word old on m) old new has c n (nearer Left (s.column + i) s.row old.toward) (inl led) step

  pub row_right : (c n : Cell) → Holds g s word c → IsBeside g Right c n → IsFree g (marks_of g old) n
      → (Stands g new.known new.here.words.items n × IsStep g old.toward true c n) ⊎ (Stands g new.known new.next.words.items n × IsStep g old.toward false c n)
  row_right c n (i, set, (below, at)) beside free =
      let step : IsStep g old.toward (nearer Right (s.column + i) s.row old.toward) c n = step_to g old.toward c n (s.column + i) s.row at Right beside in
      let led : IsLed g Right s word old (nearer Right (s.column + i) s.row old.toward) n = record { from = c; held = (i, set, (below, at)); beside = beside; free = free; step = step } in
      more_waits g (λ on m. IsLedInRow g s word old on m) old new has c n (nearer Right (s.column + i) s.row old.toward) (inr led) step
