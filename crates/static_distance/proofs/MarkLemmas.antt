-- The list of marks: what it tells of a cell of a span, and where it stays the same.
use Rattle.std.proofs.Common.{◌≡◌, ◌≢◌, ℕ, zero, suc, ◌+◌, ◌*◌, ◌/◌, ◌%◌, ◌<◌, inl, inr, Bool, true, false, List, length, get_or, replicate, Some, refl, sym, ap, subst, ◌∙◌, arith, set}
use Rattle.std.specs.Prelude.{slice_get}
use Rattle.std.proofs.lemmas.Bool.{cases_eq, cases_lt, cases_Bool}
use Rattle.std.proofs.lemmas.List.{get_or-set_same, get_or-set_other, get_or_past}
use Rattle.std.proofs.lemmas.Nat.{mod-mul-add, div-mul-add, div-add-mod'}
use Rattle.std.proofs.lemmas.Option.{same_Some, slice_get_within, slice_get-get_or, get_or_from_slice_get}
use Rattle.fleet_base.specs.declared.grid.Cell.{Cell}
use Rattle.fleet_base.specs.Terrain.{Terrain}
use Rattle.static_distance.specs.declared.layers.Layer.{Layer}
use Rattle.static_distance.specs.declared.layers.Layers.{Layers}
use Rattle.static_distance.specs.declared.place.Place.{Place}
use Rattle.static_distance.specs.declared.span.Span.{Span}
use Rattle.static_distance.specs.Levels.{IsCounted, apart}
use Rattle.static_distance.specs.Layers.{no_layer, told_from, newest_of, told}
use Rattle.static_distance.specs.declared.distances.Distances.{Distances}
use Rattle.static_distance.specs.Marks.{stride, span_number, span_place, mark_of, mark_at, numbers, marks_in, listed_or, marks_of}
use Rattle.static_distance.specs.Spans.{IsSpan, IsCellAt}
use Rattle.static_distance.proofs.Places.{column_at, row_at}
use Rattle.static_distance.proofs.LayerLemmas.{none_told, newest_here, newest_there}

-- ---- numbers in a row

numbers_count : (mark : ℕ → ℕ) (n count : ℕ) → length (numbers mark n count) ≡ count
numbers_count mark n zero = refl
numbers_count mark n (suc count) = ap suc (numbers_count mark (suc n) count)

numbers_from : (mark : ℕ → ℕ) (n count i k : ℕ) → k ≡ n + i → i < count → slice_get (numbers mark n count) i ≡ Some (mark k)
numbers_from mark n zero i k is inside = absurd (omega arith)
numbers_from mark n (suc count) zero k is inside = (let same : n ≡ k = omega arith in ap (λ (z : ℕ). Some (mark z)) same)
numbers_from mark n (suc count) (suc i) k is inside = numbers_from mark (suc n) count i k (omega arith) (omega arith)

numbers_same : (mark other : ℕ → ℕ) (n count i k : ℕ) → k ≡ n + i → mark k ≡ other k → slice_get (numbers mark n count) i ≡ slice_get (numbers other n count) i
numbers_same mark other n zero i k is same = refl
numbers_same mark other n (suc count) zero k is same =
    (let here : n ≡ k = omega arith in ap (λ (z : ℕ). Some (mark z)) here ∙ (ap (λ (z : ℕ). Some z) same ∙ ap (λ (z : ℕ). Some (other z)) (sym here)))
numbers_same mark other n (suc count) (suc i) k is same = numbers_same mark other (suc n) count i k (omega arith) same

numbers_alike : (mark other : ℕ → ℕ) (n count : ℕ) → ((i : ℕ) → mark i ≡ other i) → numbers mark n count ≡ numbers other n count
numbers_alike mark other n zero same = refl
numbers_alike mark other n (suc count) same = (let first = same n in let rest = numbers_alike mark other (suc n) count same in cc)

numbers_zero : (mark : ℕ → ℕ) (n count : ℕ) → ((i : ℕ) → mark i ≡ 0) → numbers mark n count ≡ replicate count 0
numbers_zero mark n zero none = refl
numbers_zero mark n (suc count) none = (let first = none n in let rest = numbers_zero mark (suc n) count none in cc)

zeros_read : (count k : ℕ) → ◌≡◌ {A = ℕ} (get_or (replicate count 0) k 0) 0
zeros_read zero k = refl
zeros_read (suc count) zero = refl
zeros_read (suc count) (suc k) = zeros_read count k

-- ---- one mark

-- a cell of a span that isn't known has no mark
unknown_mark : (known level moves : ℕ) → known ≢ 1 → mark_of known level moves ≡ 0
unknown_mark zero level moves unknown = refl
unknown_mark (suc zero) level moves unknown = absurd (unknown refl)
unknown_mark (suc (suc more)) level moves unknown = refl

-- one that has a mark is on a level
level_of_mark : (known level moves : ℕ) → mark_of known level moves ≢ 0 → level ≢ 0
level_of_mark (suc zero) (suc level) moves some = λ e. omega arith
level_of_mark (suc zero) zero moves some = absurd (some refl)
level_of_mark zero level moves some = absurd (some refl)
level_of_mark (suc (suc more)) level moves some = absurd (some refl)

-- where a number is read that isn't 0 it stands in the list
read_known : (known : List ℕ) (n : ℕ) → get_or known n 0 ≡ 1 → slice_get known n ≡ Some 1
read_known known n is = elim (cases_lt n (length known)) [
  | inl inside ↦ slice_get-get_or known n 0 inside ∙ ap Some is
  | inr past ↦ absurd (let none : get_or known n 0 ≡ 0 = get_or_past known n 0 past in omega arith)
]

module _ (g : Terrain) (toward : Place) (known : List ℕ) (layers : Layers) where
  pub marks_count : length (marks_in g toward known layers) ≡ length g.cells
  unfolding marks_in
  marks_count = numbers_count (mark_at g toward known layers) 0 (length g.cells)

  pub mark_read : (n : ℕ) → n < length g.cells → slice_get (marks_in g toward known layers) n ≡ Some (mark_at g toward known layers n)
  unfolding marks_in
  mark_read n inside = numbers_from (mark_at g toward known layers) 0 (length g.cells) n n (omega arith) inside

  pub marks_same : (known' : List ℕ) (layers' : Layers) → ((n : ℕ) → mark_at g toward known' layers' n ≡ mark_at g toward known layers n)
      → marks_in g toward known' layers' ≡ marks_in g toward known layers
  unfolding marks_in
  marks_same known' layers' same = numbers_alike (mark_at g toward known' layers') (mark_at g toward known layers) 0 (length g.cells) same

  -- a mark stays where what is told of a cell stays, if its span is known
  pub mark_kept : (layers' : Layers) (n : ℕ) → (slice_get known (span_number g n) ≡ Some 1 → told layers' (span_number g n) (span_place g n) ≡ told layers (span_number g n) (span_place g n))
      → slice_get (marks_in g toward known layers') n ≡ slice_get (marks_in g toward known layers) n
  unfolding marks_in
  mark_kept layers' n kept = numbers_same (mark_at g toward known layers') (mark_at g toward known layers) 0 (length g.cells) n n (omega arith)
      (let moves : ℕ = apart g toward (record { 0 = n }) in
      let one : ℕ = get_or known (span_number g n) 0 in
      elim (cases_eq one 1) [
        | inl is ↦ ap (λ (t : ℕ). mark_of one t moves) (kept (read_known known (span_number g n) is))
        | inr unknown ↦ unknown_mark one (told layers' (span_number g n) (span_place g n)) moves unknown ∙ sym (unknown_mark one (told layers (span_number g n) (span_place g n)) moves unknown)
      ])

  -- no span is known
  pub none_marked : (spans : ℕ) → known ≡ replicate spans 0 → marks_in g toward known layers ≡ replicate (length g.cells) 0
  unfolding marks_in
  none_marked spans none = numbers_zero (mark_at g toward known layers) 0 (length g.cells) (λ n.
      (let zero_known : get_or known (span_number g n) 0 ≡ 0 = ap (λ (xs : List ℕ). get_or xs (span_number g n) 0) none ∙ zeros_read spans (span_number g n) in
      unknown_mark (get_or known (span_number g n) 0) (told layers (span_number g n) (span_place g n)) (apart g toward (record { 0 = n })) (omega arith)))

-- ---- few cells, or many

module _ (g : Terrain) (d : Distances) where
  pub few_marks : d.few ≡ true → marks_of g d ≡ d.by_cell
  few_marks few = ap (λ (b : Bool). listed_or b d.by_cell (marks_in g d.toward d.known d.layers)) few

  pub many_marks : d.few ≡ false → marks_of g d ≡ marks_in g d.toward d.known d.layers
  many_marks many = ap (λ (b : Bool). listed_or b d.by_cell (marks_in g d.toward d.known d.layers)) many

  -- no cell has a mark
  pub cleared_marks : (spans : ℕ) → d.known ≡ replicate spans 0 → (d.few ≡ true → d.by_cell ≡ replicate (length g.cells) 0) → marks_of g d ≡ replicate (length g.cells) 0
  cleared_marks spans none listed = elim (cases_Bool d.few) [
    | inl few ↦ few_marks few ∙ listed few
    | inr many ↦ many_marks many ∙ none_marked g d.toward d.known d.layers spans none
  ]

-- ---- the cells of a span

module _ (g : Terrain) (s : Span) (is : IsSpan g s) where
  -- a row has more spans than the span's part says
  pub part_inside : is.part < stride g
  part_inside = (let inside : s.column < g.width = is.column_in in omega (arith, is.column_is))

  pub number_of_cell : (i : ℕ) (c : Cell) → IsCellAt g s i c → span_number g c.0 ≡ s.number
  number_of_cell i c (below, at) =
      let column : c.0 % g.width ≡ s.column + i = column_at g c (s.column + i) s.row at in
      let row : c.0 / g.width ≡ s.row = row_at g c (s.column + i) s.row at in
      let part : c.0 % g.width / 64 ≡ is.part = omega (arith, is.column_is) in
      ap (λ (n : ℕ). n * stride g + c.0 % g.width / 64) row ∙ (ap (λ (n : ℕ). s.row * stride g + n) part ∙ sym is.number_is)

  pub place_of_cell : (i : ℕ) (c : Cell) → IsCellAt g s i c → span_place g c.0 ≡ i
  place_of_cell i c (below, at) =
      let column : c.0 % g.width ≡ s.column + i = column_at g c (s.column + i) s.row at in
      omega (arith, is.column_is)

  -- a cell of that span and of that place is the one that stands there
  pub cell_of_number : (i : ℕ) (c : Cell) → span_number g c.0 ≡ s.number → span_place g c.0 ≡ i → c.0 ≡ s.row * g.width + (s.column + i)
  cell_of_number i c number place =
      let wide : 0 < g.width = omega (arith, is.column_in) in
      let column_in : c.0 % g.width < g.width = omega arith in
      let part_in : c.0 % g.width / 64 < stride g = omega arith in
      let numbers_are : c.0 / g.width * stride g + c.0 % g.width / 64 ≡ s.row * stride g + is.part = number ∙ is.number_is in
      let row : c.0 / g.width ≡ s.row =
      sym (div-mul-add (c.0 / g.width) (stride g) (c.0 % g.width / 64) part_in) ∙ (ap (λ (n : ℕ). n / stride g) numbers_are ∙ div-mul-add s.row (stride g) is.part part_inside) in
      let part : c.0 % g.width / 64 ≡ is.part =
      sym (mod-mul-add (c.0 / g.width) (stride g) (c.0 % g.width / 64) part_in) ∙ (ap (λ (n : ℕ). n % stride g) numbers_are ∙ mod-mul-add s.row (stride g) is.part part_inside) in
      let column : c.0 % g.width ≡ s.column + i = omega (arith, is.column_is) in
      sym (div-add-mod' c.0 g.width) ∙ (ap (λ (n : ℕ). n * g.width + c.0 % g.width) row ∙ ap (λ (n : ℕ). s.row * g.width + n) column)

  module _ (toward : Place) (known : List ℕ) (layers : Layers) (i : ℕ) (c : Cell) (at : IsCellAt g s i c) where
    mark_there : mark_at g toward known layers c.0 ≡ mark_of (get_or known s.number 0) (told layers s.number i) (apart g toward c)
    mark_there =
        ap (λ (n : ℕ). mark_of (get_or known n 0) (told layers n (span_place g c.0)) (apart g toward c)) (number_of_cell i c at)
        ∙ ap (λ (p : ℕ). mark_of (get_or known s.number 0) (told layers s.number p) (apart g toward c)) (place_of_cell i c at)

    -- a cell of a span that is known is counted where its layers tell a level
    pub told_mark : c.0 < length g.cells → slice_get known s.number ≡ Some 1 → slice_get (marks_in g toward known layers) c.0 ≡ Some (mark_of 1 (told layers s.number i) (apart g toward c))
    told_mark inside known_is =
        let one : get_or known s.number 0 ≡ 1 = get_or_from_slice_get known s.number 1 0 known_is in
        mark_read g toward known layers c.0 inside ∙ ap Some (mark_there ∙ ap (λ (k : ℕ). mark_of k (told layers s.number i) (apart g toward c)) one)

    -- a counted cell is on a level
    module _ (k : ℕ) (counted : IsCounted (marks_in g toward known layers) c k) where
      has_mark : mark_of (get_or known s.number 0) (told layers s.number i) (apart g toward c) ≡ suc k
      has_mark =
          let inside : c.0 < length g.cells = subst (λ (n : ℕ). c.0 < n) (marks_count g toward known layers) (slice_get_within (marks_in g toward known layers) c.0 (suc k) counted) in
          sym mark_there ∙ same_Some (mark_at g toward known layers c.0) (suc k) (sym (mark_read g toward known layers c.0 inside) ∙ counted)

      pub counted_told : told layers s.number i ≢ 0
      counted_told = level_of_mark (get_or known s.number 0) (told layers s.number i) (apart g toward c) (λ none. (let bad : suc k ≡ 0 = sym has_mark ∙ none in omega arith))

-- ---- a span is begun that wasn't known

module _ (g : Terrain) (toward : Place) (known known' : List ℕ) (layers layers' : Layers) (n : ℕ) (unknown : slice_get known n ≢ Some 1) (inside : n < length known)
    (has : n < length layers.newest.items) (known_is : known' ≡ set known n 1) (newest_is : layers'.newest.items ≡ set layers.newest.items n no_layer)
    (older_is : layers'.older ≡ layers.older) where
  begun_told : (m place : ℕ) → m ≡ n → told layers' m place ≡ 0
  begun_told m place same =
      ap (λ (k : ℕ). told layers' k place) same
      ∙ (ap (λ (z : Layer). told_from layers'.older.items z place) (newest_here layers layers' n no_layer has newest_is) ∙ none_told layers'.older.items place)

  told_elsewhere : (m place : ℕ) → m ≢ n → told layers' m place ≡ told layers m place
  told_elsewhere m place other =
      ap (λ (z : Layer). told_from layers'.older.items z place) (newest_there layers layers' n no_layer has newest_is m other)
      ∙ ap (λ (v : _). told_from v.items (newest_of layers m) place) older_is

  begun_mark : (m place moves : ℕ) → mark_of (get_or known' m 0) (told layers' m place) moves ≡ mark_of (get_or known m 0) (told layers m place) moves
  begun_mark m place moves = elim (cases_eq m n) [
    | inl same ↦
        let before : mark_of (get_or known m 0) (told layers m place) moves ≡ 0 =
        unknown_mark (get_or known m 0) (told layers m place) moves (λ one. unknown (read_known known n (ap (λ (k : ℕ). get_or known k 0) (sym same) ∙ one))) in
        let now : get_or known' m 0 ≡ 1 = ap (λ (xs : List ℕ). get_or xs m 0) known_is ∙ (ap (λ (k : ℕ). get_or (set known n 1) k 0) same ∙ get_or-set_same known n 1 0 inside) in
        ap (λ (k : ℕ). mark_of k (told layers' m place) moves) now ∙ (ap (λ (t : ℕ). mark_of 1 t moves) (begun_told m place same) ∙ sym before)
    | inr other ↦
        ap (λ (xs : List ℕ). mark_of (get_or xs m 0) (told layers' m place) moves) known_is
        ∙ (ap (λ (k : ℕ). mark_of k (told layers' m place) moves) (get_or-set_other known n m 1 0 other)
        ∙ ap (λ (t : ℕ). mark_of (get_or known m 0) t moves) (told_elsewhere m place other))
  ]

  pub begun_marks : marks_in g toward known' layers' ≡ marks_in g toward known layers
  begun_marks = marks_same g toward known layers known' layers' (λ m. begun_mark (span_number g m) (span_place g m) (apart g toward (record { 0 = m })))
