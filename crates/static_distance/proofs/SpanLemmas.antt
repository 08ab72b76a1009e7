-- Spans of a grid: what is known of a span and its word, and of the cells that stand in it.
use Rattle.std.proofs.Common.{◌≡◌, ◌≢◌, ℕ, zero, suc, ◌+◌, ◌-◌, ◌*◌, ◌/◌, ◌%◌, ◌<◌, ◌≤◌, ◌⊎◌, ◌↔◌, inl, inr, min, get_or, Bool, true, false, List, [], ◌∷◌, length, Some, refl, sym, ap, subst, ◌∙◌, arith, set, take, drop}
use Rattle.std.specs.Prelude.{slice_get, Vec}
use Rattle.std.specs.Global.{Global}
use Rattle.std.proofs.lemmas.Bool.{cases_eq, cases_Bool}
use Rattle.std.proofs.lemmas.List.{length-set, length-take}
use Rattle.std.proofs.lemmas.Nat.{mod-mul-add, div-mul-add, mul-add-lt}
use Rattle.std.proofs.lemmas.Option.{slice_get_within, slice_get-get_or, slice_get_read, same_Some}
use Rattle.fleet_base.specs.declared.grid.Cell.{Cell}
use Rattle.fleet_base.specs.Terrain.{Terrain, IsOpen}
use Rattle.fleet_base.proofs.TrafficLemmas.{same_cells}
use Rattle.row_words.specs.Words.{IsSet}
use Rattle.row_words.proofs.WordLemmas.{is_empty}
use Rattle.static_distance.specs.declared.span.Span.{Span}
use Rattle.static_distance.specs.declared.waiting.Waiting.{Waiting}
use Rattle.static_distance.specs.declared.distances.Distances.{Distances}
use Rattle.static_distance.specs.declared.layers.Layer.{Layer}
use Rattle.static_distance.specs.declared.place.Place.{Place}
use Rattle.static_distance.specs.Levels.{IsCounted}
use Rattle.static_distance.specs.Layers.{no_layer, newest_of, AreFalling, IsLinked}
use Rattle.static_distance.specs.Marks.{stride, marks_in, marks_of}
use Rattle.static_distance.specs.Waiting.{IsListed, HasAdded}
use Rattle.static_distance.specs.Spans.{IsSpan, IsCellAt, Holds, Stands, AreListed, IsFree, AreLayers, AreSpans, HasEntered}
use Rattle.static_distance.specs.Aim.{HasLooked}
use Rattle.static_distance.proofs.LayerLemmas.{newest_here, newest_there, newest_count}
use Rattle.static_distance.proofs.MarkLemmas.{part_inside, few_marks, many_marks, begun_marks}

-- ---- lists

get_drop : {X : Type 0} (n : ℕ) (xs : List X) (i k : ℕ) → k ≡ n + i → slice_get (drop n xs) i ≡ slice_get xs k
get_drop zero xs i k e = ap (slice_get xs) (omega arith)
get_drop (suc n) [] i k e = refl
get_drop (suc n) (x ∷ xs) i zero e = absurd (omega arith)
get_drop (suc n) (x ∷ xs) i (suc k) e = get_drop n xs i k (omega arith)

get_take : {X : Type 0} (n : ℕ) (xs : List X) (i : ℕ) → i < n → slice_get (take n xs) i ≡ slice_get xs i
get_take zero xs i below = absurd (omega arith)
get_take (suc n) [] i below = refl
get_take (suc n) (x ∷ xs) zero below = refl
get_take (suc n) (x ∷ xs) (suc i) below = get_take n xs i (omega arith)

pub set_here : {X : Type 0} (xs : List X) (i : ℕ) (y : X) → i < length xs → slice_get (set xs i y) i ≡ Some y
set_here [] i y inside = absurd (omega arith)
set_here (x ∷ xs) zero y inside = refl
set_here (x ∷ xs) (suc i) y inside = set_here xs i y (omega arith)

pub set_there : {X : Type 0} (xs : List X) (i k : ℕ) (y : X) → k ≢ i → slice_get (set xs i y) k ≡ slice_get xs k
set_there [] i k y other = refl
set_there (x ∷ xs) zero zero y other = absurd (other refl)
set_there (x ∷ xs) zero (suc k) y other = refl
set_there (x ∷ xs) (suc i) zero y other = refl
set_there (x ∷ xs) (suc i) (suc k) y other = set_there xs i k y (λ e. other (ap suc e))

-- ---- spans and their numbers

span_of : ℕ → ℕ → ℕ → Span
span_of number row column = record { number = number; row = row; column = column }

pub same_spans : (s t : Span) → s.number ≡ t.number → s.row ≡ t.row → s.column ≡ t.column → s ≡ t
unfolding span_of
same_spans s t number row column =
    ap (λ (n : ℕ). span_of n s.row s.column) number ∙ (ap (λ (n : ℕ). span_of t.number n s.column) row ∙ ap (span_of t.number t.row) column)

module _ (g : Terrain) where
  pub span_inside : (s : Span) → IsSpan g s → s.number < g.height * stride g
  span_inside s is = (let inside : s.row * stride g + is.part < stride g * g.height = mul-add-lt s.row (stride g) is.part g.height is.row_in (part_inside g s is) in
      omega (arith, is.number_is))

  -- the span has a place in a list with one for each span
  pub span_within : (s : Span) (xs : List ℕ) → IsSpan g s → length xs ≡ g.height * stride g → s.number < length xs
  span_within s xs is fit = omega (arith, span_inside s is)

  -- a number is that of one span
  pub span_once : (s t : Span) → IsSpan g s → IsSpan g t → s.number ≡ t.number → s ≡ t
  span_once s t is is' number =
      let numbers : s.row * stride g + is.part ≡ t.row * stride g + is'.part = sym is.number_is ∙ number ∙ is'.number_is in
      let row : s.row ≡ t.row =
      sym (div-mul-add s.row (stride g) is.part (part_inside g s is)) ∙ ap (λ (n : ℕ). n / stride g) numbers ∙ div-mul-add t.row (stride g) is'.part (part_inside g t is') in
      let part : is.part ≡ is'.part =
      sym (mod-mul-add s.row (stride g) is.part (part_inside g s is)) ∙ ap (λ (n : ℕ). n % stride g) numbers ∙ mod-mul-add t.row (stride g) is'.part (part_inside g t is') in
      same_spans s t number row (omega (arith, is.column_is, is'.column_is))

  -- a cell stands at one place of one span
  pub place_once : (s t : Span) (i j : ℕ) (c : Cell) → IsSpan g s → IsSpan g t → IsCellAt g s i c → IsCellAt g t j c → (s ≡ t) × (i ≡ j)
  place_once s t i j c is is' (below, (inside, high, at)) (below', (inside', high', at')) =
      let places : s.row * g.width + (s.column + i) ≡ t.row * g.width + (t.column + j) = sym at ∙ at' in
      let row : s.row ≡ t.row =
      sym (div-mul-add s.row g.width (s.column + i) inside) ∙ ap (λ (n : ℕ). n / g.width) places ∙ div-mul-add t.row g.width (t.column + j) inside' in
      let column : s.column + i ≡ t.column + j =
      sym (mod-mul-add s.row g.width (s.column + i) inside) ∙ ap (λ (n : ℕ). n % g.width) places ∙ mod-mul-add t.row g.width (t.column + j) inside' in
      let part : is.part ≡ is'.part = omega (arith, is.column_is, is'.column_is) in
      let number : s.number ≡ t.number =
      is.number_is ∙ ap (λ (n : ℕ). n * stride g + is.part) row ∙ ap (λ (n : ℕ). t.row * stride g + n) part ∙ sym is'.number_is in
      (same_spans s t number row (omega (arith, is.column_is, is'.column_is)), omega (arith, is.column_is, is'.column_is))

  -- ---- the cells of a span

  -- a part of the list of cells begins with those of the span, and has 64 of them or those up to the end of the row
  module _ (s : Span) (is : IsSpan g s) (first count : ℕ) (first_is : first ≡ g.width * s.row + s.column) (count_is : count ≡ min (g.width - s.column) 64) where
    pub cells_values : (i : ℕ) (v : Bool) → slice_get (take count (drop first g.cells)) i ≡ Some v → (c : Cell) × IsCellAt g s i c × (slice_get g.cells c.0 ≡ Some v)
    cells_values i v at =
        let within : i < length (take count (drop first g.cells)) = slice_get_within (take count (drop first g.cells)) i v at in
        let below : i < count = omega (arith, length-take count (drop first g.cells)) in
        let place : first + i ≡ s.row * g.width + (s.column + i) = omega arith in (
          record { 0 = s.row * g.width + (s.column + i) },
          (omega arith, (omega arith, is.row_in, refl)),
          sym (get_drop first g.cells i (s.row * g.width + (s.column + i)) (sym place)) ∙ (sym (get_take count (drop first g.cells) i below) ∙ at),
        )

    pub cells_all : (i : ℕ) (c : Cell) → IsCellAt g s i c → slice_get (take count (drop first g.cells)) i ≡ slice_get g.cells c.0
    cells_all i c (few, (inside, high, at)) =
        let below : i < count = omega arith in
        let place : c.0 ≡ first + i = omega arith in
        get_take count (drop first g.cells) i below ∙ get_drop first g.cells i c.0 place

  -- ---- cells that stand in a span

  -- a cell of the word of a span that was looked at
  pub stands_of : (known words : List ℕ) (s : Span) (word : ℕ) (c : Cell) → IsSpan g s → slice_get known s.number ≡ Some 1 → slice_get words s.number ≡ Some word → Holds g s word c
      → Stands g known words c
  stands_of known words s word c is known_is at holds = record { span = s; is = is; known_is = known_is; word = word; at = at; holds = holds }

  -- a cell that stands in a span of that number is one of the span's word
  pub stands_there : (known words : List ℕ) (s : Span) (c : Cell) → IsSpan g s → (stands : Stands g known words c) → stands.span.number ≡ s.number
      → (slice_get known s.number ≡ Some 1) × (slice_get words s.number ≡ Some stands.word) × Holds g s stands.word c
  stands_there known words s c is stands number =
      let same : stands.span ≡ s = span_once stands.span s stands.is is number in (
        ap (slice_get known) (sym number) ∙ stands.known_is,
        ap (slice_get words) (sym number) ∙ stands.at,
        subst (λ (t : Span). Holds g t stands.word c) same stands.holds,
      )

  -- a cell of the span stands nowhere but there
  pub stands_in : (known words : List ℕ) (s : Span) (i : ℕ) (c : Cell) → IsSpan g s → IsCellAt g s i c → Stands g known words c
      → (word : ℕ) × (slice_get known s.number ≡ Some 1) × (slice_get words s.number ≡ Some word) × IsSet word i
  stands_in known words s i c is cell stands =
      let once : (stands.span ≡ s) × (stands.holds.0 ≡ i) = place_once stands.span s stands.holds.0 i c stands.is is stands.holds.2 cell in
      let number : stands.span.number ≡ s.number = ap (λ (t : Span). t.number) once.0 in
      (stands.word, ap (slice_get known) (sym number) ∙ stands.known_is, ap (slice_get words) (sym number) ∙ stands.at, subst (λ (j : ℕ). IsSet stands.word j) once.1 stands.holds.1)

  -- ---- a span that wasn't known is looked at, and has no cell that waits

  known_still : (known : List ℕ) (n k : ℕ) → slice_get known n ≢ Some 1 → slice_get known k ≡ Some 1 → slice_get (set known n 1) k ≡ Some 1
  known_still known n k unknown at = set_there known n k 1 (λ same. unknown (ap (slice_get known) (sym same) ∙ at)) ∙ at

  known_before : (known : List ℕ) (n k : ℕ) → k ≢ n → slice_get (set known n 1) k ≡ Some 1 → slice_get known k ≡ Some 1
  known_before known n k other at = sym (set_there known n k 1 other) ∙ at

  module _ (known words : List ℕ) (n : ℕ) (within : n < length words) (unknown : slice_get known n ≢ Some 1) where
    stands_still : (c : Cell) → Stands g known words c → Stands g (set known n 1) (set words n 0) c
    stands_still c stands =
        let other : stands.span.number ≢ n = λ same. unknown (ap (slice_get known) (sym same) ∙ stands.known_is) in
        stands_of (set known n 1) (set words n 0) stands.span stands.word c stands.is (known_still known n stands.span.number unknown stands.known_is)
        (set_there words n stands.span.number 0 other ∙ stands.at) stands.holds

    stood_before : (c : Cell) → Stands g (set known n 1) (set words n 0) c → Stands g known words c
    stood_before c stands = elim (cases_eq stands.span.number n) [
      | inl same ↦ absurd (
          let none : 0 ≡ stands.word = same_Some 0 stands.word (sym (set_here words n 0 within) ∙ (ap (slice_get (set words n 0)) (sym same) ∙ stands.at)) in
          is_empty stands.word (sym none) stands.holds.0 stands.holds.1)
      | inr other ↦ stands_of known words stands.span stands.word c stands.is (known_before known n stands.span.number other stands.known_is)
          (sym (set_there words n stands.span.number 0 other) ∙ stands.at) stands.holds
    ]

    listed_still : (spans : List Span) → AreListed g known words spans → AreListed g (set known n 1) (set words n 0) spans
    listed_still spans are = record {
      spans_are = λ j s at. (let is : IsSpan g s × (slice_get known s.number ≡ Some 1) = are.spans_are j s at in (is.0, known_still known n s.number unknown is.1));
      listed = λ k w known_is at some. elim (cases_eq k n) [
        | inl same ↦ absurd (some (same_Some w 0 (sym at ∙ (ap (slice_get (set words n 0)) same ∙ set_here words n 0 within))))
        | inr other ↦ are.listed k w (known_before known n k other known_is) (sym (set_there words n k 0 other) ∙ at) some
      ];
    }

  -- nothing but what is known of the span of that number is written, and that none of its cells waits
  pub record IsLookedAt (d e : Distances) (n word : ℕ) : Type 0 where
    pub goal : e.goal ≡ d.goal
    pub toward : e.toward ≡ d.toward
    pub level : e.level ≡ d.level
    pub few : e.few ≡ d.few
    pub by_cell : e.by_cell ≡ d.by_cell
    pub known : e.known ≡ set d.known n 1
    pub free : e.free.items ≡ set d.free.items n word
    pub here : e.here.words.items ≡ set d.here.words.items n 0
    pub next : e.next.words.items ≡ set d.next.words.items n 0
    pub here_spans : e.here.spans ≡ d.here.spans
    pub next_spans : e.next.spans ≡ d.next.spans
    pub newest : e.layers.newest.items ≡ set d.layers.newest.items n no_layer
    pub older : e.layers.older ≡ d.layers.older

  free_or_counted : (marks : List ℕ) (c : Cell) (m : ℕ) → slice_get marks c.0 ≡ Some m → (slice_get marks c.0 ≡ Some 0) ⊎ ((k : ℕ) × IsCounted marks c k)
  free_or_counted marks c zero at = inl at
  free_or_counted marks c (suc k) at = inr (k, at)

  module _ (d e : Distances) (s : Span) (cells : List Bool) (word : ℕ) (is : IsSpan g s) (spans : AreSpans g d) (unknown : slice_get d.known s.number ≢ Some 1)
      (values : (i : ℕ) (v : Bool) → slice_get cells i ≡ Some v → (c : Cell) × IsCellAt g s i c × (slice_get g.cells c.0 ≡ Some v))
      (all : (i : ℕ) (c : Cell) → IsCellAt g s i c → slice_get cells i ≡ slice_get g.cells c.0)
      (opened : (i : ℕ) → IsSet word i ↔ (slice_get cells i ≡ Some true)) (looks : IsLookedAt d e s.number word) where
    in_here : s.number < length d.here.words.items
    in_here = span_within s d.here.words.items is spans.here_fit

    in_next : s.number < length d.next.words.items
    in_next = span_within s d.next.words.items is spans.next_fit

    known_then : (k : ℕ) → slice_get d.known k ≡ Some 1 → slice_get e.known k ≡ Some 1
    known_then k at = ap (λ (xs : List ℕ). slice_get xs k) looks.known ∙ known_still d.known s.number k unknown at

    -- where there are many cells the span is begun in the layers
    module _ (layered : AreLayers g d.known d.layers (marks_of g d)) where
      in_layers : s.number < length d.layers.newest.items
      in_layers = omega (arith, layered.fit, span_inside s is)

      layers_tell : marks_in g e.toward e.known e.layers ≡ marks_in g d.toward d.known d.layers
      layers_tell =
          ap (λ (p : Place). marks_in g p e.known e.layers) looks.toward
          ∙ begun_marks g d.toward d.known e.known d.layers e.layers s.number unknown (span_within s d.known is spans.known_fit) in_layers looks.known looks.newest looks.older

      looked_linked : (n : ℕ) → slice_get e.known n ≡ Some 1 → IsLinked e.layers n
      looked_linked n known_is = elim (cases_eq n s.number) [
        | inl same ↦ subst (λ (z : Layer). z.older ≤ length e.layers.older.items) (sym (ap (newest_of e.layers) same ∙ newest_here d.layers e.layers s.number no_layer in_layers looks.newest)) (omega arith)
        | inr other ↦
            let before : IsLinked d.layers n = layered.linked n (known_before d.known s.number n other (ap (λ (xs : List ℕ). slice_get xs n) (sym looks.known) ∙ known_is)) in
            subst (λ (z : Layer). z.older ≤ length e.layers.older.items) (sym (newest_there d.layers e.layers s.number no_layer in_layers looks.newest n other))
            (subst (λ (v : Vec Layer Global). (newest_of d.layers n).older ≤ length v.items) (sym looks.older) before)
      ]

      looked_layers : AreLayers g e.known e.layers (marks_of g d)
      looked_layers = record {
        fit = newest_count d.layers e.layers s.number no_layer in_layers looks.newest ∙ layered.fit;
        falling = subst (λ (v : Vec Layer Global). AreFalling v.items) (sym looks.older) layered.falling;
        linked = looked_linked;
        few = omega (arith, layered.few, ap (λ (v : Vec Layer Global). length v.items) looks.older);
      }

    looked_marks : marks_of g e ≡ marks_of g d
    looked_marks = elim (cases_Bool d.few) [
      | inl few ↦ few_marks g e (looks.few ∙ few) ∙ (looks.by_cell ∙ sym (few_marks g d few))
      | inr many ↦ many_marks g e (looks.few ∙ many) ∙ (layers_tell (spans.layered many) ∙ sym (many_marks g d many))
    ]

    -- no cell of the span is counted, so that those that are open are free
    open_free : (i : ℕ) (c : Cell) → IsCellAt g s i c → IsOpen g c → IsFree g (marks_of g d) c
    open_free i c cell is_open =
        let inside : c.0 < length (marks_of g d) = omega (arith, spans.marks_fit, slice_get_within g.cells c.0 true is_open) in (
          is_open,
          elim (free_or_counted (marks_of g d) c (get_or (marks_of g d) c.0 0) (slice_get-get_or (marks_of g d) c.0 0 inside)) [
            | inl free ↦ free
            | inr (k, counted) ↦ absurd (unknown (spans.looked s i k c is cell counted))
          ],
        )

    known_here : slice_get e.known s.number ≡ Some 1
    known_here = ap (λ (xs : List ℕ). slice_get xs s.number) looks.known ∙ set_here d.known s.number 1 (span_within s d.known is spans.known_fit)

    known_elsewhere : (k : ℕ) → k ≢ s.number → slice_get e.known k ≡ Some 1 → slice_get d.known k ≡ Some 1
    known_elsewhere k other at = known_before d.known s.number k other (ap (λ (xs : List ℕ). slice_get xs k) (sym looks.known) ∙ at)

    free_word : (t : Span) (w : ℕ) → t.number ≡ s.number → slice_get e.free.items t.number ≡ Some w → w ≡ word
    free_word t w same at =
        let within : s.number < length d.free.items = span_within s d.free.items is spans.free_fit in
        let here : slice_get e.free.items s.number ≡ Some word = ap (λ (xs : List ℕ). slice_get xs s.number) looks.free ∙ set_here d.free.items s.number word within in
        same_Some w word (sym at ∙ (ap (slice_get e.free.items) same ∙ here))

    free_elsewhere : (k w : ℕ) → k ≢ s.number → slice_get e.free.items k ≡ Some w → slice_get d.free.items k ≡ Some w
    free_elsewhere k w other at = sym (set_there d.free.items s.number k word other) ∙ (ap (λ (xs : List ℕ). slice_get xs k) (sym looks.free) ∙ at)

    looked_free_only : (t : Span) (w i : ℕ) → IsSpan g t → slice_get e.known t.number ≡ Some 1 → slice_get e.free.items t.number ≡ Some w → IsSet w i → i < 64
        → (c : Cell) × IsCellAt g t i c × IsFree g (marks_of g d) c
    looked_free_only t w i is' known_is at set below = elim (cases_eq t.number s.number) [
      | inl same ↦
          let cell : (c : Cell) × IsCellAt g s i c × IsOpen g c = values i true ((opened i).0 (subst (λ (u : ℕ). IsSet u i) (free_word t w same at) set)) in
          (cell.0, subst (λ (u : Span). IsCellAt g u i cell.0) (sym (span_once t s is' is same)) cell.1, open_free i cell.0 cell.1 cell.2)
      | inr other ↦ spans.free_only t w i is' (known_elsewhere t.number other known_is) (free_elsewhere t.number w other at) set below
    ]

    looked_free_all : (t : Span) (w i : ℕ) (c : Cell) → IsSpan g t → slice_get e.known t.number ≡ Some 1 → slice_get e.free.items t.number ≡ Some w → IsCellAt g t i c → IsFree g (marks_of g d) c
        → IsSet w i
    looked_free_all t w i c is' known_is at cell free = elim (cases_eq t.number s.number) [
      | inl same ↦
          let mine : IsCellAt g s i c = subst (λ (u : Span). IsCellAt g u i c) (span_once t s is' is same) cell in
          subst (λ (u : ℕ). IsSet u i) (sym (free_word t w same at)) ((opened i).1 (all i c mine ∙ free.0))
      | inr other ↦ spans.free_all t w i c is' (known_elsewhere t.number other known_is) (free_elsewhere t.number w other at) cell free
    ]

    looked_spans : AreSpans g e
    looked_spans = record {
      marks_fit = ap length looked_marks ∙ spans.marks_fit;
      known_fit = ap length looks.known ∙ (length-set d.known s.number 1 ∙ spans.known_fit);
      free_fit = ap length looks.free ∙ (length-set d.free.items s.number word ∙ spans.free_fit);
      here_fit = ap length looks.here ∙ (length-set d.here.words.items s.number 0 ∙ spans.here_fit);
      next_fit = ap length looks.next ∙ (length-set d.next.words.items s.number 0 ∙ spans.next_fit);
      free_only = λ t w i is' known_is at set below.
          subst (λ (marks : List ℕ). (c : Cell) × IsCellAt g t i c × IsFree g marks c) (sym looked_marks) (looked_free_only t w i is' known_is at set below);
      free_all = λ t w i c is' known_is at cell free. looked_free_all t w i c is' known_is at cell (subst (λ (marks : List ℕ). IsFree g marks c) looked_marks free);
      looked = λ t i k c is' cell counted. known_then t.number (spans.looked t i k c is' cell (subst (λ (marks : List ℕ). IsCounted marks c k) looked_marks counted));
      layered = λ many. subst (λ (marks : List ℕ). AreLayers g e.known e.layers marks) (sym looked_marks) (looked_layers (spans.layered (sym looks.few ∙ many)));
      here_listed = rw (looks.known, looks.here, looks.here_spans) (listed_still d.known d.here.words.items s.number in_here unknown d.here.spans.items spans.here_listed);
      next_listed = rw (looks.known, looks.next, looks.next_spans) (listed_still d.known d.next.words.items s.number in_next unknown d.next.spans.items spans.next_listed);
    }

    pub has_looked : HasLooked g s d e
    has_looked = record {
      spans = looked_spans;
      known = known_here;
      kept = record {
        goal = looks.goal;
        toward = looks.toward;
        level = looks.level;
        marks = looked_marks;
        here = λ c stands. rw (looks.known, looks.here) (stands_still d.known d.here.words.items s.number in_here unknown c stands);
        next = λ c stands. rw (looks.known, looks.next) (stands_still d.known d.next.words.items s.number in_next unknown c stands);
      };
      here_only = λ c stands. stood_before d.known d.here.words.items s.number in_here unknown c (rw (looks.known, looks.here) at stands);
      next_only = λ c stands. stood_before d.known d.next.words.items s.number in_next unknown c (rw (looks.known, looks.next) at stands);
      here_spans = looks.here_spans;
      next_spans = looks.next_spans;
    }

  -- ---- cells of a span that was looked at wait, too

  module _ (known : List ℕ) (old new : Waiting) (s : Span) (word : ℕ) (is : IsSpan g s) (known_is : slice_get known s.number ≡ Some 1) (added : HasAdded old new s word)
      (within : s.number < length new.words.items) where
    -- what the span's word has now
    new_word : ℕ
    new_word = get_or new.words.items s.number 0

    new_at : slice_get new.words.items s.number ≡ Some new_word
    unfolding new_word
    new_at = slice_get-get_or new.words.items s.number 0 within

    before : ℕ
    before = (added.mine new_word new_at).0

    before_at : slice_get old.words.items s.number ≡ Some before
    unfolding before
    before_at = (added.mine new_word new_at).1

    is_either : (i : ℕ) → IsSet new_word i ↔ (IsSet before i ⊎ IsSet word i)
    unfolding before
    is_either i = (added.mine new_word new_at).2 i

    pub added_stands : (c : Cell) → Holds g s word c → Stands g known new.words.items c
    added_stands c (i, set, cell) = stands_of known new.words.items s new_word c is known_is new_at (i, (is_either i).1 (inr set), cell)

    pub added_kept : (c : Cell) → Stands g known old.words.items c → Stands g known new.words.items c
    added_kept c stands = elim (cases_eq stands.span.number s.number) [
      | inl same ↦
          let there : (slice_get known s.number ≡ Some 1) × (slice_get old.words.items s.number ≡ Some stands.word) × Holds g s stands.word c = stands_there known old.words.items s c is stands same in
          let its : stands.word ≡ before = same_Some stands.word before (sym there.1 ∙ before_at) in
          stands_of known new.words.items s new_word c is known_is new_at
          (there.2.0, (is_either there.2.0).1 (inl (subst (λ (w : ℕ). IsSet w there.2.0) its there.2.1)), there.2.2)
      | inr other ↦ stands_of known new.words.items stands.span stands.word c stands.is stands.known_is (added.others stands.span.number other ∙ stands.at) stands.holds
    ]

    pub added_only : (c : Cell) → Stands g known new.words.items c → Stands g known old.words.items c ⊎ Holds g s word c
    added_only c stands = elim (cases_eq stands.span.number s.number) [
      | inl same ↦
          let there : (slice_get known s.number ≡ Some 1) × (slice_get new.words.items s.number ≡ Some stands.word) × Holds g s stands.word c = stands_there known new.words.items s c is stands same in
          let its : stands.word ≡ new_word = same_Some stands.word new_word (sym there.1 ∙ new_at) in
          elim ((is_either there.2.0).0 (subst (λ (w : ℕ). IsSet w there.2.0) its there.2.1)) [
            | inl earlier ↦ inl (stands_of known old.words.items s before c is known_is before_at (there.2.0, earlier, there.2.2))
            | inr now ↦ inr (there.2.0, now, there.2.2)
          ]
      | inr other ↦ inl (stands_of known old.words.items stands.span stands.word c stands.is stands.known_is (sym (added.others stands.span.number other) ∙ stands.at) stands.holds)
    ]

    pub added_listed : AreListed g known old.words.items old.spans.items → AreListed g known new.words.items new.spans.items
    added_listed are = record {
      spans_are = λ j t at. elim (added.spans_are j t at) [
        | inl earlier ↦ are.spans_are earlier.0 t earlier.1
        | inr same ↦ subst (λ (u : Span). IsSpan g u × (slice_get known u.number ≡ Some 1)) (sym same) (is, known_is)
      ];
      listed = λ n w known_n at some. elim (cases_eq n s.number) [
        | inr other ↦ added.listed n (are.listed n w known_n (sym (added.others n other) ∙ at) some)
        | inl same ↦ subst (λ (k : ℕ). IsListed new.spans.items k) (sym same) (elim (added.mine_listed before before_at) [
          | inl had ↦ added.listed s.number (are.listed s.number before known_is before_at had)
          | inr now ↦ now
        ])
      ];
    }

  module _ (m : Distances) (s : Span) (word : ℕ) (is : IsSpan g s) (spans : AreSpans g m) (known_is : slice_get m.known s.number ≡ Some 1) (new : Waiting) where
    pub spans_here : HasAdded m.here new s word → length new.words.items ≡ length m.here.words.items → AreSpans g (record m { here = new })
    spans_here added fits = record {
      marks_fit = spans.marks_fit;
      known_fit = spans.known_fit;
      free_fit = spans.free_fit;
      here_fit = fits ∙ spans.here_fit;
      next_fit = spans.next_fit;
      free_only = spans.free_only;
      free_all = spans.free_all;
      looked = spans.looked;
      layered = spans.layered;
      here_listed = added_listed m.known m.here new s word is known_is added (span_within s new.words.items is (fits ∙ spans.here_fit)) spans.here_listed;
      next_listed = spans.next_listed;
    }

    pub spans_next : HasAdded m.next new s word → length new.words.items ≡ length m.next.words.items → AreSpans g (record m { next = new })
    spans_next added fits = record {
      marks_fit = spans.marks_fit;
      known_fit = spans.known_fit;
      free_fit = spans.free_fit;
      here_fit = spans.here_fit;
      next_fit = fits ∙ spans.next_fit;
      free_only = spans.free_only;
      free_all = spans.free_all;
      looked = spans.looked;
      layered = spans.layered;
      here_listed = spans.here_listed;
      next_listed = added_listed m.known m.next new s word is known_is added (span_within s new.words.items is (fits ∙ spans.next_fit)) spans.next_listed;
    }

  -- a span's places are of one cell each
  cell_once : (s : Span) (i : ℕ) (c n : Cell) → IsCellAt g s i c → IsCellAt g s i n → c ≡ n
  cell_once s i c n (few, (inside, high, at)) (few', (inside', high', at')) = same_cells c n (at ∙ sym at')

  -- ---- of the cells of a word those that are free wait

  module _ (d m : Distances) (s : Span) (word free entered : ℕ) (is : IsSpan g s) (looked : HasLooked g s d m) (free_is : free ≡ get_or m.free.items s.number free)
      (both : (i : ℕ) → IsSet entered i ↔ (IsSet word i × IsSet free i)) where
    free_at : slice_get m.free.items s.number ≡ Some free
    free_at = slice_get_read m.free.items (length m.free.items) s.number free refl (omega (arith, looked.spans.free_fit, span_inside s is)) free_is

    free_held : (c : Cell) → Holds g s word c → IsFree g (marks_of g d) c → Holds g s entered c
    free_held c (i, set, cell) is_free =
        (i, (both i).1 (set, looked.spans.free_all s free i c is looked.known free_at cell (subst (λ (marks : List ℕ). IsFree g marks c) (sym looked.kept.marks) is_free)), cell)

    held_free : (c : Cell) → Holds g s entered c → Holds g s word c × IsFree g (marks_of g d) c
    held_free c (i, set, cell) =
        let found : (n : Cell) × IsCellAt g s i n × IsFree g (marks_of g m) n = looked.spans.free_only s free i is looked.known free_at ((both i).0 set).1 cell.0 in (
          (i, ((both i).0 set).0, cell),
          subst (λ (marks : List ℕ). IsFree g marks c) looked.kept.marks (subst (λ (n : Cell). IsFree g (marks_of g m) n) (cell_once s i found.0 c found.1 cell) found.2),
        )

    -- there are none
    pub entered_none : (closer : Bool) → entered ≡ 0 → HasEntered g s word closer d m
    entered_none closer none = record {
      kept = looked.kept;
      here_only = λ c stands. inl (looked.here_only c stands);
      next_only = λ c stands. inl (looked.next_only c stands);
      entered = λ c held is_free. (let holds : Holds g s entered c = free_held c held is_free in absurd (is_empty entered none holds.0 holds.1));
    }

    pub entered_here : (new : Waiting) (closer : Bool) → closer ≡ true → HasAdded m.here new s entered → length new.words.items ≡ length m.here.words.items
        → HasEntered g s word closer d (record m { here = new })
    entered_here new closer on_level added fits = record {
      kept = record {
        goal = looked.kept.goal;
        toward = looked.kept.toward;
        level = looked.kept.level;
        marks = looked.kept.marks;
        here = λ c stands. added_kept m.known m.here new s entered is looked.known added within c (looked.kept.here c stands);
        next = looked.kept.next;
      };
      here_only = λ c stands. elim (added_only m.known m.here new s entered is looked.known added within c stands) [
        | inl earlier ↦ inl (looked.here_only c earlier)
        | inr now ↦ inr (on_level, (held_free c now).0, (held_free c now).1)
      ];
      next_only = λ c stands. inl (looked.next_only c stands);
      entered = λ c held is_free. inl (on_level, added_stands m.known m.here new s entered is looked.known added within c (free_held c held is_free));
    }
      where
        within : s.number < length new.words.items
        within = span_within s new.words.items is (fits ∙ looked.spans.here_fit)

    pub entered_next : (new : Waiting) (closer : Bool) → closer ≡ false → HasAdded m.next new s entered → length new.words.items ≡ length m.next.words.items
        → HasEntered g s word closer d (record m { next = new })
    entered_next new closer on_next added fits = record {
      kept = record {
        goal = looked.kept.goal;
        toward = looked.kept.toward;
        level = looked.kept.level;
        marks = looked.kept.marks;
        here = looked.kept.here;
        next = λ c stands. added_kept m.known m.next new s entered is looked.known added within c (looked.kept.next c stands);
      };
      here_only = λ c stands. inl (looked.here_only c stands);
      next_only = λ c stands. elim (added_only m.known m.next new s entered is looked.known added within c stands) [
        | inl earlier ↦ inl (looked.next_only c earlier)
        | inr now ↦ inr (on_next, (held_free c now).0, (held_free c now).1)
      ];
      entered = λ c held is_free. inr (on_next, added_stands m.known m.next new s entered is looked.known added within c (free_held c held is_free));
    }
      where
        within : s.number < length new.words.items
        within = span_within s new.words.items is (fits ∙ looked.spans.next_fit)
