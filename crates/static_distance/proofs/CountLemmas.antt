-- The counting of a word's cells: what it changes of the marks and of the spans.
use Rattle.std.proofs.Common.{◌≡◌, ◌≢◌, ℕ, zero, suc, ◌+◌, ◌-◌, ◌*◌, ◌<◌, ◌≤◌, ◌^◌, ◌⊎◌, ◌↔◌, inl, inr, List, [], ◌∷◌, length, get_or, true, false, Some, refl, sym, ap, subst, ◌∙◌, arith, set}
use Rattle.std.specs.Prelude.{slice_get}
use Rattle.std.proofs.lemmas.Bool.{cases_eq, cases_lt}
use Rattle.std.proofs.lemmas.List.{length-set}
use Rattle.std.proofs.lemmas.Option.{same_Some, none-some, slice_get_within, slice_get-get_or, slice_get_read}
use Rattle.fleet_base.specs.declared.grid.Cell.{Cell}
use Rattle.fleet_base.specs.Terrain.{Terrain}
use Rattle.fleet_base.proofs.TrafficLemmas.{same_cells}
use Rattle.row_words.specs.Words.{IsSet}
use Rattle.row_words.proofs.WordLemmas.{set_below, set_or_not, some_set}
use Rattle.static_distance.specs.declared.distances.Distances.{Distances}
use Rattle.static_distance.specs.declared.layers.Layers.{Layers}
use Rattle.static_distance.specs.declared.span.Span.{Span}
use Rattle.static_distance.specs.Levels.{IsCounted, gap, apart, uncounted}
use Rattle.static_distance.specs.Layers.{told, HasLayer}
use Rattle.static_distance.specs.Marks.{span_number, span_place, mark_of, marks_in, marks_of}
use Rattle.static_distance.specs.Spans.{IsSpan, IsCellAt, Holds, IsFree, AreLayers, AreSpans, HasCounted}
use Rattle.static_distance.proofs.Places.{apart_at}
use Rattle.static_distance.proofs.MarkLemmas.{few_marks, many_marks, marks_count, mark_kept, cell_of_number, told_mark}
use Rattle.static_distance.proofs.SpanLemmas.{set_here, set_there, span_once, place_once, span_inside}

-- a mark counts one number of moves, and 0 none
counted_once : (marks : List ℕ) (c : Cell) (j k : ℕ) → IsCounted marks c j → IsCounted marks c k → j ≡ k
counted_once marks c j k one two = let same : suc j ≡ suc k = same_Some (suc j) (suc k) (sym one ∙ two) in omega arith

not_both : (marks : List ℕ) (c : Cell) (k : ℕ) → slice_get marks c.0 ≡ Some 0 → IsCounted marks c k → ⊥
not_both marks c k none counted = let bad : 0 ≡ suc k = same_Some 0 (suc k) (sym none ∙ counted) in omega arith

-- ---- how many cells aren't counted

-- where what was counted stays counted, no more cells are uncounted, and fewer where one of them is counted
at_most_uncounted : (old new : List ℕ) → length new ≡ length old → ((n : ℕ) → (slice_get new n ≡ slice_get old n) ⊎ (slice_get old n ≡ Some 0)) → uncounted new ≤ uncounted old
at_most_uncounted [] [] count kept = omega arith
at_most_uncounted [] (m ∷ new) count kept = absurd (omega arith)
at_most_uncounted (m ∷ old) [] count kept = absurd (omega arith)
at_most_uncounted (zero ∷ old) (zero ∷ new) count kept = (let rest = at_most_uncounted old new (omega arith) (λ n. kept (suc n)) in omega arith)
at_most_uncounted (zero ∷ old) (suc m ∷ new) count kept = (let rest = at_most_uncounted old new (omega arith) (λ n. kept (suc n)) in omega arith)
at_most_uncounted (suc k ∷ old) (suc m ∷ new) count kept = at_most_uncounted old new (omega arith) (λ n. kept (suc n))
at_most_uncounted (suc k ∷ old) (zero ∷ new) count kept = absurd (elim (kept 0) [
  | inl same ↦ (let bad : 0 ≡ suc k = same_Some 0 (suc k) same in omega arith)
  | inr none ↦ (let bad : suc k ≡ 0 = same_Some (suc k) 0 none in omega arith)
])

pub fewer_uncounted : (old new : List ℕ) (place k : ℕ) → length new ≡ length old → ((n : ℕ) → (slice_get new n ≡ slice_get old n) ⊎ (slice_get old n ≡ Some 0))
    → slice_get old place ≡ Some 0 → slice_get new place ≡ Some (suc k) → uncounted new + 1 ≤ uncounted old
fewer_uncounted [] new place k count kept none some = absurd (none-some 0 none)
fewer_uncounted (m ∷ old) [] place k count kept none some = absurd (omega arith)
fewer_uncounted (zero ∷ old) (zero ∷ new) zero k count kept none some = absurd (let bad : 0 ≡ suc k = same_Some 0 (suc k) some in omega arith)
fewer_uncounted (zero ∷ old) (suc n ∷ new) zero k count kept none some = (let rest = at_most_uncounted old new (omega arith) (λ n. kept (suc n)) in omega arith)
fewer_uncounted (suc m ∷ old) (n ∷ new) zero k count kept none some = absurd (let bad : suc m ≡ 0 = same_Some (suc m) 0 none in omega arith)
fewer_uncounted (zero ∷ old) (zero ∷ new) (suc place) k count kept none some = (let rest = fewer_uncounted old new place k (omega arith) (λ n. kept (suc n)) none some in omega arith)
fewer_uncounted (zero ∷ old) (suc n ∷ new) (suc place) k count kept none some = (let rest = fewer_uncounted old new place k (omega arith) (λ n. kept (suc n)) none some in omega arith)
fewer_uncounted (suc m ∷ old) (suc n ∷ new) (suc place) k count kept none some = fewer_uncounted old new place k (omega arith) (λ n. kept (suc n)) none some
fewer_uncounted (suc m ∷ old) (zero ∷ new) (suc place) k count kept none some = absurd (elim (kept 0) [
  | inl same ↦ (let bad : 0 ≡ suc m = same_Some 0 (suc m) same in omega arith)
  | inr free ↦ (let bad : suc m ≡ 0 = same_Some (suc m) 0 free in omega arith)
])

same_mark : (new now old before : List ℕ) (n : ℕ) → new ≡ now → old ≡ before → slice_get now n ≡ slice_get before n → slice_get new n ≡ slice_get old n
same_mark new now old before n new_is old_is same = ap (λ (ms : List ℕ). slice_get ms n) new_is ∙ (same ∙ ap (λ (ms : List ℕ). slice_get ms n) (sym old_is))

-- ---- the cells of a span are counted

-- the marks of the word's cells in the span say what is left of the level, and all others are as they were
pub record HasMarked (g : Terrain) (s : Span) (word : ℕ) (old : Distances) (marks : List ℕ) : Type 0 where
  pub count : length marks ≡ length (marks_of g old)
  pub counted : (c : Cell) (k : ℕ) → Holds g s word c → k + apart g old.toward c ≡ old.level → IsCounted marks c k
  pub kept : (c : Cell) → Holds g s word c ⊎ (slice_get marks c.0 ≡ slice_get (marks_of g old) c.0)

-- the number of a span's first cell
pub first_number : (g : Terrain) (s : Span) (wide : ℕ) → wide ≡ g.width → wide * s.row + s.column ≡ s.row * g.width + s.column
first_number g s wide same = rw same (omega arith)

-- The word has cells of the span that are open and not counted, and which were looked at.
module _ (g : Terrain) (old : Distances) (s : Span) (word : ℕ) (is : IsSpan g s) (are : AreSpans g old) (known : slice_get old.known s.number ≡ Some 1)
    (fits : word < 2 ^ 64) (free : (i : ℕ) → IsSet word i → (w : ℕ) → slice_get old.free.items s.number ≡ Some w → IsSet w i) where
  number_in : s.number < length old.free.items
  number_in = omega (arith, are.free_fit, span_inside g s is)

  -- the cell at a place that the word has
  cell_in : (i : ℕ) → IsSet word i → (c : Cell) × IsCellAt g s i c × IsFree g (marks_of g old) c
  cell_in i set =
      let at : slice_get old.free.items s.number ≡ Some (get_or old.free.items s.number 0) = slice_get-get_or old.free.items s.number 0 number_in in
      are.free_only s _ i is known at (free i set _ at) (set_below word i fits set)

  held_free : (c : Cell) → Holds g s word c → IsFree g (marks_of g old) c
  held_free c (i, set, at) =
      let there = cell_in i set in
      subst (λ (z : Cell). IsFree g (marks_of g old) z) (same_cells there.0 c (there.1.1.2 ∙ sym at.1.2)) there.2

  module _ (low : (c : Cell) → Holds g s word c → apart g old.toward c ≤ old.level) where
    -- ---- in the list, where there are few cells

    module _ (first : ℕ) (first_is : first ≡ s.row * g.width + s.column) where
      number_at : (i : ℕ) (c : Cell) → IsCellAt g s i c → c.0 ≡ first + i
      number_at i c at = omega (arith, at.1.2)

      -- a cell is the word's where its number is one of its cells'
      holds_by : (i : ℕ) (c : Cell) → IsSet word i → c.0 ≡ first + i → Holds g s word c
      holds_by i c set at =
          let there = cell_in i set in
          (i, set, (there.1.0, (there.1.1.0, there.1.1.1, omega arith)))

      held_apart : (i : ℕ) (c : Cell) → IsCellAt g s i c → apart g old.toward c ≡ gap (s.column + i) old.toward.column + gap s.row old.toward.row
      held_apart i c at = apart_at g old.toward c (s.column + i) s.row at.1

      low_at : (i : ℕ) → IsSet word i → gap (s.column + i) old.toward.column + gap s.row old.toward.row ≤ old.level
      low_at i set =
          let there = cell_in i set in
          omega (arith, held_apart i there.0 there.1, low there.0 (i, set, there.1))

      pub low_row : word ≢ 0 → gap s.row old.toward.row ≤ old.level
      low_row some =
          let place : (i : ℕ) × (i < 64) × IsSet word i = some_set word fits some in
          omega (arith, low_at place.0 place.2)

      module _ (few : old.few ≡ true) where
        -- the list has an entry for each cell of the word
        pub list_has : (i : ℕ) → IsSet word i → first + i < length old.by_cell
        list_has i set =
            let there = cell_in i set in
            let at : there.0.0 ≡ first + i = number_at i there.0 there.1 in
            let inside : there.0.0 < length (marks_of g old) = slice_get_within (marks_of g old) there.0.0 0 there.2.1 in
            omega (arith, ap length (few_marks g old few))

        -- the marks of these cells are written, with the moves that the level says, and no others
        pub list_marked : (new : Distances) (reach : ℕ) → new.few ≡ old.few → reach + gap s.row old.toward.row ≡ old.level → length new.by_cell ≡ length old.by_cell
            → ((i : ℕ) → IsSet word i → slice_get new.by_cell (first + i) ≡ Some (suc (reach - gap (s.column + i) old.toward.column)))
            → ((n : ℕ) → ((i : ℕ) → IsSet word i → n ≢ first + i) → slice_get new.by_cell n ≡ slice_get old.by_cell n)
            → HasMarked g s word old (marks_of g new)
        list_marked new reach still reach_is count marked others =
            let before : marks_of g old ≡ old.by_cell = few_marks g old few in
            let now : marks_of g new ≡ new.by_cell = few_marks g new (still ∙ few) in
            record {
              count = ap length now ∙ (count ∙ ap length (sym before));
              counted = λ c k held on_level.
                  (let (i, set, at) = held in
                  let far : apart g old.toward c ≡ gap (s.column + i) old.toward.column + gap s.row old.toward.row = held_apart i c at in
                  let moves : reach - gap (s.column + i) old.toward.column ≡ k = omega (arith, far) in
                  ap (λ (ms : List ℕ). slice_get ms c.0) now
                  ∙ (ap (slice_get new.by_cell) (number_at i c at) ∙ (marked i set ∙ ap (λ (m : ℕ). Some (suc m)) moves)));
              kept = λ c. elim (cases_lt c.0 first) [
                | inl less ↦ inr (same_mark (marks_of g new) new.by_cell (marks_of g old) old.by_cell c.0 now before (others c.0 (λ i set e. omega arith)))
                | inr after ↦ elim (set_or_not word (c.0 - first)) [
                  | inl set ↦ inl (holds_by (c.0 - first) c set (omega arith))
                  | inr clear ↦ inr (same_mark (marks_of g new) new.by_cell (marks_of g old) old.by_cell c.0 now before
                      (others c.0 (λ i set e. (let place : i ≡ c.0 - first = omega arith in clear (subst (λ (k : ℕ). IsSet word k) place set)))))
                ]
              ];
            }

    -- ---- in the layers, where there are many

    -- a cell is the word's where it has the span's number and one of the word's places
    holds_at : (i : ℕ) (c : Cell) → IsSet word i → span_number g c.0 ≡ s.number → span_place g c.0 ≡ i → Holds g s word c
    holds_at i c set number place =
        let there = cell_in i set in
        (i, set, (there.1.0, (there.1.1.0, there.1.1.1, cell_of_number g s is i c number place)))

    module _ (many : old.few ≡ false) (layers : Layers) (layer : HasLayer s.number word old.level old.layers layers) where
      abbrev told_now : List ℕ
      told_now = marks_in g old.toward old.known layers

      -- what is told of another place of the span, or of another span that was looked at, stays
      told_kept : (m place : ℕ) → slice_get old.known m ≡ Some 1 → ((m ≡ s.number) × IsSet word place → ⊥) → told layers m place ≡ told old.layers m place
      told_kept m place looked out = elim (cases_eq m s.number) [
        | inl same ↦
            ap (λ (k : ℕ). told layers k place) same
            ∙ (layer.others place (λ set. out (same, set)) ∙ ap (λ (k : ℕ). told old.layers k place) (sym same))
        | inr other ↦ layer.elsewhere m place other ((are.layered many).linked m looked)
      ]

      mark_stays : (c : Cell) → ((span_number g c.0 ≡ s.number) × IsSet word (span_place g c.0) → ⊥) → slice_get told_now c.0 ≡ slice_get (marks_in g old.toward old.known old.layers) c.0
      mark_stays c out = mark_kept g old.toward old.known old.layers layers c.0 (λ looked. told_kept (span_number g c.0) (span_place g c.0) looked out)

      -- they are on this level, and no others
      pub layer_marked : (new : Distances) → new.few ≡ old.few → new.toward ≡ old.toward → new.known ≡ old.known → new.layers ≡ layers → HasMarked g s word old (marks_of g new)
      layer_marked new still toward known_same layers_are =
          let before : marks_of g old ≡ marks_in g old.toward old.known old.layers = many_marks g old many in
          let now : marks_of g new ≡ told_now = many_marks g new (still ∙ many) ∙ rw (toward, known_same, layers_are) refl in
          record {
            count = ap length now ∙ (marks_count g old.toward old.known layers ∙ (sym (marks_count g old.toward old.known old.layers) ∙ ap length (sym before)));
            counted = λ c k held on_level.
                (let (i, set, at) = held in
                let inside : c.0 < length g.cells = slice_get_within g.cells c.0 true (held_free c held).0 in
                let moves : old.level - apart g old.toward c ≡ k = omega arith in
                ap (λ (ms : List ℕ). slice_get ms c.0) now
                ∙ (told_mark g s is old.toward old.known layers i c at inside known
                ∙ (ap (λ (t : ℕ). Some (mark_of 1 t (apart g old.toward c))) (layer.mine i set) ∙ ap (λ (m : ℕ). Some (suc m)) moves)));
            kept = λ c. elim (cases_eq (span_number g c.0) s.number) [
              | inl number ↦ elim (set_or_not word (span_place g c.0)) [
                | inl set ↦ inl (holds_at (span_place g c.0) c set number refl)
                | inr clear ↦ inr (same_mark (marks_of g new) told_now (marks_of g old) (marks_in g old.toward old.known old.layers) c.0 now before (mark_stays c (λ both. clear both.1)))
              ]
              | inr other ↦ inr (same_mark (marks_of g new) told_now (marks_of g old) (marks_in g old.toward old.known old.layers) c.0 now before (mark_stays c (λ both. other both.0)))
            ];
          }

    -- ---- either way

    module _ (changed : Distances) where
      abbrev new : Distances
      new = record old { by_cell = changed.by_cell; layers = changed.layers; free = changed.free }

      abbrev marks : List ℕ
      marks = marks_of g new

      module _ (marked : HasMarked g s word old marks) where
        held_count : (c : Cell) → Holds g s word c → (k : ℕ) × (k + apart g old.toward c ≡ old.level) × IsCounted marks c k
        held_count c held =
            let on_level : old.level - apart g old.toward c + apart g old.toward c ≡ old.level = omega (arith, low c held) in
            (old.level - apart g old.toward c, on_level, marked.counted c _ held on_level)

        still_counted : (c : Cell) (k : ℕ) → IsCounted (marks_of g old) c k → IsCounted marks c k
        still_counted c k counted = elim (marked.kept c) [
          | inl held ↦ absurd (not_both (marks_of g old) c k (held_free c held).1 counted)
          | inr kept ↦ kept ∙ counted
        ]

        only_counted : (c : Cell) (k : ℕ) → IsCounted marks c k → (Holds g s word c × (k + apart g old.toward c ≡ old.level)) ⊎ IsCounted (marks_of g old) c k
        only_counted c k counted = elim (marked.kept c) [
          | inl held ↦
              let now = held_count c held in
              let same : now.0 ≡ k = counted_once marks c now.0 k now.2 counted in
              inl (held, omega (arith, now.1))
          | inr kept ↦ inr (sym kept ∙ counted)
        ]

        pub has_counted : HasCounted g s word old new
        has_counted = record {
          counted = marked.counted;
          still = still_counted;
          only = only_counted;
          goal = refl;
          toward = refl;
          level = refl;
          known = refl;
          here = refl;
          next = refl;
        }

        free_or_kept : (n : ℕ) → (slice_get marks n ≡ slice_get (marks_of g old) n) ⊎ (slice_get (marks_of g old) n ≡ Some 0)
        free_or_kept n = elim (marked.kept (record { 0 = n })) [
          | inl held ↦ inr (held_free (record { 0 = n }) held).1
          | inr kept ↦ inl kept
        ]

        pub fewer_left : word ≢ 0 → uncounted marks + 1 ≤ uncounted (marks_of g old)
        fewer_left some =
            let place : (i : ℕ) × (i < 64) × IsSet word i = some_set word fits some in
            let there = cell_in place.0 place.2 in
            let now = held_count there.0 (place.0, place.2, there.1) in
            fewer_uncounted (marks_of g old) marks there.0.0 now.0 marked.count free_or_kept there.2.1 now.2

        pub layers_after : old.few ≡ false → word ≢ 0 → HasLayer s.number word old.level old.layers changed.layers → AreLayers g old.known changed.layers marks
        layers_after many some layer =
            let before = are.layered many in
            record {
              fit = layer.count ∙ before.fit;
              falling = layer.falling;
              linked = λ n looked. layer.linked n (before.linked n looked);
              few = omega (arith, before.few, layer.few, fewer_left some);
            }

        -- a cell is free afterwards where it was free and the word doesn't have it
        not_held : (c : Cell) → IsFree g marks c → ¬ (Holds g s word c)
        not_held c left held = let now = held_count c held in not_both marks c now.0 left.1 now.2

        free_before : (c : Cell) → IsFree g marks c → IsFree g (marks_of g old) c
        free_before c left = elim (marked.kept c) [
          | inl held ↦ absurd (not_held c left held)
          | inr kept ↦ (left.0, sym kept ∙ left.1)
        ]

        still_free : (c : Cell) → IsFree g (marks_of g old) c → ¬ (Holds g s word c) → IsFree g marks c
        still_free c left out = elim (marked.kept c) [
          | inl held ↦ absurd (out held)
          | inr kept ↦ (left.0, kept ∙ left.1)
        ]

        -- The span's word has them no longer.
        module _ (whole rest : ℕ) (whole_is : whole ≡ get_or old.free.items s.number whole)
            (less : (i : ℕ) → IsSet rest i ↔ (IsSet whole i × ¬ (IsSet word i))) where
          whole_at : slice_get old.free.items s.number ≡ Some whole
          whole_at = slice_get_read old.free.items (length old.free.items) s.number whole refl number_in whole_is

          -- a word is the one of the span, or the one that it was
          word_cases : (t : Span) (w : ℕ) → IsSpan g t → slice_get (set old.free.items s.number rest) t.number ≡ Some w
              → ((s ≡ t) × (w ≡ rest)) ⊎ (¬ (s ≡ t) × (slice_get old.free.items t.number ≡ Some w))
          word_cases t w it at = elim (cases_eq t.number s.number) [
            | inl same ↦ inl (
              span_once g s t is it (sym same),
              same_Some w rest (sym at ∙ (ap (slice_get (set old.free.items s.number rest)) same ∙ set_here old.free.items s.number rest number_in)),
            )
            | inr other ↦ inr (λ e. other (ap (λ (z : Span). z.number) (sym e)), sym (set_there old.free.items s.number t.number rest other) ∙ at)
          ]

          -- where a free cell of a span is one of its word's now, the word that was counted doesn't have it
          out_of_word : (t : Span) (w i : ℕ) (c : Cell) → IsSpan g t → slice_get (set old.free.items s.number rest) t.number ≡ Some w → IsSet w i
              → IsCellAt g t i c → ¬ (Holds g s word c)
          out_of_word t w i c it at set cell (j, has, place) =
              let once : (s ≡ t) × (j ≡ i) = place_once g s t j i c is it place cell in
              elim (word_cases t w it at) [
                | inl (same, w_is) ↦ ((less i).0 (rw w_is at set)).1 (rw once.1 at has)
                | inr (other, before) ↦ other once.0
              ]

          free_only_now : (t : Span) (w i : ℕ) → IsSpan g t → slice_get old.known t.number ≡ Some 1 → slice_get (set old.free.items s.number rest) t.number ≡ Some w
              → IsSet w i → i < 64 → (c : Cell) × IsCellAt g t i c × IsFree g marks c
          free_only_now t w i it looked at set below =
              let before : (c : Cell) × IsCellAt g t i c × IsFree g (marks_of g old) c = elim (word_cases t w it at) [
                | inl (same, w_is) ↦ subst (λ (z : Span). (c : Cell) × IsCellAt g z i c × IsFree g (marks_of g old) c) same
                    (are.free_only s whole i is known whole_at ((less i).0 (rw w_is at set)).0 below)
                | inr (other, old_at) ↦ are.free_only t w i it looked old_at set below
              ] in
              (before.0, before.1, still_free before.0 before.2 (out_of_word t w i before.0 it at set before.1))

          free_all_now : (t : Span) (w i : ℕ) (c : Cell) → IsSpan g t → slice_get old.known t.number ≡ Some 1 → slice_get (set old.free.items s.number rest) t.number ≡ Some w
              → IsCellAt g t i c → IsFree g marks c → IsSet w i
          free_all_now t w i c it looked at cell left = elim (word_cases t w it at) [
            | inl (same, w_is) ↦
                let mine : IsCellAt g s i c = subst (λ (z : Span). IsCellAt g z i c) (sym same) cell in
                rw w_is ((less i).1 (are.free_all s whole i c is known whole_at mine (free_before c left), λ has. not_held c left (i, has, mine)))
            | inr (other, old_at) ↦ are.free_all t w i c it looked old_at cell (free_before c left)
          ]

          looked_now : (t : Span) (i k : ℕ) (c : Cell) → IsSpan g t → IsCellAt g t i c → IsCounted marks c k → slice_get old.known t.number ≡ Some 1
          looked_now t i k c it cell counted = elim (only_counted c k counted) [
            | inl (held, on_level) ↦ subst (λ (z : Span). slice_get old.known z.number ≡ Some 1) (place_once g s t held.0 i c is it held.2 cell).0 known
            | inr before ↦ are.looked t i k c it cell before
          ]

          pub spans_after : new.free.items ≡ set old.free.items s.number rest → (old.few ≡ false → AreLayers g old.known changed.layers marks) → AreSpans g new
          spans_after items layered = record {
            marks_fit = marked.count ∙ are.marks_fit;
            known_fit = are.known_fit;
            free_fit = ap length items ∙ length-set old.free.items s.number rest ∙ are.free_fit;
            here_fit = are.here_fit;
            next_fit = are.next_fit;
            free_only = λ t w i it looked at. free_only_now t w i it looked (rw items at at);
            free_all = λ t w i c it looked at. free_all_now t w i c it looked (rw items at at);
            looked = looked_now;
            layered = layered;
            here_listed = are.here_listed;
            next_listed = are.next_listed;
          }
