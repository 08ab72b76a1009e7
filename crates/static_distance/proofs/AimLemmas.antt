-- Where nothing is counted: at a new aim.
use Rattle.std.proofs.Common.{◌≡◌, ℕ, zero, suc, ◌*◌, ◌<◌, ◌≤◌, inl, inr, Bool, true, false, List, [], length, Option, Some, None, refl, sym, ap, subst, ◌∙◌, arith, replicate}
use Rattle.std.specs.Prelude.{slice_get, ◌↔◌, IfSome, IfNone}
use Rattle.std.proofs.lemmas.Option.{same_Some, none-some}
use Rattle.std.proofs.lemmas.List.{length-replicate}
use Rattle.fleet_base.specs.declared.grid.Cell.{Cell}
use Rattle.fleet_base.specs.Terrain.{Terrain, IsOpen}
use Rattle.row_words.specs.Words.{IsSet}
use Rattle.static_distance.specs.declared.span.Span.{Span}
use Rattle.static_distance.specs.declared.waiting.Waiting.{Waiting}
use Rattle.static_distance.specs.Waiting.{HasAdded}
use Rattle.static_distance.specs.declared.place.Place.{Place}
use Rattle.static_distance.specs.declared.distances.Distances.{Distances}
use Rattle.static_distance.specs.Distance.{IsDistance}
use Rattle.static_distance.specs.Levels.{IsCounted, apart, uncounted}
use Rattle.static_distance.specs.Spreading.{IsFlood}
use Rattle.static_distance.specs.Layers.{AreFalling}
use Rattle.static_distance.specs.Marks.{stride, marks_of}
use Rattle.static_distance.specs.Spans.{IsSpan, IsCellAt, Stands, AreListed, AreSpans, flood_of}
use Rattle.static_distance.specs.Aim.{room_of, AreFitting, HasLooked, AnswersDistance, IsWithin}
use Rattle.static_distance.proofs.SpreadLemmas.{begun_flood}
use Rattle.static_distance.proofs.FloodLemmas.{cell_once}
use Rattle.static_distance.proofs.SpanLemmas.{span_within, added_stands, added_only, spans_here}

-- A list of zeros.
pub zeros : (n i k : ℕ) → slice_get (replicate n 0) i ≡ Some (suc k) → ⊥
zeros zero i k at = none-some (suc k) at
zeros (suc n) zero k at = let bad : 0 ≡ suc k = same_Some 0 (suc k) at in omega arith
zeros (suc n) (suc i) k at = zeros n i k at

pub all_uncounted : (n : ℕ) → uncounted (replicate n 0) ≡ n
all_uncounted zero = refl
all_uncounted (suc n) = ap suc (all_uncounted n)

-- there is room for so many cells where few of them stand in a list of that many
pub room_made : (few : Bool) (cells listed : ℕ) (list : List ℕ) → list ≡ replicate listed 0 → (few ≡ true → listed ≡ cells) → room_of few list cells ≡ cells
room_made true cells listed list is same = ap length is ∙ (length-replicate listed 0 ∙ same refl)
room_made false cells listed list is same = refl

-- Nothing is counted, no span was looked at, and none is listed.
module _ (g : Terrain) (d : Distances) (spans : ℕ) (known_are : d.known ≡ replicate spans 0) (marks_are : marks_of g d ≡ replicate (length g.cells) 0) where
  pub none_known : (n : ℕ) → slice_get d.known n ≡ Some 1 → ⊥
  none_known n at = zeros spans n 0 (rw known_are at at)

  pub all_left : uncounted (marks_of g d) ≡ length g.cells
  all_left = ap uncounted marks_are ∙ all_uncounted (length g.cells)

  pub none_counted : (c : Cell) (k : ℕ) → IsCounted (marks_of g d) c k → ⊥
  none_counted c k at = zeros (length g.cells) c.0 k (rw marks_are at at)

  pub none_stands : (words : List ℕ) (c : Cell) → Stands g d.known words c → ⊥
  none_stands words c stands = none_known stands.span.number stands.known_is

  none_listed : (words : List ℕ) (list : List Span) → list ≡ [] → AreListed g d.known words list
  none_listed words list empty = record {
    spans_are = λ j s at. absurd (none-some s (rw empty at at));
    listed = λ n w known at some. absurd (none_known n known);
  }

  pub fresh_spans : AreFitting (g.height * stride g) d → d.layers.older.items ≡ [] → d.here.spans.items ≡ [] → d.next.spans.items ≡ [] → AreSpans g d
  fresh_spans fit older here next = record {
    marks_fit = ap length marks_are ∙ length-replicate (length g.cells) 0;
    known_fit = fit.known;
    free_fit = fit.free;
    here_fit = fit.here;
    next_fit = fit.next;
    free_only = λ s w i span known at set inside. absurd (none_known s.number known);
    free_all = λ s w i c span known at there free. absurd (none_known s.number known);
    looked = λ s i k c span at counted. absurd (none_counted c k counted);
    layered = λ many. record {
      fit = fit.layers many;
      falling = subst AreFalling (sym older) (λ place. omega arith);
      linked = λ n at. absurd (none_known n at);
      few = omega (arith, all_left, ap length older);
    };
    here_listed = none_listed d.here.words.items d.here.spans.items here;
    next_listed = none_listed d.next.words.items d.next.spans.items next;
  }

  -- the goal is closed
  pub closed_flood : d.level ≡ apart g d.toward d.goal → (IsOpen g d.goal → ⊥) → IsFlood g (flood_of g d)
  closed_flood level closed =
      begun_flood g (flood_of g d) level none_counted (λ c stands. absurd (none_stands d.here.words.items c stands)) (λ opened. absurd (closed opened)) (λ c stands. none_stands d.next.words.items c stands)

-- The goal is open: it alone waits, in its span.
module _ (g : Terrain) (b m : Distances) (s : Span) (word i : ℕ) (new : Waiting) (spans : ℕ) (known_are : b.known ≡ replicate spans 0) (marks_are : marks_of g b ≡ replicate (length g.cells) 0)
    (is : IsSpan g s) (looked : HasLooked g s b m) (added : HasAdded m.here new s word) (fits : length new.words.items ≡ length m.here.words.items)
    (at : IsCellAt g s i b.goal) (alone : (j : ℕ) → IsSet word j ↔ (j ≡ i)) (opened : IsOpen g b.goal) where
  within : s.number < length new.words.items
  within = span_within g s new.words.items is (fits ∙ looked.spans.here_fit)

  pub open_spans : AreSpans g (record m { here = new })
  open_spans = spans_here g m s word is looked.spans looked.known new added fits

  goal_waits : Stands g m.known new.words.items b.goal
  goal_waits = added_stands g m.known m.here new s word is looked.known added within b.goal (i, (alone i).1 refl, at)

  only_goal : (c : Cell) → Stands g m.known new.words.items c → c ≡ b.goal
  only_goal c stands = elim (added_only g m.known m.here new s word is looked.known added within c stands) [
    | inl earlier ↦ absurd (none_stands g b spans known_are marks_are b.here.words.items c (looked.here_only c earlier))
    | inr held ↦ cell_once g s i c b.goal (subst (λ (j : ℕ). IsCellAt g s j c) ((alone held.0).0 held.1) held.2) at
  ]

  pub open_flood : b.level ≡ apart g b.toward b.goal → IsFlood g (flood_of g (record m { here = new }))
  open_flood level =
      begun_flood g (flood_of g (record m { here = new }))
      (looked.kept.level ∙ (level ∙ (ap (λ (p : Place). apart g p b.goal) (sym looked.kept.toward) ∙ ap (λ (c : Cell). apart g m.toward c) (sym looked.kept.goal))))
      (λ c k counted. none_counted g b spans known_are marks_are c k (rw looked.kept.marks at counted))
      (λ c stands. (let same = only_goal c stands in (same ∙ sym looked.kept.goal, subst (λ (z : Cell). IsOpen g z) (sym same) opened)))
      (λ open_goal. subst (λ (z : Cell). Stands g m.known new.words.items z) (sym looked.kept.goal) goal_waits)
      (λ c stands. none_stands g b spans known_are marks_are b.next.words.items c (looked.next_only c stands))

-- what the mark of a cell that is counted tells
pub told_distance : (g : Terrain) (goal c : Cell) (marks : List ℕ) (told : Option ℕ) → ¬ (slice_get marks c.0 ≡ Some 0) → IfSome told (λ k. IsCounted marks c k)
    → IfNone told (slice_get marks c.0 ≡ Some 0) → ((k : ℕ) → IsCounted marks c k → IsDistance g goal c k) → AnswersDistance g goal c told
told_distance g goal c marks (Some k) counted some none distance = distance k some
told_distance g goal c marks None counted some none distance = absurd (counted none)

-- a way of so many moves leads to the goal exactly where the distance is no greater
pub within_near : {g : Terrain} {goal c : Cell} {k moves : ℕ} → IsDistance g goal c k → k ≤ moves → IsWithin g goal c moves
within_near {k} distance near = (k, distance.way, near)

pub near_within : {g : Terrain} {goal c : Cell} {k moves : ℕ} → IsDistance g goal c k → IsWithin g goal c moves → k ≤ moves
near_within distance within = (let least = distance.least within.0 within.1 in omega (arith, within.2))
