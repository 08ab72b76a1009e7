-- The order in which spans are taken: one put in between others, and all the other way round.
use Rattle.std.proofs.Common.{◌≡◌, ◌≢◌, ℕ, zero, suc, ◌+◌, ◌-◌, ◌<◌, ◌≤◌, ◌⊎◌, ◌↔◌, inl, inr, set, List, [], ◌∷◌, length, reverse, Some, refl, sym, ap, subst, ◌∙◌, arith}
use Rattle.std.specs.Prelude.{slice_get, get_or}
use Rattle.std.specs.Prelude.{Vec}
use Rattle.std.specs.Global.{Global}
use Rattle.std.specs.List.{insert}
use Rattle.std.proofs.lemmas.List.{length-reverse, get_or-reverse}
use Rattle.std.proofs.lemmas.Option.{same_Some, none-some, slice_get_within, slice_get-get_or, get_or_from_slice_get}
use Rattle.fleet_base.specs.Terrain.{Terrain}
use Rattle.static_distance.specs.declared.span.Span.{Span}
use Rattle.static_distance.specs.declared.waiting.Waiting.{Waiting}
use Rattle.static_distance.specs.Waiting.{IsListed, HasAdded}
use Rattle.row_words.specs.Words.{IsSet}
use Rattle.static_distance.proofs.SpanLemmas.{set_here, set_there}
use Rattle.static_distance.specs.declared.distances.Distances.{Distances}
use Rattle.static_distance.specs.Spans.{AreListed, AreSpans}

-- ---- one more somewhere in a list

pub length_insert : {X : Type 0} (xs : List X) (i : ℕ) (y : X) → i ≤ length xs → length (insert xs i y) ≡ length xs + 1
length_insert xs zero y inside = omega arith
length_insert [] (suc i) y inside = absurd (omega arith)
length_insert (x ∷ xs) (suc i) y inside = let rest : length (insert xs i y) ≡ length xs + 1 = length_insert xs i y (omega arith) in omega (arith, rest)

pub inserted_at : {X : Type 0} (xs : List X) (i : ℕ) (y : X) → i ≤ length xs → slice_get (insert xs i y) i ≡ Some y
inserted_at xs zero y inside = refl
inserted_at [] (suc i) y inside = absurd (omega arith)
inserted_at (x ∷ xs) (suc i) y inside = inserted_at xs i y (omega arith)

-- each one is still in the list
pub kept_inserted : {X : Type 0} (xs : List X) (i j : ℕ) (y x : X) → slice_get xs j ≡ Some x → (k : ℕ) × (slice_get (insert xs i y) k ≡ Some x)
kept_inserted xs zero j y x at = (suc j, at)
kept_inserted [] (suc i) j y x at = absurd (none-some x at)
kept_inserted (z ∷ xs) (suc i) zero y x at = (zero, at)
kept_inserted (z ∷ xs) (suc i) (suc j) y x at = let there : (k : ℕ) × (slice_get (insert xs i y) k ≡ Some x) = kept_inserted xs i j y x at in (suc there.0, there.1)

-- and there is no other
pub of_inserted : {X : Type 0} (xs : List X) (i k : ℕ) (y x : X) → slice_get (insert xs i y) k ≡ Some x → ((j : ℕ) × (slice_get xs j ≡ Some x)) ⊎ (x ≡ y)
of_inserted xs zero zero y x at = inr (sym (same_Some y x at))
of_inserted xs zero (suc k) y x at = inl (k, at)
of_inserted [] (suc i) zero y x at = inr (sym (same_Some y x at))
of_inserted [] (suc i) (suc k) y x at = absurd (none-some x at)
of_inserted (z ∷ xs) (suc i) zero y x at = inl (zero, at)
of_inserted (z ∷ xs) (suc i) (suc k) y x at = elim (of_inserted xs i k y x at) [
  | inl earlier ↦ inl (suc earlier.0, earlier.1)
  | inr now ↦ inr now
]

-- ---- the other way round

pub turned_at : (xs : List Span) (j : ℕ) (s : Span) → slice_get xs j ≡ Some s → slice_get (reverse xs) (length xs - 1 - j) ≡ Some s
turned_at xs j s at =
    let inside : j < length xs = slice_get_within xs j s at in
    let count : length (reverse xs) ≡ length xs = length-reverse xs in
    let place : length xs - 1 - (length xs - 1 - j) ≡ j = omega (arith, inside) in
    slice_get-get_or (reverse xs) (length xs - 1 - j) s (omega (arith, inside, count))
    ∙ ap Some (get_or-reverse xs (length xs - 1 - j) s (omega (arith, inside)) ∙ (ap (λ (i : ℕ). get_or xs i s) place ∙ get_or_from_slice_get xs j s s at))

pub of_turned : (xs : List Span) (k : ℕ) (s : Span) → slice_get (reverse xs) k ≡ Some s → slice_get xs (length xs - 1 - k) ≡ Some s
of_turned xs k s at =
    let count : length (reverse xs) ≡ length xs = length-reverse xs in
    let inside : k < length (reverse xs) = slice_get_within (reverse xs) k s at in
    slice_get-get_or xs (length xs - 1 - k) s (omega (arith, inside, count))
    ∙ ap Some (sym (get_or-reverse xs k s (omega (arith, inside, count))) ∙ get_or_from_slice_get (reverse xs) k s s at)

pub turned_listed : (g : Terrain) (known words : List ℕ) (spans : List Span) → AreListed g known words spans → AreListed g known words (reverse spans)
turned_listed g known words spans are = record {
  spans_are = λ j s at. are.spans_are (length spans - 1 - j) s (of_turned spans j s at);
  listed = λ n w known_n at some. (let was : IsListed spans n = are.listed n w known_n at some in (length spans - 1 - was.0, was.1, turned_at spans was.0 was.1 was.2, was.3));
}

-- ---- a span that waits, put in between others or there already

pub put_added : (old new : Waiting) (span : Span) (word before both : ℕ) → slice_get old.words.items span.number ≡ Some before → new.words.items ≡ set old.words.items span.number both
    → ((i : ℕ) → IsSet both i ↔ (IsSet before i ⊎ IsSet word i))
    → ((before ≢ 0) × (new.spans.items ≡ old.spans.items)) ⊎ ((place : ℕ) × (place ≤ length old.spans.items) × (new.spans.items ≡ insert old.spans.items place span))
    → HasAdded old new span word
put_added old new span word before both at words either spans = record {
  mine = λ w w_at. (before, at, subst (λ (v : ℕ). (i : ℕ) → IsSet v i ↔ (IsSet before i ⊎ IsSet word i)) (same_Some both w (sym mine ∙ w_at)) either);
  others = λ n other. ap (λ (ws : List ℕ). slice_get ws n) words ∙ set_there old.words.items span.number n both other;
  listed = λ n was. elim spans [
    | inl still ↦ subst (λ (xs : List Span). IsListed xs n) (sym still.1) was
    | inr put ↦ (let there : (k : ℕ) × (slice_get (insert old.spans.items put.0 span) k ≡ Some was.1) = kept_inserted old.spans.items put.0 was.0 span was.1 was.2 in
        (there.0, was.1, ap (λ (xs : List Span). slice_get xs there.0) put.2 ∙ there.1, was.3))
  ];
  mine_listed = λ known known_at. elim spans [
    | inl still ↦ inl (subst (λ (b : ℕ). b ≢ 0) (same_Some before known (sym at ∙ known_at)) still.0)
    | inr put ↦ inr (put.0, span, ap (λ (xs : List Span). slice_get xs put.0) put.2 ∙ inserted_at old.spans.items put.0 span put.1, refl)
  ];
  spans_are = λ j s s_at. elim spans [
    | inl still ↦ inl (j, ap (λ (xs : List Span). slice_get xs j) (sym still.1) ∙ s_at)
    | inr put ↦ of_inserted old.spans.items put.0 j span s (ap (λ (xs : List Span). slice_get xs j) (sym put.2) ∙ s_at)
  ];
} where
  mine : slice_get new.words.items span.number ≡ Some both
  mine = ap (λ (ws : List ℕ). slice_get ws span.number) words ∙ set_here old.words.items span.number both (slice_get_within old.words.items span.number before at)

-- the next level's spans are taken the other way round
pub turned_spans : (g : Terrain) (old : Distances) (level : ℕ) (here next : Waiting) → AreSpans g old → here.words ≡ old.next.words → here.spans.items ≡ reverse old.next.spans.items → next ≡ old.here
    → AreSpans g (record old { level = level; here = here; next = next })
turned_spans g old level here next are words spans next_is = record {
  marks_fit = are.marks_fit;
  known_fit = are.known_fit;
  free_fit = are.free_fit;
  here_fit = ap (λ (v : Vec ℕ Global). length v.items) words ∙ are.next_fit;
  next_fit = ap (λ (w : Waiting). length w.words.items) next_is ∙ are.here_fit;
  free_only = are.free_only;
  free_all = are.free_all;
  looked = are.looked;
  layered = are.layered;
  here_listed = subst (λ (xs : List Span). AreListed g old.known here.words.items xs) (sym spans)
      (subst (λ (v : Vec ℕ Global). AreListed g old.known v.items (reverse old.next.spans.items)) (sym words) (turned_listed g old.known old.next.words.items old.next.spans.items are.next_listed));
  next_listed = subst (λ (w : Waiting). AreListed g old.known w.words.items w.spans.items) (sym next_is) are.here_listed;
}
