-- From the cells of a span to those beside them: steps, what waits more, and the spans above and below.
use Rattle.std.proofs.Common.{◌≡◌, ℕ, ◌+◌, ◌*◌, ◌<◌, ◌≤◌, ◌⊎◌, inl, inr, Bool, true, false, nat_lt, List, refl, sym, ◌∙◌, subst, arith}
use Rattle.std.proofs.lemmas.Bool.{ltb-true, ltb-false}
use Rattle.fleet_base.specs.declared.grid.Cell.{Cell}
use Rattle.fleet_base.specs.declared.grid.Side.{Side}
use Rattle.fleet_base.specs.declared.grid.Side.TheVariants.{Up, Left, Right, Down}
use Rattle.fleet_base.specs.Terrain.{Terrain, IsAt, IsBeside}
use Rattle.static_distance.specs.declared.place.Place.{Place}
use Rattle.static_distance.specs.declared.span.Span.{Span}
use Rattle.static_distance.specs.declared.distances.Distances.{Distances}
use Rattle.static_distance.specs.Levels.{IsPlaceOf, apart}
use Rattle.static_distance.specs.Marks.{marks_of}
use Rattle.static_distance.specs.Spans.{IsSpan, Holds, Stands, IsFree, KeepsWaiting, HasEntered, IsStep, IsLed, HasSpreadTo}
use Rattle.static_distance.specs.Rows.{HasMore}
use Rattle.static_distance.proofs.Places.{column_at, row_at, closer_up, farther_up, closer_left, farther_left, closer_right, farther_right, closer_down, farther_down}

-- ---- columns and rows

-- a cell is at one column and one row
pub at_once : (g : Terrain) (c : Cell) (x y v w : ℕ) → IsAt g c x y → IsAt g c v w → (x ≡ v) × (y ≡ w)
at_once g c x y v w one two = (sym (column_at g c x y one) ∙ column_at g c v w two, sym (row_at g c x y one) ∙ row_at g c v w two)

pub same_at : (g : Terrain) (c : Cell) (x y v w : ℕ) → x ≡ v → y ≡ w → IsAt g c x y → IsAt g c v w
same_at g c x y v w column row at = subst (λ (n : ℕ). IsAt g c n w) column (subst (λ (n : ℕ). IsAt g c x n) row at)

-- where the cell beside a cell is
module _ (g : Terrain) (c n : Cell) (x y : ℕ) where
  pub above_at : IsAt g c x (y + 1) → IsBeside g Up c n → IsAt g n x y
  above_at at (v, w, from, to) = let same = at_once g c v (w + 1) x (y + 1) from at in same_at g n v w x y same.0 (omega (arith, same.1)) to

  pub before_at : IsAt g c (x + 1) y → IsBeside g Left c n → IsAt g n x y
  before_at at (v, w, from, to) = let same = at_once g c (v + 1) w (x + 1) y from at in same_at g n v w x y (omega (arith, same.0)) same.1 to

  pub after_at : IsAt g c x y → IsBeside g Right c n → IsAt g n (x + 1) y
  after_at at (v, w, from, to) = let same = at_once g c v w x y from at in same_at g n (v + 1) w (x + 1) y (omega (arith, same.0)) same.1 to

  pub under_at : IsAt g c x y → IsBeside g Down c n → IsAt g n x (y + 1)
  under_at at (v, w, from, to) = let same = at_once g c v w x y from at in same_at g n v (w + 1) x (y + 1) same.0 (omega (arith, same.1)) to

-- ---- steps

-- whether the cell on that side of column x and row y is closer
abbrev pub nearer : Side → ℕ → ℕ → Place → Bool
nearer Up x y toward = nat_lt toward.row y
nearer Left x y toward = nat_lt toward.column x
nearer Right x y toward = nat_lt x toward.column
nearer Down x y toward = nat_lt y toward.row

step_by : (g : Terrain) (toward : Place) (c n : Cell) (closer : Bool) → (closer ≡ true → IsStep g toward true c n) → (closer ≡ false → IsStep g toward false c n)
    → IsStep g toward closer c n
step_by g toward c n true near far = near refl
step_by g toward c n false near far = far refl

one_way : (m k : ℕ) → m + 1 ≡ k → m ≡ k + 1 → ⊥
one_way m k less more = omega arith

-- a step leads closer or farther, and not both
pub step_once : (g : Terrain) (toward : Place) (c n : Cell) (a b : Bool) → IsStep g toward a c n → IsStep g toward b c n → a ≡ b
step_once g toward c n true true one two = refl
step_once g toward c n true false one two = absurd (one_way (apart g toward n) (apart g toward c) one two)
step_once g toward c n false true one two = absurd (one_way (apart g toward n) (apart g toward c) two one)
step_once g toward c n false false one two = refl

module _ (g : Terrain) (toward : Place) (c n : Cell) (x y : ℕ) (at : IsAt g c x y) where
  abbrev place : Place
  place = record { column = x; row = y }

  abbrev placed : IsPlaceOf g c place
  placed = (sym (column_at g c x y at), sym (row_at g c x y at))

  pub step_to : (side : Side) → IsBeside g side c n → IsStep g toward (nearer side x y toward) c n
  step_to Up beside = step_by g toward c n (nat_lt toward.row y)
      (λ e. closer_up g toward place c n placed beside (ltb-true toward.row y e)) (λ e. farther_up g toward place c n placed beside (ltb-false toward.row y e))
  step_to Left beside = step_by g toward c n (nat_lt toward.column x)
      (λ e. closer_left g toward place c n placed beside (ltb-true toward.column x e)) (λ e. farther_left g toward place c n placed beside (ltb-false toward.column x e))
  step_to Right beside = step_by g toward c n (nat_lt x toward.column)
      (λ e. closer_right g toward place c n placed beside (ltb-true x toward.column e)) (λ e. farther_right g toward place c n placed beside (ltb-false x toward.column e))
  step_to Down beside = step_by g toward c n (nat_lt y toward.row)
      (λ e. closer_down g toward place c n placed beside (ltb-true y toward.row e)) (λ e. farther_down g toward place c n placed beside (ltb-false y toward.row e))

  pub left_closer : IsBeside g Left c n → toward.column < x → IsStep g toward true c n
  left_closer beside less = closer_left g toward place c n placed beside less

  pub left_farther : IsBeside g Left c n → x ≤ toward.column → IsStep g toward false c n
  left_farther beside more = farther_left g toward place c n placed beside more

  pub right_closer : IsBeside g Right c n → x < toward.column → IsStep g toward true c n
  right_closer beside less = closer_right g toward place c n placed beside less

  pub right_farther : IsBeside g Right c n → toward.column ≤ x → IsStep g toward false c n
  right_farther beside more = farther_right g toward place c n placed beside more

-- ---- cells that wait now

-- the free cells that the word has in the span, on the level that is said
abbrev pub Enters : Terrain → Span → ℕ → Bool → List ℕ → Bool → Cell → Type 0
Enters g t word closer marks on n = (closer ≡ on) × Holds g t word n × IsFree g marks n

pub kept_twice : (g : Terrain) (old between new : Distances) → KeepsWaiting g old between → KeepsWaiting g between new → KeepsWaiting g old new
kept_twice g old between new first second = record {
  goal = second.goal ∙ first.goal;
  toward = second.toward ∙ first.toward;
  level = second.level ∙ first.level;
  marks = second.marks ∙ first.marks;
  here = λ n stands. second.here n (first.here n stands);
  next = λ n stands. second.next n (first.next n stands);
}

pub more_entered : (g : Terrain) (t : Span) (word : ℕ) (closer : Bool) (old new : Distances) → HasEntered g t word closer old new
    → HasMore g (λ on n. Enters g t word closer (marks_of g old) on n) old new
more_entered g t word closer old new has = record {
  kept = has.kept;
  here_only = has.here_only;
  next_only = has.next_only;
  here_more = λ n (is, held, free). elim (has.entered n held free) [ inl (_, stands) ↦ stands | inr (other, _) ↦ absurd (cc) ];
  next_more = λ n (is, held, free). elim (has.entered n held free) [ inl (other, _) ↦ absurd (cc) | inr (_, stands) ↦ stands ];
}

-- what waits more after one step and after another one
pub more_twice : (g : Terrain) (one two : Bool → Cell → Type 0) (old between new : Distances) → HasMore g one old between → HasMore g two between new
    → HasMore g (λ on n. one on n ⊎ two on n) old new
more_twice g one two old between new first second = record {
  kept = kept_twice g old between new first.kept second.kept;
  here_only = λ n stands. elim (second.here_only n stands) [
    | inr last ↦ inr (inr last)
    | inl stood ↦ elim (first.here_only n stood) [ inl before ↦ inl before | inr then ↦ inr (inl then) ]
  ];
  next_only = λ n stands. elim (second.next_only n stands) [
    | inr last ↦ inr (inr last)
    | inl stood ↦ elim (first.next_only n stood) [ inl before ↦ inl before | inr then ↦ inr (inl then) ]
  ];
  here_more = λ n more. elim more [ inl then ↦ second.kept.here n (first.here_more n then) | inr last ↦ second.here_more n last ];
  next_more = λ n more. elim more [ inl then ↦ second.kept.next n (first.next_more n then) | inr last ↦ second.next_more n last ];
}

-- what waits more is also what another description says
pub more_same : (g : Terrain) (one two : Bool → Cell → Type 0) (old new : Distances) → HasMore g one old new
    → ((on : Bool) (n : Cell) → one on n → two on n) → ((on : Bool) (n : Cell) → two on n → one on n) → HasMore g two old new
more_same g one two old new has from to = record {
  kept = has.kept;
  here_only = λ n stands. elim (has.here_only n stands) [ inl before ↦ inl before | inr then ↦ inr (from true n then) ];
  next_only = λ n stands. elim (has.next_only n stands) [ inl before ↦ inl before | inr then ↦ inr (from false n then) ];
  here_more = λ n then. has.here_more n (to true n then);
  next_more = λ n then. has.next_more n (to false n then);
}

-- nothing waits more
pub more_none : (g : Terrain) (more : Bool → Cell → Type 0) (d : Distances) → ((on : Bool) (n : Cell) → more on n → ⊥) → HasMore g more d d
more_none g more d none = record {
  kept = record { goal = refl; toward = refl; level = refl; marks = refl; here = λ n stands. stands; next = λ n stands. stands };
  here_only = λ n stands. inl stands;
  next_only = λ n stands. inl stands;
  here_more = λ n then. absurd (none true n then);
  next_more = λ n then. absurd (none false n then);
}

-- a cell that waits more, and to which a step leads
pub more_waits : (g : Terrain) (more : Bool → Cell → Type 0) (old new : Distances) → HasMore g more old new → (c n : Cell) (on : Bool) → more on n → IsStep g old.toward on c n
    → (Stands g new.known new.here.words.items n × IsStep g old.toward true c n) ⊎ (Stands g new.known new.next.words.items n × IsStep g old.toward false c n)
more_waits g more old new has c n true then step = inl (has.here_more n then, step)
more_waits g more old new has c n false then step = inr (has.next_more n then, step)

-- All that waits more is led to from the word's cells, and all that is led to waits.
pub spread_more : (g : Terrain) (side : Side) (s : Span) (word : ℕ) (more : Bool → Cell → Type 0) (old new : Distances) → HasMore g more old new
    → ((on : Bool) (n : Cell) → more on n → IsLed g side s word old on n)
    → ((c n : Cell) → Holds g s word c → IsBeside g side c n → IsFree g (marks_of g old) n → (on : Bool) × more on n × IsStep g old.toward on c n)
    → HasSpreadTo g side s word old new
spread_more g side s word more old new has from to = record {
  kept = has.kept;
  here_only = λ n stands. elim (has.here_only n stands) [ inl before ↦ inl before | inr then ↦ inr (from true n then) ];
  next_only = λ n stands. elim (has.next_only n stands) [ inl before ↦ inl before | inr then ↦ inr (from false n then) ];
  led = λ c n held beside free. (let found = to c n held beside free in more_waits g more old new has c n found.0 found.1 found.2);
}

-- ---- up and down

module _ (g : Terrain) (s t : Span) (word : ℕ) (old new : Distances) (is : IsSpan g s) (column : t.column ≡ s.column) where
  -- t is the span above s
  pub spread_above : t.row + 1 ≡ s.row → HasEntered g t word (nat_lt old.toward.row s.row) old new → HasSpreadTo g Up s word old new
  spread_above row has = spread_more g Up s word (λ on n. Enters g t word (nat_lt old.toward.row s.row) (marks_of g old) on n) old new
      (more_entered g t word (nat_lt old.toward.row s.row) old new has)
      (λ on n (closer, (i, set, (below, at)), free).
      let c : Cell = record { 0 = s.row * g.width + (s.column + i) } in
      let inside : s.column + i < g.width = omega (arith, at.0) in
      let from : IsAt g c (s.column + i) s.row = (inside, is.row_in, refl) in
      let beside : IsBeside g Up c n = (
        s.column + i,
        t.row,
        same_at g c (s.column + i) s.row (s.column + i) (t.row + 1) refl (sym row) from,
        same_at g n (t.column + i) t.row (s.column + i) t.row (omega arith) refl at,
      ) in
      record {
        from = c;
        held = (i, set, (below, from));
        beside = beside;
        free = free;
        step = subst (λ (b : Bool). IsStep g old.toward b c n) closer (step_to g old.toward c n (s.column + i) s.row from Up beside);
      })
      (λ c n (i, set, (below, at)) beside free.
      let to : IsAt g n (s.column + i) t.row = above_at g c n (s.column + i) t.row (same_at g c (s.column + i) s.row (s.column + i) (t.row + 1) refl (sym row) at) beside in (
        nat_lt old.toward.row s.row,
        (refl, (i, set, (below, same_at g n (s.column + i) t.row (t.column + i) t.row (omega arith) refl to)), free),
        step_to g old.toward c n (s.column + i) s.row at Up beside,
      ))

  -- t is the span under s
  pub spread_under : t.row ≡ s.row + 1 → HasEntered g t word (nat_lt s.row old.toward.row) old new → HasSpreadTo g Down s word old new
  spread_under row has = spread_more g Down s word (λ on n. Enters g t word (nat_lt s.row old.toward.row) (marks_of g old) on n) old new
      (more_entered g t word (nat_lt s.row old.toward.row) old new has)
      (λ on n (closer, (i, set, (below, at)), free).
      let c : Cell = record { 0 = s.row * g.width + (s.column + i) } in
      let inside : s.column + i < g.width = omega (arith, at.0) in
      let from : IsAt g c (s.column + i) s.row = (inside, is.row_in, refl) in
      let beside : IsBeside g Down c n = (s.column + i, s.row, from, same_at g n (t.column + i) t.row (s.column + i) (s.row + 1) (omega arith) row at) in
      record {
        from = c;
        held = (i, set, (below, from));
        beside = beside;
        free = free;
        step = subst (λ (b : Bool). IsStep g old.toward b c n) closer (step_to g old.toward c n (s.column + i) s.row from Down beside);
      })
      (λ c n (i, set, (below, at)) beside free.
      let to : IsAt g n (s.column + i) (s.row + 1) = under_at g c n (s.column + i) s.row at beside in (
        nat_lt s.row old.toward.row,
        (refl, (i, set, (below, same_at g n (s.column + i) (s.row + 1) (t.column + i) t.row (omega arith) (sym row) to)), free),
        step_to g old.toward c n (s.column + i) s.row at Down beside,
      ))
