-- One cell more, and one request more.
use Rattle.std.proofs.Common.{◌≡◌, ℕ, suc, ◌+◌, ◌*◌, Bool, List, [], ◌∷◌, ◌++◌, sym, ap, ap₂, ◌∙◌, arith}
use Rattle.std.specs.Prelude.{nat_le}
use Rattle.fleet_base.specs.declared.request.Request.{Request}
use Rattle.request_maker.specs.Making.{next_state, state_after, value_below, draw_at, each_below, is_open_at, request_at}

one_more : (n : ℕ) → n + 1 ≡ suc n
one_more n = omega arith

pub each_more : {X : Type 0} (f : ℕ → X) (n : ℕ) → each_below f (n + 1) ≡ each_below f n ++ f n ∷ []
each_more f n = ap (each_below f) (one_more n)

pub state_more : (start n : ℕ) → state_after start (n + 1) ≡ next_state (state_after start n)
state_more start n = ap (state_after start) (one_more n)

-- the values of draws that follow so many
pub drawn_next : (start n before after m value : ℕ) → before ≡ state_after start n → after ≡ next_state before → value ≡ value_below after m
    → (value ≡ draw_at start n m) × (after ≡ state_after start (n + 1))
drawn_next start n before after m value is next of =
    let step : after ≡ state_after start (n + 1) = next ∙ ap next_state is ∙ sym (state_more start n) in
    (of ∙ ap (λ (s : ℕ). value_below s m) step, step)

pub cells_more : (percent start n before after value : ℕ) (xs ys : List Bool) (open_cell : Bool) → xs ≡ each_below (is_open_at percent start) n → before ≡ state_after start n → after ≡ next_state before
    → value ≡ value_below after 100 → open_cell ≡ nat_le percent value → ys ≡ xs ++ open_cell ∷ [] → ys ≡ each_below (is_open_at percent start) (n + 1)
cells_more percent start n before after value xs ys open_cell made is next of test pushed =
    let drawn = drawn_next start n before after 100 value is next of in
    pushed ∙ ap₂ (λ (l : List Bool) (b : Bool). l ++ b ∷ []) made (test ∙ ap (nat_le percent) drawn.0) ∙ sym (each_more (is_open_at percent start) n)

pub requests_more : (area start n before middle after from to : ℕ) (xs ys : List Request) (q : Request) → xs ≡ each_below (request_at area start) n → before ≡ state_after start (area + 2 * n)
    → middle ≡ next_state before → from ≡ value_below middle area → after ≡ next_state middle → to ≡ value_below after area
    → q ≡ record { start = record { 0 = from }; goal = record { 0 = to }; depart = (request_at area start n).depart; stay = (request_at area start n).stay } → ys ≡ xs ++ q ∷ []
    → (ys ≡ each_below (request_at area start) (n + 1)) × (after ≡ state_after start (area + 2 * (n + 1)))
requests_more area start n before middle after from to xs ys q made is next from_is next2 to_is q_is pushed =
    let first = drawn_next start (area + 2 * n) before middle area from is next from_is in
    let second = drawn_next start (area + 2 * n + 1) middle after area to first.1 next2 to_is in
    let count : area + 2 * n + 1 + 1 ≡ area + 2 * (n + 1) = omega arith in
    let same : q ≡ request_at area start n = q_is ∙ ap₂ (λ (a b : ℕ). record { start = record { 0 = a }; goal = record { 0 = b }; depart = (request_at area start n).depart; stay = (request_at area start n).stay }) first.0 second.0 in
    (pushed ∙ ap₂ (λ (l : List Request) (r : Request). l ++ r ∷ []) made same ∙ sym (each_more (request_at area start) n), second.1 ∙ ap (state_after start) count)
