-- The three lanes of the test, and a run over them.
use Rattle.std.proofs.Common.{◌≡◌, ℕ, zero, suc, ◌+◌, ◌<◌, true, List, [], ◌∷◌, ◌++◌, length, take, reverse, Some, refl, sym, ap, ◌∙◌, subst, lit≤}
use Rattle.std.specs.Prelude.{slice_get}
use Rattle.std.proofs.lemmas.List.{length-reverse}
use Rattle.std.proofs.lemmas.List.Sorted.{IsPermutation-sym, IsPermutation-reverse}
use Rattle.std.proofs.lemmas.List.Elements.{All-nil, All-cons}
use Rattle.fleet_base.specs.declared.request.Request.{Request}
use Rattle.fleet_base.specs.declared.request.RouteId.{RouteId}
use Rattle.fleet_base.specs.declared.request.Entry.TheVariants as E
use Rattle.fleet_base.specs.TimedWalk.{TimedWalk}
use Rattle.order_text.specs.declared.order.Order.{Order}
use Rattle.order_text.specs.declared.order.Order.TheVariants.{Plan, Cancel}
use Rattle.order_text.specs.declared.lane.Lane.{Lane}
use Rattle.order_text.specs.Lanes.{may_cancel, MayName, IsOrderOn, IsLane, AreLanes}
use Rattle.lane_runs.specs.declared.answer.Answer.{Answer}
use Rattle.lane_runs.specs.declared.answer.Answer.TheVariants.{Made, Gone}
use Rattle.lane_runs.specs.Answers.{order_of, Fits, AreAnswers}
use Rattle.lane_runs.specs.Runs.{IsRun}

-- ---- the lanes

abbrev pub three_of : Request → List Lane
three_of q =
    record { first = 0; orders = Plan q ∷ Cancel 0 ∷ [] } ∷ record { first = 2; orders = Plan q ∷ Cancel 2 ∷ [] } ∷ record { first = 4; orders = Plan q ∷ [] } ∷ []

may_cancel_0 : (q : Request) → may_cancel 0 (Plan q ∷ []) 0 ≡ true
unfolding may_cancel
may_cancel_0 q = refl

may_cancel_2 : (q : Request) → may_cancel 2 (Plan q ∷ []) 2 ≡ true
unfolding may_cancel
may_cancel_2 q = refl

module _ (cells : ℕ) (q : Request) (on : (q.start.0 < cells) × (q.goal.0 < cells)) where
  plan_and_cancel : (n : ℕ) → may_cancel n (Plan q ∷ []) n ≡ true → IsLane cells (record { first = n; orders = Plan q ∷ Cancel n ∷ [] })
  plan_and_cancel n may = record { on_grid = All-cons (IsOrderOn cells) (Plan q) (Cancel n ∷ []) on (All-cons (IsOrderOn cells) (Cancel n) [] tt (All-nil (IsOrderOn cells))); names = names }
    where
      target_is : (t : ℕ) → Some (Cancel n) ≡ Some (Cancel t) → n ≡ t
      target_is t e = cc

      names : (i : ℕ) (o : Order) → slice_get (Plan q ∷ Cancel n ∷ []) i ≡ Some o → MayName n (take i (Plan q ∷ Cancel n ∷ [])) o
      names i (Plan r) e = tt
      names zero (Cancel t) e = absurd (cc)
      names (suc zero) (Cancel t) e = subst (λ (k : ℕ). may_cancel n (Plan q ∷ []) k ≡ true) (target_is t e) may
      names (suc (suc i)) (Cancel t) e = absurd (cc)

  plan_alone : IsLane cells (record { first = 4; orders = Plan q ∷ [] })
  plan_alone = record { on_grid = All-cons (IsOrderOn cells) (Plan q) [] on (All-nil (IsOrderOn cells)); names = names }
    where
      names : (i : ℕ) (o : Order) → slice_get (Plan q ∷ []) i ≡ Some o → MayName 4 (take i (Plan q ∷ [])) o
      names i (Plan r) e = tt
      names zero (Cancel t) e = absurd (cc)
      names (suc i) (Cancel t) e = absurd (cc)

  three_are : AreLanes cells (three_of q)
  three_are =
      let first : Lane = record { first = 0; orders = Plan q ∷ Cancel 0 ∷ [] } in
      let second : Lane = record { first = 2; orders = Plan q ∷ Cancel 2 ∷ [] } in
      let third : Lane = record { first = 4; orders = Plan q ∷ [] } in
      record {
        few_lanes = lit≤ tt;
        few_orders = lit≤ tt;
        numbered = (refl, (refl, (refl, tt)));
        each =
            All-cons (IsLane cells) first (second ∷ third ∷ []) (plan_and_cancel 0 (may_cancel_0 q))
            (All-cons (IsLane cells) second (third ∷ []) (plan_and_cancel 2 (may_cancel_2 q)) (All-cons (IsLane cells) third [] plan_alone (All-nil (IsLane cells))));
      }

  pub three_are_lanes : (lanes : List Lane) → lanes ≡ three_of q → AreLanes cells lanes
  three_are_lanes lanes e = subst (AreLanes cells) (sym e) three_are

-- ---- the answers

pub pushed_five : (l₀ l₁ l₂ l₃ l₄ l₅ : List Answer) (a b c d e : Answer) → l₀ ≡ [] → l₁ ≡ l₀ ++ a ∷ [] → l₂ ≡ l₁ ++ b ∷ [] → l₃ ≡ l₂ ++ c ∷ [] → l₄ ≡ l₃ ++ d ∷ [] → l₅ ≡ l₄ ++ e ∷ []
    → l₅ ≡ a ∷ b ∷ c ∷ d ∷ e ∷ []
pushed_five l₀ l₁ l₂ l₃ l₄ l₅ a b c d e p₀ p₁ p₂ p₃ p₄ p₅ =
    p₅ ∙ ap (λ (l : List Answer). l ++ e ∷ []) (p₄ ∙ ap (λ (l : List Answer). l ++ d ∷ []) (p₃ ∙ ap (λ (l : List Answer). l ++ c ∷ []) (p₂ ∙ ap (λ (l : List Answer). l ++ b ∷ []) (p₁ ∙ ap (λ (l : List Answer). l ++ a ∷ []) p₀))))

abbrev pub five_orders : Request → List Order
five_orders q = Plan q ∷ Cancel 0 ∷ Plan q ∷ Cancel 2 ∷ Plan q ∷ []

module _ (q : Request) (id other : RouteId) (w v : TimedWalk) where
  abbrev five : List Answer
  five = Made 0 (E.Commit id 0 q w) ∷ Made 1 (E.Cancel id 0) ∷ Made 2 (E.NoRoute 1 0 0 q) ∷ Gone 3 2 ∷ Made 4 (E.Commit other 0 q v) ∷ []

  moved : (i : ℕ) (o o' : Order) (a a' : Answer) → (order_of a ≡ 0 + i) × Fits 0 five o a → Some o ≡ Some o' → Some a ≡ Some a' → (order_of a' ≡ 0 + i) × Fits 0 five o' a'
  moved i o o' a a' h e f =
      subst (λ (z : Order × Answer). (order_of z.1 ≡ 0 + i) × Fits 0 five z.0 z.1) (λ j. (same e j, same f j)) h
    where
      same : {X : Type 0} {x y : X} → Some x ≡ Some y → x ≡ y
      same g = cc

  fit : (i : ℕ) (o : Order) (a : Answer) → slice_get (five_orders q) i ≡ Some o → slice_get five i ≡ Some a → (order_of a ≡ 0 + i) × Fits 0 five o a
  fit zero o a e f = moved 0 (Plan q) o _ a (refl, refl) e f
  fit (suc zero) o a e f = moved 1 (Cancel 0) o _ a (refl, record { order = 0; era = 0; request = q; walk = w; at = refl }) e f
  fit (suc (suc zero)) o a e f = moved 2 (Plan q) o _ a (refl, refl) e f
  fit (suc (suc (suc zero))) o a e f = moved 3 (Cancel 2) o _ a (refl, (refl, record { order = 2; id = record { stamp = 1; caller = 0 }; era = 0; request = q; at = refl })) e f
  fit (suc (suc (suc (suc zero)))) o a e f = moved 4 (Plan q) o _ a (refl, refl) e f
  fit (suc (suc (suc (suc (suc i))))) o a e f = absurd (cc)

  pub five_right : (answers : List Answer) (a e : Answer) → answers ≡ a ∷ Gone 3 2 ∷ Made 2 (E.NoRoute 1 0 0 q) ∷ Made 1 (E.Cancel id 0) ∷ e ∷ [] → a ≡ Made 4 (E.Commit other 0 q v)
      → e ≡ Made 0 (E.Commit id 0 q w) → AreAnswers 0 (five_orders q) (reverse answers)
  five_right answers a e is first last =
      let named : answers ≡ Made 4 (E.Commit other 0 q v) ∷ Gone 3 2 ∷ Made 2 (E.NoRoute 1 0 0 q) ∷ Made 1 (E.Cancel id 0) ∷ Made 0 (E.Commit id 0 q w) ∷ [] = cc in
      subst (λ (l : List Answer). AreAnswers 0 (five_orders q) l) (sym (ap reverse named)) record { few = lit≤ tt; fits = fit }

pub three_run : (q : Request) (lanes : List Lane) (answers : List Answer) → lanes ≡ three_of q → length answers ≡ 5 → AreAnswers 0 (five_orders q) (reverse answers) → IsRun lanes answers
three_run q lanes answers e long right =
    subst (λ (l : List Lane). IsRun l answers) (sym e) record {
      by_number = reverse answers;
      right = right;
      whole = length-reverse answers ∙ long;
      same = IsPermutation-sym answers (reverse answers) (IsPermutation-reverse answers);
    }
