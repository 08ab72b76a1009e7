-- One answer more.
use Rattle.std.proofs.Common.{◌≡◌, ◌≢◌, ℕ, zero, suc, ◌+◌, ◌-◌, ◌<◌, ◌≤◌, ◌⊎◌, inl, inr, List, [], ◌∷◌, ◌++◌, length, Some, refl, sym, ap, ◌∙◌, subst, arith}
use Rattle.std.specs.Prelude.{slice_get}
use Rattle.std.proofs.lemmas.List.{length-append}
use Rattle.std.proofs.lemmas.Option.{slice_get_within, slice_get_cases}
use Rattle.fleet_base.specs.declared.request.Request.{Request}
use Rattle.fleet_base.specs.declared.request.RouteId.{RouteId}
use Rattle.fleet_base.specs.declared.request.Entry.TheVariants as E
use Rattle.fleet_base.specs.TimedWalk.{TimedWalk}
use Rattle.fleet_base.proofs.WalkLemmas.{nat_cases}
use Rattle.order_text.specs.declared.order.Order.{Order}
use Rattle.order_text.specs.declared.order.Order.TheVariants.{Plan, Cancel}
use Rattle.lane_runs.specs.declared.answer.Answer.{Answer}
use Rattle.lane_runs.specs.declared.answer.Answer.TheVariants.{Made, Gone}
use Rattle.lane_runs.specs.Answers.{order_of, Committed, Refused, IsReplyAt, Fits, AreAnswers}
use Rattle.lane_runs.specs.Answering.{NamePlans, NotEnded, AreBeingAnswered}

-- ---- lists that grow at their end

module _ {X : Type 0} where
  pub get_longer : (xs ys : List X) (i : ℕ) (a : X) → slice_get xs i ≡ Some a → slice_get (xs ++ ys) i ≡ Some a
  get_longer [] ys i a h = absurd (cc)
  get_longer (x ∷ xs) ys zero a h = h
  get_longer (x ∷ xs) ys (suc i) a h = get_longer xs ys i a h

  pub get_cases : (xs : List X) (y : X) (i : ℕ) (a : X) → slice_get (xs ++ y ∷ []) i ≡ Some a → (slice_get xs i ≡ Some a) ⊎ ((i ≡ length xs) × (y ≡ a))
  get_cases [] y zero a h = inr (refl, cc)
  get_cases [] y (suc i) a h = absurd (cc)
  get_cases (x ∷ xs) y zero a h = inl h
  get_cases (x ∷ xs) y (suc i) a h = elim (get_cases xs y i a h) [ inl old ↦ inl old | inr new ↦ inr (ap suc new.0, new.1) ]

  some_same : (a b : X) → Some a ≡ Some b → a ≡ b
  some_same a b h = cc

-- ---- answers stay right as the list grows

-- the answer is a commit of that id
pub record IsCommitOf (a : Answer) (id : RouteId) : Type 0 where
  pub order : ℕ
  pub era : ℕ
  pub request : Request
  pub walk : TimedWalk
  pub is : a ≡ Made order (E.Commit id era request walk)

committed_longer : (xs ys : List Answer) (i : ℕ) (id : RouteId) → Committed xs i id → Committed (xs ++ ys) i id
committed_longer xs ys i id c = record { order = c.order; era = c.era; request = c.request; walk = c.walk; at = get_longer xs ys i _ c.at }

refused_longer : (xs ys : List Answer) (i : ℕ) → Refused xs i → Refused (xs ++ ys) i
refused_longer xs ys i c = record { order = c.order; id = c.id; era = c.era; request = c.request; at = get_longer xs ys i _ c.at }

committed_cases : (xs : List Answer) (a : Answer) (i : ℕ) (id : RouteId) → Committed (xs ++ a ∷ []) i id → Committed xs i id ⊎ ((i ≡ length xs) × IsCommitOf a id)
committed_cases xs a i id c = elim (get_cases xs a i _ c.at) [
  | inl old ↦ inl record { order = c.order; era = c.era; request = c.request; walk = c.walk; at = old }
  | inr new ↦ inr (new.0, record { order = c.order; era = c.era; request = c.request; walk = c.walk; is = new.1 })
]

fits_longer : (first : ℕ) (xs ys : List Answer) (o : Order) (a : Answer) → Fits first xs o a → Fits first (xs ++ ys) o a
fits_longer first xs ys (Plan q) (Made n (E.Commit id era r w)) h = h
fits_longer first xs ys (Plan q) (Made n (E.NoRoute stamp caller era r)) h = h
fits_longer first xs ys (Plan q) (Made n (E.Cancel id era)) h = h
fits_longer first xs ys (Plan q) (Gone n t) h = h
fits_longer first xs ys (Cancel target) (Made n (E.Commit id era r w)) h = h
fits_longer first xs ys (Cancel target) (Made n (E.NoRoute stamp caller era r)) h = h
fits_longer first xs ys (Cancel target) (Made n (E.Cancel id era)) h = committed_longer xs ys (target - first) id h
fits_longer first xs ys (Cancel target) (Gone n t) h = (h.0, refused_longer xs ys (target - first) h.1)

pub answers_more : (first : ℕ) (orders : List Order) (xs : List Answer) (o : Order) (a : Answer) → AreAnswers first orders xs → slice_get orders (length xs) ≡ Some o → order_of a ≡ first + length xs
    → Fits first (xs ++ a ∷ []) o a → AreAnswers first orders (xs ++ a ∷ [])
answers_more first orders xs o a l at number fits = record {
  few = omega (arith, length-append xs (a ∷ []), slice_get_within orders (length xs) o at);
  fits = λ i p b oi bi. elim (get_cases xs a i b bi) [
    | inl old ↦ let f = l.fits i p b oi old in (f.0, fits_longer first xs (a ∷ []) p b f.1)
    | inr new ↦
        let same : o ≡ p = some_same o p (sym at ∙ (ap (λ k. slice_get orders k) (sym new.0) ∙ oi)) in
        subst (λ (z : Order × Answer). (order_of z.1 ≡ first + i) × Fits first (xs ++ a ∷ []) z.0 z.1) (λ j. (same j, new.1 j)) (number ∙ ap (λ k. first + k) (sym new.0), fits)
  ];
}

-- the answer to a plan is a reply
pub reply_at : (first : ℕ) (orders : List Order) (xs : List Answer) (j : ℕ) (q : Request) → AreAnswers first orders xs → slice_get orders j ≡ Some (Plan q) → j < length xs → IsReplyAt xs j
reply_at first orders xs j q l at room = elim (slice_get_cases xs j).1 [
  | inl here ↦ by_answer here.0 here.2 (l.fits j (Plan q) here.0 at here.2).1
  | inr past ↦ absurd (omega (arith, past.0))
]
  where
    by_answer : (a : Answer) → slice_get xs j ≡ Some a → Fits first xs (Plan q) a → IsReplyAt xs j
    by_answer (Made n (E.Commit id era r w)) e f = inr (id, record { order = n; era = era; request = r; walk = w; at = e })
    by_answer (Made n (E.NoRoute stamp caller era r)) e f = inl record { order = n; id = record { stamp = stamp; caller = caller }; era = era; request = r; at = e }
    by_answer (Made n (E.Cancel id era)) e f = absurd f
    by_answer (Gone n t) e f = absurd f

-- ---- what is live as the list grows

-- nothing is answered yet
pub answers_begin : (first last : ℕ) (orders : List Order) (Lives : RouteId → Type 0) → AreBeingAnswered first orders [] last Lives
answers_begin first last orders Lives = record {
  right = record { few = omega arith; fits = λ i o a at here. absurd (cc) };
  live = λ j id c. let h = c.at in absurd (cc);
  under = λ j id c. let h = c.at in absurd (cc);
  rising = λ j k id next less c. let h = c.at in absurd (cc);
}

-- one more answer, where its commit is live and the live ones stay
answering_more : (first : ℕ) (orders : List Order) (xs : List Answer) (a : Answer) (last last' : ℕ) (Lives Lives' : RouteId → Type 0)
    → AreBeingAnswered first orders xs last Lives → AreAnswers first orders (xs ++ a ∷ []) → last ≤ last'
    → ((id : RouteId) → IsCommitOf a id → Lives' id × (id.stamp ≤ last') × (last < id.stamp))
    → ((j : ℕ) (id : RouteId) → Committed xs j id → NotEnded first orders (length xs + 1) j → Lives id → Lives' id)
    → AreBeingAnswered first orders (xs ++ a ∷ []) last' Lives'
answering_more first orders xs a last last' Lives Lives' was more grows new keeps = record {
  right = more;
  live = λ j id c open_yet. elim (committed_cases xs a j id c) [
    | inl old ↦
        let long : length (xs ++ a ∷ []) ≡ length xs + 1 = length-append xs (a ∷ []) in
        keeps j id old (λ k t less. open_yet k t (omega arith)) (was.live j id old (λ k t less. open_yet k t (omega arith)))
    | inr latest ↦ (new id latest.1).0
  ];
  under = λ j id c. elim (committed_cases xs a j id c) [
    | inl old ↦ let o = was.under j id old in omega arith
    | inr latest ↦ (new id latest.1).1
  ];
  rising = λ j k id next less c d. elim (committed_cases xs a k next d) [
    | inl old ↦ elim (committed_cases xs a j id c) [
      | inl earlier ↦ was.rising j k id next less earlier old
      | inr latest ↦ let e = latest.0 in absurd (omega (arith, slice_get_within xs k _ old.at))
    ]
    | inr latest ↦ elim (committed_cases xs a j id c) [
      | inl earlier ↦ let o = was.under j id earlier in let n = (new next latest.1).2 in omega arith
      | inr same ↦ let e = latest.0 in let f = same.0 in absurd (omega arith)
    ]
  ];
}

no_commit_cancel : (n era : ℕ) (c id : RouteId) → IsCommitOf (Made n (E.Cancel c era)) id → ⊥
no_commit_cancel n era c id i = let h = i.is in cc

no_commit_gone : (n t : ℕ) (id : RouteId) → IsCommitOf (Gone n t) id → ⊥
no_commit_gone n t id i = let h = i.is in cc

no_commit_refused : (n stamp caller era : ℕ) (r : Request) (id : RouteId) → IsCommitOf (Made n (E.NoRoute stamp caller era r)) id → ⊥
no_commit_refused n stamp caller era r id i = let h = i.is in cc

commit_same : (n era : ℕ) (id : RouteId) (r : Request) (w : TimedWalk) (other : RouteId) → IsCommitOf (Made n (E.Commit id era r w)) other → id ≡ other
commit_same n era id r w other i = let h = i.is in cc

module _ (first : ℕ) (orders : List Order) (xs : List Answer) (last : ℕ) (Lives Lives' : RouteId → Type 0) (was : AreBeingAnswered first orders xs last Lives) where
  -- a plan was committed with a higher stamp, and its route is live
  pub answers_commit : (number last' era : ℕ) (id : RouteId) (q : Request) (w : TimedWalk) → slice_get orders (length xs) ≡ Some (Plan q) → number ≡ first + length xs
      → last < id.stamp → id.stamp ≤ last' → Lives' id → ((other : RouteId) → Lives other → Lives' other)
      → AreBeingAnswered first orders (xs ++ Made number (E.Commit id era q w) ∷ []) last' Lives'
  answers_commit number last' era id q w at is above within here keep =
      let a : Answer = Made number (E.Commit id era q w) in
      answering_more first orders xs a last last' Lives Lives' was (answers_more first orders xs (Plan q) a was.right at is refl) (omega arith)
      (λ other c. let same : id ≡ other = commit_same _ _ id _ _ other c in
      subst (λ (z : RouteId). Lives' z × (z.stamp ≤ last') × (last < z.stamp)) same (here, within, above))
      (λ j other c unended lives. keep other lives)

  -- a plan was answered without a route
  pub answers_refusal : (number last' stamp caller era : ℕ) (q : Request) → slice_get orders (length xs) ≡ Some (Plan q) → number ≡ first + length xs
      → last ≤ last' → ((other : RouteId) → Lives other → Lives' other)
      → AreBeingAnswered first orders (xs ++ Made number (E.NoRoute stamp caller era q) ∷ []) last' Lives'
  answers_refusal number last' stamp caller era q at is grows keep =
      let a : Answer = Made number (E.NoRoute stamp caller era q) in
      answering_more first orders xs a last last' Lives Lives' was (answers_more first orders xs (Plan q) a was.right at is refl) grows
      (λ other c. absurd (no_commit_refused _ _ _ _ _ other c))
      (λ j other c unended lives. keep other lives)

  -- a cancel is gone, since its plan has no route
  pub answers_gone : (number target : ℕ) → slice_get orders (length xs) ≡ Some (Cancel target) → number ≡ first + length xs
      → Refused xs (target - first) → ((other : RouteId) → Lives other → Lives' other)
      → AreBeingAnswered first orders (xs ++ Gone number target ∷ []) last Lives'
  answers_gone number target at is none_there keep =
      let a : Answer = Gone number target in
      answering_more first orders xs a last last Lives Lives' was (answers_more first orders xs (Cancel target) a was.right at is (refl, refused_longer xs (a ∷ []) _ none_there)) (omega arith)
      (λ other c. absurd (no_commit_gone _ _ other c))
      (λ j other c unended lives. keep other lives)

  -- a cancel ended its plan's route, and no other
  pub answers_cancel : (number target era : ℕ) (id : RouteId) → NamePlans first orders → slice_get orders (length xs) ≡ Some (Cancel target) → number ≡ first + length xs
      → Committed xs (target - first) id → ((other : RouteId) → other.stamp ≢ id.stamp → Lives other → Lives' other)
      → AreBeingAnswered first orders (xs ++ Made number (E.Cancel id era) ∷ []) last Lives'
  answers_cancel number target era id names at is there keep =
      let a : Answer = Made number (E.Cancel id era) in
      let h = names.plan (length xs) target at in
      let h2 = h.2 in
      answering_more first orders xs a last last Lives Lives' was (answers_more first orders xs (Cancel target) a was.right at is (committed_longer xs (a ∷ []) _ id there)) (omega arith)
      (λ other c. absurd (no_commit_cancel _ _ _ other c))
      (λ j other c open_yet lives. keep other (apart j other c (λ here. open_yet (length xs) target (omega arith) at (omega arith))) lives)
    where
      apart : (j : ℕ) (other : RouteId) → Committed xs j other → (j ≡ target - first → ⊥) → other.stamp ≢ id.stamp
      apart j other k off equal = elim (nat_cases j (target - first)) [
        | inl less ↦ absurd (omega (arith, was.rising j (target - first) other id less k there))
        | inr more ↦ absurd (omega (arith, was.rising (target - first) j id other (away j (target - first) more off) there k))
      ]
        where
          away : (m n : ℕ) → n ≤ m → (m ≡ n → ⊥) → n < m
          away m n le ne = elim (nat_cases n m) [ inl less ↦ less | inr more ↦ absurd (ne (omega arith)) ]

  -- the plan that a cancel names is answered, and where it has a route, the route is live
  pub target_reply : (target : ℕ) → NamePlans first orders → slice_get orders (length xs) ≡ Some (Cancel target) → IsReplyAt xs (target - first)
  target_reply target names at =
      let h = names.plan (length xs) target at in
      let h2 = h.2 in
      let same : target - first ≡ h.0 = omega arith in
      subst (IsReplyAt xs) (sym same) (reply_at first orders xs h.0 h.3 was.right h.4 h.1)

  unended : (target : ℕ) → NamePlans first orders → slice_get orders (length xs) ≡ Some (Cancel target) → NotEnded first orders (length xs) (target - first)
  unended target names at k other less there is =
      let h = names.plan (length xs) target at in
      let h2 = h.2 in
      let same : other ≡ target = omega arith in
      names.once k (length xs) target less (subst (λ (z : ℕ). slice_get orders k ≡ Some (Cancel z)) same there) at

  pub target_live : (target : ℕ) (id : RouteId) → NamePlans first orders → slice_get orders (length xs) ≡ Some (Cancel target) → Committed xs (target - first) id → Lives id
  target_live target id names at c = was.live (target - first) id c (unended target names at)
