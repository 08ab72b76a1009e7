-- What one worker answers: the orders by their numbers, in a book that is empty at first.
use Rattle.std.specs.Prelude.{◌≡◌, ℕ, ◌+◌, List, length, take, Some, slice_get}
use Rattle.fleet_base.specs.declared.request.Request.{Request}
use Rattle.fleet_base.specs.declared.request.Entry.{Entry}
use Rattle.fleet_base.specs.declared.request.Entry.TheVariants as E
use Rattle.fleet_base.specs.Terrain.{Terrain}
use Rattle.fleet_base.specs.Planned.{NoneFree}
use Rattle.fleet_base.specs.History.{past_of, book_after}
use Rattle.fleet_base.specs.Traffic.{traffic_of}
use Rattle.fleet_base.specs.Canonical.{IsCanonical}
use Rattle.order_text.specs.declared.order.Order.{Order}
use Rattle.order_text.specs.declared.order.Order.TheVariants.{Plan, Cancel}
use Rattle.lane_runs.specs.declared.answer.Answer.{Answer}
use Rattle.lane_runs.specs.declared.answer.Answer.TheVariants.{Made, Gone}
use Rattle.lane_runs.specs.Answers.{entries_made, order_of, Committed, Refused}

-- the stamp of the next reply: each reply has one more than the reply before it
abbrev pub next_stamp : List Entry → ℕ
next_stamp before = length (past_of before).replies + 1

-- the era of the next entry: how many routes were cancelled before
abbrev pub era_after : List Entry → ℕ
era_after before = (past_of before).era

-- The reply to a plan after these entries, with the caller 0: the canonical walk of the request among the live routes,
-- or that no walk of it is free.
abbrev pub IsPlainReply : Terrain → ℕ → List Entry → Request → Entry → Type 0
IsPlainReply g horizon before q (E.Commit id era r w) =
    (id ≡ record { stamp = next_stamp before; caller = 0 }) × (era ≡ era_after before) × (r ≡ q) × IsCanonical g horizon (traffic_of (book_after before)) q w
IsPlainReply g horizon before q (E.Cancel id era) = ⊥
IsPlainReply g horizon before q (E.NoRoute stamp caller era r) =
    (stamp ≡ next_stamp before) × (caller ≡ 0) × (era ≡ era_after before) × (r ≡ q) × NoneFree g horizon q (book_after before)

-- The answer to an order after the answers to those before it: a reply to a plan, and to a cancel the end of its plan's
-- route, or gone where its plan was answered without a route.
abbrev pub IsPlainAnswer : Terrain → ℕ → List Answer → Order → Answer → Type 0
IsPlainAnswer g horizon before (Plan q) (Made n e) = IsPlainReply g horizon (entries_made before) q e
IsPlainAnswer g horizon before (Plan q) (Gone n target) = ⊥
IsPlainAnswer g horizon before (Cancel target) (Made n (E.Commit id era r w)) = ⊥
IsPlainAnswer g horizon before (Cancel target) (Made n (E.Cancel id era)) = Committed before target id × (era ≡ era_after (entries_made before))
IsPlainAnswer g horizon before (Cancel target) (Made n (E.NoRoute stamp caller era r)) = ⊥
IsPlainAnswer g horizon before (Cancel target) (Gone n t) = (t ≡ target) × Refused before target

-- the first of the orders, which are numbered from 0, were answered so
pub record IsPlainSoFar (g : Terrain) (horizon : ℕ) (orders : List Order) (answers : List Answer) : Type 0 where
  pub each : (i : ℕ) (o : Order) (a : Answer) → slice_get orders i ≡ Some o → slice_get answers i ≡ Some a → (order_of a ≡ i) × IsPlainAnswer g horizon (take i answers) o a

-- all orders were answered so, one after the other
pub record IsPlainRun (g : Terrain) (horizon : ℕ) (orders : List Order) (answers : List Answer) : Type 0 where
  pub whole : length answers ≡ length orders
  pub right : IsPlainSoFar g horizon orders answers
