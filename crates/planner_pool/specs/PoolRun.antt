-- What a run over lanes in a shared book comes to.
use Rattle.std.specs.Prelude.{◌≡◌, ℕ, ◌+◌, ◌*◌, ◌≤◌, ◌⊎◌, List, [], ◌∷◌, length, Some, slice_get, All, IsPermutation, IfSome}
use Rattle.fleet_base.specs.declared.request.Entry.{Entry}
use Rattle.fleet_base.specs.Journal.{IsJournal}
use Rattle.fleet_base.specs.History.{past_of, book_after, reply_of, IsLive}
use Rattle.order_text.specs.declared.lane.Lane.{Lane}
use Rattle.lane_runs.specs.declared.answer.Answer.{Answer}
use Rattle.lane_runs.specs.declared.answer.Left.{Left}
use Rattle.lane_runs.specs.Answers.{entries_made}
use Rattle.lane_runs.specs.Answering.{AreBeingAnswered}
use Rattle.book_trait.specs.Passes.{JoinedView}
use Rattle.planner_pool.specs.Runs.{IsRunUpTo}

-- the entries xs stand in ys, in their order
abbrev pub StandsIn : List Entry → List Entry → Type 0
StandsIn [] ys = Unit {0}
StandsIn (x ∷ xs) [] = ⊥
StandsIn (x ∷ xs) (y ∷ ys) = ((x ≡ y) × StandsIn xs ys) ⊎ StandsIn (x ∷ xs) ys

-- the entries that each lane's answers made stand in the list, in the lane's order
abbrev pub KeepsEach : List (List Answer) → List Entry → Type 0
KeepsEach by_lane list = All (λ xs. StandsIn (entries_made xs) list) by_lane

-- how many replies the list has
abbrev pub replies_in : List Entry → ℕ
replies_in list = length (past_of list).replies

-- The list has the entries that the answers made and no others, those of each lane in the lane's order, and so has its
-- journal. Its stamps are no higher than the number of replies. In what it leaves live each lane could go on.
pub record Holds (lanes : List Lane) (by_lane : List (List Answer)) (answers : List Answer) (list : List Entry) : Type 0 where
  pub entries : IsPermutation (entries_made answers) list
  pub in_order : KeepsEach by_lane list
  pub in_journal : (journal : List Entry) → IsJournal list journal → KeepsEach by_lane journal
  pub stamps : All (λ e. IfSome (reply_of e) (λ id. id.stamp ≤ replies_in list)) list
  pub goes_on : (k : ℕ) (lane : Lane) (xs : List Answer) → slice_get lanes k ≡ Some lane → slice_get by_lane k ≡ Some xs → AreBeingAnswered lane.first lane.orders xs (replies_in list) (λ id. IsLive id (book_after list))

-- How often the callers were answered 'again' and 'full' while so many orders were answered, and so many lanes left: less
-- than eight times 'again' at an order that was answered, and 'again' eight times or 'full' once at one that was left.
pub record AreCounted (j : JoinedView) (answered left : ℕ) : Type 0 where
  pub enough : 8 * left ≤ j.again + 8 * j.full
  pub again : j.again ≤ 7 * answered + 8 * left
  pub full : j.full ≤ left

-- each order was answered or left, once, in the list that all callers have seen
pub record IsPoolRun (lanes : List Lane) (answers : List Answer) (left : List Left) (j : JoinedView) : Type 0 where
  pub by_lane : List (List Answer)
  pub run : IsRunUpTo lanes by_lane answers left
  pub list : Holds lanes by_lane answers j.seen
  pub counts : AreCounted j (length answers) (length left)
