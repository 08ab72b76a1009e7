-- A run by one worker while it goes on.
use Rattle.std.specs.Prelude.{◌≡◌, ℕ, ◌<◌, ◌≤◌, ◌⊎◌, List, [], length, All, Some}
use Rattle.fleet_base.specs.declared.request.RouteId.{RouteId}
use Rattle.fleet_base.specs.declared.request.Entry.{Entry}
use Rattle.fleet_base.specs.Terrain.{Terrain}
use Rattle.fleet_base.specs.History.{reply_of, era_of, past_of, IsLive, IsStrong}
use Rattle.fleet_base.specs.Journal.{IsInOrder}
use Rattle.order_text.specs.declared.order.Order.{Order}
use Rattle.lane_runs.specs.declared.answer.Answer.{Answer}
use Rattle.lane_runs.specs.Answers.{entries_made}
use Rattle.lane_runs.specs.Answering.{AreBeingAnswered}
use Rattle.plain_book.specs.BookState.{BookState, LeadsTo}
use Rattle.plain_run.specs.PlainRun.{IsPlainSoFar}

-- the book is empty and new
pub record IsNewBook (book : BookState) : Type 0 where
  pub routes : book.routes ≡ []
  pub stamp : book.stamp ≡ 0
  pub era : book.era ≡ 0

-- the entry comes before all that the book answers next: it is of an era before, or a reply of a lower stamp
abbrev pub IsBehind : BookState → Entry → Type 0
IsBehind book e = (era_of e < book.era) ⊎ ((era_of e ≡ book.era) × ((id : RouteId) × (reply_of e ≡ Some id) × (id.stamp ≤ book.stamp)))

-- so many orders are answered, and the book has come to this
pub record IsUnderway (g : Terrain) (horizon : ℕ) (orders : List Order) (answers : List Answer) (book : BookState) : Type 0 where
  pub grid_is : book.grid ≡ g
  pub horizon_is : book.horizon ≡ horizon
  pub run : IsPlainSoFar g horizon orders answers
  pub answering : AreBeingAnswered 0 orders answers book.stamp (λ id. IsLive id book.routes)
  pub leads : LeadsTo (past_of (entries_made answers)) book
  pub strong : IsStrong g horizon (entries_made answers)
  pub in_order : IsInOrder (entries_made answers)
  pub behind : All (IsBehind book) (entries_made answers)
  pub stamp_is : book.stamp ≡ length (past_of (entries_made answers)).replies
  pub few_stamps : book.stamp ≤ length answers
  pub few_eras : book.era ≤ length answers
