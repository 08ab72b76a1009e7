-- What follows of what the passes of a shared book have seen.
use Rattle.std.specs.Prelude.{◌≤◌, List, length, All, Contains, IfSome}
use Rattle.fleet_base.specs.declared.request.Entry.{Entry}
use Rattle.fleet_base.specs.History.{past_of, reply_of, caller_of, IsLegal}
use Rattle.fleet_base.specs.Journal.{IsJournal, KeepsTheHistory}
use Rattle.book_trait.specs.Passes.{BookView, JoinedView}

-- a legal list, whose journals are legal too, and whose stamps are at most the number of its replies
pub record IsHistory (b : BookView) (list : List Entry) : Type 0 where
  pub legal : IsLegal b.grid b.horizon list
  pub journals : (journal : List Entry) → IsJournal list journal → KeepsTheHistory b.grid b.horizon list journal
  pub stamps : All (λ e. IfSome (reply_of e) (λ id. id.stamp ≤ length (past_of list).replies)) list

-- each entry of the list is one of the joined callers'
abbrev pub AreAllTheirs : JoinedView → Type 0
AreAllTheirs j = All (λ e. Contains j.callers (caller_of e)) j.seen
