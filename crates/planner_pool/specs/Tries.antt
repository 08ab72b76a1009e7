-- What several tries of one order come to.
use Rattle.std.specs.Prelude.{◌≡◌, ℕ, ◌+◌, ◌*◌, ◌<◌, ◌≤◌, List, [], ◌∷◌, ◌++◌, All, IfSome}
use Rattle.fleet_base.specs.declared.request.Request.{Request}
use Rattle.fleet_base.specs.declared.request.Entry.{Entry}
use Rattle.fleet_base.specs.declared.request.Entry.TheVariants.{Cancel}
use Rattle.fleet_base.specs.History.{caller_of, reply_of}
use Rattle.book_trait.specs.declared.reply.Reply.{Reply}
use Rattle.book_trait.specs.Passes.{PassView, own}
use Rattle.book_trait.specs.Calls.{entry_of, stamp_of}

-- what the refused calls of a pass weigh: one for each 'again', and eight for each 'full'
abbrev pub weight : PassView → ℕ
weight p = p.again + 8 * p.full

-- where the entry is a reply, its stamp is above this one
abbrev pub IsNewer : ℕ → Entry → Type 0
IsNewer stamp e = IfSome (reply_of e) (λ id. stamp < id.stamp)

-- the pass of one caller went on, and made these entries, whose replies have stamps above its last one
pub record Makes (p : PassView) (es : List Entry) (q : PassView) : Type 0 where
  pub caller : q.caller ≡ p.caller
  pub own : own q ≡ own p ++ es
  pub newer : All (IsNewer p.last) es
  pub last : p.last ≤ q.last

-- How often the pass was answered 'again' and 'full' while so many orders were answered, and so many were left: 'again'
-- less than eight times at an order that was answered, 'full' never there; 'again' eight times or 'full' once at one that
-- was left.
pub record Counts (p q : PassView) (answered left : ℕ) : Type 0 where
  pub enough : weight p + 8 * left ≤ weight q
  pub again : q.again ≤ p.again + 7 * answered + 8 * left
  pub full : q.full ≤ p.full + left

-- the order is left: no entry was made
pub record Leaves (p q : PassView) : Type 0 where
  pub makes : Makes p [] q
  pub counts : Counts p q 0 1

-- the plan was answered, by one entry of the caller
pub record PlanTried (p : PassView) (q : Request) (r : Reply) (p' : PassView) : Type 0 where
  pub makes : Makes p (entry_of p.caller q r ∷ []) p'
  pub by : caller_of (entry_of p.caller q r) ≡ p.caller
  pub rises : p.last < stamp_of r
  pub last : p'.last ≡ stamp_of r
  pub counts : Counts p p' 1 0

-- the caller's route of that stamp was ended, by one entry
pub record CancelTried (p : PassView) (stamp era : ℕ) (p' : PassView) : Type 0 where
  pub makes : Makes p (Cancel record { stamp = stamp; caller = p.caller } era ∷ []) p'
  pub last : p'.last ≡ p.last
  pub counts : Counts p p' 1 0

-- so many tries were refused with 'again'
pub record Goes (p : PassView) (n : ℕ) (q : PassView) : Type 0 where
  pub makes : Makes p [] q
  pub last : q.last ≡ p.last
  pub again : q.again ≡ p.again + n
  pub full : q.full ≡ p.full
