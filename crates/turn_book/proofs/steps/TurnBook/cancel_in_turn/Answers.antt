use Rattle.std.proofs.Common.{◌≡◌, ℕ, ◌<◌, ◌≤◌, subst, arith}
use Rattle.fleet_base.specs.declared.request.RouteId.{RouteId}
use Rattle.book_trait.specs.Passes.{HasLive}
use Rattle.turn_book.specs.Passes.{pass_view}
use Rattle.turn_book.proofs.Histories.{live_in_book}
use Rattle.turn_book.proofs.LiveStamps.{stamp_live}
use Rattle.turn_book.proofs.steps.TurnBook.cancel_in_turn.Goals as goal

lower : (n era : ℕ) → n ≡ era → ¬ (n ≡ 1099511627775) → era ≤ 1099511627775 → era < 1099511627775
lower n era e ne le = omega arith

pub returns-then-era-eq-LAST_ERA-clause-stop : goal.returns-then-era-eq-LAST_ERA-clause-stop
returns-then-era-eq-LAST_ERA-clause-stop c = (c.give_up.ensures.view, subst (HasLive (pass_view c.args.pass.now)) c.requires.place.1 (stamp_live _ _ _ c.requires.turn.in_turn.keeping.live c.requires.place.0))

pub cancel-requires : goal.cancel-requires
cancel-requires c = let low = c.requires.turn.after.in_range.era in let e = c.era-era.ensures in lower _ _ e c.if-era-eq-LAST_ERA.false low

pub unreachable-requires : goal.unreachable-requires
unreachable-requires c =
    let id : RouteId = record { stamp = c.args.stamp; caller = c.args.pass.now.caller } in
    c.in_default.ensures.not_live (live_in_book id _ _ _ c.requires.turn.after (subst (HasLive (pass_view c.args.pass.now)) c.requires.place.1 (stamp_live _ _ _ c.requires.turn.in_turn.keeping.live c.requires.place.0)))
