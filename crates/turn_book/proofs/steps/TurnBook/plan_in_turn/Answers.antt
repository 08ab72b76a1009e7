use Rattle.std.proofs.Common.{◌≡◌, ℕ, ◌<◌, ◌≤◌, arith}
use Rattle.turn_book.proofs.steps.TurnBook.plan_in_turn.Goals as goal

lower : (n stamp : ℕ) → n ≡ stamp → ¬ (n ≡ 67108863) → stamp ≤ 67108863 → stamp < 67108863
lower n stamp e ne le = omega arith

pub plan-requires-clause-room : goal.plan-requires-clause-room
plan-requires-clause-room c = lower _ _ c.stamp.ensures c.if-stamp-eq-LAST_STAMP.false c.requires.turn.after.in_range.stamp
