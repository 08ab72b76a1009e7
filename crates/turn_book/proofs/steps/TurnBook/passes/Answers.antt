use Rattle.std.proofs.Common.{◌≡◌, ℕ, ◌≤◌, arith}
use Rattle.turn_book.proofs.Openings.{no_pass, one_pass}
use Rattle.turn_book.proofs.steps.TurnBook.passes.Goals as goal

pub loop-caller-init : goal.loop-caller-init
loop-caller-init c = no_pass _ _ _ c.requires.opening c.in_ok-passes.ensures.items

pub next_pass-requires-clause-opening : goal.next_pass-requires-clause-opening
next_pass-requires-clause-opening c = c.loop-caller.invariant.seat_is

pub next_pass-requires-clause-more : goal.next_pass-requires-clause-more
next_pass-requires-clause-more c = let below = c.loop-caller-test.true in let all = c.requires.callers in omega arith

pub loop-caller-preserved : goal.loop-caller-preserved
loop-caller-preserved c = one_pass _ _ _ _ _ _ _ c.loop-caller.invariant c.next_pass.ensures.seat c.next_pass.ensures.pass c.in_ok-push.ensures.items

all_of : (n next callers : ℕ) → n ≡ next → callers ≤ next → next ≤ callers → n ≡ callers
all_of n next callers e over le = omega arith

pub returns : goal.returns
returns c = (all_of _ _ _ c.loop-caller.invariant.count c.loop-caller-test.false c.loop-caller.auto.caller-end, c.loop-caller.invariant.opened_are)
