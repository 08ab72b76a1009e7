use Rattle.std.proofs.Common.{ℕ, ◌-◌, ◌≤◌, map, arith}
use Rattle.std.proofs.lemmas.List.Elements.{All-weaker}
use Rattle.stamped_list.specs.Stamps.{number_above}
use Rattle.stamped_list.proofs.StampLemmas.{top_comes_down}
use Rattle.stamped_list.proofs.stamped.room_for.Goals as goal

pub returns-then-value-base-clause-top : goal.returns-then-value-base-clause-top
returns-then-value-base-clause-top c =
    let room = c.saturating_mul-room.result in
    let lower = c.args.top - c.args.base in
    let within : lower ≤ room = omega arith in
    rw c.subtract_from_all.ensures (record {
      covers_base = omega arith;
      covers_entries = All-weaker (λ (e : ℕ). e ≤ lower) (λ (e : ℕ). e ≤ room) (λ e at_most. omega arith) (map (number_above c.args.base) c.args.entries.now)
          (top_comes_down c.args.base c.args.top c.args.entries.now c.requires.top.covers_entries);
    })
