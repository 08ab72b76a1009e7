use Rattle.std.proofs.Common.{◌≡◌, ◌≤◌, ◌+◌, ℕ, length, map, ap, arith, ◌∙◌}
use Rattle.std.proofs.lemmas.List.{with_items_is}
use Rattle.std.proofs.lemmas.List.Elements.{All-set}
use Rattle.stamped_list.specs.Stamps.{number_above, IsTop}
use Rattle.stamped_list.proofs.StampLemmas.{written}
use Rattle.stamped_list.proofs.stamped.StampedList.set.Goals as goal
use Rattle.stamped_list.proofs.stamped.StampedList.set.Goals.{Joined-value-self, then-value-self, else-value-self}

-- before the number is written the others are as they were, no entry is above the top, and there is room for it
kept : (c : Joined-value-self) →
    (map (number_above c.if-value-self.self-inside.base) c.if-value-self.self-inside.entries.items ≡ c.args.self.now)
    × IsTop c.if-value-self.self-inside.top c.if-value-self.self-inside.base c.if-value-self.self-inside.entries.items
    × (c.if-value-self.self-inside.base + c.args.value ≤ c.if-value-self.self-inside.top)
kept c = elim c.if-value-self.branch [
  | then-value-self w ↦
      let before = c.self.inside in
      let same_length : length w.room_for-room.new.entries ≡ before.entries.len = omega arith in
      rw (w.self-inside-is, with_items_is before.entries w.room_for-room.new.entries same_length) (
        w.room_for-room.ensures.same ∙ ap (map (number_above before.base)) w.as_mut_slice.ensures.value ∙ c.self.view_is,
        w.room_for-room.ensures.top,
        w.room_for-room.ensures.room,
      )
  | else-value-self w ↦ rw w.self-inside-is (c.self.view_is, c.self.invariant, omega arith)
]

pub invariant_of-self : goal.invariant_of-self
invariant_of-self c =
    let now = c.if-value-self.self-inside in
    let known = kept (goal.at.invariant_of-self c).Joined-value-self in
    record {
      covers_base = known.1.covers_base;
      covers_entries = All-set (λ (e : ℕ). e ≤ now.top) now.entries.items c.args.place (now.base + c.args.value) known.2 known.1.covers_entries;
    }

pub returns : goal.returns
returns c =
    let now = c.if-value-self.self-inside in
    rw (← (kept (goal.at.returns c).Joined-value-self).0) (written now.base now.entries.items c.args.place c.args.value)
