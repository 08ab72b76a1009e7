use Rattle.std.proofs.lemmas.List.{length-map}
use Rattle.stamped_list.specs.Stamps.{number_above}
use Rattle.stamped_list.proofs.StampLemmas.{zeros}
use Rattle.stamped_list.proofs.stamped.StampedList.clear.Goals as goal

pub returns : goal.returns
returns c =
    let before = c.self.inside in
    rw (← c.self.view_is, length-map before.entries.items (number_above before.base)) (zeros before.top before.entries.items c.self.invariant.covers_entries)
