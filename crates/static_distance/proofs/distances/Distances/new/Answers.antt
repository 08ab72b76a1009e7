use Rattle.std.proofs.Common.{◌≤◌, arith}
use Rattle.std.proofs.lemmas.Bool.{leb-true}
use Rattle.static_distance.proofs.AimLemmas.{room_made}
use Rattle.static_distance.proofs.distances.Distances.new.Goals as goal
use Rattle.static_distance.proofs.distances.Distances.new.Goals.{then-few, else-few}

pub returns : goal.returns
returns c =
    room_made _ c.args.cells c.if-few.listed _ c.in_ok-new.ensures
    (λ few. elim c.if-few.branch [
      | then-few w ↦ w.listed-is
      | else-few w ↦ (let less : c.args.cells ≤ 32768 = leb-true c.args.cells 32768 few in absurd (omega (arith, w.if-few.false)))
    ])
