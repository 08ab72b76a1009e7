use Rattle.std.proofs.Common.{length}
use Rattle.order_text.specs.Marks.{lanes_so_far}
use Rattle.order_text.proofs.RightLanes.{taken}
use Rattle.order_text.proofs.reading.take_line.Goals as goal

pub returns-in-Ok-clause-right : goal.returns-in-Ok-clause-right
returns-in-Ok-clause-right c =
    taken (length c.args.grid.now.cells) c.args.number (lanes_so_far c.args.builder.now) (lanes_so_far c.put.new.self) c.in-Ok.said c.put.result (c.in-Ok.ensures.on_grid) c.put.ensures.lanes
