use Rattle.std.proofs.Common.{map}
use Rattle.std.specs.Prelude.{string_bytes}
use Rattle.std.specs.Option.{option_map}
use Rattle.turn_book.specs.Passes.{joined_view}
use Rattle.fleet_run.specs.Ended.{World}
use Rattle.fleet_run.proofs.Complete.{completes}
use Rattle.fleet_run.proofs.top.fleet.Goals as goal

pub returns-clause-complete : goal.returns-clause-complete
returns-clause-complete g c =
    let u : World = record { files = g.H.Shelf.told c.args.shelf.now; failed = g.H.Shelf.failed c.args.shelf.now; out = g.S.Sink.told c.args.out.now; out_faults = g.S.Sink.faults c.args.out.now; err = g.S.Sink.told c.args.err.now; err_faults = g.S.Sink.faults c.args.err.now } in
    let v : World = record { files = g.H.Shelf.told c.run.new.shelf; failed = g.H.Shelf.failed c.run.new.shelf; out = g.S.Sink.told c.run.new.out; out_faults = g.S.Sink.faults c.run.new.out; err = g.S.Sink.told c.run.new.err; err_faults = g.S.Sink.faults c.run.new.err } in
    completes (map string_bytes c.args.words.now) u v c.run.result.outcome (option_map joined_view c.run.result.joined) c.run.ensures
