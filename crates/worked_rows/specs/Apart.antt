-- Records of one cell that share no time.
use Rattle.std.specs.Prelude.{◌==◌, ◌&&◌, not, nat_lt, Bool}
use Rattle.fleet_base.specs.declared.request.Record.{Record}
use Rattle.fleet_base.specs.declared.request.TheConstants.{FOREVER}

-- the first record ends before the second one begins
abbrev pub is_over_before : Record → Record → Bool
is_over_before r s = nat_lt r.to s.from && not (r.to == FOREVER)
