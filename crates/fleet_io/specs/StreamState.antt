-- A standard stream as a sink: which one it is, and how many writes failed.
use Rattle.std.specs.Prelude.{ℕ}
use Rattle.fleet_io.specs.declared.std_sink.Stream.{Stream}

-- the stream, and the faults
pub record StreamState : Type 0 where
  pub stream : Stream
  pub faults : ℕ
