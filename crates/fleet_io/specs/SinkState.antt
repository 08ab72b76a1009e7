-- A sink in memory: its state, and what each write and each reserve does to it.
use Rattle.std.specs.Prelude.{ℕ, ◌-◌, ◌++◌, max, ◌==◌, nat_lt, Bool, ◌||◌, not, List, length, if◌then◌else◌}
use Rattle.fleet_io.specs.Counts.{raised, is_failing}

-- the bytes written, the numbers of the writes that fail, the number of the next write, the spare, the faults
pub record SinkState : Type 0 where
  pub bytes : List ℕ
  pub failing : List ℕ
  pub next : ℕ
  pub spare : ℕ
  pub faults : ℕ

-- whether a write of the piece fails: its number is one that fails, or the piece is past the spare
abbrev pub fails_at : SinkState → List ℕ → Bool
fails_at s piece = is_failing s.next s.failing || nat_lt s.spare (length piece)

-- whether a write of the piece is answered Ok
abbrev pub is_taken : SinkState → List ℕ → Bool
is_taken s piece = (length piece == 0) || not (fails_at s piece)

-- the sink after a write of the piece: an empty one changes nothing
abbrev pub state_after : SinkState → List ℕ → SinkState
state_after s piece = if length piece == 0 then s
    else if fails_at s piece then record s { next = raised s.next; faults = raised s.faults }
    else record s { bytes = s.bytes ++ piece; next = raised s.next; spare = s.spare - length piece }

-- the sink after its spare was made at least so great
abbrev pub with_spare : SinkState → ℕ → SinkState
with_spare s more = record s { spare = max s.spare more }
