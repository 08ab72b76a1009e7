use Rattle.std.proofs.Common.{◌≡◌, ◌≤◌, take}
use Rattle.text_lines.specs.Numbers.{value_of}
use Rattle.text_lines.proofs.number.value_up_to.Given as goal

abbrev pub invariant-loop-byte : goal.invariant-loop-byte
invariant-loop-byte l = (l.value ≡ value_of (take l.byte-index l.digits)) × (l.value ≤ l.limit)
