-- Numbers in decimal digits, of any count and with any leading zeros.
use Rattle.std.specs.Prelude.{ℕ, ◌+◌, ◌-◌, ◌*◌, Bool, ◌&&◌, nat_le, if◌then◌else◌, List, fold, Option, Some, None, Result, Ok, Err}
use Rattle.std.specs.List.{list_all}
use Rattle.text_lines.specs.Lines.{is_filled}
use Rattle.text_lines.specs.declared.number.NumberFault.{NumberFault}
use Rattle.text_lines.specs.declared.number.NumberFault.TheVariants.{NoNumber, TooGreat}

abbrev pub is_digit : ℕ → Bool
is_digit b = nat_le 48 b && nat_le b 57

-- the value of digits, the highest first
abbrev pub value_of : List ℕ → ℕ
value_of digits = fold (λ n b. 10 * n + (b - 48)) 0 digits

-- a field is a number where it has one or more bytes, all of them digits
unfoldable pub number_of : List ℕ → Option ℕ
number_of field = if is_filled field && list_all is_digit field then Some (value_of field) else None

-- a number that is there and isn't over the limit
abbrev pub within : ℕ → Option ℕ → Result ℕ NumberFault
within limit None = Err NoNumber
within limit (Some n) = if nat_le n limit then Ok n else Err TooGreat

-- a number of at most 32 bits
abbrev pub small : Option ℕ → Option ℕ
small None = None
small (Some n) = if nat_le n 4294967295 then Some n else None
