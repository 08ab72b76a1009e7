-- Shifts and masks as quotients and remainders.
use Rattle.std.proofs.Common.{◌≡◌, ℕ, ◌+◌, ◌*◌, ◌/◌, ◌%◌, ◌^◌, ◌<◌, arith}
use Rattle.std.proofs.lemmas.Nat.{pow_pos, shr_split, mod_below, div_below}

-- no bit is set from a bit on, where shifting by it leaves nothing
pub below_from-shr : (n k : ℕ) → n / 2 ^ k ≡ 0 → n < 2 ^ k
below_from-shr n k none =
    let split : n / 2 ^ k * 2 ^ k + n % 2 ^ k ≡ n = shr_split n k in
    let low : n % 2 ^ k < 2 ^ k = mod_below n (2 ^ k) (pow_pos k) in
    let high : n / 2 ^ k * 2 ^ k ≡ 0 = rw none (omega arith) in
    omega arith

pub shr_from-below : (n k : ℕ) → n < 2 ^ k → n / 2 ^ k ≡ 0
shr_from-below n k below =
    let few : n / 2 ^ k < 1 = div_below n (2 ^ k) 1 (pow_pos k) (omega arith) in
    omega arith
