-- Numbers of few digits fit 32 bits, and the number of hosts behind a prefix fits 64.
use Rattle.std.proofs.Common.{ℕ, ◌^◌, ◌<◌, ◌≤◌, arith}
use Rattle.std.proofs.Math.Nat.{pow-le-pow_right}
use Rattle.std.proofs.lemmas.Nat.{pow_pos}

pub small_power : (k : ℕ) → k ≤ 8 → 10 ^ k ≤ 100000000
small_power k h = pow-le-pow_right (omega arith) h

pub host_power : (k : ℕ) → k ≤ 32 → 2 ^ k ≤ 4294967296
host_power k h = pow-le-pow_right (omega arith) h

pub host_power_is_some : (k : ℕ) → 0 < 2 ^ k
host_power_is_some k = pow_pos k
