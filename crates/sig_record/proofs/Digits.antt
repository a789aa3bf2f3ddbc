-- How many digits a number of 64 bits has.
use Rattle.std.proofs.Common.{ℕ, ◌<◌, ◌≤◌, ◌^◌, length, arith}
use Rattle.std.specs.Fmt.{decimal}
use Rattle.std.proofs.lemmas.Fmt.{length-decimal-le}

pub few_digits : (n : ℕ) → n < 2 ^ 64 → length (decimal n) ≤ 20
few_digits n h = length-decimal-le 20 n (omega arith) (omega arith) h
