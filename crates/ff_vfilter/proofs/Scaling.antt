-- Products that have room.
use Rattle.std.proofs.Common.{ℕ, ◌*◌, ◌<◌, ◌^◌, arith}

pub product_below : (a b : ℕ) → a < 2 ^ 31 → b < 2 ^ 31 → a * b < 2 ^ 62
product_below a b p q = grind (arith)
