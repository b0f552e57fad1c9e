-- How far samples and predictions go.
use Rattle.std.specs.Prelude.{ℤ, pos, neg_ℤ, ◌≤ℤ◌}

-- a sample of at most 25 bits, a part of a prediction from such samples, and the whole
pub record IsSmall (x : ℤ) : Type 0 where
  pub low : neg_ℤ (pos 16777216) ≤ℤ x
  pub high : x ≤ℤ pos 16777216

pub record IsBounded (x : ℤ) : Type 0 where
  pub low : neg_ℤ (pos 268435456) ≤ℤ x
  pub high : x ≤ℤ pos 268435456

pub record IsWide (x : ℤ) : Type 0 where
  pub low : neg_ℤ (pos 536870912) ≤ℤ x
  pub high : x ≤ℤ pos 536870912
