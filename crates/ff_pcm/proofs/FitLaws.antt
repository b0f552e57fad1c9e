-- Whole blocks, and samples of so many bits, as the code tests them.
use Rattle.std.proofs.Common.{◌≡◌, ℕ, ◌+◌, ◌*◌, ◌/◌, ◌%◌, ◌≤◌, arith}
use Rattle.std.proofs.Math.Nat.{div-add-mod}
use Rattle.ff_pcm.specs.Frames.{AreBlocks}

whole_of : (block count q r : ℕ) → block * q + r ≡ count → r ≡ 0 → count ≡ q * block
whole_of block count q r e z = omega (arith, e, z)

pub blocks_there : (count block : ℕ) → count % block ≡ 0 → 1 ≤ count / block → count / block ≤ 65535 → AreBlocks block count
blocks_there count block z some few = (count / block, some, few, whole_of block count (count / block) (count % block) (div-add-mod count block) z)
