-- What one word shows of the bits that are left.
use Rattle.std.specs.Prelude.{◌≡◌, ◌+◌, ◌<◌, ◌≤◌, List, Bool, true, false, ◌∷◌, ◌++◌, length, drop, replicate}
use Rattle.ff_bits.specs.declared.reader.Run.{Run}
use Rattle.ff_bits.specs.declared.reader.Run.TheVariants.{Ended, Zeros}

abbrev pub IsRun : Run → List Bool → Type 0
IsRun (Ended n) bits = (n < 64) × (n < length bits) × (bits ≡ replicate n false ++ true ∷ drop (n + 1) bits)
IsRun (Zeros n) bits = (0 < n) × (n ≤ 64) × (n ≤ length bits) × (bits ≡ replicate n false ++ drop n bits)
