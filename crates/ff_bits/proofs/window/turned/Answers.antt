use Rattle.std.proofs.Common.{◌+◌, ◌-◌, ℕ, sym, subst, drop, bit_and, ◌*◌, ◌%◌, ◌^◌}
use lib.Count.{count_leading_zeros}
use Rattle.ff_bits.specs.laws.Reads.{IsCoded}
use Rattle.ff_bits.specs.laws.Window.{IsFront}
use Rattle.ff_bits.proofs.Fronts.{turned_front, turned_read}
use Rattle.ff_bits.proofs.window.turned.Goals as goal

pub returns-clause-read : goal.returns-clause-read
returns-clause-read c =
    let word : ℕ = c.args.word in
    let n : ℕ = c.args.n in
    let len : ℕ = count_leading_zeros 64 word + 1 + n in
    λ held le list f.
    let result = sym c.rotate_left-word.ensures in (
      subst (λ (x : ℕ). IsFront (drop len list) x (held - len)) result (turned_front list word held n f le),
      subst (λ (x : ℕ). IsCoded n list (count_leading_zeros 64 word) (bit_and x ((1 * 2 ^ n) % 2 ^ 64 - 1)) (drop len list)) result (turned_read list word held n f le c.requires),
    )
