use Rattle.std.proofs.Common.{◌≡◌, ◌<◌, ◌+◌, ◌*◌, ◌++◌, ℕ, length, take, drop}
use Rattle.ff_joins.specs.JoinOptions.{channels_of}
use Rattle.ff_joins.proofs.interleaving.put_input.Given as goal

abbrev pub invariant-channels : goal.invariant-channels
invariant-channels l = record {
  len : length l.out ≡ length l.fn.out;
  done : (r : ℕ) → r < l.count → take (l.column + l.channel) (drop (r * l.wide) l.out)
      ≡ take l.column (drop (r * l.wide) l.fn.out) ++ take l.channel (drop (r * channels_of l.inlet.head) l.inlet.samples);
}
