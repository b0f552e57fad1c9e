use Rattle.std.proofs.Common.{◌≡◌, ◌<◌, ◌+◌, ◌*◌, ◌++◌, ℕ, length, take, drop}
use Rattle.ff_joins.specs.JoinOptions.{channels_of}
use Rattle.ff_joins.proofs.interleaving.put_channel.Given as goal

abbrev pub invariant-rows : goal.invariant-rows
invariant-rows l = record {
  len : length l.out ≡ length l.fn.out;
  left : drop (l.row * l.wide) l.out ≡ drop (l.row * l.wide) l.fn.out;
  done : (r : ℕ) → r < l.row → take (l.column + 1) (drop (r * l.wide) l.out)
      ≡ take l.column (drop (r * l.wide) l.fn.out) ++ take 1 (drop (r * channels_of l.inlet.head + l.channel) l.inlet.samples);
}
