use Rattle.std.proofs.Common.{◌≡◌}
use Rattle.ff_flac_enc.specs.laws.Cuts.{has_ended, format_in}
use Rattle.ff_test_base.proofs.base.blocks.drain.Given as goal

abbrev pub invariant-turns : goal.invariant-turns
invariant-turns l = (has_ended l.blocks ≡ has_ended l.initial.blocks) × (format_in l.blocks ≡ format_in l.initial.blocks)
