use Rattle.std.proofs.Common.{◌∙◌, sym}
use Rattle.ff_flac_dec.proofs.JoinLemmas.{mid_left_is, mid_right_is, kept_left, kept_left_fits, kept_right, kept_right_fits}
use Rattle.ff_flac_dec.proofs.stereo.joined.Goals as goal

pub overflow_add-result-in-MidLeft : goal.overflow_add-result-in-MidLeft
overflow_add-result-in-MidLeft c = kept_left_fits c.args.first c.args.second c.requires.first c.requires.second

pub overflow_sub-result-in-MidRight : goal.overflow_sub-result-in-MidRight
overflow_sub-result-in-MidRight c = kept_right_fits c.args.first c.args.second c.requires.first c.requires.second

pub returns-in-MidLeft : goal.returns-in-MidLeft
returns-in-MidLeft c = rw c.in-MidLeft.is (kept_left c.args.first c.args.second c.requires.first c.requires.second ∙ sym (mid_left_is c.args.first c.args.second))

pub returns-in-MidRight : goal.returns-in-MidRight
returns-in-MidRight c = rw c.in-MidRight.is (kept_right c.args.first c.args.second c.requires.first c.requires.second ∙ sym (mid_right_is c.args.first c.args.second))
