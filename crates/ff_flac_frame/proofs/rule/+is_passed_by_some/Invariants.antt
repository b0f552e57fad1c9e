use Rattle.ff_flac_frame.proofs.rule.+is_passed_by_some.Given as goal

abbrev pub decreases-is_passed_by_some : goal.decreases-is_passed_by_some
decreases-is_passed_by_some l = l.n
