use Rattle.std.proofs.Common.{◌∙◌, ap, sym}
use Rattle.ff_filter.specs.declared.after.After.{After}
use Rattle.ff_filter.specs.Joins.{before}
use Rattle.ff_joins.specs.Joined.{row_stream}
use Rattle.ff_joins.specs.JoinOptions.{channels_of}
use Rattle.ff_joins.specs.laws.Lots.{lot_of, rows_kept, row_then}
use Rattle.ff_joins.proofs.Feeding.{close_taken, open_is}
use Rattle.ff_joins.proofs.sound_inlet.SoundInlet.take_in.Goals as goal

pub returns-in-Some-clause-taken : goal.returns-in-Some-clause-taken
returns-in-Some-clause-taken c t =
    let i = c.args.self.now in
    close_taken (rows_kept (lot_of i)) (channels_of i.head) c.args.item c.in-Some.after t (sym c.closing_of.ensures ∙ c.in-Some.is)
    ∙ ap (λ (a : After). row_then (rows_kept (lot_of i)) a (row_stream (channels_of i.head) (before c.args.item t))) (sym (open_is i.after c.requires.open))
