use Rattle.std.proofs.Common.{◌∙◌, List, ap, sym}
use Rattle.ff_stream.specs.declared.item.Item.{Item}
use Rattle.ff_concat.specs.laws.Late.{first_late}
use Rattle.ff_concat.proofs.Lookups.{queue_read}
use Rattle.ff_concat.proofs.track.Track.is_next_late.Goals as goal

pub returns : goal.returns
returns c =
    let t = c.args.self.now in
    c.is_first_late.ensures
    ∙ ap (λ (xs : List Item). first_late t.head t.by xs) (sym (queue_read t.backlogs.items t.current c.index.result.now c.requires c.index.ensures))
