use Rattle.std.proofs.Common.{◌∙◌, Some, sym, ap}
use Rattle.ff_filter.proofs.Stepping.{closing-some}
use Rattle.ff_filter.specs.Made.{is_over}
use Rattle.ff_filter.specs.declared.after.After.{After}
use Rattle.ff_concat.proofs.Lookups.{end_read}
use Rattle.ff_concat.proofs.Feeds.{moved_set, shut_fed}
use Rattle.ff_concat.proofs.concat.Concat.shut.Goals as goal

pub returns : goal.returns
returns c =
    let m = c.args.self.now in
    let rs = m.reaches.items in
    let p = c.args.port in
    let r = c.close.new.self in
    let by = closing-some c.args.item c.args.after c.requires.says in
    record {
      fed = shut_fed m.ticks.items m.segments rs _ p r c.args.item (moved_set rs p r c.requires.there) c.requires.open m.tracks.items
          (c.requires.says ∙ ap (λ (a : After). Some a) (sym c.close.ensures.after))
          (c.close.ensures.end ∙ sym (end_read rs p c.index_mut.result.now c.requires.there c.index_mut.ensures.value))
          (ap is_over c.close.ensures.after ∙ (by.1 ∙ sym by.0));
    }
