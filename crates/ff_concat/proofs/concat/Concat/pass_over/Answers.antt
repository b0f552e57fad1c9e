use Rattle.std.proofs.Common.{◌≡◌, ℕ, ◌%◌, ◌∙◌, ◌||◌, true, sym, subst}
use Rattle.ff_concat.specs.laws.Tracks.{stopped_at, ended_at}
use Rattle.ff_concat.proofs.Lookups.{after_read}
use Rattle.ff_concat.proofs.Feeds.{moved_set, passed_fed}
use Rattle.ff_concat.proofs.concat.Concat.pass_over.Goals as goal

pub returns : goal.returns
returns c =
    let m = c.args.self.now in
    let rs = m.reaches.items in
    let ts = m.tracks.items in
    let p = c.args.port in
    let r = c.pass.new.self in
    record {
      fed = passed_fed m.ticks.items m.segments rs _ p r c.args.item (moved_set rs p r c.requires.there) c.requires.open ts (sym m.outputs)
          (c.pass.ensures.end ∙ c.end_ticks-end.ensures.is)
          (c.pass.ensures.after ∙ sym (after_read rs p c.index_mut.result.now c.requires.there c.index_mut.ensures.value)) c.requires.goes_on
          (subst (λ (w : ℕ). (stopped_at ts (p % w) || ended_at ts (p % w)) ≡ true) (sym m.outputs) c.requires.done);
    }
