use Rattle.ff_node_filter.specs.laws.best.Views.{quiet}
use Rattle.ff_node_filter.proofs.BestLemmas.Moving.{same_count}
use Rattle.ff_node_filter.proofs.BestLemmas.Noting.{same_tells}
use Rattle.ff_node_filter.proofs.best.leading.LeadingMachine.feed.Goals as goal

pub returns-in-Ok-clause-accepted : goal.returns-in-Ok-clause-accepted
returns-in-Ok-clause-accepted g c = λ past s o fits.
    let lead = c.args.self.now.lead in
    record {
      inner = c.in-Ok.ensures.accepted (quiet past) s.inner o fits;
      plain = s.plain;
      graph = s.graph;
      bases = s.bases;
      count = same_count (g.M.Machine.view c.args.self.now.machine) (g.M.Machine.view c.feed.new.self) lead past s c.feed.ensures.shape;
      tells_is = s.tells_is;
      tells = c.note.ensures.tells s.graph s.bases past.told past.feeds c.args.item c.end_of_item-end.ensures.is
          (same_tells lead c.reserve.new.self c.reserve.ensures.same s.graph s.bases past.told past.feeds s.tells);
    }
