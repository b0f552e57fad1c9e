use Rattle.std.proofs.Common.{ap, ◌∙◌}
use Rattle.ff_filter.specs.Views.{none_closes}
use Rattle.ff_filter.proofs.Taking.{none_closes-to}
use Rattle.ff_concat.proofs.backlog.Backlog.push.Goals as goal

pub invariant_of-self-2 : goal.invariant_of-self-2
invariant_of-self-2 c = record {
  unclosed = none_closes-to c.reserve.new.self.items c.push_back_reserved.new.self.items c.args.item c.push_back_reserved.ensures.items
      (ap none_closes c.reserve.ensures.items ∙ c.args.self.now.unclosed) c.requires.goes_on;
}
