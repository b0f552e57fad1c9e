use Rattle.std.proofs.Common.{◌≡◌, List, rules, sym, subst}
use Rattle.ff_filter.specs.declared.outlet.Outlet.{Outlet}
use Rattle.ff_filter.specs.laws.spread.Lines.{lines, fresh}
use Rattle.ff_filter.specs.laws.spread.LineLaws.{lines_last}
use Rattle.ff_filter.proofs.SpreadLemmas.Putting.{line_fresh}
use Rattle.ff_filter.proofs.spread.outlets.fresh_outlets.Goals as goal

pub made-preserved : goal.made-preserved
made-preserved c = record {
  count = search rules;
  room = search rules;
  empty = λ q. subst (λ (os : List Outlet). lines os q ≡ fresh) (sym c.push_reserved.ensures.items)
      (lines_last c.made.outlets.items c.new.result (line_fresh c.new.result c.new.ensures.queue c.new.ensures.ended c.new.ensures.stopped) c.made.invariant.empty q);
}
