-- A machine that tells which of its inputs is the best one, as the laws of machines see it.
use Rattle.std.specs.Prelude.{◌≡◌, ℕ, false, List, [], length, None}
use Rattle.ff_time.specs.Fraction.{Fraction}
use Rattle.ff_net.specs.Pasts.{Past, no_events}
use Rattle.ff_net.specs.laws.Views.{View}
use Rattle.ff_node_filter.specs.declared.best.lead.Lead.{Lead}
use Rattle.ff_node_filter.specs.best.Bests.{best_events}
use Rattle.ff_node_filter.specs.laws.best.Leads.{Tells}

-- what is behind the machine within: it has no event to tell, and told none
abbrev pub quiet : Past → Past
quiet past = record past { task = record past.task { tells = no_events }; told = [] }

-- The machine within can be where it is, and is no source; and each event is of the best input of a graph, over as many time bases
-- as there are inputs.
pub record LeadStands (v : View) (lead : Lead) (past : Past) : Type 0 where
  pub inner : v.stands (quiet past)
  pub plain : past.task.source ≡ None
  pub graph : ℕ
  pub bases : List Fraction
  pub count : length bases ≡ length v.in_lanes
  pub tells_is : past.task.tells ≡ best_events graph bases
  pub tells : Tells graph bases lead past.told past.feeds

-- the machine within, but for what it tells
abbrev pub leading_view : View → Lead → View
leading_view v lead = record v { stands = λ past. LeadStands v lead past }
