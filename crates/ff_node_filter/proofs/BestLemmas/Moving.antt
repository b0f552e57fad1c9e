-- What stands behind a call that neither feeds it nor has it tell anything.
use Rattle.std.proofs.Common.{◌≡◌, List, length, ap, sym, ◌∙◌, subst}
use Rattle.ff_stream.specs.declared.item.Lane.{Lane}
use Rattle.ff_frame.specs.declared.event.Event.{Event}
use Rattle.ff_net.specs.Pasts.{Task, Past, Feed}
use Rattle.ff_net.specs.laws.Views.{View, IsSameShape}
use Rattle.ff_node_filter.specs.declared.best.lead.Lead.{Lead}
use Rattle.ff_node_filter.specs.laws.best.Leads.{Tells}
use Rattle.ff_node_filter.specs.laws.best.Views.{quiet, LeadStands}

-- the inputs are as many as before
pub same_count : (v w : View) (lead : Lead) (past : Past) (s : LeadStands v lead past) → IsSameShape v w → length s.bases ≡ length w.in_lanes
same_count v w lead past s h = s.count ∙ ap (λ (ls : List Lane). length ls) (sym h.in_lanes)

pub moves : (v w : View) (lead : Lead) (past since : Past) → IsSameShape v w → since.task ≡ past.task → since.told ≡ past.told → since.feeds ≡ past.feeds
    → LeadStands v lead past → w.stands (quiet since) → LeadStands w lead since
moves v w lead past since h task told feeds s inner = record {
  inner = inner;
  plain = ap (λ (t : Task). t.source) task ∙ s.plain;
  graph = s.graph;
  bases = s.bases;
  count = same_count v w lead past s h;
  tells_is = ap (λ (t : Task). t.tells) task ∙ s.tells_is;
  tells = subst (λ (es : List Event). Tells s.graph s.bases lead es since.feeds) (sym told) (subst (λ (fs : List Feed). Tells s.graph s.bases lead past.told fs) (sym feeds) s.tells);
}
