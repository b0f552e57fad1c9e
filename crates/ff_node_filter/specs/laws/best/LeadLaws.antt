-- The laws of a machine that tells its best input, from those of the machine within.
use Rattle.std.specs.Prelude.{◌≡◌, ℕ, List, false, None, Some, Option, is_some, IsSome}
use Rattle.std.proofs.Common.{sym, ap, ◌∙◌}
use Rattle.ff_frame.specs.declared.event.Event.{Event}
use Rattle.ff_net.proofs.Flows.{is_none}
use Rattle.ff_net.specs.Pasts.{Past, Feed}
use Rattle.ff_net.specs.laws.Views.{View}
use Rattle.ff_net.specs.laws.Laws.{IsPending, IsReading, Laws}
use Rattle.ff_node_filter.specs.declared.best.lead.Lead.{Lead}
use Rattle.ff_node_filter.specs.laws.best.Views.{quiet, LeadStands, leading_view}

waits_in : (n : ℕ) (past : Past) (q : ℕ) → IsPending n past q → IsPending n (quiet past) q
waits_in n past q p = record { there = p.there; goes_on = p.goes_on; unclosed = p.unclosed }

waits_out : (n : ℕ) (past : Past) (q : ℕ) → IsPending n (quiet past) q → IsPending n past q
waits_out n past q p = record { there = p.there; goes_on = p.goes_on; unclosed = p.unclosed }

none_there : (o : Option ℕ) → is_some o ≡ false → IsSome o → ⊥
none_there None e s = cc
none_there (Some x) e s = cc

module _ (v : View) (lead : Lead) (laws : Laws v) where
  -- it is no source, and so never one that goes on reading
  pub reads_nothing : (past : Past) → LeadStands v lead past → IsReading (leading_view v lead) past → ⊥
  reads_nothing past s r = none_there v.source (sym (laws.is_source (quiet past) s.inner) ∙ is_none past.task.source s.plain) r.is_source

  pub leading_laws : Laws (leading_view v lead)
  leading_laws = record {
    is_source = λ past s. laws.is_source (quiet past) s.inner;
    units_below = λ past s. laws.units_below (quiet past) s.inner;
    valid = λ past s. laws.valid (quiet past) s.inner;
    keeps = λ past s. laws.keeps (quiet past) s.inner;
    monotone = λ past s. laws.monotone (quiet past) s.inner;
    cause_stays = λ past s. laws.cause_stays (quiet past) s.inner;
    calm = λ past s. laws.calm (quiet past) s.inner;
    given = λ past s. laws.given (quiet past) s.inner;
    unbroken = λ past s f u. laws.unbroken (quiet past) s.inner f u;
    caused = λ past c s f i. laws.caused (quiet past) c s.inner f i;
    spent_only = λ past p s h. laws.spent_only (quiet past) p s.inner h;
    closed_spent = λ past p s lt c. laws.closed_spent (quiet past) p s.inner lt c;
    done_spent = λ past p s lt z c a. laws.done_spent (quiet past) p s.inner lt z c (λ q h. a q (waits_out _ past q h));
    settles = λ past s n. laws.settles (quiet past) s.inner n;
    told = λ past s. (lead.waiting.items, s.tells.all ∙ sym (ap (λ (f : List Feed → List Event). f past.feeds) s.tells_is));
    ticket_used = λ past q s i f p a h. laws.ticket_used (quiet past) q s.inner i f (waits_in _ past q p) (λ r k. a r (waits_out _ past r k)) h;
    tried_allowed = λ past s. laws.tried_allowed (quiet past) s.inner;
    tried_units = λ past s i. laws.tried_units (quiet past) s.inner i;
  }
