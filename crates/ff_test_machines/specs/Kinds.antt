-- Each kind of machine as the laws of machines see it, and these laws.
use Rattle.std.specs.Prelude.{◌≡◌, ◌+◌, [], true, false, Option, None, Some, is_some}
use Rattle.std.proofs.Common.{ap, arith}
use Rattle.ff_net.proofs.Flows.{is_none, no_units}
use Rattle.ff_net.specs.Pasts.{Units}
use Rattle.ff_net.specs.laws.Laws.{Laws}
use Rattle.ff_net.specs.laws.Silence.{silent_front}
use Rattle.ff_net.specs.laws.Views.{View}
use Rattle.ff_test_machines.specs.declared.join.Join.{Join}
use Rattle.ff_test_machines.specs.declared.relay.Relay.{Relay}
use Rattle.ff_test_machines.specs.declared.source.Source.{Source}
use Rattle.ff_test_machines.specs.Joins.{kept_of, is_spent_join}
use Rattle.ff_test_machines.specs.Lists.{fault_if, as_count}
use Rattle.ff_test_machines.specs.Relays.{is_spent_relay}
use Rattle.ff_test_machines.specs.Starts.{source_stands, relay_stands, join_stands}
use Rattle.ff_test_machines.specs.Trials.{source_outs, relay_ins, relay_outs, join_ins, join_outs}
use Rattle.ff_test_machines.specs.ListLaws.{lists_keeps, lists_monotone, lists_cause_stays, lists_calm, lists_given, lists_tried, lists_units, lists_below, lists_unbroken, lists_caused, lists_ticket_used, lists_no_port, lists_is_source}
use Rattle.ff_test_machines.specs.ListLaws.{lists_told}
use Rattle.ff_test_machines.specs.RelayLaws.{relays_no_fault, relays_valid, relays_keeps, relays_monotone, relays_cause_stays, relays_calm, relays_given, relays_unbroken, relays_spent_only, relays_closed_spent, relays_done_spent, relays_settles}
use Rattle.ff_test_machines.specs.JoinLaws.{joins_valid, joins_keeps, joins_monotone, joins_cause_stays, joins_calm, joins_given, joins_unbroken, joins_spent_only, joins_closed_spent, joins_done_spent, joins_settles}

no_source : false ≡ true → ⊥
no_source e = cc

abbrev pub source_view : Source → View
source_view m = record { in_lanes = []; out_lanes = source_outs m; source = Some m.number; fault = fault_if m.failed; device = None; failures = as_count m.failed; holds = m.ticket ≡ true; tried = m.next + as_count m.ended; spent = λ p. ⊥; stands = source_stands m }

pub source_laws : (m : Source) → Laws (source_view m)
source_laws m = record {
  is_source = λ past s. ap (λ (o : Option Units). is_some o) s.0.source;
  units_below = λ past s. lists_below m.lane m.items.items m.next m.ended m.ticket m.failed past s.0;
  valid = λ past s. s.0.got;
  keeps = λ past s. lists_keeps m.lane m.items.items m.next m.ended m.ticket m.failed past s.0;
  monotone = λ past s. lists_monotone m.lane m.items.items m.next m.ended m.ticket m.failed past s.0;
  cause_stays = λ past s. lists_cause_stays m.lane m.items.items m.next m.ended m.ticket m.failed past s.0;
  calm = λ past s. lists_calm m.lane m.items.items m.next m.ended m.ticket m.failed past s.0;
  given = λ past s. lists_given m.lane m.items.items m.next m.ended m.ticket m.failed past s.0;
  unbroken = λ past s f u. lists_unbroken m.lane m.items.items m.next m.ended m.ticket m.failed past s.0;
  caused = λ past c s e i. absurd (lists_caused m.failed c e i);
  spent_only = λ past p s e. absurd e;
  closed_spent = λ past p s lt c. absurd (lists_no_port p lt);
  done_spent = λ past p s lt z c a. absurd (lists_no_port p lt);
  settles = λ past s n. absurd (lists_is_source m.number n);
  told = λ past s. lists_told m.number m.stopped m.told past s.1;
  ticket_used = λ past q s i f p a h. lists_ticket_used m.lane m.items.items m.next m.ended m.ticket m.failed past s.0 q f p a h;
  tried_allowed = λ past s. lists_tried m.lane m.items.items m.next m.ended m.ticket m.failed past s.0;
  tried_units = λ past s i. lists_units m.lane m.items.items m.next m.ended m.ticket m.failed past s.0;
}

abbrev pub relay_view : Relay → View
relay_view m = record { in_lanes = relay_ins m; out_lanes = relay_outs m; source = None; fault = None; device = None; failures = 0; holds = ⊥; tried = 0; spent = λ p. is_spent_relay m.left m.closed m.outs.items p; stands = relay_stands m }

pub relay_laws : (m : Relay) → Laws (relay_view m)
relay_laws m = record {
  is_source = λ past s. is_none past.task.source s.plain;
  units_below = λ past s. no_units past s.plain;
  valid = λ past s. relays_valid m.lane m.limit m.left m.closed m.given.items m.outs.items past s;
  keeps = λ past s. relays_keeps m.lane m.limit m.left m.closed m.given.items m.outs.items past s;
  monotone = λ past s. relays_monotone m.lane m.limit m.left m.closed m.given.items m.outs.items past s;
  cause_stays = λ past s. relays_cause_stays m.lane m.limit m.left m.closed m.given.items m.outs.items past s;
  calm = λ past s. relays_calm m.lane m.limit m.left m.closed m.given.items m.outs.items past s;
  given = λ past s. relays_given m.lane m.limit m.left m.closed m.given.items m.outs.items past s;
  unbroken = λ past s f u. relays_unbroken m.lane m.limit m.left m.closed m.given.items m.outs.items past s u;
  caused = λ past c s e i. absurd (relays_no_fault c e);
  spent_only = λ past p s. relays_spent_only m.lane m.limit m.left m.closed m.given.items m.outs.items past s p;
  closed_spent = λ past p s. relays_closed_spent m.lane m.limit m.left m.closed m.given.items m.outs.items past s p;
  done_spent = λ past p s lt z c a. relays_done_spent m.lane m.limit m.left m.closed m.given.items m.outs.items past s p lt z c;
  settles = λ past s n. relays_settles m.lane m.limit m.left m.closed m.given.items m.outs.items past s;
  told = λ past s. silent_front past s.silent;
  ticket_used = λ past q s i f p a h. h;
  tried_allowed = λ past s. omega arith;
  tried_units = λ past s i. absurd (no_source i);
}

abbrev pub join_view : Join → View
join_view m = record { in_lanes = join_ins m; out_lanes = join_outs m; source = None; fault = None; device = None; failures = 0; holds = ⊥; tried = 0; spent = λ p. is_spent_join (kept_of m.first) (kept_of m.second) m.stopped p; stands = join_stands m }

pub join_laws : (m : Join) → Laws (join_view m)
join_laws m = record {
  is_source = λ past s. is_none past.task.source s.plain;
  units_below = λ past s. no_units past s.plain;
  valid = λ past s. joins_valid m.lane (kept_of m.first) (kept_of m.second) m.next m.ended m.stopped past s;
  keeps = λ past s. joins_keeps m.lane (kept_of m.first) (kept_of m.second) m.next m.ended m.stopped past s;
  monotone = λ past s. joins_monotone m.lane (kept_of m.first) (kept_of m.second) m.next m.ended m.stopped past s;
  cause_stays = λ past s. joins_cause_stays m.lane (kept_of m.first) (kept_of m.second) m.next m.ended m.stopped past s;
  calm = λ past s. joins_calm m.lane (kept_of m.first) (kept_of m.second) m.next m.ended m.stopped past s;
  given = λ past s. joins_given m.lane (kept_of m.first) (kept_of m.second) m.next m.ended m.stopped past s;
  unbroken = λ past s f u. joins_unbroken m.lane (kept_of m.first) (kept_of m.second) m.next m.ended m.stopped past s u;
  caused = λ past c s e i. absurd (relays_no_fault c e);
  spent_only = λ past p s. joins_spent_only m.lane (kept_of m.first) (kept_of m.second) m.next m.ended m.stopped past s p;
  closed_spent = λ past p s. joins_closed_spent m.lane (kept_of m.first) (kept_of m.second) m.next m.ended m.stopped past s p;
  done_spent = λ past p s lt z c a. joins_done_spent m.lane (kept_of m.first) (kept_of m.second) m.next m.ended m.stopped past s p lt c;
  settles = λ past s n. joins_settles m.lane (kept_of m.first) (kept_of m.second) m.next m.ended m.stopped past s;
  told = λ past s. silent_front past s.silent;
  ticket_used = λ past q s i f p a h. h;
  tried_allowed = λ past s. omega arith;
  tried_units = λ past s i. absurd (no_source i);
}
