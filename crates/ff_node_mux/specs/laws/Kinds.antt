-- A muxer as the laws of machines see it, and these laws.
use Rattle.std.specs.Prelude.{◌≡◌, true, false, [], None}
use Rattle.std.proofs.Common.{arith}
use Rattle.ff_net.proofs.Flows.{is_none, no_units}
use Rattle.ff_net.specs.laws.Laws.{Laws}
use Rattle.ff_net.specs.laws.Views.{View}
use Rattle.ff_host.specs.declared.sink.Sink.{Ghosts as SinkGhosts}
use Rattle.ff_format.specs.declared.writer.Writer.{Ghosts as WriterGhosts}
use Rattle.ff_node_mux.specs.declared.mux.Mux.{Mux}
use Rattle.ff_node_mux.specs.laws.Muxers.{mux_sink, mux_stands, mux_in_lanes, mux_fault, mux_spent, mux_first, mux_bases}
use Rattle.ff_node_mux.specs.Telling.{told_front}
use Rattle.ff_node_mux.specs.laws.MuxLaws.{mux_source, mux_valid, mux_keeps, mux_monotone, mux_cause_stays, mux_calm, mux_given, mux_unbroken, mux_caused, mux_spent_only, mux_closed_spent, no_output}

no_source : false ≡ true → ⊥
no_source e = cc

module _ {K W : Type 0} {S : SinkGhosts K} {F : WriterGhosts W} where
  -- its device is its sink
  abbrev pub mux_view : Mux K W S F → View
  mux_view m = record {
    in_lanes = mux_in_lanes m;
    out_lanes = [];
    source = None;
    fault = mux_fault m;
    device = S.name (mux_sink m);
    failures = S.faults (mux_sink m);
    holds = ⊥;
    tried = 0;
    spent = mux_spent m;
    stands = mux_stands m;
  }

  pub mux_laws : (m : Mux K W S F) → Laws (mux_view m)
  mux_laws m = record {
    is_source = λ past s. is_none past.task.source (mux_source m past s.0);
    units_below = λ past s. no_units past (mux_source m past s.0);
    valid = λ past s. mux_valid m past s.0;
    keeps = λ past s ss v. mux_keeps m past s.0 ss v;
    monotone = λ past s. mux_monotone m past s.0;
    cause_stays = λ past s. mux_cause_stays m past s.0;
    calm = λ past s. mux_calm m past s.0;
    given = λ past s. mux_given m past s.0;
    unbroken = λ past s f u. mux_unbroken m past s.0;
    caused = λ past c s e i. mux_caused m past s.0 c e i;
    spent_only = λ past p s h. mux_spent_only m past s.0 p h;
    closed_spent = λ past p s lt c. mux_closed_spent m past s.0 p lt c;
    done_spent = λ past p s lt z c a. absurd (no_output 0 z);
    settles = λ past s n ss v c q lt. absurd (no_output q lt);
    told = λ past s. told_front (mux_first m) (mux_bases m) m.events.items past s.1;
    ticket_used = λ past q s i f p a h. h;
    tried_allowed = λ past s. omega arith;
    tried_units = λ past s i. absurd (no_source i);
  }
