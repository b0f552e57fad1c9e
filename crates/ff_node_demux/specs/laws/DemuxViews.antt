-- A demuxer as the laws of machines see it, and these laws. What a source has left, and its name and failures, are passed in.
use Rattle.std.specs.Prelude.{◌≡◌, ℕ, List, [], Option, Some}
use Rattle.ff_reader.specs.declared.cutter.PacketCut.{Ghosts}
use Rattle.ff_net.specs.declared.fault.Fault.TheVariants.{TooLarge}
use Rattle.ff_net.specs.laws.Laws.{Laws}
use Rattle.ff_net.specs.laws.Views.{View}
use Rattle.ff_net.specs.Ways.{AreValid}
use Rattle.ff_node_demux.specs.declared.demux.Demux.{Demux}
use Rattle.ff_node_demux.specs.laws.Demuxers.{demux_in_lanes, demux_out_lanes, demux_source, demux_fault, demux_failures, demux_device, demux_holds, demux_reads, demux_spent, demux_stands}
use Rattle.ff_node_demux.specs.laws.DemuxClaims.{no_input, is_some_source, holds_none}
use Rattle.ff_node_demux.specs.laws.DemuxLaws.{demux_is_source, demux_fed, demux_keeps, demux_monotone, demux_cause_stays, demux_calm, demux_given, demux_unbroken, demux_caused, demux_ticket_used, demux_tried, demux_units, demux_below}
use Rattle.ff_input.specs.laws.Shapes.{IsShaped}
use Rattle.ff_node_demux.specs.Exiting.{exits_front}

module _ {S C H : Type 0} {G : Ghosts C H} (left : S → Option (List ℕ)) (named : S → Option (List ℕ)) (failed : S → ℕ) where
  abbrev pub demux_view : Demux S C H G → View
  demux_view m = record {
    in_lanes = demux_in_lanes m;
    out_lanes = demux_out_lanes m;
    source = demux_source m;
    fault = demux_fault m;
    device = demux_device named m;
    failures = demux_failures failed m;
    holds = demux_holds m;
    tried = demux_reads m;
    spent = demux_spent m;
    stands = demux_stands left m;
  }

  pub demux_laws : IsShaped G.is → (m : Demux S C H G) → G.is.stream_head (G.is.head_of m.cut) ≡ m.head → Laws (demux_view m)
  demux_laws shaped m same_head = record {
    is_source = λ past s. demux_is_source G.is (left m.src) m.cut m.skip m.given m.ticket m.ended m.fault past s.0;
    valid = λ past s. demux_fed G.is (left m.src) m.cut m.skip m.given m.ticket m.ended m.fault past s.0;
    keeps = λ past s. demux_keeps G.is (left m.src) m.cut m.skip m.given m.ticket m.ended m.fault past s.0 shaped m.head same_head;
    monotone = λ past s. demux_monotone G.is (left m.src) m.cut m.skip m.given m.ticket m.ended m.fault past s.0 (AreValid []);
    cause_stays = λ past s. demux_cause_stays G.is (left m.src) m.cut m.skip m.given m.ticket m.ended m.fault past s.0 [];
    calm = λ past s. demux_calm G.is (left m.src) m.cut m.skip m.given m.ticket m.ended m.fault past s.0 (AreValid []);
    given = λ past s. demux_given G.is (left m.src) m.cut m.skip m.given m.ticket m.ended m.fault past s.0;
    unbroken = λ past s f u. demux_unbroken G.is (left m.src) m.cut m.skip m.given m.ticket m.ended m.fault past s.0 f;
    caused = λ past c s e i. demux_caused G.is (left m.src) m.cut m.skip m.given m.ticket m.ended m.fault past s.0 c e i;
    spent_only = λ past p s h. absurd h;
    closed_spent = λ past p s lt c. no_input p lt;
    done_spent = λ past p s lt z c a. no_input p lt;
    settles = λ past s n. is_some_source m.input n;
    told = λ past s. exits_front m.input m.stopped m.told past s.1;
    ticket_used = λ past q s i f p a h. holds_none m.ticket h (demux_ticket_used G.is (left m.src) m.cut m.skip m.given m.ticket m.ended m.fault past s.0 q f p a);
    tried_allowed = λ past s. demux_tried G.is (left m.src) m.cut m.skip m.given m.ticket m.ended m.fault past s.0;
    units_below = λ past s. demux_below G.is (left m.src) m.cut m.skip m.given m.ticket m.ended m.fault past s.0;
    tried_units = λ past s i. demux_units G.is (left m.src) m.cut m.skip m.given m.ticket m.ended m.fault past s.0;
  }

-- no demuxer passes a greatest size
pub demux_fits : {S C H : Type 0} {G : Ghosts C H} (m : Demux S C H G) → demux_fault m ≡ Some TooLarge → ⊥
demux_fits m e = m.fits e
