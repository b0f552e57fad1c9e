-- The demuxer of an AVI as the laws of machines see it, and these laws. What a source has left, and its name and failures, are passed in.
use Rattle.std.specs.Prelude.{◌≡◌, ℕ, List, [], Option, Some}
use Rattle.ff_net.specs.declared.fault.Fault.TheVariants.{TooLarge}
use Rattle.ff_net.specs.laws.Laws.{Laws}
use Rattle.ff_net.specs.laws.Views.{View}
use Rattle.ff_net.specs.Ways.{AreValid}
use Rattle.ff_node_avi.specs.declared.demux.AviDemux.{AviDemux}
use Rattle.ff_node_avi.specs.laws.AviPorts.{of_two}
use Rattle.ff_node_avi.specs.laws.AviDemuxers.{avi_in_lanes, avi_out_lanes, avi_source, avi_fault, avi_failures, avi_device, avi_holds, avi_reads, avi_spent, avi_stands}
use Rattle.ff_node_demux.specs.laws.DemuxClaims.{no_input, is_some_source}
use Rattle.ff_node_avi.specs.laws.AviLaws.{avi_is_source, avi_fed, avi_keeps, avi_monotone, avi_cause_stays, avi_calm, avi_given, avi_unbroken, avi_caused, avi_used, avi_tried, avi_units, avi_below, avi_told}

module _ {S : Type 0} (left : S → Option (List ℕ)) (named : S → Option (List ℕ)) (failed : S → ℕ) where
  abbrev pub avi_view : AviDemux S → View
  avi_view m = record {
    in_lanes = avi_in_lanes m;
    out_lanes = avi_out_lanes m;
    source = avi_source m;
    fault = avi_fault m;
    device = avi_device named m;
    failures = avi_failures failed m;
    holds = avi_holds m;
    tried = avi_reads m;
    spent = avi_spent m;
    stands = avi_stands left m;
  }

  pub avi_laws : (m : AviDemux S) → Laws (avi_view m)
  avi_laws m =
      let r = m.reader in
      let going = of_two m.first.going m.second.going in
      let closed = of_two m.first.closed m.second.closed in
      record {
        is_source = λ past s. avi_is_source (left r.src) r.cut r.skip m.ports m.given m.ended m.ticket m.waiting going closed m.fault past s.0;
        units_below = λ past s. avi_below (left r.src) r.cut r.skip m.ports m.given m.ended m.ticket m.waiting going closed m.fault past s.0;
        valid = λ past s. avi_fed (left r.src) r.cut r.skip m.ports m.given m.ended m.ticket m.waiting going closed m.fault past s.0;
        keeps = λ past s. avi_keeps (left r.src) r.cut r.skip m.ports m.given m.ended m.ticket m.waiting going closed m.fault past s.0;
        monotone = λ past s. avi_monotone (left r.src) r.cut r.skip m.ports m.given m.ended m.ticket m.waiting going closed m.fault past s.0 (AreValid []);
        cause_stays = λ past s. avi_cause_stays (left r.src) r.cut r.skip m.ports m.given m.ended m.ticket m.waiting going closed m.fault past s.0 [];
        calm = λ past s. avi_calm (left r.src) r.cut r.skip m.ports m.given m.ended m.ticket m.waiting going closed m.fault past s.0 (AreValid []);
        given = λ past s. avi_given (left r.src) r.cut r.skip m.ports m.given m.ended m.ticket m.waiting going closed m.fault past s.0;
        unbroken = λ past s f u. avi_unbroken (left r.src) r.cut r.skip m.ports m.given m.ended m.ticket m.waiting going closed m.fault past s.0 f;
        caused = λ past c s e i. avi_caused (left r.src) r.cut r.skip m.ports m.given m.ended m.ticket m.waiting going closed m.fault past s.0 c e i;
        spent_only = λ past p s h. absurd h;
        closed_spent = λ past p s lt c. no_input p lt;
        done_spent = λ past p s lt z c a. no_input p lt;
        settles = λ past s n. is_some_source m.input n;
        told = λ past s. avi_told m.input m.told past s.1;
        ticket_used = λ past q s i f p a h. avi_used (left r.src) r.cut r.skip m.ports m.given m.ended m.ticket m.waiting going closed m.fault past s.0 q f p a h;
        tried_allowed = λ past s. avi_tried (left r.src) r.cut r.skip m.ports m.given m.ended m.ticket m.waiting going closed m.fault past s.0;
        tried_units = λ past s i. avi_units (left r.src) r.cut r.skip m.ports m.given m.ended m.ticket m.waiting going closed m.fault past s.0;
      }

-- it never passes a greatest size
pub avi_fits : {S : Type 0} (m : AviDemux S) → avi_fault m ≡ Some TooLarge → ⊥
avi_fits m e = m.fits e
