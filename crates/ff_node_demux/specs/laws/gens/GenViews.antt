-- A source of frames as the laws of machines see it, and these laws. What it has left is passed in.
use Rattle.std.specs.Prelude.{List, [], None}
use Rattle.ff_stream.specs.declared.item.Item.{Item}
use Rattle.ff_net.specs.laws.Laws.{Laws}
use Rattle.ff_net.specs.laws.Views.{View}
use Rattle.ff_net.specs.Ways.{AreValid}
use Rattle.ff_node_demux.specs.laws.DemuxClaims.{no_input, is_some_source, holds_none}
use Rattle.ff_node_demux.specs.Exiting.{exits_front}
use Rattle.ff_node_demux.specs.laws.gens.GenLaws.{gen_is_source, gen_fed, gen_keeps, gen_monotone, gen_cause_stays, gen_calm, gen_given, gen_unbroken, gen_below}
use Rattle.ff_node_demux.specs.laws.gens.GenLaws.{gen_caused, gen_ticket_used, gen_tickets, gen_units}
use Rattle.ff_node_demux.specs.laws.gens.Generators.{gen_in_lanes, gen_out_lanes, gen_source, gen_fault, gen_holds, gen_tried, gen_spent, gen_stands}
use Rattle.ff_node_demux.specs.declared.gens.generator.Gen.{Gen}

module _ {G : Type 0} (left : G → List Item) where
  abbrev pub gen_view : Gen G → View
  gen_view m = record {
    in_lanes = gen_in_lanes m;
    out_lanes = gen_out_lanes m;
    source = gen_source m;
    fault = gen_fault m;
    device = None;
    failures = 0;
    holds = gen_holds m;
    tried = gen_tried m;
    spent = gen_spent m;
    stands = gen_stands left m;
  }

  pub gen_laws : (m : Gen G) → Laws (gen_view m)
  gen_laws m = record {
    is_source = λ past s. gen_is_source (left m.frames) m.head m.given m.ticket m.ended m.long past s.0;
    valid = λ past s. gen_fed (left m.frames) m.head m.given m.ticket m.ended m.long past s.0;
    keeps = λ past s. gen_keeps (left m.frames) m.head m.given m.ticket m.ended m.long past s.0;
    monotone = λ past s. gen_monotone (left m.frames) m.head m.given m.ticket m.ended m.long past s.0 (AreValid []);
    cause_stays = λ past s. gen_cause_stays (left m.frames) m.head m.given m.ticket m.ended m.long past s.0 [];
    calm = λ past s. gen_calm (left m.frames) m.head m.given m.ticket m.ended m.long past s.0 (AreValid []);
    given = λ past s. gen_given (left m.frames) m.head m.given m.ticket m.ended m.long past s.0;
    unbroken = λ past s f u. gen_unbroken (left m.frames) m.head m.given m.ticket m.ended m.long past s.0 f;
    caused = λ past c s e i. gen_caused (left m.frames) m.head m.given m.ticket m.ended m.long past s.0 c e i;
    spent_only = λ past p s h. absurd h;
    closed_spent = λ past p s lt c. no_input p lt;
    done_spent = λ past p s lt z c a. no_input p lt;
    settles = λ past s n. is_some_source m.number n;
    told = λ past s. exits_front m.number m.stopped m.told past s.1;
    ticket_used = λ past q s i f p a h. holds_none m.ticket h (gen_ticket_used (left m.frames) m.head m.given m.ticket m.ended m.long past s.0 q p a);
    tried_allowed = λ past s. gen_tickets (left m.frames) m.head m.given m.ticket m.ended m.long past s.0;
    units_below = λ past s. gen_below (left m.frames) m.head m.given m.ticket m.ended m.long past s.0;
    tried_units = λ past s i. gen_units (left m.frames) m.head m.given m.ticket m.ended m.long past s.0;
  }
