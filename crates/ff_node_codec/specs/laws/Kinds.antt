-- The decoder and the encoder as the laws of machines see them, and these laws.
use Rattle.std.specs.Prelude.{◌≡◌, ℕ, true, false, List, [], ◌∷◌, replicate, Option, None, Some, refl}
use Rattle.std.proofs.Common.{arith, ap, ◌∙◌}
use Rattle.ff_frame.specs.declared.packet.Pkt.{Pkt}
use Rattle.ff_frame.specs.declared.head.StreamHead.{StreamHead}
use Rattle.ff_stream.specs.declared.item.Item.{Item}
use Rattle.ff_stream.specs.declared.item.Lane.{Lane}
use Rattle.ff_stream.specs.declared.item.Lane.TheVariants.{Frames, Packets}
use Rattle.ff_net.proofs.Flows.{is_none, no_units}
use Rattle.ff_net.specs.declared.fault.Fault.{Fault}
use Rattle.ff_net.specs.laws.Laws.{FaultStep, Laws}
use Rattle.ff_net.specs.Pasts.{Past}
use Rattle.ff_net.specs.laws.Silence.{silent_front}
use Rattle.ff_net.specs.laws.Views.{View, IsSameShape}
use Rattle.ff_node_codec.specs.declared.dec.Dec.{Dec}
use Rattle.ff_node_codec.specs.declared.enc.Enc.{Enc}
use Rattle.ff_node_codec.specs.declared.spread.Spread.{Spread}
use Rattle.ff_node_codec.specs.laws.Coders.{dec_stands, enc_stands}
use Rattle.ff_node_codec.specs.Decoding.{cut_frames}
use Rattle.ff_node_codec.specs.Encoding.{encoded_item}
use Rattle.ff_node_codec.specs.laws.Lines.{line_at}
use Rattle.ff_node_codec.specs.Making.{Making, by_items, fault_by}
use Rattle.ff_node_codec.specs.laws.SpreadLaws.{no_device, spreads_valid, spreads_keeps, spreads_monotone, spreads_cause_stays, spreads_calm, spreads_given, spreads_unbroken, spreads_caused, spreads_spent_only, spreads_closed_spent, spreads_done_spent, spreads_settles}
use Rattle.ff_node_codec.specs.laws.Standing.{outputs_of, spread_spent, SpreadStands}
use Rattle.ff_node_codec.specs.Spreads.{Line}

-- a machine that is no source, and whose only fault is a damaged input
abbrev pub coder_view : List Lane → List Lane → Option ℕ → (ℕ → Type 0) → (Past → Type 0) → View
coder_view ins outs damage spent stands =
    record
    { in_lanes = ins; out_lanes = outs; source = None; fault = fault_by damage; device = None; failures = 0; holds = ⊥; tried = 0; spent = spent; stands = stands }

-- damage that was found stays
fault_stays : (d e : Option ℕ) → ((offset : ℕ) → d ≡ Some offset → e ≡ Some offset) → (c : Fault) → fault_by d ≡ Some c → fault_by e ≡ Some c
fault_stays None e h c f = cc
fault_stays (Some offset) e h c f = ap fault_by (h offset refl) ∙ f

pub coder_fares : (ins outs ins' outs' : List Lane) (d e : Option ℕ) (spent spent' : ℕ → Type 0) (stands stands' : Past → Type 0)
    → ((offset : ℕ) → d ≡ Some offset → e ≡ Some offset)
    → FaultStep (coder_view ins outs d spent stands) (coder_view ins' outs' e spent' stands')
coder_fares ins outs ins' outs' d e spent spent' stands stands' h = record {
  device_same = refl;
  later = omega arith;
  stays = fault_stays d e h;
  failed = λ n f. absurd (no_device e f);
  unfailed = λ n. refl;
  behind = λ c f. refl;
}

no_source : false ≡ true → ⊥
no_source e = cc

abbrev pub spread_view : Lane → Lane → Spread → (Past → Type 0) → View
spread_view lane_in lane_out m stands = coder_view (lane_in ∷ []) (replicate (outputs_of m) lane_out) m.damage (spread_spent m) stands

-- the laws of what gives on each output what it makes of its input
module _ (lane_in lane_out : Lane) (f : Making) (m : Spread) (stands : Past → Type 0)
    (is : (past : Past) → stands past → SpreadStands lane_in lane_out f m past) where
  abbrev n : ℕ
  n = outputs_of m

  abbrev lines : ℕ → Line
  lines = line_at m.outs.items

  pub spread_laws : Laws (spread_view lane_in lane_out m stands)
  spread_laws = record {
    is_source = λ past s. is_none past.task.source (is past s).plain;
    units_below = λ past s. no_units past (is past s).plain;
    valid = λ past s. spreads_valid lane_in lane_out f n lines m.closed m.damage past (is past s);
    keeps = λ past s. spreads_keeps lane_in lane_out f n lines m.closed m.damage past (is past s);
    monotone = λ past s. spreads_monotone lane_in lane_out f n lines m.closed m.damage past (is past s);
    cause_stays = λ past s. spreads_cause_stays lane_in lane_out f n lines m.closed m.damage past (is past s);
    calm = λ past s. spreads_calm lane_in lane_out f n lines m.closed m.damage past (is past s);
    given = λ past s. spreads_given lane_in lane_out f n lines m.closed m.damage past (is past s);
    unbroken = λ past s e u. spreads_unbroken lane_in lane_out f n lines m.closed m.damage past (is past s) e u;
    caused = λ past c s e i. spreads_caused lane_in lane_out f n lines m.closed m.damage past (is past s) c e;
    spent_only = λ past p s h. spreads_spent_only lane_in lane_out f n lines m.closed m.damage past (is past s) p h;
    closed_spent = λ past p s lt c. spreads_closed_spent lane_in lane_out f n lines m.closed m.damage past (is past s) p lt c;
    done_spent = λ past p s lt z c a. spreads_done_spent lane_in lane_out f n lines m.closed m.damage past (is past s) p lt c;
    settles = λ past s e. spreads_settles lane_in lane_out f n lines m.closed m.damage past (is past s);
    told = λ past s. silent_front past (is past s).silent;
    ticket_used = λ past q s i e p a h. h;
    tried_allowed = λ past s. omega arith;
    tried_units = λ past s i. absurd (no_source i);
  }

module _ {D : Type 0} (head : D → StreamHead) (made : D → Pkt → Option Item) where
  abbrev pub dec_view : Dec D → View
  dec_view m = spread_view (Packets (head m.decoder)) (Frames (head m.decoder)) m.spread (dec_stands head made m)

  pub dec_laws : (m : Dec D) → Laws (dec_view m)
  dec_laws m =
      spread_laws (Packets (head m.decoder)) (Frames (head m.decoder)) (cut_frames (head m.decoder) (made m.decoder) m.cut) m.spread
      (dec_stands head made m) (λ past s. s.1)

module _ {E : Type 0} (serves : E → StreamHead → Type 0) (coded : E → StreamHead → StreamHead) (made : E → Item → Option Pkt) where
  abbrev pub enc_view : Enc E → View
  enc_view m = spread_view (Frames m.head) (Packets (coded m.encoder m.head)) m.spread (enc_stands serves coded made m)

  pub enc_laws : (m : Enc E) → Laws (enc_view m)
  enc_laws m =
      spread_laws (Frames m.head) (Packets (coded m.encoder m.head)) (by_items (encoded_item (made m.encoder))) m.spread (enc_stands serves coded made m)
      (λ past s. s.1)

pub same_shape : (lane_in lane_out : Lane) (m k : Spread) (stands stands' : Past → Type 0) → outputs_of k ≡ outputs_of m
    → IsSameShape (spread_view lane_in lane_out m stands) (spread_view lane_in lane_out k stands')
same_shape lane_in lane_out m k stands stands' e = record { in_lanes = refl; out_lanes = ap (λ (j : ℕ). replicate j lane_out) e; source = refl }

pub fares : (lane_in lane_out : Lane) (m k : Spread) (stands stands' : Past → Type 0)
    → ((offset : ℕ) → m.damage ≡ Some offset → k.damage ≡ Some offset)
    → FaultStep (spread_view lane_in lane_out m stands) (spread_view lane_in lane_out k stands')
fares lane_in lane_out m k stands stands' h =
    coder_fares (lane_in ∷ []) (replicate (outputs_of m) lane_out) (lane_in ∷ []) (replicate (outputs_of k) lane_out) m.damage k.damage
    (spread_spent m) (spread_spent k) stands stands' h
