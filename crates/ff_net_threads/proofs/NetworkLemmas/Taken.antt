-- Ends that were taken out of tables.
use Rattle.std.proofs.Common.{◌≡◌, ℕ, ◌+◌, ◌<◌, List, [], ◌∷◌, ◌++◌, length, map, take, get_or, Option, Some, ap, sym, ◌∙◌, arith}
use Rattle.std.proofs.lemmas.List.{map-append, take_more}
use Rattle.ff_link.specs.laws.Views.{Sending, Receiving, new_sender, new_receiver}
use Rattle.ff_net.specs.Ways.{lane_at}
use Rattle.ff_net_threads.specs.declared.links.ends.InEnd.{InEnd}
use Rattle.ff_net_threads.specs.declared.links.ends.OutEnd.{OutEnd}
use Rattle.ff_net_threads.specs.laws.links.Ends.{new_in, new_out}
use Rattle.ff_net_threads.specs.laws.network.Nodes.{IsNewIn, IsNewOut}
use Rattle.ff_net_threads.specs.laws.network.Tables.{NewLinks, HasNewSender, HasNewReceiver}

some_same : {A : Type 0} (a b : A) → Some a ≡ Some b → a ≡ b
some_same a b e = cc

-- the wires of ends, with one end more
pub one_wire : {A : Type 0} (wire : A → ℕ) (xs xs' : List A) (x : A) (ws : List ℕ) (k : ℕ) → map wire xs ≡ take k ws → xs' ≡ xs ++ x ∷ [] → k < length ws → wire x ≡ get_or ws k 0 → map wire xs' ≡ take (k + 1) ws
one_wire wire xs xs' x ws k before more lt is =
    ap (map wire) more
    ∙ (map-append wire xs (x ∷ []) ∙ (ap (λ (vs : List ℕ). vs ++ wire x ∷ []) before ∙ (ap (λ (v : ℕ). take k ws ++ v ∷ []) is ∙ sym (take_more ws k 0 lt))))

-- the receiver that was found is that of the new link, and so is the end
pub in_is_new : (new : NewLinks) (table : List (Option Receiving)) (w : ℕ) (r : Receiving) (end : InEnd) → end ≡ new_in w r → HasNewReceiver new table w → ((d : Option Receiving) → get_or table w d ≡ Some r) → IsNewIn new end
in_is_new new table w r end e h found =
    let wire : end.wire ≡ w = ap (λ (x : InEnd). x.wire) e in
    let same : r ≡ new_receiver (new.link w) h.lane new.size = some_same r (new_receiver (new.link w) h.lane new.size) (sym (found (Some r)) ∙ h.is (Some r)) in record {
      lane = h.lane;
      lane_is = ap (lane_at new.lanes) wire ∙ h.lane_is;
      claims_are = ap (λ (v : ℕ). (new.link v).claims) wire ∙ h.claims_are;
      is = e ∙ (ap (new_in w) same ∙ ap (λ (v : ℕ). new_in v (new_receiver (new.link v) h.lane new.size)) (sym wire));
    }

pub out_is_new : (new : NewLinks) (table : List (Option Sending)) (w : ℕ) (s : Sending) (end : OutEnd) → end ≡ new_out w s → HasNewSender new table w → ((d : Option Sending) → get_or table w d ≡ Some s) → IsNewOut new end
out_is_new new table w s end e h found =
    let wire : end.wire ≡ w = ap (λ (x : OutEnd). x.wire) e in
    let same : s ≡ new_sender (new.link w) h.lane new.size = some_same s (new_sender (new.link w) h.lane new.size) (sym (found (Some s)) ∙ h.is (Some s)) in record {
      lane = h.lane;
      lane_is = ap (lane_at new.lanes) wire ∙ h.lane_is;
      claims_are = ap (λ (v : ℕ). (new.link v).claims) wire ∙ h.claims_are;
      is = e ∙ (ap (new_out w) same ∙ ap (λ (v : ℕ). new_out v (new_sender (new.link v) h.lane new.size)) (sym wire));
    }

-- what stays in the tables
pub receiver_stays : (new : NewLinks) (old now : List (Option Receiving)) (w : ℕ) → ((d : Option Receiving) → get_or now w d ≡ get_or old w d) → length now ≡ length old → HasNewReceiver new old w → HasNewReceiver new now w
receiver_stays new old now w same many h = record {
  there = (let t = h.there in omega (arith, t, many));
  lane = h.lane;
  lane_is = h.lane_is;
  claims_are = h.claims_are;
  is = λ d. same d ∙ h.is d;
}

pub sender_stays : (new : NewLinks) (old now : List (Option Sending)) (w : ℕ) → ((d : Option Sending) → get_or now w d ≡ get_or old w d) → length now ≡ length old → HasNewSender new old w → HasNewSender new now w
sender_stays new old now w same many h = record {
  there = (let t = h.there in omega (arith, t, many));
  lane = h.lane;
  lane_is = h.lane_is;
  claims_are = h.claims_are;
  is = λ d. same d ∙ h.is d;
}
