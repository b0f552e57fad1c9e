-- What each step of an end keeps.
use Rattle.std.proofs.Common.{◌≡◌, ℕ, inl, inr, Bool, true, false, IsTrue, ◌↔◌, List, [], ◌∷◌, ◌++◌, ◌≤◌, ◌+◌, ◌^◌, length, length-append, arith, refl, ap, sym, ◌∙◌, subst, Option, None, Some, is_some}
use Rattle.ff_stream.specs.declared.item.Item.{Item}
use Rattle.ff_stream.specs.declared.item.Lane.{Lane}
use Rattle.ff_stream.specs.Stream.{still_open, LiesBelow}
use Rattle.ff_stream.specs.Items.{Closes, with_item, Leads}
use Rattle.ff_stream.specs.Lanes.{IsValid}
use Rattle.ff_stream.specs.laws.Order.{with_item_above, with_item_open, with_item_closed}
use Rattle.ff_stream.specs.Ports.{nothing, IsClosed}
use Rattle.ff_link.specs.laws.Sendings.{stream_from, stream_of, IsSending, Carries}
use Rattle.ff_link.specs.laws.Views.{Link, Sending, Receiving}
use Rattle.ff_link.proofs.Sendings.{stream_from-append, sending_push}
use Rattle.ff_net.specs.declared.wires.Wires.{Wires}
use Rattle.ff_net.specs.Ways.{Flow, lane_at, IsValidOn}
use Rattle.ff_net.specs.Pasts.{Past, start, no_events}
use Rattle.ff_net.specs.laws.Worlds.{Wire, Stand, lanes_of, put_on, take_on, finish_on}
use Rattle.ff_net.specs.laws.Nodes.{HeldIs}
use Rattle.ff_net.proofs.Flows.{valid_on_below}
use Rattle.ff_net.proofs.Moments.{with_wire_same, course_self}
use Rattle.ff_net.proofs.Changes.{true_not_false, course_put, course_take, course_finish}
use Rattle.ff_net_threads.specs.declared.links.ends.InEnd.{InEnd}
use Rattle.ff_net_threads.specs.declared.links.ends.OutEnd.{OutEnd}
use Rattle.ff_net_threads.specs.laws.links.Ends.{taken_in, InEndStands, OutEndStands, OnWires, claims_of, out_link}

-- before the last item the stream was open
leads_open : (s : Flow) (xs : List Item) (x : Item) (t : Flow) → Leads s (xs ++ x ∷ []) t → (stream_from s xs).mark ≡ still_open
leads_open s [] x t h = h.0
leads_open s (y ∷ xs) x t h = leads_open (with_item s y) xs x t h.1

pub stream_push : (xs : List Item) (x : Item) → stream_of (xs ++ x ∷ []) ≡ with_item (stream_of xs) x
stream_push xs x = stream_from-append nothing xs (x ∷ [])

no_some : (x : Item) (o : Option Item) → o ≡ None → o ≡ Some x → ⊥
no_some x o e f = cc

pub in_fetched : (end end' : InEnd) (lane : Option Lane) (wire : Wire) (r r' : Receiving) (x : Item) → wire.finished ≡ false → InEndStands end lane wire → end.held ≡ None → end.taking ≡ Some r → end'.held ≡ Some x → end'.taking ≡ Some r' → r'.taken ≡ r.taken ++ x ∷ [] → r'.lane ≡ r.lane → r'.link ≡ r.link
    → Carries r.link.claims r.lane (r.taken ++ x ∷ []) → InEndStands end' lane wire
in_fetched end end' lane wire r r' x goes i none taking some taking' taken same_lane same_link carries =
    let sending : IsSending r.lane (r.taken ++ x ∷ []) = subst (λ (b : Bool). Carries b r.lane (r.taken ++ x ∷ [])) (i.going r taking).1 carries in
    let was : wire.sent ≡ stream_of r.taken = subst (λ (t : Option Receiving). wire.sent ≡ stream_of (taken_in t end.finished)) taking (subst (λ (h : Option Item). HeldIs h wire.sent (stream_of (taken_in end.taking end.finished))) none (i.carried goes)) in
    let open_before : wire.sent.mark ≡ still_open = ap (λ (s : Flow). s.mark) was ∙ leads_open nothing r.taken x _ sending.none_behind in
    let now : stream_of (taken_in end'.taking end'.finished) ≡ with_item wire.sent x =
    ap (λ (t : Option Receiving). stream_of (taken_in t end'.finished)) taking' ∙ (ap stream_of taken ∙ (stream_push r.taken x ∙ ap (λ (s : Flow). with_item s x) (sym was))) in
    let on_lane : lane ≡ Some r.lane = (i.going r taking).0 in record {
      carried = λ f. subst (λ (h : Option Item). HeldIs h wire.sent (stream_of (taken_in end'.taking end'.finished))) (sym some) (sym now);
      lying = λ y e.
          let same : x ≡ y = cc (sym some ∙ e) in
          subst (λ (z : Item). (wire.sent.mark ≡ still_open) × IsValidOn lane (with_item wire.sent z)) same (
            open_before,
            subst (λ (l : Option Lane). IsValidOn l (with_item wire.sent x)) (sym on_lane) (subst (λ (s : Flow). IsValid r.lane s) (stream_push r.taken x ∙ ap (λ (s : Flow). with_item s x) (sym was)) sending.valid),
          );
      below = subst (λ (s : Flow). LiesBelow wire.sent s) (sym now) (with_item_above wire.sent x open_before);
      going = λ q e.
          let same : r' ≡ q = cc (sym taking' ∙ e) in (
            on_lane ∙ ap (λ (l : Lane). Some l) (sym same_lane ∙ ap (λ (z : Receiving). z.lane) same),
            ap (λ (z : Receiving). z.link.claims) (sym same) ∙ (ap (λ (k : Link). k.claims) same_link ∙ (i.going r taking).1),
          );
      shut = λ e. absurd (let no : Some r' ≡ None = sym taking' ∙ e in cc (no));
    }

pub in_laid : (end end' : InEnd) (lane : Option Lane) (world : ℕ → Wire) (w : ℕ) (past : Past) (x : Item) (wires' : Wires) → (world w).finished ≡ false → InEndStands end lane (world w) → end.held ≡ Some x → end'.held ≡ None → end'.taking ≡ end.taking → end'.finished ≡ end.finished
    → Stand wires' (put_on world w x) → OnWires [] (w ∷ []) wires' world past (InEndStands end' lane) w
in_laid end end' lane world w past x wires' goes i some none taking finished stand =
    let wire : Wire = world w in
    let wire' : Wire = record { sent = with_item wire.sent x; taken = wire.taken; finished = wire.finished } in
    let same : taken_in end'.taking end'.finished ≡ taken_in end.taking end.finished = cc (taking, finished) in
    let all : with_item wire.sent x ≡ stream_of (taken_in end'.taking end'.finished) = subst (λ (h : Option Item). HeldIs h wire.sent (stream_of (taken_in end.taking end.finished))) some (i.carried goes) ∙ ap stream_of (sym same) in
    let now : InEndStands end' lane wire' = record {
      carried = λ f. subst (λ (h : Option Item). HeldIs h (with_item wire.sent x) (stream_of (taken_in end'.taking end'.finished))) (sym none) all;
      lying = λ y e. absurd (no_some y end'.held none e);
      below = inl all;
      going = λ r e. i.going r (sym taking ∙ e);
      shut = λ e. i.shut (sym taking ∙ e);
    } in record {
      now = put_on world w x;
      stand = stand;
      fits = subst (λ (u : Wire). InEndStands end' lane u) (sym (with_wire_same world w wire' w refl)) now;
      course = course_put [] (w ∷ []) world w x past (inl refl) ((i.lying x some).0);
    }

pub out_lifted : (end end' : OutEnd) (lane : Option Lane) (world : ℕ → Wire) (w : ℕ) (past : Past) (x : Item) (wires' : Wires) → OutEndStands end lane (world w) → end.held ≡ None → end.done ≡ false → end'.held ≡ Some x → end'.done ≡ false → end'.sender ≡ end.sender
    → (world w).taken.mark ≡ still_open → Stand wires' (take_on world w x) → OnWires (w ∷ []) [] wires' world past (OutEndStands end' lane) w
out_lifted end end' lane world w past x wires' o none goes some goes' sender open_before stand =
    let wire : Wire = world w in
    let wire' : Wire = record { sent = wire.sent; taken = with_item wire.taken x; finished = wire.finished } in
    let was : stream_of end.sender.sent ≡ wire.taken = subst (λ (h : Option Item). HeldIs h (stream_of end.sender.sent) wire.taken) none (o.carried goes) in
    let same : stream_of end'.sender.sent ≡ stream_of end.sender.sent = ap (λ (s : Sending). stream_of s.sent) sender in
    let now : OutEndStands end' lane wire' = record {
      lane_is = o.lane_is ∙ ap (λ (s : Sending). Some s.lane) (sym sender);
      sending = subst (λ (s : Sending). IsSending s.lane s.sent) (sym sender) o.sending;
      carried = λ d. subst (λ (h : Option Item). HeldIs h (stream_of end'.sender.sent) (with_item wire.taken x)) (sym some) (ap (λ (s : Flow). with_item s x) (same ∙ was));
      unclosed = λ d. ap (λ (s : Flow). s.mark) same ∙ o.unclosed goes;
      below = subst (λ (s : Flow). LiesBelow s (with_item wire.taken x)) (sym (same ∙ was)) (with_item_above wire.taken x open_before);
      listening = λ d. o.listening goes;
      done = λ d. absurd (true_not_false (sym d ∙ goes'));
    } in record {
      now = take_on world w x;
      stand = stand;
      fits = subst (λ (u : Wire). OutEndStands end' lane u) (sym (with_wire_same world w wire' w refl)) now;
      course = course_take (w ∷ []) [] world w x past past refl refl refl (inl refl) (o.listening goes) open_before;
    }

-- the item that is held may be sent
pub may_send : (end : OutEnd) (lanes : List Lane) (w : ℕ) (world : ℕ → Wire) (wires : Wires) (x : Item) → lanes_of wires ≡ lanes → Stand wires world → OutEndStands end (lane_at lanes w) (world w) → end.held ≡ Some x → end.done ≡ false → IsSending end.sender.lane (end.sender.sent ++ x ∷ [])
may_send end lanes w world wires x lanes_are stand o some goes =
    let given : with_item (stream_of end.sender.sent) x ≡ (world w).taken = subst (λ (h : Option Item). HeldIs h (stream_of end.sender.sent) (world w).taken) some (o.carried goes) in
    let valid : IsValidOn (lane_at lanes w) (world w).taken = valid_on_below (lane_at lanes w) (world w).taken (world w).sent (stand.ordered w) (subst (λ (ls : List Lane). IsValidOn (lane_at ls w) (world w).sent) lanes_are (stand.valid w)) in
    sending_push end.sender.lane end.sender.sent x o.sending (o.unclosed goes) (subst (λ (s : Flow). IsValid end.sender.lane s) (sym given) (subst (λ (l : Option Lane). IsValidOn l (world w).taken) o.lane_is valid))

pub out_sent : (end end' : OutEnd) (lane : Option Lane) (wire : Wire) (x : Item) → OutEndStands end lane wire → end.held ≡ Some x → end.done ≡ false → end'.held ≡ None → end'.sender.lane ≡ end.sender.lane → end'.sender.sent ≡ end.sender.sent ++ x ∷ [] → IsSending end.sender.lane (end.sender.sent ++ x ∷ [])
    → (IsTrue end'.done ↔ Closes x) → OutEndStands end' lane wire
out_sent end end' lane wire x o some goes none same_lane longer sending closes =
    let given : with_item (stream_of end.sender.sent) x ≡ wire.taken = subst (λ (h : Option Item). HeldIs h (stream_of end.sender.sent) wire.taken) some (o.carried goes) in
    let now : stream_of end'.sender.sent ≡ with_item (stream_of end.sender.sent) x = ap stream_of longer ∙ stream_push end.sender.sent x in record {
      lane_is = o.lane_is ∙ ap (λ (l : Lane). Some l) (sym same_lane);
      sending = subst (λ (l : Lane). IsSending l end'.sender.sent) (sym same_lane) (subst (λ (xs : List Item). IsSending end.sender.lane xs) (sym longer) sending);
      carried = λ d. subst (λ (h : Option Item). HeldIs h (stream_of end'.sender.sent) wire.taken) (sym none) (now ∙ given);
      unclosed = λ d. ap (λ (s : Flow). s.mark) now ∙ with_item_open (stream_of end.sender.sent) x (λ c. true_not_false (sym (closes.1 c) ∙ d)) (o.unclosed goes);
      below = inl (now ∙ given);
      listening = λ d. o.listening goes;
      done = λ d. inl (subst (λ (s : Flow). IsClosed s) (sym now) (with_item_closed (stream_of end.sender.sent) x (closes.0 d)));
    }

-- a look at the link
pub out_looked : (end end' : OutEnd) (lane : Option Lane) (wire : Wire) → OutEndStands end lane wire → end'.held ≡ end.held → end'.done ≡ end.done → end.done ≡ false → end'.sender.lane ≡ end.sender.lane → end'.sender.sent ≡ end.sender.sent → OutEndStands end' lane wire
out_looked end end' lane wire o held done goes same_lane same_sent = record {
  lane_is = o.lane_is ∙ ap (λ (l : Lane). Some l) (sym same_lane);
  sending = subst (λ (l : Lane). IsSending l end'.sender.sent) (sym same_lane) (subst (λ (xs : List Item). IsSending end.sender.lane xs) (sym same_sent) o.sending);
  carried = λ d. subst (λ (h : Option Item). HeldIs h (stream_of end'.sender.sent) wire.taken) (sym held) (subst (λ (xs : List Item). HeldIs end.held (stream_of xs) wire.taken) (sym same_sent) (o.carried goes));
  unclosed = λ d. ap (λ (xs : List Item). (stream_of xs).mark) same_sent ∙ o.unclosed goes;
  below = subst (λ (xs : List Item). LiesBelow (stream_of xs) wire.taken) (sym same_sent) o.below;
  listening = λ d. o.listening goes;
  done = λ d. absurd (true_not_false (sym d ∙ (done ∙ goes)));
}

-- the receiver has finished
pub out_told : (end end' : OutEnd) (lane : Option Lane) (world : ℕ → Wire) (w : ℕ) (past : Past) (wires' : Wires) → OutEndStands end lane (world w) → end'.done ≡ true → is_some end'.sender.told ≡ true → end'.sender.lane ≡ end.sender.lane → end'.sender.sent ≡ end.sender.sent
    → Stand wires' (finish_on world w) → OnWires (w ∷ []) [] wires' world past (OutEndStands end' lane) w
out_told end end' lane world w past wires' o done told same_lane same_sent stand =
    let wire : Wire = world w in
    let wire' : Wire = record { sent = wire.sent; taken = wire.taken; finished = true } in
    let now : OutEndStands end' lane wire' = record {
      lane_is = o.lane_is ∙ ap (λ (l : Lane). Some l) (sym same_lane);
      sending = subst (λ (l : Lane). IsSending l end'.sender.sent) (sym same_lane) (subst (λ (xs : List Item). IsSending end.sender.lane xs) (sym same_sent) o.sending);
      carried = λ d. absurd (true_not_false (sym done ∙ d));
      unclosed = λ d. absurd (true_not_false (sym done ∙ d));
      below = subst (λ (xs : List Item). LiesBelow (stream_of xs) wire.taken) (sym same_sent) o.below;
      listening = λ d. absurd (true_not_false (sym done ∙ d));
      done = λ d. inr (told, refl);
    } in record {
      now = finish_on world w;
      stand = stand;
      fits = subst (λ (u : Wire). OutEndStands end' lane u) (sym (with_wire_same world w wire' w refl)) now;
      course = course_finish (w ∷ []) [] world w past (inl refl);
    }

-- nothing was done at the wires
pub on_wires_self : (ins outs : List ℕ) (wires : Wires) (world : ℕ → Wire) (past : Past) (holds : Wire → Type 0) (w : ℕ) → Stand wires world → holds (world w) → OnWires ins outs wires world past holds w
on_wires_self ins outs wires world past holds w stand h = record { now = world; stand = stand; fits = h; course = course_self ins outs world past }

pub some_past : Past
some_past = start (record { means = λ ss. []; cause = λ ss. None; source = None; tells = no_events })

-- at another name of the same wire
pub renamed : (holds : Option Lane → Wire → Type 0) (lanes lanes' : List Lane) (w w' : ℕ) (now : ℕ → Wire) → lanes' ≡ lanes → w' ≡ w → holds (lane_at lanes w) (now w) → holds (lane_at lanes' w') (now w')
renamed holds lanes lanes' w w' now same_lanes same h =
    subst (λ (v : ℕ). holds (lane_at lanes' v) (now v)) (sym same) (subst (λ (ls : List Lane). holds (lane_at ls w) (now w)) (sym same_lanes) h)

carries_by : (claims : Bool) (lane : Lane) (xs : List Item) → length xs ≤ 2 ^ 40 + 1 → (claims ≡ true → IsSending lane xs) → Carries claims lane xs
carries_by true lane xs few sending = sending refl
carries_by false lane xs few sending = few

-- an end carries one item more, where that is valid if it claims so
pub may_carry : (end : OutEnd) (x : Item) (n : ℕ) → n ≡ length end.sender.sent → n ≤ 2 ^ 40 → (claims_of end ≡ true → IsSending end.sender.lane (end.sender.sent ++ x ∷ [])) → Carries end.sender.link.claims end.sender.lane (end.sender.sent ++ x ∷ [])
may_carry end x n e few sending =
    let l = length-append end.sender.sent (x ∷ []) in
    carries_by end.sender.link.claims end.sender.lane (end.sender.sent ++ x ∷ []) (omega arith) sending

-- an end that has the link of another claims what that claims
pub claimed : (a b : OutEnd) → out_link a ≡ out_link b → claims_of a ≡ true → claims_of b ≡ true
claimed a b e t = (let same : a.sender.link ≡ b.sender.link = cc (e) in ap (λ (k : Link). k.claims) (sym same) ∙ t)
