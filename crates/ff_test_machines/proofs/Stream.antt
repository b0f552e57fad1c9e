-- The packets are valid for their lane, and so is what closes them.
use Rattle.std.proofs.Common.{◌≡◌, ◌≤◌, ◌<◌, ◌+◌, ◌*◌, ◌^◌, ℕ, zero, suc, Bool, true, List, [], ◌∷◌, ◌++◌, length, refl, sym, ap, ◌∙◌, subst, arith, length-append, add-one}
use Rattle.std.specs.Prelude.{All}
use Rattle.std.proofs.lemmas.Int.{ints}
use Rattle.std.proofs.lemmas.List.Elements.{All-append, All-nil}
use Rattle.ff_time.specs.Fraction.{Fraction}
use Rattle.ff_stream.specs.declared.item.Item.{Item}
use Rattle.ff_stream.specs.declared.item.Item.TheVariants.{Audio, Video, Packet, Trailer, End, Broken}
use Rattle.ff_stream.specs.declared.item.Lane.{Lane}
use Rattle.ff_stream.specs.Stream.{Stream, still_open}
use Rattle.ff_stream.specs.Items.{Closes, with_item, Leads}
use Rattle.ff_stream.specs.Lanes.{IsValid, IsItemFor, InOrder, Follows, EndsInTime}
use Rattle.ff_stream.specs.laws.Order.{leads_push}
use Rattle.ff_stream.specs.Ports.{nothing}
use Rattle.ff_link.specs.laws.Sendings.{stream_of, IsSending, Carries}
use Rattle.ff_link.specs.laws.Views.{Link, Sending}
use Rattle.ff_link.proofs.Sendings.{leads_to, sending_push}
use Rattle.ff_test_machines.specs.Packets.{IsWhole, byte_lane, byte_packet, byte_packets, Sent, IsGoing}

one_more : (P : Item → Type 0) (xs : List Item) (x : Item) → All P xs → P x → All P (xs ++ x ∷ [])
one_more P xs x a p = All-append P xs (x ∷ []) a (only P x p)
  where
    only : (P : Item → Type 0) (x : Item) → P x → All P (x ∷ [])
    only P x p zero d lt = p
    only P x p (suc k) d lt = absurd (omega arith)

order_push : (lane : Lane) (xs : List Item) (x y : Item) → InOrder lane (xs ++ x ∷ []) → Follows lane x y → InOrder lane ((xs ++ x ∷ []) ++ y ∷ [])
order_push lane [] x y o f = (f, tt)
order_push lane (a ∷ []) x y o f = (o.0, (f, tt))
order_push lane (a ∷ b ∷ xs) x y o f = (o.0, order_push lane (b ∷ xs) x y o.1 f)

fits : (tb : Fraction) (n : ℕ) → IsItemFor (byte_lane tb) (byte_packet n)
fits tb n = record {
  fits = (refl, record { blocks = 1; some_blocks = omega arith; few_blocks = omega arith; whole_blocks = refl; lasts = refl });
  not_negative = omega (arith, ints);
  lasts = λ t. omega (arith, ints);
}

follows : (tb : Fraction) (n : ℕ) → Follows (byte_lane tb) (byte_packet n) (byte_packet (suc n))
follows tb n = record {
  timed = tt;
  starts = λ t. omega (arith, ints);
  ends = λ t. omega (arith, ints);
  apart = λ t. omega (arith, ints);
}

in_order : (tb : Fraction) (n : ℕ) → InOrder (byte_lane tb) (byte_packets n)
in_order tb zero = tt
in_order tb (suc zero) = tt
in_order tb (suc (suc n)) = order_push (byte_lane tb) (byte_packets n) (byte_packet n) (byte_packet (suc n)) (in_order tb (suc n)) (follows tb n)

each : (tb : Fraction) (n : ℕ) → All (IsItemFor (byte_lane tb)) (byte_packets n)
each tb zero = All-nil (IsItemFor (byte_lane tb))
each tb (suc n) = one_more (IsItemFor (byte_lane tb)) (byte_packets n) (byte_packet n) (each tb n) (fits tb n)

pub count : (n : ℕ) → length (byte_packets n) ≡ n
count zero = refl
count (suc n) = let l = length-append (byte_packets n) (byte_packet n ∷ []) in let e = count n in omega arith

ends : (tb : Fraction) (n : ℕ) → IsWhole tb → n ≤ 2 ^ 20 → EndsInTime (byte_lane tb) (byte_packet n)
ends tb n w few = bound n tb.num tb.den w.one w.some few
  where
    bound : (n num den : ℕ) → num ≡ 1 → 1 ≤ den → n ≤ 2 ^ 20 → (n + 1) * num ≤ 1000000000 * den
    bound n num den e some few = subst (λ k. (n + 1) * k ≤ 1000000000 * den) (sym e) (omega arith)

in_time : (tb : Fraction) (n : ℕ) → IsWhole tb → n ≤ 2 ^ 20 → All (EndsInTime (byte_lane tb)) (byte_packets n)
in_time tb zero w few = All-nil (EndsInTime (byte_lane tb))
in_time tb (suc n) w few = one_more (EndsInTime (byte_lane tb)) (byte_packets n) (byte_packet n) (in_time tb n w (omega arith)) (ends tb n w (omega arith))

abbrev going : ℕ → Stream Item
going n = record { items = byte_packets n; mark = still_open }

-- the packets are valid for their lane
pub valid : (tb : Fraction) (n : ℕ) → IsWhole tb → n ≤ 2 ^ 20 → IsValid (byte_lane tb) (going n)
valid tb n w few = record {
  shape = record { each = each tb n; in_order = in_order tb n };
  few = let c = count n in omega arith;
  in_time = in_time tb n w few;
}

leads : (n : ℕ) → Leads nothing (byte_packets n) (going n)
leads zero = refl
leads (suc n) = leads_push (byte_packets n) nothing (going n) (byte_packet n) (leads n) refl

made : (n : ℕ) → stream_of (byte_packets n) ≡ going n
made n = leads_to nothing (byte_packets n) (going n) (leads n)

sends : (tb : Fraction) (n : ℕ) → IsWhole tb → n ≤ 2 ^ 20 → IsSending (byte_lane tb) (byte_packets n)
sends tb n w few = record {
  none_behind = subst (λ (t : Stream Item). Leads nothing (byte_packets n) t) (sym (made n)) (leads n);
  valid = subst (λ (t : Stream Item). IsValid (byte_lane tb) t) (sym (made n)) (valid tb n w few);
}

moved : {k l : Lane} {xs ys : List Item} → k ≡ l → xs ≡ ys → IsSending k xs → IsSending l ys
moved {k} {l} {xs} {ys} e f h = subst (λ (zs : List Item). IsSending l zs) f (subst (λ (m : Lane). IsSending m xs) e h)

-- the next packet may be sent
carries : (s : Sending) (xs : List Item) → s.link.claims ≡ true → IsSending s.lane xs → Carries s.link.claims s.lane xs
carries s xs claims h = subst (λ (b : Bool). Carries b s.lane xs) (sym claims) h

pub next_sends : (n : ℕ) (s : Sending) (x : Item) → Sent n s → n < 2 ^ 20 → x ≡ byte_packet n → Carries s.link.claims s.lane (s.sent ++ x ∷ [])
next_sends n s x h few e = carries s (s.sent ++ x ∷ []) h.claims (moved (sym h.lane) (λ i. sym h.packets i ++ sym e i ∷ []) (sends h.tb (suc n) h.whole (omega arith)))

-- once it is sent, one packet more is sent
pub next_sent : (n : ℕ) (s t : Sending) (x : Item) → Sent n s → x ≡ byte_packet n → t.link ≡ s.link → t.lane ≡ s.lane → t.sent ≡ s.sent ++ x ∷ [] → Sent (n + 1) t
next_sent n s t x h e link lane sent = subst (λ (k : ℕ). Sent k t) (sym (add-one n)) (record {
  tb = h.tb;
  whole = h.whole;
  claims = ap (λ (k : Link). k.claims) link ∙ h.claims;
  lane = lane ∙ h.lane;
  packets = sent ∙ (λ i. h.packets i ++ e i ∷ []);
})

still_valid : (lane : Lane) (s : Stream Item) (x : Item) → Closes x → IsValid lane s → IsValid lane (with_item s x)
still_valid lane s (Audio f) c v = absurd c
still_valid lane s (Video f) c v = absurd c
still_valid lane s (Packet p) c v = absurd c
still_valid lane s (Trailer x) c v = absurd c
still_valid lane s End c v = record { shape = v.shape; few = v.few; in_time = v.in_time }
still_valid lane s Broken c v = record { shape = v.shape; few = v.few; in_time = v.in_time }

-- what closes may be sent
pub close_sends : (s : Sending) (x : Item) → IsGoing s → Closes x → Carries s.link.claims s.lane (s.sent ++ x ∷ [])
close_sends s x g c =
    let h = g.after in let open_mark : (stream_of (byte_packets g.count)).mark ≡ still_open = ap (λ (t : Stream Item). t.mark) (made g.count) in
    let v : IsValid (byte_lane h.tb) (stream_of (byte_packets g.count)) = (sends h.tb g.count h.whole g.few).valid in
    carries s (s.sent ++ x ∷ []) h.claims (moved (sym h.lane) (ap (λ xs. xs ++ x ∷ []) (sym h.packets)) (sending_push (byte_lane h.tb) (byte_packets g.count) x (sends h.tb g.count h.whole g.few) open_mark (still_valid (byte_lane h.tb) (stream_of (byte_packets g.count)) x c v)))
