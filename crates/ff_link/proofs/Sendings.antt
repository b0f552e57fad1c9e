-- Sendings are closed under fronts, and no sending is long.
use Rattle.std.proofs.Common.{◌≡◌, ◌≤◌, ◌+◌, ◌^◌, ℕ, Bool, true, false, List, [], ◌∷◌, ◌++◌, length, refl, sym, subst, arith, length-append}
use Rattle.ff_stream.specs.declared.item.Item.{Item}
use Rattle.ff_stream.specs.declared.item.Item.TheVariants.{Audio, Video, Packet, Trailer, End, Broken}
use Rattle.ff_stream.specs.declared.item.Lane.{Lane}
use Rattle.ff_stream.specs.Stream.{Stream, still_open}
use Rattle.ff_stream.specs.Items.{with_item, Leads}
use Rattle.ff_stream.specs.Lanes.{IsValid}
use Rattle.ff_stream.specs.laws.LaneLaws.{valid_below, nothing_valid}
use Rattle.ff_stream.specs.laws.Order.{leads_below, leads_push}
use Rattle.ff_stream.specs.Ports.{nothing}
use Rattle.ff_link.specs.laws.Sendings.{stream_from, stream_of, IsSending, Carries}

-- what items lead to is the stream that they make
pub leads_to : (s : Stream Item) (xs : List Item) (t : Stream Item) → Leads s xs t → stream_from s xs ≡ t
leads_to s [] t e = e
leads_to s (x ∷ xs) t h = leads_to (with_item s x) xs t h.1

leads_front : (s : Stream Item) (xs ys : List Item) → Leads s (xs ++ ys) (stream_from s (xs ++ ys)) → Leads s xs (stream_from s xs) × Leads (stream_from s xs) ys (stream_from s (xs ++ ys))
leads_front s [] ys h = (refl, h)
leads_front s (x ∷ xs) ys h = let r = leads_front (with_item s x) xs ys h.1 in ((h.0, r.0), r.1)

pub stream_from-append : (s : Stream Item) (xs ys : List Item) → stream_from s (xs ++ ys) ≡ stream_from (stream_from s xs) ys
stream_from-append s [] ys = refl
stream_from-append s (x ∷ xs) ys = stream_from-append (with_item s x) xs ys

-- the front of a sending is one
pub sending_front : (lane : Lane) (xs ys : List Item) → IsSending lane (xs ++ ys) → IsSending lane xs
sending_front lane xs ys h =
    let p = leads_front nothing xs ys h.none_behind in record {
      none_behind = p.0;
      valid = valid_below lane (stream_of xs) (stream_of (xs ++ ys)) (leads_below ys (stream_of xs) (stream_of (xs ++ ys)) p.1) h.valid;
    }

pub nothing_sent : (lane : Lane) → IsSending lane []
nothing_sent lane = record { none_behind = refl; valid = nothing_valid lane }

-- one item more, behind items that close nothing
pub sending_push : (lane : Lane) (xs : List Item) (x : Item) → IsSending lane xs → (stream_of xs).mark ≡ still_open → IsValid lane (with_item (stream_of xs) x) → IsSending lane (xs ++ x ∷ [])
sending_push lane xs x h o v =
    let same : stream_of (xs ++ x ∷ []) ≡ with_item (stream_of xs) x = stream_from-append nothing xs (x ∷ []) in record {
      none_behind = subst (λ (t : Stream Item). Leads nothing (xs ++ x ∷ []) t) (sym same) (leads_push xs nothing (stream_of xs) x h.none_behind o);
      valid = subst (λ (t : Stream Item). IsValid lane t) (sym same) v;
    }

-- an item at most is none of its stream's items
length_from : (s : Stream Item) (xs : List Item) → Leads s xs (stream_from s xs) → length s.items + length xs ≤ length (stream_from s xs).items + 1
length_from s [] h = omega arith
length_from s (Audio f ∷ xs) h = let r = length_from (with_item s (Audio f)) xs h.1 in let l = length-append s.items (Audio f ∷ []) in omega arith
length_from s (Video f ∷ xs) h = let r = length_from (with_item s (Video f)) xs h.1 in let l = length-append s.items (Video f ∷ []) in omega arith
length_from s (Packet p ∷ xs) h = let r = length_from (with_item s (Packet p)) xs h.1 in let l = length-append s.items (Packet p ∷ []) in omega arith
length_from s (Trailer t ∷ xs) h = let r = length_from (with_item s (Trailer t)) xs h.1 in let l = length-append s.items (Trailer t ∷ []) in omega arith
length_from s (End ∷ []) h = omega arith
length_from s (End ∷ y ∷ ys) h = let shut = h.1.0 in cc
length_from s (Broken ∷ []) h = omega arith
length_from s (Broken ∷ y ∷ ys) h = let shut = h.1.0 in cc

pub sending_few : (lane : Lane) (xs : List Item) → IsSending lane xs → length xs ≤ 2 ^ 40 + 1
sending_few lane xs h = let l = length_from nothing xs h.none_behind in let f = h.valid.few in omega arith

-- what a link carries is as few
pub carried_few : (claims : Bool) (lane : Lane) (xs : List Item) → Carries claims lane xs → length xs ≤ 2 ^ 40 + 1
carried_few true lane xs h = sending_few lane xs h
carried_few false lane xs h = h

pub carried_front : (claims : Bool) (lane : Lane) (xs ys : List Item) → Carries claims lane (xs ++ ys) → Carries claims lane xs
carried_front true lane xs ys h = sending_front lane xs ys h
carried_front false lane xs ys h = (let l = length-append xs ys in omega (arith, h))

pub nothing_carried : (claims : Bool) (lane : Lane) → Carries claims lane []
nothing_carried true lane = nothing_sent lane
nothing_carried false lane = omega arith

-- before the last item was counted, the count had room
pub count_few : (claims : Bool) (lane : Lane) (xs : List Item) (x : Item) (n : ℕ) → n ≡ length xs → Carries claims lane (xs ++ x ∷ []) → n ≤ 2 ^ 40
count_few claims lane xs x n e h = let f = carried_few claims lane (xs ++ x ∷ []) h in let l = length-append xs (x ∷ []) in omega arith
