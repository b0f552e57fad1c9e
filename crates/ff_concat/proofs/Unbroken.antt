-- Where no input breaks off, neither does an output.
use Rattle.std.proofs.Common.{◌≡◌, ◌≢◌, ℕ, zero, suc, ◌+◌, ◌*◌, Bool, true, false, List, [], ◌∷◌, map, length, refl}
use Rattle.std.specs.Prelude.{◌&&◌, slice_index}
use Rattle.ff_stream.specs.declared.item.Item.{Item}
use Rattle.ff_stream.specs.Stream.{Mark, still_open, whole, broken}
use Rattle.ff_stream.specs.Ports.{IsUnbroken}
use Rattle.ff_frame.specs.declared.head.StreamHead.{StreamHead}
use Rattle.ff_filter.specs.Joins.{Flow, Ports}
use Rattle.ff_filter.specs.Options.{is_video}
use Rattle.ff_concat.specs.Following.{followed_at}
use Rattle.ff_concat.specs.Tails.{Tail, tail_of, both, together, latest}
use Rattle.ff_concat.specs.Concats.{later, begin_in, Output, is_lost_at, is_lost, let_through, in_order, ticks_of, concatenated}
use Rattle.ff_concat.specs.laws.StartLaws.{uncut_at, start_free}

both_unbroken : (m n : Mark) → m ≢ broken → n ≢ broken → both m n ≢ broken
both_unbroken broken n u v = absurd (u refl)
both_unbroken whole n u v = v
both_unbroken still_open broken u v = absurd (v refl)
both_unbroken still_open whole u v = λ e. cc
both_unbroken still_open still_open u v = λ e. cc

together_unbroken : (w p : ℕ) (ts : ℕ → Tail) → ((j : ℕ) → (ts j).mark ≢ broken) → together w p ts ≢ broken
together_unbroken zero p ts h = λ e. cc
together_unbroken (suc w) p ts h = both_unbroken (together w p ts) (ts (p + w)).mark (together_unbroken w p ts h) (h (p + w))

not_lost_at : (xs : List Item) (k m : Mark) (b : Bool) → k ≢ broken → m ≢ broken → b ≡ false → is_lost_at xs k m b ≡ false
not_lost_at (x ∷ xs) k m b u v e = refl
not_lost_at [] still_open m b u v e = refl
not_lost_at [] broken m b u v e = absurd (u refl)
not_lost_at [] whole still_open b u v e = e
not_lost_at [] whole whole b u v e = e
not_lost_at [] whole broken b u v e = absurd (v refl)

pub not_lost : (w n k : ℕ) (own : ℕ → Flow) (ts : ℕ → Tail) → ((j : ℕ) → IsUnbroken (own j)) → ((j : ℕ) → (ts j).mark ≢ broken) → is_lost w n k own ts ≡ false
not_lost w zero k own ts h g = refl
not_lost w (suc n) k own ts h g =
    not_lost_at (own k).items (own k).mark (together w (k * w) ts) (is_lost w n (k + 1) own ts) (h k) (together_unbroken w (k * w) ts g) (not_lost w n (k + 1) own ts h g)

through_unbroken : (m : Mark) (v b : Bool) (next : Flow) → m ≢ broken → b ≡ false → IsUnbroken next → IsUnbroken (let_through m (v && b) next)
through_unbroken whole v b next u e n = n
through_unbroken broken v b next u e n = absurd (u refl)
through_unbroken still_open true true next u e n = cc
through_unbroken still_open true false next u e n = λ f. cc
through_unbroken still_open false b next u e n = λ f. cc

followed_unbroken : (xs : List Item) (m : Mark) (t : Flow) → m ≢ broken → IsUnbroken t → IsUnbroken (followed_at xs m t)
followed_unbroken xs still_open t u n = λ e. cc
followed_unbroken xs whole t u n = n
followed_unbroken xs broken t u n = absurd (u refl)

in_order-unbroken : (tick_list : List ℕ) (out : Output) (n k time end : ℕ) (own : ℕ → Flow) (ts : ℕ → Tail) → ((j : ℕ) → IsUnbroken (own j))
    → ((j : ℕ) → (ts j).mark ≢ broken) → IsUnbroken (in_order tick_list out n k time end own ts)
in_order-unbroken tick_list out zero k time end own ts h g = λ e. cc
in_order-unbroken tick_list out (suc n) k time end own ts h g =
    let w = length tick_list in
    let p = k * w in
    let c = begin_in out.tick time in
    let next = in_order tick_list out n (k + 1) (time + latest tick_list w p ts) (c + (ts (p + out.number)).end) own ts in
    followed_unbroken (map (later c) (own k).items) (own k).mark (let_through (together w p ts) (is_video out.head && is_lost w n (k + 1) own ts) next) (h k)
    (through_unbroken (together w p ts) (is_video out.head) (is_lost w n (k + 1) own ts) next (together_unbroken w p ts g) (not_lost w n (k + 1) own ts h g)
    (in_order-unbroken tick_list out n (k + 1) (time + latest tick_list w p ts) (c + (ts (p + out.number)).end) own ts h g))

pub unbroken : (heads : List StreamHead) (head : StreamHead) (q n : ℕ) (ss : Ports) → ((p : ℕ) → IsUnbroken (ss p)) → IsUnbroken (concatenated heads head q n ss)
unbroken heads head q n ss h =
    in_order-unbroken (ticks_of heads) (record { head = head; tick = slice_index (ticks_of heads) q; number = q }) n 0 0 0 (λ k. ss (k * length heads + q))
    (λ p. tail_of (ss p)) (λ k. h (k * length heads + q)) (λ p. h p)

uncut_unbroken : (all : List StreamHead) (n q : ℕ) (hs : List StreamHead) (i : ℕ) (ss : Ports) → ((p : ℕ) → IsUnbroken (ss p)) → IsUnbroken (uncut_at all n q hs i ss)
uncut_unbroken all n q [] i ss u = λ e. cc
uncut_unbroken all n q (h ∷ hs) zero ss u = unbroken all h q n ss u
uncut_unbroken all n q (h ∷ hs) (suc i) ss u = uncut_unbroken all n q hs i ss u

-- where no input breaks off, no output would without limits
pub free_unbroken : (m : List StreamHead × ℕ) (ss : Ports) → ((p : ℕ) → IsUnbroken (ss p)) → (q : ℕ) → IsUnbroken (start_free m ss q)
free_unbroken m ss u q = uncut_unbroken m.0 m.1 q m.0 q ss u
