-- The machine to which nothing came.
use Rattle.std.proofs.Common.{◌≡◌, ℕ, zero, suc, ◌+◌, ◌-◌, ◌*◌, ◌<◌, ◌≤◌, ◌^◌, false, List, [], ◌∷◌, ◌++◌, length, refl, ap, sym, ◌∙◌, subst, arith}
use Rattle.std.proofs.lemmas.List.{length-append}
use Rattle.ff_frame.specs.declared.head.StreamHead.{StreamHead}
use Rattle.ff_frame.specs.Heads.{base_of_head}
use Rattle.ff_stream.specs.declared.item.Item.{Item}
use Rattle.ff_stream.specs.declared.item.Lane.TheVariants.{Frames}
use Rattle.ff_stream.specs.Within.{within, passes_limits}
use Rattle.ff_filter.specs.declared.after.After.{After}
use Rattle.ff_filter.specs.declared.after.After.TheVariants.{More}
use Rattle.ff_filter.specs.Joins.{Flow, Ports}
use Rattle.ff_filter.specs.laws.Limits.{limited_is}
use Rattle.ff_filter.specs.Made.{waiting, is_over}
use Rattle.ff_concat.specs.declared.backlog.Backlog.{Backlog}
use Rattle.ff_concat.specs.declared.reach.Reach.{Reach}
use Rattle.ff_concat.specs.declared.track.Track.{Track}
use Rattle.ff_concat.specs.Tails.{Tail, tail_of}
use Rattle.ff_concat.specs.Concats.{in_order}
use Rattle.ff_concat.specs.ConcatOptions.{whole_at, start_view, repeated}
use Rattle.ff_concat.specs.laws.Tracks.{end_at, after_at, tail_on, tails, own, output_of, still_gives, gives_at, ended_at, stopped_at, view_of}
use Rattle.ff_concat.specs.laws.Queues.{queue_at, least_at}
use Rattle.ff_concat.specs.laws.Fresh.{AreEmpty, AreNew, IsFresh}
use Rattle.ff_concat.proofs.Same.{gives_eq}

queue_more : (bs : List Backlog) (b : Backlog) → b.queue.items ≡ [] → ((k : ℕ) → queue_at bs k ≡ []) → (k : ℕ) → queue_at (bs ++ b ∷ []) k ≡ []
queue_more [] b e h zero = e
queue_more [] b e h (suc k) = refl
queue_more (c ∷ bs) b e h zero = h zero
queue_more (c ∷ bs) b e h (suc k) = queue_more bs b e (λ j. h (suc j)) k

end_more : (rs : List Reach) (r : Reach) → r.end ≡ 0 → ((p : ℕ) → end_at rs p ≡ 0) → (p : ℕ) → end_at (rs ++ r ∷ []) p ≡ 0
end_more [] r e h zero = e
end_more [] r e h (suc p) = refl
end_more (s ∷ rs) r e h zero = h zero
end_more (s ∷ rs) r e h (suc p) = end_more rs r e (λ j. h (suc j)) p

after_more : (rs : List Reach) (r : Reach) → r.after ≡ More → ((p : ℕ) → after_at rs p ≡ More) → (p : ℕ) → after_at (rs ++ r ∷ []) p ≡ More
after_more [] r e h zero = e
after_more [] r e h (suc p) = refl
after_more (s ∷ rs) r e h zero = h zero
after_more (s ∷ rs) r e h (suc p) = after_more rs r e (λ j. h (suc j)) p

far_more : (bs : List Backlog) (b : Backlog) → 2 ^ 127 ≤ b.least → ((k : ℕ) → k < length bs → 2 ^ 127 ≤ least_at bs k)
    → (k : ℕ) → k < length (bs ++ b ∷ []) → 2 ^ 127 ≤ least_at (bs ++ b ∷ []) k
far_more [] b e h zero lt = e
far_more [] b e h (suc k) lt = absurd (omega (arith, lt))
far_more (c ∷ bs) b e h zero lt = h zero (omega arith)
far_more (c ∷ bs) b e h (suc k) lt = far_more bs b e (λ j l. h (suc j) (omega (arith, l))) k (omega (arith, lt))

pub empty_more : (n : ℕ) (bs cs : List Backlog) (b : Backlog) → b.queue.items ≡ [] → 2 ^ 127 ≤ b.least → AreEmpty n bs → cs ≡ bs ++ b ∷ [] → AreEmpty (n + 1) cs
empty_more n bs cs b e f h is = subst (λ (ds : List Backlog). AreEmpty (n + 1) ds) (sym is) (record {
  count = let l = length-append bs (b ∷ []) in let c = h.count in omega (arith, l, c);
  empty = queue_more bs b e h.empty;
  far = far_more bs b f h.far;
})

pub new_more : (n : ℕ) (rs ss : List Reach) (r : Reach) → r.end ≡ 0 → r.after ≡ More → AreNew n rs → ss ≡ rs ++ r ∷ [] → AreNew (n + 1) ss
new_more n rs ss r e a h is = subst (λ (us : List Reach). AreNew (n + 1) us) (sym is) (record {
  count = let l = length-append rs (r ∷ []) in let c = h.count in omega (arith, l, c);
  ends = end_more rs r e h.ends;
  afters = after_more rs r a h.afters;
})

-- an output that gave nothing yet still gives all
fresh_gives : (tick_list : List ℕ) (q n m tick : ℕ) (head : StreamHead) (t : Track) (rs : List Reach) (ext : Ports) → IsFresh head tick n t → AreNew m rs
    → still_gives tick_list q t rs ext
    ≡ within (passes_limits (Frames head)) (in_order tick_list (output_of head tick q) n 0 0 0 (λ k. ext (k * length tick_list + q)) (λ p. tail_of (ext p)))
fresh_gives tick_list q n m tick head t rs ext f new =
    let w = length tick_list in
    let o : ℕ → Flow = λ k. ext (k * w + q) in
    let u : ℕ → Tail = λ p. tail_of (ext p) in
    let waits : own t.backlogs.items rs w q ext ≡ o = λ i k. (ap (λ (xs : List Item). waiting xs (after_at rs (k * w + q)) (ext (k * w + q))) (f.backlogs.empty k)
    ∙ ap (λ (a : After). waiting [] a (ext (k * w + q))) (new.afters (k * w + q))) i in
    let far : tails rs ext ≡ u = λ i p. (ap (λ (e : ℕ). tail_on e (after_at rs p) (ext p)) (new.ends p) ∙ ap (λ (a : After). tail_on 0 a (ext p)) (new.afters p)) i in
    let long : length t.backlogs.items - t.current ≡ n = let c = f.backlogs.count in let k = f.current in omega (arith, c, k) in
    gives_eq tick_list q t.ended false t.head head t.tick tick t.before 0 (length t.backlogs.items - t.current) n t.current 0 t.begin 0 t.end 0
    (own t.backlogs.items rs w q ext) o (tails rs ext) u f.ended f.head_is f.tick_is f.before long f.current f.begin f.end waits far
    ∙ limited_is (passes_limits (Frames head)) (in_order tick_list (output_of head tick q) n 0 0 0 o u)

pub start_one : (h : StreamHead) (tick n : ℕ) (t : Track) (rs : List Reach) → IsFresh h tick n t → AreNew n rs → tick ≡ (base_of_head h).num
    → view_of (tick ∷ []) n rs (t ∷ []) ≡ start_view (h ∷ [], n)
start_one h tick n t rs f new e = λ i. record {
  ins = repeated n (Frames (f.head_is i) ∷ []);
  outs = Frames (f.head_is i) ∷ [];
  rest = λ ext q. rest q ext i;
  shut = λ p. shut p i;
  ended = λ q. ended q i;
  stopped = λ q. stopped q i;
}
  where
    unit : tick ≡ (base_of_head h).num * (1 * 1)
    unit = omega (arith, e)

    rest : (q : ℕ) (ext : Ports) → gives_at (tick ∷ []) q (t ∷ []) q rs ext ≡ whole_at (h ∷ []) n q (h ∷ []) q ext
    rest zero ext = fresh_gives (tick ∷ []) 0 n n tick h t rs ext f new
        ∙ ap (λ (k : ℕ). within (passes_limits (Frames h)) (in_order (k ∷ []) (output_of h k 0) n 0 0 0 (λ j. ext (j * 1 + 0)) (λ p. tail_of (ext p)))) unit
    rest (suc q) ext = refl

    shut : (p : ℕ) → is_over (after_at rs p) ≡ false
    shut p = ap is_over (new.afters p)

    ended : (q : ℕ) → ended_at (t ∷ []) q ≡ false
    ended zero = f.ended
    ended (suc q) = refl

    stopped : (q : ℕ) → stopped_at (t ∷ []) q ≡ false
    stopped zero = f.stopped
    stopped (suc q) = refl

pub start_two : (h g : StreamHead) (a b n m : ℕ) (t u : Track) (rs : List Reach) → IsFresh h a n t → IsFresh g b n u → AreNew m rs
    → a ≡ (base_of_head h).num * (base_of_head g).den → b ≡ (base_of_head g).num * (base_of_head h).den
    → view_of (a ∷ b ∷ []) n rs (t ∷ u ∷ []) ≡ start_view (h ∷ g ∷ [], n)
start_two h g a b n m t u rs f k new d e = λ i. record {
  ins = repeated n (Frames (f.head_is i) ∷ Frames (k.head_is i) ∷ []);
  outs = Frames (f.head_is i) ∷ Frames (k.head_is i) ∷ [];
  rest = λ ext q. rest q ext i;
  shut = λ p. shut p i;
  ended = λ q. ended q i;
  stopped = λ q. stopped q i;
}
  where
    unit : a ≡ (base_of_head h).num * (1 * ((base_of_head g).den * 1))
    unit = omega (arith, d)

    other : b ≡ (base_of_head g).num * ((1 * (base_of_head h).den) * 1)
    other = omega (arith, e)

    rest : (q : ℕ) (ext : Ports) → gives_at (a ∷ b ∷ []) q (t ∷ u ∷ []) q rs ext ≡ whole_at (h ∷ g ∷ []) n q (h ∷ g ∷ []) q ext
    rest zero ext = fresh_gives (a ∷ b ∷ []) 0 n m a h t rs ext f new
        ∙ (ap (λ (x : ℕ). within (passes_limits (Frames h)) (in_order (x ∷ b ∷ []) (output_of h x 0) n 0 0 0 (λ j. ext (j * 2 + 0)) (λ p. tail_of (ext p)))) unit
        ∙ ap (λ (x : ℕ). within (passes_limits (Frames h)) (in_order ((base_of_head h).num * (1 * ((base_of_head g).den * 1)) ∷ x ∷ [])
        (output_of h ((base_of_head h).num * (1 * ((base_of_head g).den * 1))) 0) n 0 0 0 (λ j. ext (j * 2 + 0)) (λ p. tail_of (ext p)))) other)
    rest (suc zero) ext = fresh_gives (a ∷ b ∷ []) 1 n m b g u rs ext k new
        ∙ (ap (λ (x : ℕ). within (passes_limits (Frames g)) (in_order (x ∷ b ∷ []) (output_of g b 1) n 0 0 0 (λ j. ext (j * 2 + 1)) (λ p. tail_of (ext p)))) unit
        ∙ ap (λ (x : ℕ). within (passes_limits (Frames g)) (in_order ((base_of_head h).num * (1 * ((base_of_head g).den * 1)) ∷ x ∷ [])
        (output_of g x 1) n 0 0 0 (λ j. ext (j * 2 + 1)) (λ p. tail_of (ext p)))) other)
    rest (suc (suc q)) ext = refl

    shut : (p : ℕ) → is_over (after_at rs p) ≡ false
    shut p = ap is_over (new.afters p)

    ended : (q : ℕ) → ended_at (t ∷ u ∷ []) q ≡ false
    ended zero = f.ended
    ended (suc zero) = k.ended
    ended (suc (suc q)) = refl

    stopped : (q : ℕ) → stopped_at (t ∷ u ∷ []) q ≡ false
    stopped zero = f.stopped
    stopped (suc zero) = k.stopped
    stopped (suc (suc q)) = refl
