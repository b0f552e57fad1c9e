-- What a write to the words does to the state.
use Rattle.std.proofs.Common.{◌≡◌, ◌≢◌, ℕ, zero, suc, ◌+◌, ◌*◌, ◌/◌, ◌%◌, ◌^◌, ◌<◌, true, false, List, [], ◌∷◌, length, map, set, get_or, replicate, Some, None, cond, take, nat_eq, ne_eqb, zero-add, sym, refl, ap, ◌∙◌, arith}
use Rattle.std.specs.Int.{bit_at}
use Rattle.std.proofs.lemmas.List.{take-set-le, map-set, get_or-set_same, get_or-set_other, get_or-map, get_or-take, length-take-le}
use Rattle.std.proofs.Math.Seq.{take-set-lt}
use Rattle.std.proofs.Math.ListN.{length-set}
use Rattle.ff_sched.specs.Bits.{upto, mark_at, four_at}
use Rattle.ff_sched.specs.laws.Words.{state_of, last_of}
use Rattle.ff_frame.specs.declared.event.Event.{Event}
use Rattle.ff_frame.specs.declared.event.Event.TheVariants.{Grant, Sent, Finished, Best, Exited}
use Rattle.ff_sched.specs.State.{State, last_at, finished_at, exited_at, best_at, opening_of}
use Rattle.ff_sched.specs.Events.{step_of}
use Rattle.ff_sched.proofs.Bits.{same_on, set_on, four_is, low_bit, high_bit}

counts : (ws : List ℕ) (n : ℕ) → length ws ≡ 20 → state_of (set ws 18 n) ≡ record (state_of ws) { count = n }
unfolding state_of
counts ws n long = λ i. record {
  last = map last_of (take-set-le 16 ws 18 n (omega arith) i);
  finished = map (mark_at (get_or-set_other ws 18 16 n 0 (λ q. omega arith) i)) (upto 0 16);
  exited = map (λ k. mark_at (get_or-set_other ws 18 16 n 0 (λ q. omega arith) i) (16 + k)) (upto 0 16);
  best = map (four_at (get_or-set_other ws 18 17 n 0 (λ q. omega arith) i)) (upto 0 16);
  count = get_or-set_same ws 18 n 0 (omega arith) i;
}

sends : (ws : List ℕ) (j t : ℕ) → length ws ≡ 20 → j < 16 → t < 2 ^ 63 → state_of (set ws j t) ≡ record (state_of ws) { last = set (state_of ws).last j (Some t) }
unfolding state_of
sends ws j t long lt small =
    let there : last_of t ≡ Some t = ap (λ b. cond b None (Some t)) (ne_eqb t 18446744073709551615 (λ q. omega arith)) in let front = take 16 ws in λ i. record {
      last = (ap (map last_of) (take-set-lt 16 ws j t lt) ∙ map-set last_of front j t ∙ ap (λ y. set (map last_of front) j y) there) i;
      finished = map (mark_at (get_or-set_other ws j 16 t 0 (λ q. omega arith) i)) (upto 0 16);
      exited = map (λ k. mark_at (get_or-set_other ws j 16 t 0 (λ q. omega arith) i) (16 + k)) (upto 0 16);
      best = map (four_at (get_or-set_other ws j 17 t 0 (λ q. omega arith) i)) (upto 0 16);
      count = get_or-set_other ws j 18 t 0 (λ q. omega arith) i;
    }

-- the word n has this bit more than the word m
IsMarked : ℕ → ℕ → ℕ → Type 0
IsMarked m b n = (bit_at n b ≡ 1) × ((i : ℕ) → i < 64 → i ≢ b → bit_at n i ≡ bit_at m i)

is_mark : (n b : ℕ) → bit_at n b ≡ 1 → mark_at n b ≡ true
is_mark n b e = ap (λ x. nat_eq x 1) e

finishes : (ws : List ℕ) (j n : ℕ) → length ws ≡ 20 → j < 16 → bit_at n j ≡ 1 → ((i : ℕ) → i < 64 → i ≢ j → bit_at n i ≡ bit_at (get_or ws 16 0) i) → state_of (set ws 16 n) ≡ record (state_of ws) { finished = set (state_of ws).finished j true }
unfolding state_of
finishes ws j n long lt at others =
    let m = get_or ws 16 0 in
    let here : get_or (set ws 16 n) 16 0 ≡ n = get_or-set_same ws 16 n 0 (omega arith) in
    let is : mark_at n (0 + j) ≡ true = ap (mark_at n) (zero-add j) ∙ is_mark n j at in λ i. record {
      last = map last_of (take-set-le 16 ws 16 n (omega arith) i);
      finished = ((λ x. map (mark_at (here x)) (upto 0 16)) ∙ set_on (mark_at n) (mark_at m) 0 16 j true lt is (λ k a b q. ap (λ x. nat_eq x 1) (others k (omega arith) (λ r. q (r ∙ sym (zero-add j)))))) i;
      exited = ((λ x. map (λ k. mark_at (here x) (16 + k)) (upto 0 16)) ∙ same_on (λ k. mark_at n (16 + k)) (λ k. mark_at m (16 + k)) 0 16 (λ k a b. ap (λ x. nat_eq x 1) (others (16 + k) (omega arith) (λ q. omega arith)))) i;
      best = map (four_at (get_or-set_other ws 16 17 n 0 (λ q. omega arith) i)) (upto 0 16);
      count = get_or-set_other ws 16 18 n 0 (λ q. omega arith) i;
    }

exits : (ws : List ℕ) (j n : ℕ) → length ws ≡ 20 → j < 16 → bit_at n (16 + j) ≡ 1 → ((i : ℕ) → i < 64 → i ≢ 16 + j → bit_at n i ≡ bit_at (get_or ws 16 0) i) → state_of (set ws 16 n) ≡ record (state_of ws) { exited = set (state_of ws).exited j true }
unfolding state_of
exits ws j n long lt at others =
    let m = get_or ws 16 0 in
    let here : get_or (set ws 16 n) 16 0 ≡ n = get_or-set_same ws 16 n 0 (omega arith) in
    let up : 16 + (0 + j) ≡ 16 + j = ap (λ x. 16 + x) (zero-add j) in λ i. record {
      last = map last_of (take-set-le 16 ws 16 n (omega arith) i);
      finished = ((λ x. map (mark_at (here x)) (upto 0 16)) ∙ same_on (mark_at n) (mark_at m) 0 16 (λ k a b. ap (λ x. nat_eq x 1) (others k (omega arith) (λ q. omega arith)))) i;
      exited = ((λ x. map (λ k. mark_at (here x) (16 + k)) (upto 0 16)) ∙ set_on (λ k. mark_at n (16 + k)) (λ k. mark_at m (16 + k)) 0 16 j true lt (ap (mark_at n) up ∙ is_mark n (16 + j) at) (λ k a b q. ap (λ x. nat_eq x 1) (others (16 + k) (omega arith) (λ r. q (omega arith))))) i;
      best = map (four_at (get_or-set_other ws 16 17 n 0 (λ q. omega arith) i)) (upto 0 16);
      count = get_or-set_other ws 16 18 n 0 (λ q. omega arith) i;
    }

chooses : (ws : List ℕ) (g n x : ℕ) → length ws ≡ 20 → g < 16 → four_at n g ≡ x → ((h : ℕ) → h < 16 → h ≢ g → four_at n h ≡ four_at (get_or ws 17 0) h) → state_of (set ws 17 n) ≡ record (state_of ws) { best = set (state_of ws).best g x }
unfolding state_of
chooses ws g n x long lt at others =
    let m = get_or ws 17 0 in
    let here : get_or (set ws 17 n) 17 0 ≡ n = get_or-set_same ws 17 n 0 (omega arith) in λ i. record {
      last = map last_of (take-set-le 16 ws 17 n (omega arith) i);
      finished = map (mark_at (get_or-set_other ws 17 16 n 0 (λ q. omega arith) i)) (upto 0 16);
      exited = map (λ k. mark_at (get_or-set_other ws 17 16 n 0 (λ q. omega arith) i) (16 + k)) (upto 0 16);
      best = ((λ y. map (four_at (here y)) (upto 0 16)) ∙ set_on (four_at n) (four_at m) 0 16 g x lt (ap (four_at n) (zero-add g) ∙ at) (λ h a b q. others h (omega arith) (λ r. q (r ∙ sym (zero-add g))))) i;
      count = get_or-set_other ws 17 18 n 0 (λ q. omega arith) i;
    }

-- one more event is counted
counted : (vs : List ℕ) (s : State) → length vs ≡ 20 → state_of vs ≡ s → get_or vs 18 0 ≡ s.count → state_of (set vs 18 (get_or vs 18 0 + 1)) ≡ record s { count = s.count + 1 }
counted vs s long e n = counts vs (get_or vs 18 0 + 1) long ∙ (λ i. record (e i) { count = n i + 1 })

pub count_is : (ws : List ℕ) → (state_of ws).count ≡ get_or ws 18 0
unfolding state_of
count_is ws = refl

pub step_grant : (ws : List ℕ) (k : ℕ) → length ws ≡ 20 → state_of (set ws 18 (get_or ws 18 0 + 1)) ≡ step_of (state_of ws) (Grant k)
step_grant ws k long = counted ws (state_of ws) long refl (sym (count_is ws))

after : (ws : List ℕ) (i v : ℕ) (s : State) → length ws ≡ 20 → i ≢ 18 → s.count ≡ (state_of ws).count → state_of (set ws i v) ≡ s → state_of (set (set ws i v) 18 (get_or (set ws i v) 18 0 + 1)) ≡ record s { count = s.count + 1 }
after ws i v s long ne c e = counted (set ws i v) s (length-set ws i v ∙ long) e (get_or-set_other ws i 18 v 0 (λ q. ne (sym q)) ∙ sym (c ∙ count_is ws))

pub step_sent : (ws : List ℕ) (j t : ℕ) → length ws ≡ 20 → j < 16 → t < 2 ^ 63 → state_of (set (set ws j t) 18 (get_or (set ws j t) 18 0 + 1)) ≡ step_of (state_of ws) (Sent j t)
step_sent ws j t long lt small = after ws j t (record (state_of ws) { last = set (state_of ws).last j (Some t) }) long (λ q. omega arith) refl (sends ws j t long lt small)

pub step_finished : (ws : List ℕ) (j n : ℕ) → length ws ≡ 20 → j < 16 → bit_at n j ≡ 1 → ((i : ℕ) → i < 64 → i ≢ j → bit_at n i ≡ bit_at (get_or ws 16 0) i)
    → state_of (set (set ws 16 n) 18 (get_or (set ws 16 n) 18 0 + 1)) ≡ step_of (state_of ws) (Finished j)
step_finished ws j n long lt at others = after ws 16 n (record (state_of ws) { finished = set (state_of ws).finished j true }) long (λ q. omega arith) refl (finishes ws j n long lt at others)

pub step_exited : (ws : List ℕ) (j n : ℕ) → length ws ≡ 20 → j < 16 → bit_at n (16 + j) ≡ 1 → ((i : ℕ) → i < 64 → i ≢ 16 + j → bit_at n i ≡ bit_at (get_or ws 16 0) i)
    → state_of (set (set ws 16 n) 18 (get_or (set ws 16 n) 18 0 + 1)) ≡ step_of (state_of ws) (Exited j)
step_exited ws j n long lt at others = after ws 16 n (record (state_of ws) { exited = set (state_of ws).exited j true }) long (λ q. omega arith) refl (exits ws j n long lt at others)

pub step_best : (ws : List ℕ) (g n x : ℕ) → length ws ≡ 20 → g < 16 → four_at n g ≡ x → ((h : ℕ) → h < 16 → h ≢ g → four_at n h ≡ four_at (get_or ws 17 0) h)
    → state_of (set (set ws 17 n) 18 (get_or (set ws 17 n) 18 0 + 1)) ≡ step_of (state_of ws) (Best g x)
step_best ws g n x long lt at others = after ws 17 n (record (state_of ws) { best = set (state_of ws).best g x }) long (λ q. omega arith) refl (chooses ws g n x long lt at others)

step_of-count : (s : State) (e : Event) → (step_of s e).count ≡ s.count + 1
step_of-count s (Grant k) = refl
step_of-count s (Sent j t) = refl
step_of-count s (Finished j) = refl
step_of-count s (Best g i) = refl
step_of-count s (Exited k) = refl

pub one_more : (ws vs : List ℕ) (e : Event) → state_of vs ≡ step_of (state_of ws) e → get_or vs 18 0 ≡ get_or ws 18 0 + 1
one_more ws vs e s = sym (count_is vs) ∙ ap (λ (x : State). x.count) s ∙ step_of-count (state_of ws) e ∙ ap (λ n. n + 1) (count_is ws)

mapped : {X : Type 0} (f : ℕ → X) (n k s : ℕ) (d : X) → s < k → get_or (map f (upto n k)) s d ≡ f (n + s)
mapped f n zero s d lt = absurd (omega arith)
mapped f n (suc k) zero d lt = let e : n ≡ n + 0 = omega arith in ap f e
mapped f n (suc k) (suc s) d lt = let e : suc n + s ≡ n + suc s = omega arith in mapped f (suc n) k s d (omega arith) ∙ ap f e

-- what the words show of each part of the state
pub exited_is : (ws : List ℕ) (s : ℕ) → s < 16 → exited_at (state_of ws) s ≡ nat_eq (get_or ws 16 0 / 2 ^ (16 + s) % 2) 1
unfolding state_of
exited_is ws s lt = mapped (λ k. mark_at (get_or ws 16 0) (16 + k)) 0 16 s true lt ∙ ap (λ k. mark_at (get_or ws 16 0) (16 + k)) (zero-add s)

pub finished_is : (ws : List ℕ) (j : ℕ) → j < 16 → finished_at (state_of ws) j ≡ nat_eq (get_or ws 16 0 / 2 ^ j % 2) 1
unfolding state_of
finished_is ws j lt = mapped (mark_at (get_or ws 16 0)) 0 16 j true lt ∙ ap (mark_at (get_or ws 16 0)) (zero-add j)

pub best_is : (ws : List ℕ) (g : ℕ) → g < 16 → best_at (state_of ws) g ≡ get_or ws 17 0 / 2 ^ (4 * g) % 16
unfolding state_of
best_is ws g lt = mapped (four_at (get_or ws 17 0)) 0 16 g 0 lt ∙ ap (four_at (get_or ws 17 0)) (zero-add g) ∙ sym (four_is (get_or ws 17 0) g)

pub last_is : (ws : List ℕ) (j : ℕ) → length ws ≡ 20 → j < 16 → last_at (state_of ws) j ≡ last_of (get_or ws j 0)
unfolding state_of
last_is ws j long lt = get_or-map last_of (take 16 ws) j 0 None (let l = length-take-le 16 ws (omega arith) in omega arith) ∙ ap last_of (get_or-take 16 ws j 0 lt)

pub none_sent : (n : ℕ) → n ≡ 18446744073709551615 → last_of n ≡ None
none_sent n e = ap last_of e

pub some_sent : (n : ℕ) → (n ≡ 18446744073709551615 → ⊥) → last_of n ≡ Some n
some_sent n ne = ap (λ b. cond b None (Some n)) (ne_eqb n 18446744073709551615 ne)

-- the words of an opening state
pub opens_with : (u m : ℕ) → m ≡ u * 2 ^ 16 → u < 2 ^ 16
    → state_of (18446744073709551615 ∷ 18446744073709551615 ∷ 18446744073709551615 ∷ 18446744073709551615 ∷ 18446744073709551615 ∷ 18446744073709551615 ∷ 18446744073709551615 ∷ 18446744073709551615
    ∷ 18446744073709551615 ∷ 18446744073709551615 ∷ 18446744073709551615 ∷ 18446744073709551615 ∷ 18446744073709551615 ∷ 18446744073709551615 ∷ 18446744073709551615 ∷ 18446744073709551615 ∷ m ∷ 0 ∷ 0 ∷ 0 ∷ []) ≡ opening_of u
unfolding state_of
opens_with u m e small = λ i. record {
  last = replicate 16 None;
  finished = same_on (mark_at m) (λ k. false) 0 16 (λ k a b. ap (λ x. nat_eq x 1) (ap (λ n. bit_at n k) e ∙ low_bit 16 u k b)) i;
  exited = same_on (λ k. mark_at m (16 + k)) (mark_at u) 0 16 (λ k a b. ap (λ x. nat_eq x 1) (ap (λ n. bit_at n (16 + k)) e ∙ high_bit 16 u k)) i;
  best = replicate 16 0;
  count = 0;
}
