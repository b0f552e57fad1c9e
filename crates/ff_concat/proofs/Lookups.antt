-- What stands at a place of a list, before and after one place of it was written.
use Rattle.std.proofs.Common.{◌≡◌, ◌≢◌, ℕ, zero, suc, ◌<◌, List, [], ◌∷◌, length, get_or, set, refl, ap, sym, ◌∙◌, arith}
use Rattle.ff_stream.specs.declared.item.Lane.{Lane}
use Rattle.ff_stream.specs.declared.item.Lane.TheVariants.{Frames}
use Rattle.ff_filter.specs.Joins.{Ports}
use Rattle.ff_concat.specs.declared.backlog.Backlog.{Backlog}
use Rattle.ff_concat.specs.declared.reach.Reach.{Reach}
use Rattle.ff_concat.specs.declared.track.Track.{Track}
use Rattle.ff_concat.specs.laws.Tracks.{after_at, end_at, gives_at, still_gives, ended_at, stopped_at, lanes_of}
use Rattle.ff_concat.specs.laws.Queues.{queue_at, least_at}

pub after_read : (xs : List Reach) (i : ℕ) (x : Reach) → i < length xs → x ≡ get_or xs i x → after_at xs i ≡ x.after
after_read [] i x lt e = absurd (omega arith)
after_read (y ∷ xs) zero x lt e = ap (λ (z : Reach). z.after) (sym e)
after_read (y ∷ xs) (suc i) x lt e = after_read xs i x (omega arith) e

pub after_set : (xs : List Reach) (i : ℕ) (x : Reach) → i < length xs → after_at (set xs i x) i ≡ x.after
after_set [] i x lt = absurd (omega arith)
after_set (y ∷ xs) zero x lt = refl
after_set (y ∷ xs) (suc i) x lt = after_set xs i x (omega arith)

pub after_other : (xs : List Reach) (i j : ℕ) (x : Reach) → j ≢ i → after_at (set xs i x) j ≡ after_at xs j
after_other [] i j x n = refl
after_other (y ∷ xs) zero zero x n = absurd (n refl)
after_other (y ∷ xs) zero (suc j) x n = refl
after_other (y ∷ xs) (suc i) zero x n = refl
after_other (y ∷ xs) (suc i) (suc j) x n = after_other xs i j x (λ e. n (ap suc e))

pub end_read : (xs : List Reach) (i : ℕ) (x : Reach) → i < length xs → x ≡ get_or xs i x → end_at xs i ≡ x.end
end_read [] i x lt e = absurd (omega arith)
end_read (y ∷ xs) zero x lt e = ap (λ (z : Reach). z.end) (sym e)
end_read (y ∷ xs) (suc i) x lt e = end_read xs i x (omega arith) e

pub end_set : (xs : List Reach) (i : ℕ) (x : Reach) → i < length xs → end_at (set xs i x) i ≡ x.end
end_set [] i x lt = absurd (omega arith)
end_set (y ∷ xs) zero x lt = refl
end_set (y ∷ xs) (suc i) x lt = end_set xs i x (omega arith)

pub end_other : (xs : List Reach) (i j : ℕ) (x : Reach) → j ≢ i → end_at (set xs i x) j ≡ end_at xs j
end_other [] i j x n = refl
end_other (y ∷ xs) zero zero x n = absurd (n refl)
end_other (y ∷ xs) zero (suc j) x n = refl
end_other (y ∷ xs) (suc i) zero x n = refl
end_other (y ∷ xs) (suc i) (suc j) x n = end_other xs i j x (λ e. n (ap suc e))

pub least_read : (xs : List Backlog) (i : ℕ) (x : Backlog) → i < length xs → x ≡ get_or xs i x → least_at xs i ≡ x.least
least_read [] i x lt e = absurd (omega arith)
least_read (y ∷ xs) zero x lt e = ap (λ (z : Backlog). z.least) (sym e)
least_read (y ∷ xs) (suc i) x lt e = least_read xs i x (omega arith) e

pub least_set : (xs : List Backlog) (i : ℕ) (x : Backlog) → i < length xs → least_at (set xs i x) i ≡ x.least
least_set [] i x lt = absurd (omega arith)
least_set (y ∷ xs) zero x lt = refl
least_set (y ∷ xs) (suc i) x lt = least_set xs i x (omega arith)

pub least_other : (xs : List Backlog) (i j : ℕ) (x : Backlog) → j ≢ i → least_at (set xs i x) j ≡ least_at xs j
least_other [] i j x n = refl
least_other (y ∷ xs) zero zero x n = absurd (n refl)
least_other (y ∷ xs) zero (suc j) x n = refl
least_other (y ∷ xs) (suc i) zero x n = refl
least_other (y ∷ xs) (suc i) (suc j) x n = least_other xs i j x (λ e. n (ap suc e))

pub queue_read : (xs : List Backlog) (i : ℕ) (x : Backlog) → i < length xs → x ≡ get_or xs i x → queue_at xs i ≡ x.queue.items
queue_read [] i x lt e = absurd (omega arith)
queue_read (y ∷ xs) zero x lt e = ap (λ (z : Backlog). z.queue.items) (sym e)
queue_read (y ∷ xs) (suc i) x lt e = queue_read xs i x (omega arith) e

pub queue_set : (xs : List Backlog) (i : ℕ) (x : Backlog) → i < length xs → queue_at (set xs i x) i ≡ x.queue.items
queue_set [] i x lt = absurd (omega arith)
queue_set (y ∷ xs) zero x lt = refl
queue_set (y ∷ xs) (suc i) x lt = queue_set xs i x (omega arith)

pub queue_other : (xs : List Backlog) (i j : ℕ) (x : Backlog) → j ≢ i → queue_at (set xs i x) j ≡ queue_at xs j
queue_other [] i j x n = refl
queue_other (y ∷ xs) zero zero x n = absurd (n refl)
queue_other (y ∷ xs) zero (suc j) x n = refl
queue_other (y ∷ xs) (suc i) zero x n = refl
queue_other (y ∷ xs) (suc i) (suc j) x n = queue_other xs i j x (λ e. n (ap suc e))

pub ended_read : (xs : List Track) (i : ℕ) (x : Track) → i < length xs → x ≡ get_or xs i x → ended_at xs i ≡ x.ended
ended_read [] i x lt e = absurd (omega arith)
ended_read (y ∷ xs) zero x lt e = ap (λ (z : Track). z.ended) (sym e)
ended_read (y ∷ xs) (suc i) x lt e = ended_read xs i x (omega arith) e

pub ended_set : (xs : List Track) (i : ℕ) (x : Track) → i < length xs → ended_at (set xs i x) i ≡ x.ended
ended_set [] i x lt = absurd (omega arith)
ended_set (y ∷ xs) zero x lt = refl
ended_set (y ∷ xs) (suc i) x lt = ended_set xs i x (omega arith)

pub ended_other : (xs : List Track) (i j : ℕ) (x : Track) → j ≢ i → ended_at (set xs i x) j ≡ ended_at xs j
ended_other [] i j x n = refl
ended_other (y ∷ xs) zero zero x n = absurd (n refl)
ended_other (y ∷ xs) zero (suc j) x n = refl
ended_other (y ∷ xs) (suc i) zero x n = refl
ended_other (y ∷ xs) (suc i) (suc j) x n = ended_other xs i j x (λ e. n (ap suc e))

pub stopped_read : (xs : List Track) (i : ℕ) (x : Track) → i < length xs → x ≡ get_or xs i x → stopped_at xs i ≡ x.stopped
stopped_read [] i x lt e = absurd (omega arith)
stopped_read (y ∷ xs) zero x lt e = ap (λ (z : Track). z.stopped) (sym e)
stopped_read (y ∷ xs) (suc i) x lt e = stopped_read xs i x (omega arith) e

pub stopped_set : (xs : List Track) (i : ℕ) (x : Track) → i < length xs → stopped_at (set xs i x) i ≡ x.stopped
stopped_set [] i x lt = absurd (omega arith)
stopped_set (y ∷ xs) zero x lt = refl
stopped_set (y ∷ xs) (suc i) x lt = stopped_set xs i x (omega arith)

pub stopped_other : (xs : List Track) (i j : ℕ) (x : Track) → j ≢ i → stopped_at (set xs i x) j ≡ stopped_at xs j
stopped_other [] i j x n = refl
stopped_other (y ∷ xs) zero zero x n = absurd (n refl)
stopped_other (y ∷ xs) zero (suc j) x n = refl
stopped_other (y ∷ xs) (suc i) zero x n = refl
stopped_other (y ∷ xs) (suc i) (suc j) x n = stopped_other xs i j x (λ e. n (ap suc e))

pub after_get : (xs : List Reach) (i : ℕ) (d : Reach) → i < length xs → after_at xs i ≡ (get_or xs i d).after
after_get [] i d lt = absurd (omega arith)
after_get (y ∷ xs) zero d lt = refl
after_get (y ∷ xs) (suc i) d lt = after_get xs i d (omega arith)

pub end_get : (xs : List Reach) (i : ℕ) (d : Reach) → i < length xs → end_at xs i ≡ (get_or xs i d).end
end_get [] i d lt = absurd (omega arith)
end_get (y ∷ xs) zero d lt = refl
end_get (y ∷ xs) (suc i) d lt = end_get xs i d (omega arith)

module _ (tick_list : List ℕ) (q : ℕ) (rs : List Reach) (ext : Ports) where
  pub gives_read : (ts : List Track) (i : ℕ) (t : Track) → i < length ts → t ≡ get_or ts i t → gives_at tick_list q ts i rs ext ≡ still_gives tick_list q t rs ext
  gives_read [] i t lt e = absurd (omega arith)
  gives_read (s ∷ ts) zero t lt e = ap (λ (u : Track). still_gives tick_list q u rs ext) (sym e)
  gives_read (s ∷ ts) (suc i) t lt e = gives_read ts i t (omega arith) e

  pub gives_set : (ts : List Track) (i : ℕ) (t : Track) → i < length ts → gives_at tick_list q (set ts i t) i rs ext ≡ still_gives tick_list q t rs ext
  gives_set [] i t lt = absurd (omega arith)
  gives_set (s ∷ ts) zero t lt = refl
  gives_set (s ∷ ts) (suc i) t lt = gives_set ts i t (omega arith)

  pub gives_other : (ts : List Track) (i j : ℕ) (t : Track) → j ≢ i → gives_at tick_list q (set ts i t) j rs ext ≡ gives_at tick_list q ts j rs ext
  gives_other [] i j t n = refl
  gives_other (s ∷ ts) zero zero t n = absurd (n refl)
  gives_other (s ∷ ts) zero (suc j) t n = refl
  gives_other (s ∷ ts) (suc i) zero t n = refl
  gives_other (s ∷ ts) (suc i) (suc j) t n = gives_other ts i j t (λ e. n (ap suc e))

-- where each track gives the same, so do all
pub gives_same : (tick_list : List ℕ) (q : ℕ) (ts : List Track) (i : ℕ) (rs ss : List Reach) (ext more : Ports)
    → ((t : Track) → still_gives tick_list q t rs ext ≡ still_gives tick_list q t ss more) → gives_at tick_list q ts i rs ext ≡ gives_at tick_list q ts i ss more
gives_same tick_list q [] i rs ss ext more h = refl
gives_same tick_list q (t ∷ ts) zero rs ss ext more h = h t
gives_same tick_list q (t ∷ ts) (suc i) rs ss ext more h = gives_same tick_list q ts i rs ss ext more h

pub lanes_set : (ts : List Track) (i : ℕ) (s t : Track) → i < length ts → s ≡ get_or ts i s → t.head ≡ s.head → lanes_of (set ts i t) ≡ lanes_of ts
lanes_set [] i s t lt e h = absurd (omega arith)
lanes_set (u ∷ ts) zero s t lt e h = ap (λ (l : Lane). l ∷ lanes_of ts) (ap Frames (h ∙ ap (λ (v : Track). v.head) e))
lanes_set (u ∷ ts) (suc i) s t lt e h = ap (λ (ls : List Lane). Frames u.head ∷ ls) (lanes_set ts i s t (omega arith) e h)
