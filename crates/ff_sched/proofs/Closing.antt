-- Passes put together, and the history written from their logs.
use Rattle.std.proofs.Common.{◌≡◌, ◌≢◌, ℕ, zero, suc, ◌+◌, ◌<◌, ◌≤◌, ◌⊎◌, inl, inr, ⊎_elim, Bool, true, false, List, [], ◌∷◌, ◌++◌, length, set, take, get_or, drop, slice_get, Some, if◌then◌else◌, nat_eq, sym, refl, ap, ◌∙◌, subst, append_assoc, append-nil, length-append, arith, All, sum_by}
use borrow.Author.Tests.{eqb-true, eqb-false}
use Rattle.std.proofs.Math.ListN.{length-set}
use Rattle.std.proofs.lemmas.List.{map-append, take_more, take-append-drop}
use Rattle.std.proofs.lemmas.List.Sums.{sum_by-append, sum_by-cons}
use Rattle.std.proofs.lemmas.List.Elements.{All-nil, All-cons, All-head, All-tail, All-append, All-weaker}
use Rattle.ff_frame.specs.declared.event.Event.{Event}
use Rattle.ff_sched.specs.declared.logged.Logged.{Logged}
use Rattle.ff_sched.specs.declared.routes.Routes.{Routes}
use Rattle.ff_sched.specs.declared.rule.View.{View}
use Rattle.ff_sched.specs.State.{State}
use Rattle.ff_sched.specs.Histories.{IsLegal, StandsIn, logged, numbered, weigh, all_in, StartsWith, Rises}
use Rattle.ff_sched.specs.laws.Rule.{HasAll, joined}
use Rattle.ff_sched.specs.laws.Passing.{Scheduler, Passing, IsHistory, logs_of}
use Rattle.ff_sched.specs.laws.Writing.{write_all, Gathers}
use Rattle.ff_sched.proofs.Unchoking.{none_some, some_is}
use Rattle.ff_sched.proofs.Histories.{weigh-append, weigh_one, length-numbered}

pub write_all-append : (xs ys : List Logged) (es : List Event) → write_all (xs ++ ys) es ≡ write_all ys (write_all xs es)
write_all-append [] ys es = refl
write_all-append (x ∷ xs) ys es = write_all-append xs ys (set es x.place x.event)

pub all_left : {X : Type 0} (P : X → Type 0) (xs ys : List X) → All P (xs ++ ys) → All P xs
all_left P [] ys a = All-nil P
all_left P (x ∷ xs) ys a = All-cons P x xs (All-head P x (xs ++ ys) a) (all_left P xs ys (All-tail P x (xs ++ ys) a))

pub all_right : {X : Type 0} (P : X → Type 0) (xs ys : List X) → All P (xs ++ ys) → All P ys
all_right P [] ys a = a
all_right P (x ∷ xs) ys a = all_right P xs ys (All-tail P x (xs ++ ys) a)

pub all_last : {X : Type 0} (P : X → Type 0) (xs : List X) (y : X) → All P (xs ++ y ∷ []) → P y
all_last P xs y a = All-head P y [] (all_right P xs (y ∷ []) a)

get_set_same : (xs : List Event) (i : ℕ) (y : Event) → i < length xs → slice_get (set xs i y) i ≡ Some y
get_set_same [] i y lt = absurd (omega arith)
get_set_same (x ∷ xs) zero y lt = refl
get_set_same (x ∷ xs) (suc i) y lt = get_set_same xs i y (omega arith)

get_set_other : (xs : List Event) (i j : ℕ) (y : Event) → i ≢ j → slice_get (set xs i y) j ≡ slice_get xs j
get_set_other [] i j y ne = refl
get_set_other (x ∷ xs) zero zero y ne = absurd (ne refl)
get_set_other (x ∷ xs) zero (suc j) y ne = refl
get_set_other (x ∷ xs) (suc i) zero y ne = refl
get_set_other (x ∷ xs) (suc i) (suc j) y ne = get_set_other xs i j y (λ e. ne (ap suc e))

pub there : (xs : List Event) (i : ℕ) (y : Event) → slice_get xs i ≡ Some y → i < length xs
there [] i y e = absurd (none_some y e)
there (x ∷ xs) zero y e = omega arith
there (x ∷ xs) (suc i) y e = let r = there xs i y e in omega arith

same_get : (xs ys : List Event) → length xs ≡ length ys → ((p : ℕ) → p < length ys → slice_get xs p ≡ slice_get ys p) → xs ≡ ys
same_get [] [] e h = refl
same_get [] (y ∷ ys) e h = absurd (omega arith)
same_get (x ∷ xs) [] e h = absurd (omega arith)
same_get (x ∷ xs) (y ∷ ys) e h = λ i. some_is x y (h 0 (omega arith)) i ∷ same_get xs ys (omega arith) (λ p lt. h (suc p) (omega arith)) i

pub write_more : (log : List Logged) (i : ℕ) (d : Logged) (es : List Event) → i < length log → write_all (take (i + 1) log) es ≡ set (write_all (take i log) es) (get_or log i d).place (get_or log i d).event
write_more log i d es lt = ap (λ l. write_all l es) (take_more log i d lt) ∙ write_all-append (take i log) (get_or log i d ∷ []) es

pub written_more : (log' log : List Logged) (i : ℕ) (d : Logged) (old es : List Event) → log' ≡ log → i < length log → es ≡ write_all (take i log) old → set es (get_or log' i d).place (get_or log' i d).event ≡ write_all (take (i + 1) log) old
written_more log' log i d old es same lt written = (λ k. set (written k) (get_or (same k) i d).place (get_or (same k) i d).event) ∙ sym (write_more log i d old lt)

-- whether an entry has this place
pub times : ℕ → Logged → ℕ
times p l = if nat_eq l.place p then 1 else 0

times_here : (p : ℕ) (l : Logged) → l.place ≡ p → times p l ≡ 1
unfolding times
times_here p l e = split (nat_eq l.place p) refl
  where
    split : (b : Bool) → nat_eq l.place p ≡ b → ◌≡◌ {A = ℕ} (if b then 1 else 0) 1
    split true q = refl
    split false q = absurd (eqb-false l.place p q e)

pub times_other : (p : ℕ) (l : Logged) → (l.place ≡ p → ⊥) → times p l ≡ 0
unfolding times
times_other p l ne = split (nat_eq l.place p) refl
  where
    split : (b : Bool) → nat_eq l.place p ≡ b → ◌≡◌ {A = ℕ} (if b then 1 else 0) 0
    split true q = absurd (ne (eqb-true l.place p q))
    split false q = refl

-- where each entry is right, and each place is right already or written, the whole is
writes : (ls : List Logged) (es seen : List Event) → length es ≡ length seen → All (StandsIn seen) ls → ((p : ℕ) → p < length seen → (slice_get es p ≡ slice_get seen p) ⊎ (0 < weigh (times p) ls)) → write_all ls es ≡ seen
writes [] es seen len stand hit = same_get es seen len (λ p lt. ⊎_elim (λ e. e) (λ w. absurd (omega arith)) (hit p lt))
writes (l ∷ ls) es seen len stand hit = writes ls (set es l.place l.event) seen (length-set es l.place l.event ∙ len) (All-tail (StandsIn seen) l ls stand) (λ p lt. next p lt (nat_eq l.place p) refl)
  where
    here : StandsIn seen l
    here = All-head (StandsIn seen) l ls stand

    next : (p : ℕ) → p < length seen → (b : Bool) → nat_eq l.place p ≡ b → (slice_get (set es l.place l.event) p ≡ slice_get seen p) ⊎ (0 < weigh (times p) ls)
    next p lt true q = let e = eqb-true l.place p q in inl (subst (λ (i : ℕ). slice_get (set es l.place l.event) i ≡ slice_get seen i) e (get_set_same es l.place l.event (let r = there seen l.place l.event here in omega arith) ∙ sym here))
    next p lt false q = let ne = eqb-false l.place p q in ⊎_elim (λ e. inl (get_set_other es l.place p l.event ne ∙ e)) (λ w. inr (let z = times_other p l ne in omega arith)) (hit p lt)

pub hits : (n : ℕ) (es : List Event) (p : ℕ) → n ≤ p → p < n + length es → 0 < weigh (times p) (numbered n es)
hits n [] p le lt = absurd (omega arith)
hits n (e ∷ es) p le lt = split (nat_eq n p) refl (λ low high. hits (n + 1) es p low high)
  where
    split : (b : Bool) → nat_eq n p ≡ b → (n + 1 ≤ p → p < n + 1 + length es → 0 < weigh (times p) (numbered (n + 1) es)) → 0 < weigh (times p) (numbered n (e ∷ es))
    split true q on = let t = times_here p (logged n e) (eqb-true n p q) in omega arith
    split false q on = let ne = eqb-false n p q in let h = on (omega arith) (omega arith) in omega arith

all_in-snoc : (ls : List (List Logged)) (l : List Logged) → all_in (ls ++ l ∷ []) ≡ all_in ls ++ l
all_in-snoc [] l = append-nil l
all_in-snoc (x ∷ xs) l = ap (λ r. x ++ r) (all_in-snoc xs l) ∙ sym (append_assoc x (all_in xs) l)

pub logs-snoc : (ps : List Passing) (p : Passing) → all_in (logs_of (ps ++ p ∷ [])) ≡ all_in (logs_of ps) ++ p.log
logs-snoc ps p = ap all_in (map-append (λ (q : Passing). q.log) ps (p ∷ [])) ∙ all_in-snoc (logs_of ps) p.log

shares-snoc : (ps : List Passing) (p : Passing) → sum_by (λ q. q.share) (ps ++ p ∷ []) ≡ sum_by (λ q. q.share) ps + p.share
shares-snoc ps p = let f : Passing → ℕ = λ q. q.share in omega (arith, sum_by-append f ps (p ∷ []), sum_by-cons f p [])

pub gathers_none : (v : View) → Gathers [] v v
gathers_none v = record { rise = All-nil (λ (p : Passing). Rises (length p.seen) p.log); share = omega arith; mine = sym (append-nil v.mine); opened = λ e. e; routes = λ r e a. e; opening = λ o e a. e; sights = λ es s a. (s, All-nil (λ (p : Passing). StartsWith es p.seen)) }

-- one more pass, whose view is u
pub gathers_more : (ps : List Passing) (p : Passing) (v w u : View) → Gathers ps v w → Rises (length p.seen) p.log → p.share ≡ u.share → p.log ≡ u.mine → u.opened ≡ true → p.cell.routes ≡ u.routes → p.cell.opening ≡ u.opening → p.seen ≡ u.seen → Gathers (ps ++ p ∷ []) v (joined w u)
gathers_more ps p v w u g rises share log known routes opening seen = record {
  rise = All-append (λ (q : Passing). Rises (length q.seen) q.log) ps (p ∷ []) g.rise (All-cons (λ (q : Passing). Rises (length q.seen) q.log) p [] rises (All-nil (λ (q : Passing). Rises (length q.seen) q.log)));
  share = let a = shares-snoc ps p in let b = g.share in omega arith;
  mine = ap (λ l. l ++ u.mine) g.mine ∙ append_assoc v.mine (all_in (logs_of ps)) u.mine ∙ ap (λ l. v.mine ++ l) (ap (λ l. all_in (logs_of ps) ++ l) (sym log) ∙ sym (logs-snoc ps p));
  opened = λ e. kept (λ x. x.opened ≡ true) known (g.opened e);
  routes = λ r e a. kept (λ x. x.routes ≡ r) (sym routes ∙ all_last (λ q. q.cell.routes ≡ r) ps p a) (g.routes r e (all_left (λ q. q.cell.routes ≡ r) ps (p ∷ []) a));
  opening = λ o e a. kept (λ x. x.opening ≡ o) (sym opening ∙ all_last (λ q. q.cell.opening ≡ o) ps p a) (g.opening o e (all_left (λ q. q.cell.opening ≡ o) ps (p ∷ []) a));
  sights = λ es s a.
      let more = All-tail (StartsWith es) w.seen (u.seen ∷ (w.sights ++ u.sights)) a in
      let before = g.sights es (All-head (StartsWith es) w.seen (u.seen ∷ (w.sights ++ u.sights)) a) (all_left (StartsWith es) w.sights u.sights (All-tail (StartsWith es) u.seen (w.sights ++ u.sights) more)) in
      let last : StartsWith es p.seen = subst (StartsWith es) (sym seen) (All-head (StartsWith es) u.seen (w.sights ++ u.sights) more) in
      (before.0, All-append (λ (q : Passing). StartsWith es q.seen) ps (p ∷ []) before.1 (All-cons (λ (q : Passing). StartsWith es q.seen) p [] last (All-nil (λ (q : Passing). StartsWith es q.seen))));
}
  where
    kept : (P : View → Type 0) → P u → P w → P (if nat_eq w.share 0 then u else w)
    kept P pu pw = split (nat_eq w.share 0)
      where
        split : (b : Bool) → P (if b then u else w)
        split true = pu
        split false = pw

each_log : (P : Logged → Type 0) (ps : List Passing) → All P (all_in (logs_of ps)) → All (λ p. All P p.log) ps
each_log P [] a = All-nil (λ p. All P p.log)
each_log P (p ∷ ps) a = All-cons (λ p. All P p.log) p ps (all_left P p.log (all_in (logs_of ps)) a) (each_log P ps (all_right P p.log (all_in (logs_of ps)) a))

pub closed : (cell : Scheduler) (rest : List Passing) (last : Passing) (v w x : View) (row events : List Event) → Rises (length last.seen) last.log → last.log ≡ v.mine → last.cell.opening ≡ v.opening → last.cell.routes ≡ v.routes → last.seen ≡ v.seen → Gathers rest v w → HasAll w x
    → length row ≡ length (all_in (logs_of (rest ++ last ∷ []))) → events ≡ write_all (all_in (logs_of rest)) (write_all last.log row) → All (λ p. p.cell ≡ cell) (rest ++ last ∷ []) → IsHistory cell (rest ++ last ∷ []) events
closed cell rest last v w x row events rises log opening routes seen g has len written of =
    let all = last.log ++ all_in (logs_of rest) in
    let mine : x.mine ≡ all = ap (λ (y : View). y.mine) has.same ∙ g.mine ∙ ap (λ l. l ++ all_in (logs_of rest)) (sym log) in
    let logs = all_in (logs_of (rest ++ last ∷ [])) in
    let same : (h : Logged → ℕ) → weigh h logs ≡ weigh h all = λ h. ap (weigh h) (logs-snoc rest last) ∙ (let a = weigh-append h (all_in (logs_of rest)) last.log in let b = weigh-append h last.log (all_in (logs_of rest)) in omega arith) in
    let once : (h : Logged → ℕ) → weigh h logs ≡ weigh h (numbered 0 x.seen) = λ h. same h ∙ ap (weigh h) (sym mine) ∙ has.once h in
    let stand : All (StandsIn x.seen) all = subst (All (StandsIn x.seen)) mine has.stand in
    let long : length row ≡ length x.seen = len ∙ sym (weigh_one logs) ∙ once (λ _. 1) ∙ weigh_one (numbered 0 x.seen) ∙ length-numbered 0 x.seen in
    let are : events ≡ x.seen = written ∙ sym (write_all-append last.log (all_in (logs_of rest)) row)
    ∙ writes all row x.seen long stand (λ p lt. inr (let a = hits 0 x.seen p (omega arith) (omega arith) in let b = once (times p) in let c = same (times p) in omega arith)) in
    let on : All (StandsIn events) all = subst (λ (es : List Event). All (StandsIn es) all) (sym are) stand in record {
      legal =
          let r : x.routes ≡ cell.routes = ap (λ (y : View). y.routes) has.same ∙ g.routes cell.routes (sym routes ∙ ap (λ (s : Scheduler). s.routes) (all_last (λ p. p.cell ≡ cell) rest last of))
          (All-weaker (λ p. p.cell ≡ cell) (λ p. p.cell.routes ≡ cell.routes) (λ p e. ap (λ (s : Scheduler). s.routes) e) rest (all_left (λ p. p.cell ≡ cell) rest (last ∷ []) of)) in
          let q : x.opening ≡ cell.opening = ap (λ (y : View). y.opening) has.same ∙ g.opening cell.opening (sym opening ∙ ap (λ (s : Scheduler). s.opening) (all_last (λ p. p.cell ≡ cell) rest last of))
          (All-weaker (λ p. p.cell ≡ cell) (λ p. p.cell.opening ≡ cell.opening) (λ p e. ap (λ (s : Scheduler). s.opening) e) rest (all_left (λ p. p.cell ≡ cell) rest (last ∷ []) of)) in
          subst (λ (es : List Event). IsLegal cell.routes cell.opening es) (sym are) (subst (λ (y : Routes). IsLegal y cell.opening x.seen) r (subst (λ (y : State). IsLegal x.routes y x.seen) q has.legal));
      seen =
          let fronts = g.sights x.seen has.more has.sights in
          let all_seen : All (λ p. StartsWith x.seen p.seen) (rest ++ last ∷ []) = All-append (λ p. StartsWith x.seen p.seen) rest (last ∷ []) fronts.1
          (All-cons (λ p. StartsWith x.seen p.seen) last [] (subst (StartsWith x.seen) (sym seen) fronts.0) (All-nil (λ p. StartsWith x.seen p.seen))) in
          subst (λ (es : List Event). All (λ p. StartsWith es p.seen) (rest ++ last ∷ [])) (sym are) all_seen;
      stand = All-append (λ p. All (StandsIn events) p.log) rest (last ∷ []) (each_log (StandsIn events) rest (all_right (StandsIn events) last.log (all_in (logs_of rest)) on))
          (All-cons (λ p. All (StandsIn events) p.log) last [] (all_left (StandsIn events) last.log (all_in (logs_of rest)) on) (All-nil (λ p. All (StandsIn events) p.log)));
      in_order = All-append (λ (q : Passing). Rises (length q.seen) q.log) rest (last ∷ []) g.rise (All-cons (λ (q : Passing). Rises (length q.seen) q.log) last [] rises (All-nil (λ (q : Passing). Rises (length q.seen) q.log)));
      once = λ h. once h ∙ ap (λ es. weigh h (numbered 0 es)) (sym are);
    }

pub count_more : (ps : List Passing) (i n : ℕ) (d : Passing) → i < length ps → n ≡ length (all_in (logs_of (take i ps))) → n + length (get_or ps i d).log ≡ length (all_in (logs_of (take (i + 1) ps)))
count_more ps i n d lt e = let a = ap (λ l. length (all_in (logs_of l))) (take_more ps i d lt) in let b = ap length (logs-snoc (take i ps) (get_or ps i d)) in
    let c = length-append (all_in (logs_of (take i ps))) (get_or ps i d).log in omega arith

pub share_more : (ps : List Passing) (i : ℕ) (d : Passing) → i < length ps → sum_by (λ p. p.share) (take (i + 1) ps) ≡ sum_by (λ p. p.share) (take i ps) + (get_or ps i d).share
share_more ps i d lt = ap (sum_by (λ (p : Passing). p.share)) (take_more ps i d lt) ∙ shares-snoc (take i ps) (get_or ps i d)

pub share_part : (ps : List Passing) (n : ℕ) → sum_by (λ p. p.share) (take n ps) ≤ sum_by (λ p. p.share) ps
share_part ps n = let f : Passing → ℕ = λ p. p.share in omega (arith, sum_by-append f (take n ps) (drop n ps), ap (sum_by f) (take-append-drop n ps))
