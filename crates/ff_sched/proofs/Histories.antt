-- Each step keeps the one history.
use Rattle.std.proofs.Common.{◌≡◌, ◌≢◌, ℕ, zero, suc, ◌+◌, ◌<◌, ◌≤◌, ◌^◌, ◌⊎◌, inl, inr, Bool, true, false, true≢false, List, [], ◌∷◌, ◌++◌, length, set, take, slice_get, slice_index, if◌then◌else◌, nat_eq, Some, sym, refl, ap, ◌∙◌, subst, ⊎_elim, append_assoc, append-nil, length-append, arith, All}
use mathlib.Core.Option.{some, some-injective, some-ne-none}
use lib.ListN.{get_elem?}
use lib.Pointwise.{pointwise, bytes_decides}
use borrow.Author.Tests.{eqb-true, eqb-false}
use Rattle.crossbeam_utils.specs.Register.{Turns, Forks, Merges}
use Rattle.atomic_table.proofs.Lists.{at_set, at_snoc, set_again}
use Rattle.std.proofs.lemmas.List.Elements.{All-nil, All-cons, All-push, All-append, All-weaker}
use Rattle.ff_frame.specs.declared.event.Event.{Event}
use Rattle.ff_frame.specs.declared.event.Event.TheVariants.{Grant, Sent, Finished, Best, Exited}
use Rattle.ff_sched.specs.declared.logged.Logged.{Logged}
use Rattle.ff_sched.specs.declared.routes.Routes.{Routes}
use Rattle.ff_sched.specs.declared.rule.View.{View}
use Rattle.ff_sched.specs.State.{State}
use Rattle.ff_sched.specs.laws.Routes.{no_routes}
use Rattle.ff_sched.specs.Events.{step_of, fold, IsTold, IsInRange}
use Rattle.ff_sched.specs.laws.Words.{state_of}
use Rattle.ff_sched.specs.Unchoked.{Unchokes}
use Rattle.ff_sched.specs.Histories.{IsLegal, IsFree, MayCome, StandsIn, logged, numbered, weigh, StartsWith}
use Rattle.ff_sched.specs.laws.Plain.{Plain, IsPlain, Heard}
use Rattle.ff_sched.specs.laws.Rule.{total, Fits, Kept, Looks, Adds, Exchanges, Opens, HasAll, Refuses, first, less, fresh, spent, nobody, joined}
use Rattle.ff_sched.proofs.Unchoking.{some_is, none_some}

pub fold-snoc : (s : State) (es : List Event) (e : Event) → fold s (es ++ e ∷ []) ≡ step_of (fold s es) e
fold-snoc s [] e = refl
fold-snoc s (x ∷ xs) e = fold-snoc (step_of s x) xs e

-- what stands in a list with one more at the end
get_snoc : (xs : List Event) (x y : Event) (p : ℕ) → slice_get (xs ++ x ∷ []) p ≡ Some y → ((slice_get xs p ≡ Some y) × (take p (xs ++ x ∷ []) ≡ take p xs)) ⊎ ((x ≡ y) × (take p (xs ++ x ∷ []) ≡ xs))
get_snoc [] x y zero e = inr (some_is x y e, refl)
get_snoc [] x y (suc p) e = absurd (none_some y e)
get_snoc (z ∷ zs) x y zero e = inl (e, refl)
get_snoc (z ∷ zs) x y (suc p) e = ⊎_elim (λ a. inl (a.0, ap (λ l. z ∷ l) a.1)) (λ a. inr (a.0, ap (λ l. z ∷ l) a.1)) (get_snoc zs x y p e)

pub legal_none : (r : Routes) (o : State) → IsLegal r o []
legal_none r o = record { in_range = All-nil (IsInRange r); granted = λ p k e. absurd (none_some (Grant k) e) }

pub legal_snoc : (r : Routes) (o : State) (es : List Event) (e : Event) → IsLegal r o es → MayCome r (fold o es) e → IsLegal r o (es ++ e ∷ [])
legal_snoc r o es e l m = record {
  in_range = All-push (IsInRange r) es e l.in_range m.0;
  granted = λ p k at. ⊎_elim
      (λ (a : (slice_get es p ≡ Some (Grant k)) × (take p (es ++ e ∷ []) ≡ take p es)). subst (λ (t : List Event). Unchokes r (fold o t) k) (sym a.1) (l.granted p k a.0))
      (λ (a : (e ≡ Grant k) × (take p (es ++ e ∷ []) ≡ es)). subst (λ (t : List Event). Unchokes r (fold o t) k) (sym a.1) (subst (IsFree r (fold o es)) a.0 m.1))
      (get_snoc es e (Grant k) p at);
}

get_append : (xs ys : List Event) (p : ℕ) (y : Event) → slice_get xs p ≡ Some y → slice_get (xs ++ ys) p ≡ Some y
get_append [] ys p y e = absurd (none_some y e)
get_append (x ∷ xs) ys zero y e = e
get_append (x ∷ xs) ys (suc p) y e = get_append xs ys p y e

get_last : (xs : List Event) (x : Event) → slice_get (xs ++ x ∷ []) (length xs) ≡ Some x
get_last [] x = refl
get_last (y ∷ ys) x = get_last ys x

-- what stood in a history stands in a longer one
stand_on : (log more : List Event) (xs : List Logged) → All (StandsIn log) xs → All (StandsIn (log ++ more)) xs
stand_on log more xs a = All-weaker (StandsIn log) (StandsIn (log ++ more)) (λ x e. get_append log more x.place x.event e) xs a

-- what begins a history begins a longer one
starts_on : (log more seen : List Event) → StartsWith log seen → StartsWith (log ++ more) seen
starts_on log more seen s = (s.0 ++ more, ap (λ l. l ++ more) s.1 ∙ append_assoc seen s.0 more)

sights_on : (log more : List Event) (sights : List (List Event)) → All (StartsWith log) sights → All (StartsWith (log ++ more)) sights
sights_on log more sights a = All-weaker (StartsWith log) (StartsWith (log ++ more)) (λ seen s. starts_on log more seen s) sights a

told_free : (r : Routes) (s : State) (e : Event) → IsTold e → IsFree r s e
told_free r s (Grant k) t = absurd t
told_free r s (Sent j u) t = tt
told_free r s (Finished j) t = tt
told_free r s (Best g i) t = tt
told_free r s (Exited k) t = tt

pub told_may : (r : Routes) (s : State) (e : Event) → IsInRange r e → IsTold e → MayCome r s e
told_may r s e i t = (i, told_free r s e t)

numbered-snoc : (n : ℕ) (es : List Event) (e : Event) → numbered n (es ++ e ∷ []) ≡ numbered n es ++ logged (n + length es) e ∷ []
numbered-snoc n [] e = let z : n ≡ n + 0 = omega arith in λ i. logged (z i) e ∷ []
numbered-snoc n (x ∷ xs) e = let z : n + 1 + length xs ≡ n + suc (length xs) = omega arith in
    λ i. logged n x ∷ (numbered-snoc (n + 1) xs e ∙ (λ j. numbered (n + 1) xs ++ logged (z j) e ∷ [])) i

pub weigh-append : (h : Logged → ℕ) (xs ys : List Logged) → weigh h (xs ++ ys) ≡ weigh h xs + weigh h ys
weigh-append h [] ys = omega arith
weigh-append h (x ∷ xs) ys = let e = weigh-append h xs ys in omega arith

pub weigh_one : (xs : List Logged) → weigh (λ _. 1) xs ≡ length xs
weigh_one [] = refl
weigh_one (x ∷ xs) = let e = weigh_one xs in omega arith

pub length-numbered : (n : ℕ) (es : List Event) → length (numbered n es) ≡ length es
length-numbered n [] = refl
length-numbered n (e ∷ es) = ap suc (length-numbered (n + 1) es)

total_set : (f : View → ℕ) (views : List View) (pass : ℕ) (v w : View) → get_elem? views pass ≡ some v → total f (set views pass w) + f v ≡ total f views + f w
total_set f [] pass v w e = absurd (some-ne-none v (sym e))
total_set f (u ∷ us) zero v w e = let s : f u ≡ f v = ap f (some-injective u v e) in omega arith
total_set f (u ∷ us) (suc pass) v w e = let s = total_set f us pass v w e in omega arith

total_le : (f g : View → ℕ) (views : List View) → ((pass : ℕ) (u : View) → get_elem? views pass ≡ some u → f u ≤ g u) → total f views ≤ total g views
total_le f g [] h = omega arith
total_le f g (u ∷ us) h = let a = h 0 u refl in let b = total_le f g us (λ pass w e. h (suc pass) w e) in omega arith

total_lt : (f g : View → ℕ) (views : List View) (pass : ℕ) (v : View) → get_elem? views pass ≡ some v → f v < g v → ((pass : ℕ) (u : View) → get_elem? views pass ≡ some u → f u ≤ g u) → total f views < total g views
total_lt f g [] pass v e lt h = absurd (some-ne-none v (sym e))
total_lt f g (u ∷ us) zero v e lt h = let s = some-injective u v e in let a : f u < g u = subst (λ (z : View). f z < g z) (sym s) lt in let b = total_le f g us (λ pass w e. h (suc pass) w e) in omega arith
total_lt f g (u ∷ us) (suc pass) v e lt h = let a = h 0 u refl in let b = total_lt f g us pass v e lt (λ pass w e. h (suc pass) w e) in omega arith

-- a pass with room left finds fewer than 2^62 events
room : (words : List ℕ) (views : List View) (k : Kept words views) (pass : ℕ) (v : View) → get_elem? views pass ≡ some v → length v.mine < v.share → slice_index words 18 < 2 ^ 62
room words views k pass v at lt =
    let all = total_lt (λ u. weigh (λ _. 1) u.mine) (λ u. u.share) views pass v at (let e = weigh_one v.mine in omega arith) (λ j u e. let s = (k.each j u e).spare in let o = weigh_one u.mine in omega arith) in
    let sum = k.entries (λ _. 1) in let one = weigh_one (numbered 0 k.log) in let len = length-numbered 0 k.log in let c = k.counted in let s = k.shares in omega arith

same_totals : (f : View → ℕ) (views : List View) (pass : ℕ) (v w : View) → get_elem? views pass ≡ some v → f w ≡ f v → total f (set views pass w) ≡ total f views
same_totals f views pass v w at e = let s = total_set f views pass v w at in omega arith

all_set : (F : View → Type 0) (views : List View) (pass : ℕ) (w : View) → F w → ((j : ℕ) (u : View) → get_elem? views j ≡ some u → F u) → (j : ℕ) (u : View) → get_elem? (set views pass w) j ≡ some u → F u
all_set F views pass w mine others j u e = ⊎_elim (λ (x : (j ≡ pass) × (w ≡ u)). subst F x.1 mine) (λ (x : (j ≢ pass) × (get_elem? views j ≡ some u)). others j u x.1) (at_set views pass j w u e)

pub looks : (pass : ℕ) (v : View) → v.opened ≡ true → 0 < v.share → Turns Kept pass v (λ x. x) (λ v x y w. Looks v y w)
looks pass v known some_share words views k at =
    let mine = k.each pass v at in let w : View = record v { seen = k.log } in let o = mine.opened some_share known in (
      w,
      record {
        routes = k.routes;
        opening = k.opening;
        log = k.log;
        folded = k.folded;
        counted = k.counted;
        legal = k.legal;
        shares = same_totals (λ u. u.share) views pass v w at refl ∙ k.shares;
        entries = λ h. same_totals (λ u. weigh h u.mine) views pass v w at refl ∙ k.entries h;
        each = all_set (Fits k.routes k.opening k.log) views pass w (record { opened = mine.opened; seen = ([], sym (append-nil k.log)); sights = mine.sights; spare = mine.spare; stand = mine.stand }) k.each;
      },
      record {
        same = refl;
        more = mine.seen;
        legal = subst (λ (x : Routes). IsLegal x v.opening k.log) (sym o.0) (subst (λ (x : State). IsLegal k.routes x k.log) (sym o.1) k.legal);
        folded = k.folded ∙ ap (λ s. fold s k.log) (sym o.1);
        few = room words views k pass v at;
      },
    )

adds : (pass : ℕ) (v : View) (e : Event) (x y : List ℕ) (views : List View) → v.opened ≡ true → length v.mine < v.share → state_of y ≡ step_of (state_of x) e → slice_index y 18 ≡ slice_index x 18 + 1 → MayCome v.routes (state_of x) e
    → Kept x views → get_elem? views pass ≡ some v → (w : View) × Kept y (set views pass w) × Adds e v (slice_index x 18) w
adds pass v e x y views known lt stepped one may k at =
    let mine = k.each pass v at in let n = slice_index x 18 in let log = k.log ++ e ∷ [] in
    let w : View = record v { seen = log; mine = v.mine ++ logged n e ∷ [] } in
    let o = mine.opened (omega arith) known in
    let may' : MayCome k.routes (fold k.opening k.log) e = subst (λ (r : Routes). MayCome r (fold k.opening k.log) e) o.0 (subst (λ (s : State). MayCome v.routes s e) k.folded may) in
    let legal = legal_snoc k.routes k.opening k.log e k.legal may' in
    let here : StandsIn log (logged n e) = ap (slice_get log) k.counted ∙ get_last k.log e in
    let more : (h : Logged → ℕ) → weigh h (numbered 0 log) ≡ weigh h (numbered 0 k.log) + h (logged n e) =
    λ h. let z : 0 + length k.log ≡ n = let c = k.counted in omega arith in
    ap (weigh h) (numbered-snoc 0 k.log e) ∙ (λ i. weigh h (numbered 0 k.log ++ logged (z i) e ∷ [])) ∙ (let a = weigh-append h (numbered 0 k.log) (logged n e ∷ []) in omega arith) in (
      w,
      record {
        routes = k.routes;
        opening = k.opening;
        log = log;
        folded = stepped ∙ ap (λ s. step_of s e) k.folded ∙ sym (fold-snoc k.opening k.log e);
        counted = let l = length-append k.log (e ∷ []) in let c = k.counted in omega arith;
        legal = legal;
        shares = same_totals (λ u. u.share) views pass v w at refl ∙ k.shares;
        entries = λ h. let s = total_set (λ u. weigh h u.mine) views pass v w at in let a = weigh-append h v.mine (logged n e ∷ []) in let m = more h in let p = k.entries h in omega arith;
        each = all_set (Fits k.routes k.opening log) views pass w
            (record { opened = mine.opened; seen = ([], sym (append-nil log)); sights = sights_on k.log (e ∷ []) v.sights mine.sights; spare = let l = length-append v.mine (logged n e ∷ []) in omega arith; stand = All-push (StandsIn log) v.mine (logged n e) (stand_on k.log (e ∷ []) v.mine mine.stand) here })
            (λ j u at'. let f = k.each j u at' in record { opened = f.opened; seen = starts_on k.log (e ∷ []) u.seen f.seen; sights = sights_on k.log (e ∷ []) u.sights f.sights; spare = f.spare; stand = stand_on k.log (e ∷ []) u.mine f.stand });
      },
      record {
        same = refl;
        between = mine.seen.0;
        seen = ap (λ l. l ++ e ∷ []) mine.seen.1;
        at = ap length (sym mine.seen.1) ∙ sym k.counted;
        legal = subst (λ (r : Routes). IsLegal r v.opening log) (sym o.0) (subst (λ (s : State). IsLegal k.routes s log) (sym o.1) legal);
      },
    )

pub tells : (pass : ℕ) (v : View) (e : Event) (seen new : List ℕ) → v.opened ≡ true → length v.mine < v.share → state_of new ≡ step_of (state_of seen) e → slice_index new 18 ≡ slice_index seen 18 + 1 → MayCome v.routes (state_of seen) e
    → Turns Kept pass v (λ x. if pointwise nat_eq x seen then new else x) (Exchanges e)
tells pass v e seen new known lt stepped one may x views k at = go (pointwise nat_eq x seen) refl
  where
    go : (b : Bool) → pointwise nat_eq x seen ≡ b → (w : View) × Kept (if b then new else x) (set views pass w) × Exchanges e v x (if b then new else x) w
    go true is = let same : x ≡ seen = (bytes_decides x seen).0 is in
        let r = adds pass v e x new views known lt (stepped ∙ ap (λ s. step_of (state_of s) e) (sym same)) (one ∙ ap (λ s. slice_index s 18 + 1) (sym same)) (subst (λ (s : List ℕ). MayCome v.routes (state_of s) e) (sym same) may) k at in
        (r.0, r.1, ((λ q. absurd (let c = ap (λ s. slice_index s 18) q in let d = ap (λ s. slice_index s 18) same in omega arith)), λ _. r.2))
    go false is = (v, subst (Kept x) (sym (set_again views pass v at)) k, ((λ _. refl), λ q. absurd (omega arith)))

part : (f : View → ℕ) (views : List View) (pass : ℕ) (v : View) → get_elem? views pass ≡ some v → f v ≤ total f views
part f [] pass v at = absurd (some-ne-none v (sym at))
part f (x ∷ xs) zero v at = let s = ap f (some-injective x v at) in omega arith
part f (x ∷ xs) (suc pass) v at = let b = part f xs pass v at in omega arith

-- a pass with the whole share leaves none to the others
alone : (f : View → ℕ) (views : List View) (pass : ℕ) (v : View) → get_elem? views pass ≡ some v → total f views ≡ f v → (j : ℕ) (u : View) → j ≢ pass → get_elem? views j ≡ some u → f u ≡ 0
alone f [] pass v at e j u ne at' = absurd (some-ne-none v (sym at))
alone f (x ∷ xs) zero v at e zero u ne at' = absurd (ne refl)
alone f (x ∷ xs) zero v at e (suc j) u ne at' = let s = ap f (some-injective x v at) in let b = part f xs j u at' in omega arith
alone f (x ∷ xs) (suc pass) v at e zero u ne at' = let s = ap f (some-injective x u at') in let b = part f xs pass v at in omega arith
alone f (x ∷ xs) (suc pass) v at e (suc j) u ne at' = let b = part f xs pass v at in alone f xs pass v at (omega arith) j u (λ q. ne (ap suc q)) at'

-- the rest of the views weigh nothing where no other pass has a share
weightless : (h : Logged → ℕ) (xs : List Logged) → length xs ≤ 0 → weigh h xs ≡ 0
weightless h [] le = refl
weightless h (x ∷ xs) le = absurd (omega arith)

total_zero : (f : View → ℕ) (views : List View) → ((j : ℕ) (u : View) → get_elem? views j ≡ some u → f u ≡ 0) → total f views ≡ 0
total_zero f [] h = refl
total_zero f (x ∷ xs) h = let a = h 0 x refl in let b = total_zero f xs (λ j u e. h (suc j) u e) in omega arith

only_mine : (words : List ℕ) (views : List View) (k : Kept words views) (pass : ℕ) (v : View) → get_elem? views pass ≡ some v → v.share ≡ 2 ^ 62 → (h : Logged → ℕ) → total (λ u. weigh h u.mine) views ≡ weigh h v.mine
only_mine words views k pass v at all h =
    let f : View → ℕ = λ u. weigh h u.mine in
    let rest : total f (set views pass nobody) ≡ 0 = total_zero f (set views pass nobody) (λ j u e. ⊎_elim (λ (x : (j ≡ pass) × (nobody ≡ u)). ap f (sym x.1))
    (λ (x : (j ≢ pass) × (get_elem? views j ≡ some u)). weightless h u.mine (let z = alone (λ y. y.share) views pass v at (k.shares ∙ sym all) j u x.0 x.1 in let s = (k.each j u x.1).spare in omega arith)) (at_set views pass j nobody u e)) in
    let s = total_set f views pass v nobody at in omega arith

no_entries : (es : List Event) → length es ≡ 0 → es ≡ []
no_entries [] e = refl
no_entries (x ∷ xs) e = absurd (omega arith)

pub opens : (pass : ℕ) (v : View) (routes : Routes) (val : List ℕ) → v.share ≡ 2 ^ 62 → v.mine ≡ [] → v.seen ≡ [] → slice_index val 18 ≡ 0 → Turns Kept pass v (λ _. val) (λ v x y w. Opens routes v y w)
opens pass v routes val all none unseen start words views k at =
    let w : View = record v { opened = true; routes = routes; opening = state_of val } in let mine = k.each pass v at in
    let empty : k.log ≡ [] = no_entries k.log (let a = only_mine words views k pass v at all (λ _. 1) in let b = k.entries (λ _. 1) in let c = weigh_one (numbered 0 k.log) in let d = length-numbered 0 k.log in
    let e = ap (weigh (λ _. 1)) none in omega arith) in (
      w,
      record {
        routes = routes;
        opening = state_of val;
        log = [];
        folded = refl;
        counted = start;
        legal = legal_none routes (state_of val);
        shares = same_totals (λ u. u.share) views pass v w at refl ∙ k.shares;
        entries = λ h. same_totals (λ u. weigh h u.mine) views pass v w at refl ∙ k.entries h ∙ ap (λ l. weigh h (numbered 0 l)) empty;
        each = λ j u e. ⊎_elim (λ (x : (j ≡ pass) × (w ≡ u)). subst (Fits routes (state_of val) []) x.1
            (record { opened = λ _ _. (refl, refl); seen = ([], sym (append-nil v.seen ∙ unseen)); sights = subst (λ (l : List Event). All (StartsWith l) v.sights) empty mine.sights; spare = mine.spare; stand = subst (λ (l : List Event). All (StandsIn l) v.mine) empty mine.stand }))
            (λ (x : (j ≢ pass) × (get_elem? views j ≡ some u)). let f = k.each j u x.1 in record {
              opened = λ some_share _. absurd (let z = alone (λ y. y.share) views pass v at (k.shares ∙ sym all) j u x.0 x.1 in omega arith);
              seen = (f.seen.0, sym empty ∙ f.seen.1);
              sights = subst (λ (l : List Event). All (StartsWith l) u.sights) empty f.sights;
              spare = f.spare;
              stand = subst (λ (l : List Event). All (StandsIn l) u.mine) empty f.stand;
            }) (at_set views pass j w u e);
      },
      refl,
    )

total-append : (f : View → ℕ) (xs : List View) (y : View) → total f (xs ++ y ∷ []) ≡ total f xs + f y
total-append f [] y = omega arith
total-append f (x ∷ xs) y = let e = total-append f xs y in omega arith

forked : (pass : ℕ) (v l r : View) → l.share + r.share ≡ v.share → ((h : Logged → ℕ) → weigh h l.mine + weigh h r.mine ≡ weigh h v.mine)
    → ((routes : Routes) (opening : State) (log : List Event) → Fits routes opening log v → Fits routes opening log l × Fits routes opening log r) → Forks Kept pass v l r
forked pass v l r s e f words views k at = let both = f k.routes k.opening k.log (k.each pass v at) in record {
  routes = k.routes;
  opening = k.opening;
  log = k.log;
  folded = k.folded;
  counted = k.counted;
  legal = k.legal;
  shares = let a = total-append (λ u. u.share) (set views pass l) r in let b = total_set (λ u. u.share) views pass v l at in let c = k.shares in omega arith;
  entries = λ h. let a = total-append (λ u. weigh h u.mine) (set views pass l) r in let b = total_set (λ u. weigh h u.mine) views pass v l at in let c = k.entries h in let d = e h in omega arith;
  each = λ j u x. ⊎_elim (λ old. all_set (Fits k.routes k.opening k.log) views pass l both.0 k.each j u old) (λ (new : r ≡ u). subst (Fits k.routes k.opening k.log) new both.1) (at_snoc (set views pass l) r u j x);
}

pub parts : (pass : ℕ) (v : View) (n : ℕ) → length v.mine + n ≤ v.share → Forks Kept pass v (less v n) (fresh v n)
parts pass v n le = forked pass v (less v n) (fresh v n) (omega arith) (λ h. omega arith) (λ routes opening log f. (
  record { opened = λ s o. f.opened (omega arith) o; seen = f.seen; sights = f.sights; spare = omega arith; stand = f.stand },
  record { opened = λ s o. f.opened (omega arith) o; seen = f.seen; sights = All-nil (StartsWith log); spare = omega arith; stand = All-nil (StandsIn log) },
))

pub cuts : (pass : ℕ) (v : View) → Forks Kept pass v (spent v) v
cuts pass v = forked pass v (spent v) v (omega arith) (λ h. omega arith) (λ routes opening log f. (
  record { opened = λ s o. absurd (omega arith); seen = (log, refl); sights = All-nil (StartsWith log); spare = omega arith; stand = All-nil (StandsIn log) },
  f,
))

-- the keeper of two passes knows the routes and the opening state where one of them has a share
joined_fits : (routes : Routes) (opening : State) (log : List Event) (v w : View) → Fits routes opening log v → Fits routes opening log w → Fits routes opening log (joined v w)
joined_fits routes opening log v w f g = split (nat_eq v.share 0) refl
  where
    mine : length (v.mine ++ w.mine) ≤ v.share + w.share
    mine = let a = f.spare in let c = g.spare in let e = length-append v.mine w.mine in omega arith

    sights : All (StartsWith log) (v.seen ∷ w.seen ∷ (v.sights ++ w.sights))
    sights = All-cons (StartsWith log) v.seen (w.seen ∷ (v.sights ++ w.sights)) f.seen (All-cons (StartsWith log) w.seen (v.sights ++ w.sights) g.seen (All-append (StartsWith log) v.sights w.sights f.sights g.sights))

    split : (b : Bool) → nat_eq v.share 0 ≡ b → Fits routes opening log (record (if b then w else v) { share = v.share + w.share; sights = v.seen ∷ w.seen ∷ (v.sights ++ w.sights); mine = v.mine ++ w.mine })
    split true e = record { opened = λ s o. g.opened (let z = eqb-true v.share 0 e in omega arith) o; seen = g.seen; sights = sights; spare = mine; stand = All-append (StandsIn log) v.mine w.mine f.stand g.stand }
    split false e = record { opened = λ s o. f.opened (let z = eqb-false v.share 0 e in omega arith) o; seen = f.seen; sights = sights; spare = mine; stand = All-append (StandsIn log) v.mine w.mine f.stand g.stand }

pub joins : (pass : ℕ) (v : View) (other : ℕ) (w : View) → Merges Kept pass v other w (joined v w) nobody
joins pass v other w words views k at two at' =
    let b : View = joined v w in let vs : List View = set views pass b in
    let was : get_elem? views other ≡ some w = ⊎_elim (λ x. absurd (two x.0)) (λ x. x.1) (at_set views pass other b w at') in
    let mine = k.each pass v at in let theirs = k.each other w was in record {
      routes = k.routes;
      opening = k.opening;
      log = k.log;
      folded = k.folded;
      counted = k.counted;
      legal = k.legal;
      shares = let a = total_set (λ u. u.share) views pass v b at in let c = total_set (λ u. u.share) vs other w nobody at' in let d = k.shares in omega arith;
      entries = λ h. let a = total_set (λ u. weigh h u.mine) views pass v b at in let c = total_set (λ u. weigh h u.mine) vs other w nobody at' in let d = k.entries h in let e = weigh-append h v.mine w.mine in omega arith;
      each = all_set (Fits k.routes k.opening k.log) vs other nobody (record { opened = λ s o. absurd (omega arith); seen = (k.log, refl); sights = All-nil (StartsWith k.log); spare = omega arith; stand = All-nil (StandsIn k.log) })
          (all_set (Fits k.routes k.opening k.log) views pass b (joined_fits k.routes k.opening k.log v w mine theirs) k.each);
    }

pub closes : (pass : ℕ) (v : View) → v.opened ≡ true → v.share ≡ 2 ^ 62 → Turns Kept pass v (λ x. x) (λ v x y w. HasAll v w)
unfolding looks
closes pass v known all words views k at = let r = looks pass v known (omega arith) words views k at in
    (r.0, r.1, record { same = r.2.same; legal = r.2.legal; more = r.2.more; sights = (k.each pass v at).sights; stand = (k.each pass v at).stand; once = λ h. sym (only_mine words views k pass v at all h) ∙ k.entries h })

-- the pass has seen more, and is else as it was
pub record Later (v w : View) : Type 0 where
  pub same : w ≡ record v { seen = w.seen }
  pub more : StartsWith w.seen v.seen

pub later_same : (v : View) → Later v v
later_same v = record { same = refl; more = ([], sym (append-nil v.seen)) }

starts_trans : (a b c : List Event) → StartsWith b a → StartsWith c b → StartsWith c a
starts_trans a b c p q = (p.0 ++ q.0, q.1 ∙ ap (λ l. l ++ q.0) p.1 ∙ append_assoc a p.0 q.0)

pub later_looks : (v w u : View) (words : List ℕ) → Later v w → Looks w words u → Later v u
later_looks v w u words l k = record { same = k.same ∙ ap (λ (y : View). record y { seen = u.seen }) l.same; more = starts_trans v.seen w.seen u.seen l.more k.more }

pub later_adds : (e : Event) (v w u : View) (n : ℕ) → Later v w → Adds e w n u → Adds e v n u
later_adds e v w u n l k =
    let s : w.seen ++ k.between ≡ v.seen ++ (l.more.0 ++ k.between) = ap (λ x. x ++ k.between) l.more.1 ∙ append_assoc v.seen l.more.0 k.between in record {
      same = k.same ∙ ap (λ (y : View). record y { seen = u.seen; mine = y.mine ++ logged n e ∷ [] }) l.same;
      between = l.more.0 ++ k.between;
      seen = k.seen ∙ ap (λ x. x ++ e ∷ []) s;
      at = ap length (sym s) ∙ k.at;
      legal = subst (λ (y : View). IsLegal y.routes y.opening u.seen) l.same k.legal;
    }

pub later_stays : (v u w : View) → Later v u → w ≡ u → Later v w
later_stays v u w l e = subst (Later v) (sym e) l

pub later_known : (v w : View) → Later v w → v.opened ≡ true → w.opened ≡ true
later_known v w l o = ap (λ (y : View). y.opened) l.same ∙ o

pub later_routes : (v w : View) → Later v w → w.routes ≡ v.routes
later_routes v w l = ap (λ (y : View). y.routes) l.same

pub later_spare : (v w : View) → Later v w → length v.mine < v.share → length w.mine < w.share
later_spare v w l lt = subst (λ (y : View). length y.mine < y.share) (sym l.same) lt

-- an exchange that found the words that were seen has added the event
pub told : (e : Event) (v u w : View) (x words next : List ℕ) → Later v u → pointwise nat_eq x words ≡ true → Exchanges e u x next w → slice_index next 18 ≡ slice_index words 18 + 1 → Adds e v (slice_index words 18) w
told e v u w x words next l is k one = let same : x ≡ words = (bytes_decides x words).0 is in
    subst (λ (ws : List ℕ). Adds e v (slice_index ws 18) w) same (later_adds e v u w (slice_index x 18) l (k.1 (one ∙ ap (λ ws. slice_index ws 18 + 1) (sym same))))

pub begins : (words : List ℕ) → slice_index words 18 ≡ 0 → Kept words (first ∷ [])
begins words start = record {
  routes = no_routes;
  opening = state_of words;
  log = [];
  folded = refl;
  counted = start;
  legal = legal_none no_routes (state_of words);
  shares = omega arith;
  entries = λ h. refl;
  each = λ pass v e. one pass v e;
}
  where
    one : (pass : ℕ) (v : View) → get_elem? (first ∷ []) pass ≡ some v → Fits no_routes (state_of words) [] v
    one zero v e = subst (Fits no_routes (state_of words) []) (some-injective first v e) (record { opened = λ _ o. absurd (true≢false (sym o)); seen = ([], refl); sights = All-nil (StartsWith []); spare = omega arith; stand = All-nil (StandsIn []) })
    one (suc pass) v e = absurd (some-ne-none v (sym e))

pub refuses : (v w u : View) (words : List ℕ) (s : ℕ) → Later v w → Looks w words u → (Unchokes v.routes (state_of words) s → ⊥) → Refuses v s (state_of words) u
refuses v w u words s l k choked = let r = later_looks v w u words l k in
    record { same = r.same; more = r.more; folded = k.folded ∙ ap (λ (y : View). fold y.opening u.seen) l.same; choked = choked }

count-step : (s : State) (e : Event) → (step_of s e).count ≡ s.count + 1
count-step s (Grant k) = refl
count-step s (Sent j t) = refl
count-step s (Finished j) = refl
count-step s (Best g i) = refl
count-step s (Exited k) = refl

count-fold : (s : State) (es : List Event) → (fold s es).count ≡ s.count + length es
count-fold s [] = omega arith
count-fold s (e ∷ es) = let a = count-fold (step_of s e) es in let b = count-step s e in omega arith

-- where a plain scheduler puts its next event
pub next_place : (r : Routes) (o s : State) (es : List Event) → IsPlain r o s es → s.count ≡ o.count + length es
next_place r o s es p = ap (λ (x : State). x.count) p.folded ∙ count-fold o es

-- an event behind those of a plain scheduler
pub heard : (n : Plain) (r : Routes) (o s : State) (es items : List Event) (e : Event) (place : ℕ) → record { opening = o; routes = r; events = es } ≡ n → IsPlain r o s es → place ≡ s.count → items ≡ es ++ e ∷ []
    → Heard n e place (record { opening = o; routes = r; events = items })
heard n r o s es items e place is p at added = subst (λ (m : Plain). Heard m e place (record { opening = o; routes = r; events = items })) is (record {
  at = at ∙ next_place r o s es p;
  same = λ i. record { opening = o; routes = r; events = added i };
})

pub plain_more : (r : Routes) (o s : State) (es : List Event) (e : Event) → IsPlain r o s es → MayCome r s e → IsPlain r o (step_of s e) (es ++ e ∷ [])
plain_more r o s es e p may = record {
  routed = p.routed;
  folded = ap (λ (x : State). step_of x e) p.folded ∙ sym (fold-snoc o es e);
  legal = legal_snoc r o es e p.legal (subst (λ (x : State). MayCome r x e) p.folded may);
}
