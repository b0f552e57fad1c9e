-- The laws of the machine that gives a list.
use Rattle.std.specs.Prelude.{◌≡◌, ◌≢◌, ℕ, zero, suc, ◌+◌, ◌<◌, ◌≤◌, Bool, true, false, cond, List, [], ◌∷◌, length, take, nat_le, Option, None, Some, refl}
use Rattle.std.proofs.Common.{sym, subst, ap, inl, inr, ◌∙◌, arith}
use Rattle.std.proofs.lemmas.Bool.Decides.{nat_tests}
use mathlib.Core.List.{IsPrefix}
use Rattle.ff_stream.specs.declared.item.Item.{Item}
use Rattle.ff_stream.specs.declared.item.Lane.{Lane}
use Rattle.ff_stream.specs.Stream.{still_open, whole, broken, whole_stream, LiesBelow}
use Rattle.ff_stream.specs.laws.Order.{below_self}
use Rattle.ff_stream.specs.Ports.{nothing, stream_at, AllBelow, AllUnbroken, IsUnbroken, IsMonotone, IsCalm}
use Rattle.ff_net.specs.declared.fault.Fault.{Fault}
use Rattle.ff_net.specs.declared.fault.Fault.TheVariants.{Device}
use Rattle.ff_net.specs.Ways.{Flow, AreValid}
use Rattle.ff_frame.specs.declared.event.Event.{Event}
use Rattle.ff_frame.specs.declared.event.Event.TheVariants.{Exited}
use Rattle.ff_net.specs.Pasts.{Past, Feed, IsIn, Units, units_of, due, due_by, cut_to}
use Rattle.ff_net.specs.laws.Laws.{CauseStays, IsOfInputs, IsPending, AllAsked}
use Rattle.ff_net.proofs.Flows.{take_whole, AreUnits, units_below}
use Rattle.ff_test_machines.specs.RelayLaws.{relays_no_fault, below_or}
use Rattle.ff_test_machines.specs.Lists.{list_of, given_of, as_count, fault_if, exits, Exits, Lists}

pub lists_no_port : (p : ℕ) → p < 0 → ⊥
lists_no_port p lt = omega arith

pub lists_is_source : (n : ℕ) → Some n ≡ None → ⊥
lists_is_source n e = cc

device_of : (failed : Bool) (c : Fault) → fault_if failed ≡ Some c → Device ≡ c
device_of false c e = cc
device_of true c e = cc

pub lists_caused : (failed : Bool) (c : Fault) → fault_if failed ≡ Some c → IsOfInputs c → ⊥
lists_caused failed c e i = subst IsOfInputs (sym (device_of failed c e)) i

-- with so many tickets so many items are due
pub cut_before : (n : ℕ) (items : List Item) → n ≤ length items → cut_to n (whole_stream items) ≡ given_of items n false
cut_before n items le =
    let test : nat_le n (length items) ≡ true = grind (arith, nat_tests) in
    ap (λ (b : Bool). let s : Flow = record { items = take n items; mark = cond b still_open whole } in s) test

-- and with one more the end
pub cut_after : (n : ℕ) (items : List Item) → length items < n → cut_to n (whole_stream items) ≡ given_of items (length items) true
cut_after n items lt =
    let test : nat_le n (length items) ≡ false = grind (arith, nat_tests) in
    let kept : take n items ≡ take (length items) items = take_whole n items (omega arith) ∙ sym (take_whole (length items) items (omega arith)) in
    ap (λ (b : Bool). let s : Flow = record { items = take n items; mark = cond b still_open whole } in s) test ∙ ap (λ (xs : List Item). let s : Flow = record { items = xs; mark = whole } in s) kept

pub take_less : (m n : ℕ) (xs : List Item) → m ≤ n → IsPrefix (take m xs) (take n xs)
take_less zero n xs le = (take n xs, refl)
take_less (suc m) zero xs le = absurd (omega arith)
take_less (suc m) (suc n) [] le = ([], refl)
take_less (suc m) (suc n) (x ∷ xs) le = let r = take_less m n xs (omega arith) in (r.0, ap (λ (ys : List Item). x ∷ ys) r.1)

mark_unbroken : (b : Bool) → cond b whole still_open ≢ broken
mark_unbroken true e = cc
mark_unbroken false e = cc

module _ (lane : Lane) (items : List Item) (next : ℕ) (ended ticket failed : Bool) (past : Past) (s : Lists lane items next ended ticket failed past) where
  keeps_at : AreValid (lane ∷ []) (whole_stream items ∷ [])
  keeps_at zero = s.valid
  keeps_at (suc p) = refl

  pub lists_keeps : (ss : List Flow) → AreValid [] ss → AreValid (lane ∷ []) (past.task.means ss)
  lists_keeps ss v = subst (λ (f : List Flow → List Flow). AreValid (lane ∷ []) (f ss)) (sym s.means) keeps_at

  pub lists_monotone : IsMonotone (AreValid []) past.task.means
  lists_monotone = subst (λ (f : List Flow → List Flow). IsMonotone (AreValid []) f) (sym s.means) (λ rs ss v w h p. below_self (stream_at (list_of items rs) p))

  calm_at : IsCalm (AreValid []) (list_of items)
  calm_at rs v zero = below_self (whole_stream items)
  calm_at rs v (suc p) = below_self nothing

  pub lists_calm : IsCalm (AreValid []) past.task.means
  lists_calm = subst (λ (f : List Flow → List Flow). IsCalm (AreValid []) f) (sym s.means) calm_at

  pub lists_cause_stays : CauseStays [] past.task.cause
  lists_cause_stays = subst (λ (f : List Flow → Option Fault). CauseStays [] f) (sym s.cause) (λ rs ss c v w h e. absurd (relays_no_fault c e))

  pub lists_due : stream_at (due past) 0 ≡ cut_to (length past.allowed) (whole_stream items)
  lists_due = ap (λ (o : Option Units). stream_at (due_by o (length past.allowed) (past.task.means past.got)) 0) s.source

  due_beyond : (q : ℕ) → stream_at (due past) (suc q) ≡ nothing
  due_beyond q = ap (λ (o : Option Units). stream_at (due_by o (length past.allowed) (past.task.means past.got)) (suc q)) s.source

  -- what was given is due
  below_due : LiesBelow (given_of items next ended) (cut_to (length past.allowed) (whole_stream items))
  below_due = pick ended refl
    where
      pick : (b : Bool) → ended ≡ b → LiesBelow (given_of items next b) (cut_to (length past.allowed) (whole_stream items))
      pick true e =
          let t : length past.allowed ≡ next + as_count true + as_count ticket = subst (λ (b : Bool). length past.allowed ≡ next + as_count b + as_count ticket) e s.tickets in
          let all : next ≡ length items = s.at_end e in
          inl (ap (λ (k : ℕ). given_of items k true) all ∙ sym (cut_after (length past.allowed) items (omega (arith, t, all))))
      pick false e = elim (below_or (length items) (length past.allowed)) [
        | inl lt ↦ subst (λ (t : Flow). LiesBelow (given_of items next false) t) (sym (cut_after (length past.allowed) items lt)) (inr (refl, take_less next (length items) items s.in_range))
        | inr le ↦ subst (λ (t : Flow). LiesBelow (given_of items next false) t) (sym (cut_before (length past.allowed) items le)) (inr (refl, take_less next (length past.allowed) items (omega (arith, s.tickets))))
      ]

  pub lists_given : AllBelow past.gave (due past)
  lists_given zero = rw (s.gave, lists_due) below_due
  lists_given (suc q) = rw (s.beyond (suc q) (omega arith), due_beyond q) (below_self nothing)

  pub lists_tried : next + as_count ended ≤ length past.allowed
  lists_tried = omega (arith, s.tickets)

  units_at : LiesBelow (given_of items next ended) (cut_to (next + as_count ended) (whole_stream items))
  units_at = pick ended refl
    where
      pick : (b : Bool) → ended ≡ b → LiesBelow (given_of items next b) (cut_to (next + as_count b) (whole_stream items))
      pick true e = let all : next ≡ length items = s.at_end e in inl (ap (λ (k : ℕ). given_of items k true) all ∙ sym (cut_after (next + 1) items (omega (arith, all))))
      pick false e = let same : next + 0 ≡ next = omega arith in inl (sym (ap (λ (k : ℕ). cut_to k (whole_stream items)) same ∙ cut_before next items s.in_range))

  -- what it gave are the units that it tried, or the end in place of one
  pub lists_units : AllBelow past.gave (due_by past.task.source (next + as_count ended) (past.task.means past.got))
  lists_units zero = rw (s.gave, s.source) units_at
  lists_units (suc q) = rw (s.beyond (suc q) (omega arith), s.source) (below_self nothing)

  -- and its units are of what it means
  pub lists_below : AreUnits past
  lists_below units e k =
      let same : units_of (whole_stream items) ≡ units = (let both : Some (units_of (whole_stream items)) ≡ Some units = sym s.source ∙ e in cc) in
      subst (λ (u : Units). AllBelow (u.upto k) (past.task.means past.got)) same
      (subst (λ (f : List Flow → List Flow). AllBelow ((units_of (whole_stream items)).upto k) (f past.got)) (sym s.means) (units_below (whole_stream items) k []))

  pub lists_unbroken : AllUnbroken past.gave
  lists_unbroken zero = subst IsUnbroken (sym s.gave) (mark_unbroken ended)
  lists_unbroken (suc q) = subst IsUnbroken (sym (s.beyond (suc q) (omega arith))) (λ b. cc)

  pub lists_ticket_used : (q : ℕ) → fault_if failed ≡ None → IsPending 1 past q → AllAsked 1 past → ticket ≡ true → ⊥
  lists_ticket_used q f p a h =
      let zero_q : q ≡ 0 = (let lt : q < 1 = p.there in omega arith) in
      let asked : IsIn 0 past.asked = subst (λ (k : ℕ). IsIn k past.asked) zero_q (a q p) in
      elim (s.asked h asked) [
        | inl e ↦ (let m : cond ended whole still_open ≡ still_open = sym (ap (λ (t : Flow). t.mark) s.gave) ∙ (ap (λ (k : ℕ). (stream_at past.gave k).mark) (sym zero_q) ∙ p.unclosed) in let m2 = rw e at m in cc (m2))
        | inr e ↦ (let f2 = rw e at f in cc (f2))
      ]

-- what was told is a front of what is due
pub lists_told : (number : ℕ) (stopped told : Bool) (past : Past) → Exits number stopped told past.task.tells past.told past.stopped
    → IsPrefix past.told (past.task.tells past.feeds)
lists_told number stopped told past s =
    subst (λ (es : List Event). IsPrefix past.told es) (sym (ap (λ (f : List Feed → List Event). f past.feeds) s.tells_is))
    (subst (λ (es : List Event). IsPrefix es (Exited number ∷ [])) (sym s.events_are) (pick told))
  where
    pick : (b : Bool) → IsPrefix (cond b (Exited number ∷ []) []) (Exited number ∷ [])
    pick true = ([], refl)
    pick false = (Exited number ∷ [], refl)
