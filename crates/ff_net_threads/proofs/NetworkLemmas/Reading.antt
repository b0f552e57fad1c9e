-- The reads of a source, by the log of its pass.
use Rattle.std.proofs.Common.{◌≡◌, ℕ, zero, suc, ◌+◌, ◌<◌, ◌≤◌, List, [], ◌∷◌, ◌++◌, length, map, take, slice_get, Option, None, Some, refl, sym, ◌∙◌, subst, arith}
use Rattle.std.proofs.lemmas.List.{length-map, length-take-le}
use Rattle.std.proofs.lemmas.Option.{get_or_from_slice_get, slice_get_within}
use Rattle.ff_frame.specs.declared.event.Event.{Event}
use Rattle.ff_frame.specs.declared.event.Event.TheVariants.{Grant}
use Rattle.ff_frame.specs.declared.event.Ticket.{Ticket}
use Rattle.ff_sched.specs.declared.logged.Logged.{Logged}
use Rattle.ff_net.specs.laws.Laws.{reads_of}
use Rattle.ff_net.specs.laws.Logs.{AreTicketsOf, tickets_in}
use Rattle.ff_net.specs.Pasts.{Past}
use Rattle.ff_net.specs.laws.Views.{View}
use Rattle.ff_net_threads.specs.laws.network.Scheduling.{IsLogOf, ReadsUnderGrants}

abbrev places_of : List Ticket → List ℕ
places_of ts = map (λ t. t.place) ts

-- a place that was read is the place of the ticket of its number
abbrev HasTicket : List Ticket → ℕ → ℕ → Type 0
HasTicket us i p = (t : Ticket) × (slice_get us i ≡ Some t) × (t.place ≡ p)

none_taken : (i p : ℕ) → slice_get [] i ≡ Some p → ⊥
none_taken zero p e = cc (e)
none_taken (suc i) p e = cc (e)

taken : (n : ℕ) (ts rest : List Ticket) (i p : ℕ) → slice_get (take n (places_of ts)) i ≡ Some p → HasTicket (ts ++ rest) i p
taken zero [] rest i p e = absurd (none_taken i p e)
taken (suc n) [] rest i p e = absurd (none_taken i p e)
taken zero (t ∷ ts) rest i p e = absurd (none_taken i p e)
taken (suc n) (t ∷ ts) rest zero p e = (t, refl, (let same : t.place ≡ p = cc (e) in same))
taken (suc n) (t ∷ ts) rest (suc i) p e = taken n ts rest i p e

-- the source of a ticket of a source
source_of : (source : Option ℕ) (ts : List Ticket) (i : ℕ) (t : Ticket) → AreTicketsOf source ts → slice_get ts i ≡ Some t → source ≡ Some t.source
source_of source ts i t own e = subst (λ (u : Ticket). source ≡ Some u.source) (get_or_from_slice_get ts i t t e) (own i t (slice_get_within ts i t e))

all_none : (ps : List ℕ) → ((p : ℕ) → slice_get ps 0 ≡ Some p → ⊥) → ps ≡ []
all_none [] empty = refl
all_none (p ∷ ps) empty = absurd (empty p refl)

module _ (v : View) (past : Past) (log : List Logged) (l : IsLogOf v past log) where
  ticket_at : (i p : ℕ) → slice_get (reads_of v past) i ≡ Some p → HasTicket (tickets_in log) i p
  ticket_at i p e = subst (λ (ts : List Ticket). HasTicket ts i p) l.allowed.1 (taken v.tried past.allowed l.allowed.0 i p e)

  -- what can be behind a machine with a log whose tickets stand in a history has read under these
  pub reads_under : (events : List Event) → v.tried ≤ length past.allowed
      → ((i : ℕ) (t : Ticket) → slice_get (tickets_in log) i ≡ Some t → slice_get events t.place ≡ Some (Grant t.source))
      → ((i : ℕ) (t u : Ticket) → slice_get (tickets_in log) i ≡ Some t → slice_get (tickets_in log) (i + 1) ≡ Some u → t.place < u.place)
      → ReadsUnderGrants v past events
  reads_under events allowed stand rise = record {
    one_each = length-take-le v.tried (places_of past.allowed) (let n = length-map past.allowed (λ (t : Ticket). t.place) in omega (arith, allowed, n));
    granted = λ s i p is e.
        let t = ticket_at i p e in
        let mine : Some s ≡ Some t.0.source = sym is ∙ source_of v.source (tickets_in log) i t.0 l.own t.1 in
        let same : t.0.source ≡ s = cc (mine) in
        subst (λ (q : ℕ). slice_get events q ≡ Some (Grant s)) t.2 (subst (λ (k : ℕ). slice_get events t.0.place ≡ Some (Grant k)) same (stand i t.0 t.1));
    in_order = λ i p q e f.
        let t = ticket_at i p e in
        let u = ticket_at (i + 1) q f in
        let lt = rise i t.0 u.0 t.1 u.1 in
        let a = t.2 in
        let b = u.2 in omega (arith, lt, a, b);
    only_sources = λ none. all_none (reads_of v past) (λ p e.
        let t = ticket_at 0 p e in
        let no : None ≡ Some t.0.source = sym none ∙ source_of v.source (tickets_in log) 0 t.0 l.own t.1 in cc (no));
  }
