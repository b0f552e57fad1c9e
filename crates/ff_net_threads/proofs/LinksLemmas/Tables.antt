-- Senders in a table by the numbers of their links.
use Rattle.std.proofs.Common.{◌≡◌, ℕ, zero, suc, ◌<◌, inl, inr, List, [], ◌∷◌, length, map, slice_index_or, slice_set, ◌++◌, append_assoc, append-nil, refl, ap, sym, ◌∙◌, subst, arith, Option, None, Some, get_or-set_same, get_or-set_other}
use Rattle.std.proofs.lemmas.List.{length-set}
use Rattle.ff_link.specs.laws.Views.{Link, Sending, Receiving, Ended}
use Rattle.ff_link.specs.declared.answers.Settled.{Settled}
use Rattle.ff_net.specs.laws.Nodes.{pass_of}
use Rattle.ff_sched.specs.laws.Passing.{Passing}
use Rattle.ff_net.proofs.Flows.{same_or_not}
use Rattle.ff_net_threads.specs.declared.links.ends.InEnd.{InEnd}
use Rattle.ff_net_threads.specs.declared.links.ends.OutEnd.{OutEnd}
use Rattle.ff_net_threads.specs.declared.links.linked.Linked.{Linked}
use Rattle.ff_net_threads.specs.laws.links.Ends.{taken_in, taken_of, link_in, in_link}
use Rattle.ff_net_threads.specs.laws.links.Nodes.{node_of}
use Rattle.ff_net_threads.specs.laws.links.Settling.{WasSentIn, IsSenderIn, IsTable, IsFed, IsSettled, passes_in}

pub table_set : (all : List (List OutEnd)) (links : ℕ → Link) (table : List (Option Sending)) (w : ℕ) (o : Option Sending) → ((s : Sending) → o ≡ Some s → IsSenderIn all w s × (s.link ≡ links w)) → IsTable all links table → IsTable all links (slice_set table w o)
table_set all links table w o h t = record {
  each = λ v d s lt e.
      let long : v < length table = subst (λ (n : ℕ). v < n) (simp length-set) lt in
      elim (same_or_not v w) [
        | inl same ↦ subst (λ (u : ℕ). IsSenderIn all u s × (s.link ≡ links u)) (sym same)
            (h s (sym (ap (λ (u : ℕ). slice_index_or (slice_set table w o) u d) same ∙ get_or-set_same table w o d (subst (λ (u : ℕ). u < length table) same long)) ∙ e))
        | inr other ↦ t.each v d s long (sym (get_or-set_other table w v o d other) ∙ e)
      ];
}

pub no_sender : (o : Option Sending) (s : Sending) → o ≡ None → o ≡ Some s → ⊥
no_sender o s e f = let no : None ≡ Some s = sym e ∙ f in cc (no)

pub same_sender : (o : Option Sending) (s t : Sending) → o ≡ Some s → o ≡ Some t → s ≡ t
same_sender o s t e f = let same : Some s ≡ Some t = sym e ∙ f in cc (same)

pub link_ended : (end : InEnd) (f : Ended) (l : Link) → end.taking ≡ None → end.finished ≡ Some f → in_link end ≡ Some l → f.link ≡ l
link_ended end f l t i h =
    let same : Some f.link ≡ Some l = subst (λ (k : Option Receiving). link_in k (Some f) ≡ Some l) t (subst (λ (o : Option Ended). link_in end.taking o ≡ Some l) i h) in cc (same)

pub taken_ended : (end : InEnd) (f : Ended) → end.taking ≡ None → end.finished ≡ Some f → taken_of end ≡ f.taken
taken_ended end f t i = ap (λ (k : Option Receiving). taken_in k end.finished) t ∙ ap (λ (o : Option Ended). taken_in None o) i

-- what stands at a number, whatever would stand in its place where there were none
pub at_any : {A : Type 0} (xs : List A) (k : ℕ) (d e : A) → k < length xs → slice_index_or xs k d ≡ slice_index_or xs k e
at_any [] k d e lt = absurd (omega arith)
at_any (x ∷ xs) zero d e lt = refl
at_any (x ∷ xs) (suc k) d e lt = at_any xs k d e (omega arith)

-- the sender of one of the ends
pub is_sender_at : (ess : List (List OutEnd)) (es : List OutEnd) (k q : ℕ) (d : OutEnd) → k < length ess → slice_index_or ess k es ≡ es → q < length es → IsSenderIn ess (slice_index_or es q d).wire (slice_index_or es q d).sender
is_sender_at [] es k q d klt same qlt = absurd (omega arith)
is_sender_at (x ∷ xs) es zero q d klt same qlt = inl (q, subst (λ (l : List OutEnd). q < length l) (sym same) qlt, λ e. there x es same q qlt e)
  where
    there : (l m : List OutEnd) → l ≡ m → (p : ℕ) → p < length m → (e : OutEnd) → ((slice_index_or l p e).wire ≡ (slice_index_or m p d).wire) × ((slice_index_or l p e).sender ≡ (slice_index_or m p d).sender)
    there l m s p plt e =
        let at : slice_index_or l p e ≡ slice_index_or m p d = ap (λ (n : List OutEnd). slice_index_or n p e) s ∙ at_any m p e d plt in
        (ap (λ (o : OutEnd). o.wire) at, ap (λ (o : OutEnd). o.sender) at)
is_sender_at (x ∷ xs) es (suc k) q d klt same qlt = inr (is_sender_at xs es k q d (omega arith) same qlt)

-- what it sent
sent_by_it : (all : List (List OutEnd)) (w : ℕ) (s : Sending) → IsSenderIn all w s → WasSentIn all w s.sent
sent_by_it [] w s i = i
sent_by_it (es ∷ ess) w s (inl h) = inl (h.0, h.1, λ d. ((h.2 d).0, ap (λ (x : Sending). x.sent) (h.2 d).1))
sent_by_it (es ∷ ess) w s (inr i) = inr (sent_by_it ess w s i)

-- an end whose link is settled was fed the beginning of what was sent
pub settled_fed : (all : List (List OutEnd)) (settled : List Settled) (end : InEnd) → IsSettled all settled end → IsFed all end
settled_fed all settled end h = (h.sender.sent, h.in_order, sent_by_it all end.wire h.sender h.is_sender)

-- and stays so where nothing else is noted at its link
pub settled_still : (all : List (List OutEnd)) (settled now : List Settled) (end : InEnd) → ((d : Settled) → slice_index_or now end.wire d ≡ slice_index_or settled end.wire d) → IsSettled all settled end → IsSettled all now end
settled_still all settled now end same h = record { sender = h.sender; is_sender = h.is_sender; in_order = h.in_order; within = h.within; noted = λ d. same d ∙ h.noted d }

pub at_map : {A B : Type 0} (f : A → B) (xs : List A) (k : ℕ) (d : A) (e : B) → k < length xs → slice_index_or (map f xs) k e ≡ f (slice_index_or xs k d)
at_map f [] k d e lt = absurd (omega arith)
at_map f (x ∷ xs) zero d e lt = refl
at_map f (x ∷ xs) (suc k) d e lt = at_map f xs k d e (omega arith)

-- the passes of the nodes, one more
pub next_pass : {M : Type 0} (ps ps' : List Passing) (p : Passing) (l : Linked M) (ls rest : List (Linked M)) (all : List Passing) → ps' ≡ ps ++ p ∷ [] → ls ≡ l ∷ rest → p ≡ pass_of (node_of l) → ps ++ passes_in ls ≡ all → ps' ++ passes_in rest ≡ all
next_pass ps ps' p l ls rest all more first is was =
    ap (λ (xs : List Passing). xs ++ passes_in rest) more ∙ (append_assoc ps (p ∷ []) (passes_in rest) ∙ (ap (λ (q : Passing). ps ++ q ∷ passes_in rest) is ∙ (ap (λ (xs : List (Linked _)). ps ++ passes_in xs) (sym first) ∙ was)))

-- and all
pub all_passes : {M : Type 0} (ps : List Passing) (ls : List (Linked M)) (all : List Passing) → length ls ≡ 0 → ps ++ passes_in ls ≡ all → ps ≡ all
all_passes ps [] all none was = sym (append-nil ps) ∙ was
all_passes ps (l ∷ ls) all none was = absurd (omega (arith, none))
