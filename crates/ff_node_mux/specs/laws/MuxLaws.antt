-- The laws of the part that writes streams of packets.
use Rattle.std.specs.Prelude.{◌≡◌, ℕ, ◌<◌, false, true, List, [], Some, None, IsSome, length}
use Rattle.std.proofs.Common.{sym, subst, ap, inl, inr, ◌∙◌, arith}
use Rattle.std.proofs.lemmas.Bool.{cases_Bool}
use Rattle.ff_time.specs.Fraction.{Fraction}
use Rattle.ff_frame.specs.declared.head.StreamHead.{StreamHead}
use Rattle.ff_stream.specs.declared.item.Lane.TheVariants.{Packets}
use Rattle.ff_stream.specs.Lanes.{IsValid}
use Rattle.ff_stream.specs.laws.Order.{below_self}
use Rattle.ff_stream.specs.Ports.{nothing, stream_at, AllBelow, AllUnbroken, IsClosed, IsUnbroken, IsWhole, IsMonotone, IsCalm}
use Rattle.ff_net.specs.declared.fault.Fault.{Fault}
use Rattle.ff_net.specs.Ways.{Flow, AreValid}
use Rattle.ff_net.specs.Pasts.{Past, Task, due}
use Rattle.ff_net.specs.laws.Laws.{CauseStays, IsOfInputs, MaySpend}
use Rattle.ff_net.proofs.Flows.{due_meant}
use Rattle.ff_host.specs.declared.sink.Sink.{Ghosts as SinkGhosts}
use Rattle.ff_format.specs.Layouts.{Layout}
use Rattle.ff_format.specs.declared.writer.Writer.{Ghosts as WriterGhosts}
use Rattle.ff_node_mux.specs.declared.mux.Mux.{Mux}
use Rattle.ff_node_mux.specs.laws.Growing.{causes_grow, small_held}
use Rattle.ff_node_mux.specs.laws.Held.{HoldsPart, part_of, part_by, there_is}
use Rattle.ff_node_mux.specs.laws.Mixing.{lanes_long, valid_there, whole_from, whole_to}
use Rattle.ff_node_mux.specs.Muxing.{are_whole, mixed, totals_in, unpatched, file, mux_task, NothingCame}
use Rattle.ff_node_mux.specs.Telling.{mux_tells}
use Rattle.ff_node_mux.specs.laws.TaskLaws.{gives_none, means_keeps, means_monotone, means_calm, same_count, same_text, same_file}
use Rattle.ff_node_mux.specs.laws.Muxers.{mux_sink, mux_layout, mux_bases, mux_writes, mux_in_lanes, mux_fault, mux_spent}

-- there is no output
pub no_output : (q : ℕ) → q < 0 → ⊥
no_output q lt = omega arith

module _ {K W : Type 0} {S : SinkGhosts K} {F : WriterGhosts W} (m : Mux K W S F) (past : Past) (s : mux_writes m past) where
  pub mux_source : past.task.source ≡ None
  mux_source = ap (λ (t : Task). t.source) s.1.task

  pub mux_valid : AreValid (mux_in_lanes m) past.got
  mux_valid = s.1.valid

  pub mux_keeps : (ss : List Flow) → AreValid (mux_in_lanes m) ss → AreValid [] (past.task.means ss)
  mux_keeps ss v = subst (λ (t : Task). AreValid [] (t.means ss)) (sym s.1.task) (means_keeps (mux_layout m) m.heads.items ss v)

  pub mux_monotone : IsMonotone (AreValid (mux_in_lanes m)) past.task.means
  mux_monotone = subst (λ (t : Task). IsMonotone (AreValid (mux_in_lanes m)) t.means) (sym s.1.task) (means_monotone (mux_layout m) m.heads.items)

  pub mux_cause_stays : CauseStays (mux_in_lanes m) past.task.cause
  mux_cause_stays = subst (λ (t : Task). CauseStays (mux_in_lanes m) t.cause) (sym s.1.task)
      (λ rs ss c v w b e. causes_grow (mux_layout m) (mux_bases m) rs ss c b e)

  pub mux_calm : IsCalm (AreValid (mux_in_lanes m)) past.task.means
  mux_calm = subst (λ (t : Task). IsCalm (AreValid (mux_in_lanes m)) t.means) (sym s.1.task) (means_calm (mux_layout m) m.heads.items)

  due_is : due past ≡ []
  due_is =
      due_meant past mux_source
      ∙ (ap (λ (t : Task). t.means past.got) s.1.task ∙ gives_none (mux_layout m) m.heads.items past.got s.1.valid)

  pub mux_given : AllBelow past.gave (due past)
  mux_given p = rw (due_is, s.1.gave p) (below_self nothing)

  pub mux_unbroken : AllUnbroken past.gave
  mux_unbroken p = subst (λ (x : Flow). IsUnbroken x) (sym (s.1.gave p)) (λ b. cc)

  pub mux_caused : (c : Fault) → mux_fault m ≡ Some c → IsOfInputs c → past.task.cause past.got ≡ Some c
  mux_caused c e i = ap (λ (t : Task). t.cause past.got) s.1.task ∙ s.1.caused c e i

  pub mux_spent_only : (p : ℕ) → mux_spent m p → MaySpend (mux_in_lanes m) 0 past p
  mux_spent_only p sp = inl ((s.1.closed_is p).0 sp.1)

  pub mux_closed_spent : (p : ℕ) → p < length (mux_in_lanes m) → IsClosed (stream_at past.got p) → mux_spent m p
  mux_closed_spent p lt c = (subst (λ n. p < n) (lanes_long m.heads.items) lt, (s.1.closed_is p).1 c)

  has_begun : (NothingCame past.got → ⊥) → m.begun ≡ true
  has_begun n = elim (cases_Bool m.begun) as (λ _. m.begun ≡ true) [ inl t ↦ t | inr f ↦ absurd (n (s.1.not_begun f)) ]

  not_begun : NothingCame past.got → m.begun ≡ false
  not_begun n = elim (cases_Bool m.begun) as (λ _. m.begun ≡ false) [ inl t ↦ absurd (s.1.has_begun t n) | inr f ↦ f ]

  -- before the first item the sink holds nothing
  pub mux_holds_nothing : NothingCame past.got → S.holds (mux_sink m) ≡ Some []
  mux_holds_nothing n = s.1.told ∙ ap (λ (b : List ℕ). Some b) (s.1.fresh (not_begun n)).0

  -- what is written is what the task says, by whatever layout and bases
  module _ (first : ℕ) (bases : List Fraction) (layout : Layout) (is : past.task ≡ mux_task layout first bases) where
    its_text : (ss : List Flow) → unpatched (mux_layout m) (mux_bases m) ss ≡ unpatched layout bases ss
    its_text ss = same_text (mux_layout m) layout (mux_bases m) bases past.task.tells (mux_tells first bases) (sym s.1.task ∙ is) ss

    its_file : (ss : List Flow) → file (mux_layout m) (mux_bases m) ss ≡ file layout bases ss
    its_file ss = same_file (mux_layout m) layout (mux_bases m) bases past.task.tells (mux_tells first bases) (sym s.1.task ∙ is) ss

    pub its_count : length (mux_bases m) ≡ length bases
    its_count = same_count (mux_layout m) layout (mux_bases m) bases past.task.tells (mux_tells first bases) (sym s.1.task ∙ is)

    -- the stream on each input is valid for some head
    pub mux_lane : (p : ℕ) → p < length bases → (head : StreamHead) × IsValid (Packets head) (stream_at past.got p)
    mux_lane p lt = valid_there m.heads.items p (stream_at past.got p) (subst (λ k. p < k) (sym its_count) lt) (s.1.valid p)

    -- without a fault the sink holds afterwards what is written of the streams, until each is whole
    pub mux_holds : mux_fault m ≡ None → (NothingCame past.got → ⊥) → (((p : ℕ) → p < length bases → IsWhole (stream_at past.got p)) → ⊥)
        → S.holds (mux_sink m) ≡ Some (unpatched layout bases past.got)
    mux_holds f n w = elim (cases_Bool (are_whole (length (mux_bases m)) past.got)) as (λ _. S.holds (mux_sink m) ≡ Some (unpatched layout bases past.got)) [
      | inl t ↦ absurd (w (λ p lt. whole_to (length (mux_bases m)) past.got t p (subst (λ k. p < k) (sym its_count) lt)))
      | inr o ↦ s.1.told ∙ ap (λ (b : List ℕ). Some b) (s.1.exact f (has_begun n) o ∙ its_text past.got)
    ]

    -- of whole streams it holds the file, which there is
    pub mux_holds_file : mux_fault m ≡ None → ((p : ℕ) → p < length bases → IsWhole (stream_at past.got p))
        → IsSome (file layout bases past.got) × (S.holds (mux_sink m) ≡ file layout bases past.got)
    mux_holds_file f w =
        let t = whole_from (length (mux_bases m)) past.got (λ p lt. w p (subst (λ k. p < k) its_count lt)) in
        let e = sym (its_file past.got) ∙ s.1.finished_is f t in
        (there_is (file layout bases past.got) s.0 e, s.1.told ∙ sym e)

    -- whatever went wrong, it holds a front of what is written, or the file
    pub mux_holds_part : HoldsPart (S.holds (mux_sink m)) (unpatched layout bases past.got) (file layout bases past.got)
    mux_holds_part = part_by (S.holds (mux_sink m)) (its_text past.got) (its_file past.got)
        (part_of (mux_layout m) (totals_in (mux_bases m) past.got) (S.holds (mux_sink m)) s.0 (mixed (mux_bases m) past.got) s.1.told
        (small_held (mux_layout m) (totals_in (mux_bases m) past.got) s.0 (mixed (mux_bases m) past.got) s.1.front))
