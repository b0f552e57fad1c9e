-- What each call of the machine that gives streams as they are does to how it is seen.
use Rattle.std.proofs.Common.{◌≡◌, ℕ, zero, suc, ◌+◌, ◌<◌, inl, inr, Bool, true, false, List, length, refl, ap, sym, ◌∙◌, subst, arith, IsTrue}
use Rattle.std.specs.Prelude.{◌||◌}
use Rattle.std.proofs.lemmas.Bool.{cases_eq, eq-eqb, ne_eqb, and_from, and_left, and_right}
use Rattle.ff_frame.specs.declared.head.StreamHead.{StreamHead}
use Rattle.ff_stream.specs.declared.item.Item.{Item}
use Rattle.ff_stream.specs.declared.item.Lane.{Lane}
use Rattle.ff_filter.specs.Joins.{before, before_if, before_at}
use Rattle.ff_filter.specs.Made.{is_over}
use Rattle.ff_filter.specs.Views.{Same, Fed, Gave, Waits, Stopped, IsSpent, closes}
use Rattle.ff_node_sync.specs.declared.side.Side.{Side}
use Rattle.ff_node_sync.specs.Lines.{Line, line_at, lines_of, came, AreNew}
use Rattle.ff_node_sync.specs.laws.Moves.{Takes, IsStopped}
use Rattle.ff_node_sync.specs.laws.Straights.{still_came, IsGiven, IsHeld, straight_view, straight_of, IsStraight, is_through, through_to, straight_spent}
use Rattle.ff_node_sync.specs.laws.StraightLaws.{straight-spent_only, straight-spent_from}
use Rattle.ff_node_sync.proofs.Moving.{Replaced, cond_same, long_lanes}

pub self_same : (lanes : List Lane) (ls : List Line) → Same (straight_view lanes ls) (straight_view lanes ls)
self_same lanes ls = record { ports = record { ins = refl; outs = refl }; rest = λ ext q on. refl; shut = λ p. refl; ended = λ q. refl; stopped = λ q. refl }

module _ (lanes lanes' : List Lane) (ls ms : List Line) (p : ℕ) (n : Line) (same : lanes' ≡ lanes) (r : Replaced ls ms p n) where
  -- what is said of all lines is said still, where it is of that one
  at_line : {A : Type 0} (F : Line → A) → F n ≡ F (line_at ls p) → (q : ℕ) → F (line_at ms q) ≡ F (line_at ls q)
  at_line {A} F h q = elim (cases_eq q p) as (λ _. F (line_at ms q) ≡ F (line_at ls q)) [
    | inl e ↦ subst (λ k. F (line_at ms k) ≡ F (line_at ls k)) (sym e) (ap F r.here ∙ h)
    | inr ne ↦ ap F (r.others q ne)
  ]

  pub fed_straight : (x : Item) → is_over (line_at ls p).after ≡ false → Takes (line_at ls p) n x → Fed (straight_view lanes ls) (straight_view lanes' ms) p x
  fed_straight x going_on t = record {
    ports = record { ins = same; outs = same };
    rest = λ ext q on. elim (cases_eq q p) as (λ _. still_came (line_at ms q) (ext q) ≡ still_came (line_at ls q) (before_at p x ext q)) [
      | inl e ↦ (let on_p = ap (λ k. (line_at ls k).stopped) (sym e) ∙ on in
          subst (λ k. still_came (line_at ms k) (ext k) ≡ still_came (line_at ls k) (before_at p x ext k)) (sym e)
          (ap (λ (l : Line). still_came l (ext p)) r.here
          ∙ (cond_same n.ended (line_at ls p).ended (came n (ext p)) (came (line_at ls p) (before x (ext p))) t.ended (λ going. t.came going on_p (ext p))
          ∙ ap (λ (b : Bool). still_came (line_at ls p) (before_if b x (ext p))) (sym (eq-eqb p p refl)))))
      | inr ne ↦ ap (λ (l : Line). still_came l (ext q)) (r.others q ne) ∙ ap (λ (b : Bool). still_came (line_at ls q) (before_if b x (ext q))) (sym (ne_eqb q p ne))
    ];
    shut_here = ap (λ (l : Line). is_over l.after) r.here ∙ (t.shut ∙ sym (ap (λ b. b || closes x) going_on));
    shut_others = λ q lt ne. ap (λ (l : Line). is_over l.after) (r.others q ne);
    ended = at_line (λ l. l.ended) t.ended;
    stopped = at_line (λ l. l.stopped) t.stopped;
  }

  pub gave_straight : (x : Item) → IsGiven (line_at ls p) n x → Gave (straight_view lanes ls) (straight_view lanes' ms) p x
  gave_straight x g = record {
    ports = record { ins = same; outs = same };
    open_before = g.open_before;
    rest_here = λ ext. g.rest (ext p) ∙ ap (λ (l : Line). before x (still_came l (ext p))) (sym r.here);
    rest_others = λ ext q lt ne on. ap (λ (l : Line). still_came l (ext q)) (r.others q ne);
    shut = at_line (λ l. is_over l.after) (ap is_over g.after);
    ended_here = ap (λ (l : Line). l.ended) r.here ∙ g.ended;
    ended_others = λ q lt ne. ap (λ (l : Line). l.ended) (r.others q ne);
    stopped = at_line (λ l. l.stopped) g.stopped;
  }

  pub waits_straight : IsHeld (line_at ls p) n → Waits (straight_view lanes ls) (straight_view lanes' ms) p
  waits_straight h = record {
    same = record {
      ports = record { ins = same; outs = same };
      rest = λ ext q on. ap (λ (l : Line). still_came l (ext q)) (at_line (λ l. l) h.same q);
      shut = at_line (λ l. is_over l.after) (ap (λ (l : Line). is_over l.after) h.same);
      ended = at_line (λ l. l.ended) (ap (λ (l : Line). l.ended) h.same);
      stopped = at_line (λ l. l.stopped) (ap (λ (l : Line). l.stopped) h.same);
    };
    nothing_left = h.nothing_left;
  }

  pub stopped_straight : IsStopped (line_at ls p) n → Stopped (straight_view lanes ls) (straight_view lanes' ms) p
  stopped_straight t = record {
    ports = record { ins = same; outs = same };
    stopped_here = ap (λ (l : Line). l.stopped) r.here ∙ t.stopped;
    stopped_others = λ q lt ne. ap (λ (l : Line). l.stopped) (r.others q ne);
    rest_others = λ ext q lt ne on. ap (λ (l : Line). still_came l (ext q)) (r.others q ne);
    shut = at_line (λ l. is_over l.after) (ap is_over t.after);
    ended = at_line (λ l. l.ended) t.ended;
  }

-- so many outputs are done
pub through_more : (ls : List Line) (p : ℕ) (b : Bool) → b ≡ is_through ls p → b ≡ true → through_to ls p ≡ true → through_to ls (p + 1) ≡ true
through_more ls p b is t h = let n : p + 1 ≡ suc p = omega arith in ap (λ m. through_to ls m) n ∙ and_from (through_to ls p) (is_through ls p) h (sym is ∙ t)

pub through_fails : (ls : List Line) (n p : ℕ) (b : Bool) → p < n → b ≡ is_through ls p → b ≡ false → through_to ls n ≡ false
through_fails ls zero p b lt is f = absurd (omega (arith, lt))
through_fails ls (suc n) p b lt is f = elim (cases_eq p n) as (λ _. through_to ls (suc n) ≡ false) [
  | inl same ↦ and_right (through_to ls n) (is_through ls n) (ap (λ k. is_through ls k) (sym same) ∙ (sym is ∙ f))
  | inr ne ↦ and_left (through_to ls n) (is_through ls n) (through_fails ls n p b (omega (arith, lt, ne)) is f)
]

pub straight_exact : (ss : List Side) (p : ℕ) (b : Bool) → p < length ss → b ≡ straight_spent (lines_of ss) p → (IsTrue b → IsSpent (straight_of ss) p)
    × (IsSpent (straight_of ss) p → IsTrue b)
straight_exact ss p b lt is = (
  λ t. straight-spent_only ss p (let l = long_lanes ss in omega (arith, lt, l)) (sym is ∙ t),
  λ s. is ∙ straight-spent_from ss p s,
)

pub straight_new : (hs : List StreamHead) (ss : List Side) → AreNew hs ss → IsStraight hs (straight_of ss)
straight_new hs ss n = record {
  ins = n.lanes;
  outs = n.lanes;
  new = record {
    shut = λ p. ap (λ (l : Line). is_over l.after) (n.lines p);
    ended = λ p. ap (λ (l : Line). l.ended) (n.lines p);
    stopped = λ p. ap (λ (l : Line). l.stopped) (n.lines p);
  };
  rest = λ ext p. ap (λ (l : Line). still_came l (ext p)) (n.lines p);
}
