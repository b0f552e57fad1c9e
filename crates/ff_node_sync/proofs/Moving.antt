-- What each call of the machine that shortens does to how it is seen.
use Rattle.std.proofs.Common.{◌≡◌, ◌≢◌, ℕ, zero, suc, ◌+◌, ◌<◌, ◌≤◌, inl, inr, Bool, true, false, cond, Option, Some, List, [], ◌∷◌, ◌++◌, map, length, refl, ap, sym}
use Rattle.std.proofs.Common.{◌∙◌, subst, arith, get_or, set, take, drop, drop-cons, IsTrue}
use Rattle.std.specs.Prelude.{◌||◌}
use Rattle.std.proofs.lemmas.List.{length-set}
use Rattle.std.proofs.lemmas.Bool.{cases_eq, eq-eqb, ne_eqb, and_from, and_left, and_right}
use Rattle.ff_time.specs.Fraction.{Fraction}
use Rattle.ff_frame.specs.declared.head.StreamHead.{StreamHead}
use Rattle.ff_frame.specs.Heads.{base_of_head}
use Rattle.ff_stream.specs.declared.item.Item.{Item}
use Rattle.ff_stream.specs.declared.item.Item.TheVariants.{Audio, Video, Packet, Trailer, End, Broken}
use Rattle.ff_stream.specs.declared.item.Lane.{Lane}
use Rattle.ff_stream.specs.declared.item.Lane.TheVariants.{Frames}
use Rattle.ff_stream.specs.Stream.{Mark, still_open}
use Rattle.ff_stream.specs.Ports.{nothing}
use Rattle.ff_filter.specs.declared.after.After.{After}
use Rattle.ff_filter.specs.declared.after.After.TheVariants.{More, Whole, Broke}
use Rattle.ff_filter.specs.Joins.{Flow, Ports, silence, before, before_if, before_at}
use Rattle.ff_filter.specs.Shifts.{start_ticks}
use Rattle.ff_filter.specs.Made.{behind, is_over, mark_after}
use Rattle.ff_filter.specs.Views.{Same, Fed, Gave, Waits, Stopped, IsSpent, closes}
use Rattle.ff_node_sync.specs.declared.side.Side.{Side}
use Rattle.ff_node_sync.specs.Shortened.{Fate, Kept, Held, both, put_kept, kept_by, fate_by, fate_to, furthest, is_before}
use Rattle.ff_node_sync.specs.Lines.{Line, new_line, line_of, line_at, lines_of, lanes_of, came, bases, end_with, mark_with, ends_with, marks_with, still_kept}
use Rattle.ff_node_sync.specs.Lines.{shortest_view, view_of, reaches, stands, fate_now, next_fate, fate_is, is_closed, is_done, done_to, shortest_spent, head_base}
use Rattle.ff_node_sync.specs.Lines.{IsShortest, AreNew}
use Rattle.ff_node_sync.specs.laws.Moves.{Takes, IsTaken, IsEnded, IsStopped, IsClosedAt}
use Rattle.ff_node_sync.specs.laws.ShortLaws.{Refines, Further, fate_refines, kept_alike, still_silent, furthest-more, shortest-spent_only, spent_from, lanes_long}

pub before_goes_on : (x : Item) (t : Flow) → closes x ≡ false → before x t ≡ record { items = x ∷ t.items; mark = t.mark }
before_goes_on (Audio f) t e = refl
before_goes_on (Video f) t e = refl
before_goes_on (Packet p) t e = refl
before_goes_on (Trailer s) t e = refl
before_goes_on End t e = cc
before_goes_on Broken t e = cc

-- one stream was replaced
pub record Replaced (ls ms : List Line) (p : ℕ) (n : Line) : Type 0 where
  pub long : length ms ≡ length ls
  pub here : line_at ms p ≡ n
  pub others : (q : ℕ) → q ≢ p → line_at ms q ≡ line_at ls q

pub line_there : (ss : List Side) (p : ℕ) (s : Side) → p < length ss → s ≡ get_or ss p s → line_at (lines_of ss) p ≡ line_of s
line_there [] p s lt e = absurd (omega (arith, lt))
line_there (r ∷ ss) zero s lt e = ap (λ (x : Side). line_of x) (sym e)
line_there (r ∷ ss) (suc p) s lt e = line_there ss p s (omega (arith, lt)) e

set_here : (ss : List Side) (p : ℕ) (s : Side) → p < length ss → line_at (lines_of (set ss p s)) p ≡ line_of s
set_here [] p s lt = absurd (omega (arith, lt))
set_here (r ∷ ss) zero s lt = refl
set_here (r ∷ ss) (suc p) s lt = set_here ss p s (omega (arith, lt))

set_others : (ss : List Side) (p q : ℕ) (s : Side) → q ≢ p → line_at (lines_of (set ss p s)) q ≡ line_at (lines_of ss) q
set_others [] p q s n = refl
set_others (r ∷ ss) zero zero s n = absurd (n refl)
set_others (r ∷ ss) zero (suc q) s n = refl
set_others (r ∷ ss) (suc p) zero s n = refl
set_others (r ∷ ss) (suc p) (suc q) s n = set_others ss p q s (λ e. n (ap suc e))

pub set_lanes : (ss : List Side) (p : ℕ) (i j : Side) → p < length ss → j ≡ get_or ss p j → i.head ≡ j.head → lanes_of (set ss p i) ≡ lanes_of ss
set_lanes [] p i j lt e h = refl
set_lanes (r ∷ ss) zero i j lt e h = ap (λ (g : StreamHead). Frames g ∷ lanes_of ss) (h ∙ ap (λ (x : Side). x.head) e)
set_lanes (r ∷ ss) (suc p) i j lt e h = ap (λ (ls : List Lane). Frames r.head ∷ ls) (set_lanes ss p i j (omega (arith, lt)) e h)

pub long_lines : (ss : List Side) → length (lines_of ss) ≡ length ss
long_lines [] = refl
long_lines (s ∷ ss) = let e = long_lines ss in omega (arith, e)

pub long_lanes : (ss : List Side) → length (lanes_of ss) ≡ length ss
long_lanes [] = refl
long_lanes (s ∷ ss) = let e = long_lanes ss in omega (arith, e)

pub port_there : (ss : List Side) (p : ℕ) → p < length (lanes_of ss) → p < length ss
port_there ss p lt = let e = long_lanes ss in omega (arith, lt, e)

pub replaced : (ss : List Side) (p : ℕ) (i : Side) → p < length ss → Replaced (lines_of ss) (lines_of (set ss p i)) p (line_of i)
replaced ss p i lt = record {
  long = long_lines (set ss p i) ∙ (length-set ss p i ∙ sym (long_lines ss));
  here = set_here ss p i lt;
  others = λ q n. set_others ss p q i n;
}

pub set_same : (ss : List Side) (p : ℕ) (i j : Side) → p < length ss → j ≡ get_or ss p j → line_of i ≡ line_of j → lines_of (set ss p i) ≡ lines_of ss
set_same [] p i j lt e l = refl
set_same (r ∷ ss) zero i j lt e l = ap (λ (x : Line). x ∷ lines_of ss) (l ∙ ap (λ (x : Side). line_of x) e)
set_same (r ∷ ss) (suc p) i j lt e l = ap (λ (xs : List Line). line_of r ∷ xs) (set_same ss p i j (omega (arith, lt)) e l)

pub cond_same : (b c : Bool) (s t : Flow) → b ≡ c → (c ≡ false → s ≡ t) → cond b nothing s ≡ cond c nothing t
cond_same b c s t e h = subst (λ d. cond d nothing s ≡ cond c nothing t) (sym e) (at c h)
  where
    at : (d : Bool) → (d ≡ false → s ≡ t) → cond d nothing s ≡ cond d nothing t
    at true k = refl
    at false k = k refl

module _ (lanes lanes' : List Lane) (ls ms : List Line) (p : ℕ) (n : Line) (same : lanes' ≡ lanes) (r : Replaced ls ms p n) where
  -- of each stream the same is true as before, or of that one with the item
  at_port : {A : Type 0} (x : Item) (F : Line → Flow → A) → ((t : Flow) → F n t ≡ F (line_at ls p) (before x t)) → (ext : Ports) (q : ℕ)
      → F (line_at ms q) (ext q) ≡ F (line_at ls q) (before_at p x ext q)
  at_port {A} x F h ext q = elim (cases_eq q p) as (λ _. F (line_at ms q) (ext q) ≡ F (line_at ls q) (before_at p x ext q)) [
    | inl e ↦ subst (λ k. F (line_at ms k) (ext k) ≡ F (line_at ls k) (before_at p x ext k)) (sym e)
        (ap (λ (l : Line). F l (ext p)) r.here ∙ (h (ext p) ∙ ap (λ (b : Bool). F (line_at ls p) (before_if b x (ext p))) (sym (eq-eqb p p refl))))
    | inr ne ↦ ap (λ (l : Line). F l (ext q)) (r.others q ne) ∙ ap (λ (b : Bool). F (line_at ls q) (before_if b x (ext q))) (sym (ne_eqb q p ne))
  ]

  -- what is said of all lines is said still, where it is of that one
  at_line : {A : Type 0} (F : Line → A) → F n ≡ F (line_at ls p) → (q : ℕ) → F (line_at ms q) ≡ F (line_at ls q)
  at_line {A} F h q = elim (cases_eq q p) as (λ _. F (line_at ms q) ≡ F (line_at ls q)) [
    | inl e ↦ subst (λ k. F (line_at ms k) ≡ F (line_at ls k)) (sym e) (ap F r.here ∙ h)
    | inr ne ↦ ap F (r.others q ne)
  ]

  pub fed_by : (x : Item) → is_over (line_at ls p).after ≡ false → Takes (line_at ls p) n x → Fed (shortest_view lanes ls) (shortest_view lanes' ms) p x
  fed_by x going_on t = record {
    ports = record { ins = same; outs = same };
    rest = λ ext q on. cond_same (line_at ms q).ended (line_at ls q).ended (still_kept ms ext q) (still_kept ls (before_at p x ext) q)
        (at_line (λ l. l.ended) t.ended q) (λ going.
        let c : came (line_at ms q) (ext q) ≡ came (line_at ls q) (before_at p x ext q) = elim (cases_eq q p) as
        (λ _. came (line_at ms q) (ext q) ≡ came (line_at ls q) (before_at p x ext q)) [
          | inl e ↦ (let going_p = ap (λ k. (line_at ls k).ended) (sym e) ∙ going in let on_p = ap (λ k. (line_at ls k).stopped) (sym e) ∙ on in
              subst (λ k. came (line_at ms k) (ext k) ≡ came (line_at ls k) (before_at p x ext k)) (sym e)
              (ap (λ (l : Line). came l (ext p)) r.here ∙ (t.came going_p on_p (ext p) ∙ ap (λ (b : Bool). came (line_at ls p) (before_if b x (ext p)))
              (sym (eq-eqb p p refl)))))
          | inr ne ↦ ap (λ (l : Line). came l (ext q)) (r.others q ne) ∙ ap (λ (b : Bool). came (line_at ls q) (before_if b x (ext q))) (sym (ne_eqb q p ne))
        ] in
        kept_alike (bases ms) (bases ls) (ends_with ms ext) (ends_with ls (before_at p x ext)) (marks_with ms ext) (marks_with ls (before_at p x ext)) q (length ms)
        (length ls)
        (came (line_at ms q) (ext q)).items (came (line_at ls q) (before_at p x ext q)).items (came (line_at ms q) (ext q)).mark
        (came (line_at ls q) (before_at p x ext q)).mark
        (at_line (λ l. l.base) t.base) (at_port x end_with t.end ext) (at_port x mark_with t.mark ext) r.long (ap (λ (u : Flow). u.items) c)
        (ap (λ (u : Flow). u.mark) c));
    shut_here = ap (λ (l : Line). is_over l.after) r.here ∙ (t.shut ∙ sym (ap (λ b. b || closes x) going_on));
    shut_others = λ q lt ne. ap (λ (l : Line). is_over l.after) (r.others q ne);
    ended = at_line (λ l. l.ended) t.ended;
    stopped = at_line (λ l. l.stopped) t.stopped;
  }

  -- what is kept of a stream is the same where that one counts as before for others
  others_same : n.base ≡ (line_at ls p).base → n.after ≡ (line_at ls p).after → n.reach ≡ (line_at ls p).reach → (ext : Ports) (q : ℕ) (xs ys : List Item) → xs ≡ ys
      → kept_by (fate_to (bases ls) (ends_with ls ext) (marks_with ls ext) q (length ls)) (xs ++ (behind (line_at ls q).after (ext q)).items)
      (mark_with (line_at ls q) (ext q))
      ≡ kept_by (fate_to (bases ms) (ends_with ms ext) (marks_with ms ext) q (length ms)) (ys ++ (behind (line_at ms q).after (ext q)).items)
      (mark_with (line_at ms q) (ext q))
  others_same b a e ext q xs ys i =
      let after : (k : ℕ) → (line_at ms k).after ≡ (line_at ls k).after = at_line (λ l. l.after) a in
      let reach : (k : ℕ) → (line_at ms k).reach ≡ (line_at ls k).reach = at_line (λ l. l.reach) e in
      kept_alike (bases ls) (bases ms) (ends_with ls ext) (ends_with ms ext) (marks_with ls ext) (marks_with ms ext) q (length ls) (length ms)
      (xs ++ (behind (line_at ls q).after (ext q)).items) (ys ++ (behind (line_at ms q).after (ext q)).items) (mark_with (line_at ls q) (ext q))
      (mark_with (line_at ms q) (ext q))
      (λ k. sym (at_line (λ l. l.base) b k))
      (λ k. ap (λ d. furthest d (behind (line_at ls k).after (ext k)).items) (sym (reach k))
      ∙ ap (λ (w : After). furthest (line_at ms k).reach (behind w (ext k)).items) (sym (after k)))
      (λ k. ap (λ (w : After). (behind w (ext k)).mark) (sym (after k))) (sym r.long)
      (ap (λ (zs : List Item). zs ++ (behind (line_at ls q).after (ext q)).items) i ∙ ap (λ (w : After). ys ++ (behind w (ext q)).items) (sym (after q)))
      (ap (λ (w : After). (behind w (ext q)).mark) (sym (after q)))

  other_kept : n.base ≡ (line_at ls p).base → n.after ≡ (line_at ls p).after → n.reach ≡ (line_at ls p).reach → (ext : Ports) (q : ℕ) → q ≢ p
      → cond (line_at ms q).ended nothing (still_kept ms ext q) ≡ cond (line_at ls q).ended nothing (still_kept ls ext q)
  other_kept b a e ext q ne = cond_same (line_at ms q).ended (line_at ls q).ended (still_kept ms ext q) (still_kept ls ext q) (ap (λ (l : Line). l.ended) (r.others q ne))
      (λ going. sym (others_same b a e ext q (line_at ls q).waits (line_at ms q).waits (ap (λ (l : Line). l.waits) (sym (r.others q ne)))))

  further_at : (ext : Ports) (q : ℕ) → Further (reaches ls q) (stands ls q) (ends_with ls ext q) (marks_with ls ext q)
  further_at ext q = at (line_at ls q).after
    where
      at : (a : After) → Further (line_at ls q).reach (mark_after a) (furthest (line_at ls q).reach (behind a (ext q)).items) (behind a (ext q)).mark
      at More = inl (refl, furthest-more (line_at ls q).reach (ext q).items)
      at Whole = inr (refl, refl)
      at Broke = inr (refl, refl)

  later_fate : (ext : Ports) (x : Item) → Refines (fate_now ls p x) (fate_to (bases ls) (ends_with ls ext) (marks_with ls ext) p (length ls) x)
  later_fate ext x = fate_refines (bases ls) (reaches ls) (ends_with ls ext) (stands ls) (marks_with ls ext) p (length ls) x (λ q lt. further_at ext q)

  kept_is : (f g : Fate) → Refines f g → f ≡ Kept → g ≡ Kept
  kept_is f g (inl e) k = let clash : Kept ≡ Held still_open = sym k ∙ e in cc
  kept_is f g (inr e) k = sym e ∙ k

  held_is : (f g : Fate) (m : Mark) → Refines f g → f ≡ Held m → m ≢ still_open → g ≡ Held m
  held_is f g m (inl e) k c = let clash : Held m ≡ Held still_open = sym k ∙ e in absurd (c (cc (clash)))
  held_is f g m (inr e) k c = sym e ∙ k

  -- the next item was given
  pub gave_kept : (x : Item) → (line_at ls p).ended ≡ false → fate_now ls p x ≡ Kept → IsTaken (line_at ls p) n x
      → Gave (shortest_view lanes ls) (shortest_view lanes' ms) p x
  gave_kept x going kept t = record {
    ports = record { ins = same; outs = same };
    open_before = going;
    rest_here = λ ext.
        let F = fate_to (bases ls) (ends_with ls ext) (marks_with ls ext) p (length ls) in
        let tail : Flow = kept_by F (n.waits ++ (behind (line_at ls p).after (ext p)).items) (mark_with (line_at ls p) (ext p)) in
        let ended : (line_at ms p).ended ≡ false = ap (λ (l : Line). l.ended) r.here ∙ (t.ended ∙ going) in
        ap (λ b. cond b nothing (still_kept ls ext p)) going
        ∙ (ap (λ (xs : List Item). kept_by F (xs ++ (behind (line_at ls p).after (ext p)).items) (mark_with (line_at ls p) (ext p))) t.waits
        ∙ (ap (λ (f : Fate). put_kept f x tail) (kept_is (fate_now ls p x) (F x) (later_fate ext x) kept)
        ∙ (sym (before_goes_on x tail t.goes_on)
        ∙ (ap (λ (u : Flow). before x u) (others_same t.base t.after t.reach ext p n.waits (line_at ms p).waits (ap (λ (l : Line). l.waits) (sym r.here)))
        ∙ ap (λ b. before x (cond b nothing (still_kept ms ext p))) (sym ended)))));
    rest_others = λ ext q lt ne on. other_kept t.base t.after t.reach ext q ne;
    shut = at_line (λ l. is_over l.after) (ap is_over t.after);
    ended_here = ap (λ (l : Line). l.ended) r.here ∙ (t.ended ∙ (going ∙ sym t.goes_on));
    ended_others = λ q lt ne. ap (λ (l : Line). l.ended) (r.others q ne);
    stopped = at_line (λ l. l.stopped) t.stopped;
  }

  -- nothing more is kept, and the output stands so for good
  kept_end : (ext : Ports) (m : Mark) → next_fate ls p (line_at ls p).waits ≡ Held m → m ≢ still_open → still_kept ls ext p ≡ record { items = []; mark = m }
  kept_end ext m e c = at (line_at ls p).waits e
    where
      F : Item → Fate
      F = fate_to (bases ls) (ends_with ls ext) (marks_with ls ext) p (length ls)

      none : (a : After) → mark_after a ≡ m → kept_by F ([] ++ (behind a (ext p)).items) (behind a (ext p)).mark ≡ record { items = []; mark = m }
      none More h = absurd (c (sym h))
      none Whole h = ap (λ k. let u : Flow = record { items = []; mark = k } in u) h
      none Broke h = ap (λ k. let u : Flow = record { items = []; mark = k } in u) h

      at : (xs : List Item) → next_fate ls p xs ≡ Held m → kept_by F (xs ++ (behind (line_at ls p).after (ext p)).items) (mark_with (line_at ls p) (ext p)) ≡ record
          { items = []; mark = m }
      at [] h = none (line_at ls p).after (cc (h))
      at (x ∷ xs) h = ap (λ (f : Fate). put_kept f x (kept_by F (xs ++ (behind (line_at ls p).after (ext p)).items) (mark_with (line_at ls p) (ext p))))
          (held_is (fate_now ls p x) (F x) m (later_fate ext x) h c)

  -- the closing item was given
  pub gave_end : (x : Item) (m : Mark) → (line_at ls p).ended ≡ false → next_fate ls p (line_at ls p).waits ≡ Held m → m ≢ still_open
      → ((t : Flow) → before x t ≡ record { items = []; mark = m }) → closes x ≡ true
      → IsEnded (line_at ls p) n → Gave (shortest_view lanes ls) (shortest_view lanes' ms) p x
  gave_end x m going fate c closing shuts t = record {
    ports = record { ins = same; outs = same };
    open_before = going;
    rest_here = λ ext. ap (λ b. cond b nothing (still_kept ls ext p)) going ∙ (kept_end ext m fate c
        ∙ sym (closing (cond (line_at ms p).ended nothing (still_kept ms ext p))));
    rest_others = λ ext q lt ne on. other_kept t.base t.after t.reach ext q ne;
    shut = at_line (λ l. is_over l.after) (ap is_over t.after);
    ended_here = ap (λ (l : Line). l.ended) r.here ∙ (t.ended ∙ sym shuts);
    ended_others = λ q lt ne. ap (λ (l : Line). l.ended) (r.others q ne);
    stopped = at_line (λ l. l.stopped) t.stopped;
  }

  pub stopped_by : IsStopped (line_at ls p) n → Stopped (shortest_view lanes ls) (shortest_view lanes' ms) p
  stopped_by t = record {
    ports = record { ins = same; outs = same };
    stopped_here = ap (λ (l : Line). l.stopped) r.here ∙ t.stopped;
    stopped_others = λ q lt ne. ap (λ (l : Line). l.stopped) (r.others q ne);
    rest_others = λ ext q lt ne on. other_kept t.base t.after t.reach ext q ne;
    shut = at_line (λ l. is_over l.after) (ap is_over t.after);
    ended = at_line (λ l. l.ended) t.ended;
  }

pub same_self : (lanes : List Lane) (ls : List Line) → Same (shortest_view lanes ls) (shortest_view lanes ls)
same_self lanes ls = record { ports = record { ins = refl; outs = refl }; rest = λ ext q on. refl; shut = λ p. refl; ended = λ q. refl; stopped = λ q. refl }

-- nothing is due
pub waits_open : (lanes : List Lane) (ls : List Line) (p : ℕ) → next_fate ls p (line_at ls p).waits ≡ Held still_open
    → Waits (shortest_view lanes ls) (shortest_view lanes ls) p
waits_open lanes ls p e = record { same = same_self lanes ls; nothing_left = left (line_at ls p).ended }
  where
    at : (xs : List Item) → next_fate ls p xs ≡ Held still_open → kept_by (fate_now ls p) xs (mark_after (line_at ls p).after) ≡ nothing
    at [] h = let m : mark_after (line_at ls p).after ≡ still_open = cc (h) in ap (λ k. let u : Flow = record { items = []; mark = k } in u) m
    at (x ∷ xs) h = ap (λ (f : Fate). put_kept f x (kept_by (fate_now ls p) xs (mark_after (line_at ls p).after))) h

    left : (b : Bool) → cond b nothing (still_kept ls silence p) ≡ nothing
    left true = refl
    left false = still_silent ls p ∙ at (line_at ls p).waits e

pub waits_ended : (lanes : List Lane) (ls : List Line) (p : ℕ) → (line_at ls p).ended ≡ true → Waits (shortest_view lanes ls) (shortest_view lanes ls) p
waits_ended lanes ls p e = record { same = same_self lanes ls; nothing_left = ap (λ b. cond b nothing (still_kept ls silence p)) e }

-- what one stream makes of an item
pub fate_there : (ss : List Side) (p q start : ℕ) (own other : Side) (x : Item) (ta tb : Fraction) (b : Bool) → p < length ss → q < length ss → own ≡ get_or ss p own
    → other ≡ get_or ss q other → q ≢ p → start ≡ start_ticks x
    → ta ≡ base_of_head own.head → tb ≡ base_of_head other.head → b ≡ is_before start ta other.reach tb
    → cond b Kept (Held (mark_after other.after)) ≡ fate_by (bases (lines_of ss)) (reaches (lines_of ss)) (stands (lines_of ss)) p q x
fate_there ss p q start own other x ta tb b lt less e f ne s ea eb is =
    let here = line_there ss p own lt e in
    let there = line_there ss q other less f in
    let test : b ≡ is_before (start_ticks x) (line_at (lines_of ss) p).base (line_at (lines_of ss) q).reach (line_at (lines_of ss) q).base =
    is ∙ (ap (λ n. is_before n ta other.reach tb) s ∙ (ap (λ (d : Fraction). is_before (start_ticks x) d other.reach tb) (ea ∙ ap (λ (l : Line). l.base) (sym here))
    ∙ (ap (λ (d : Fraction). is_before (start_ticks x) (line_at (lines_of ss) p).base other.reach d) eb
    ∙ ap (λ (l : Line). is_before (start_ticks x) (line_at (lines_of ss) p).base l.reach l.base) (sym there)))) in
    ap (λ (c : Bool). cond c Kept (Held (mark_after other.after))) test
    ∙ (ap (λ (l : Line). cond (is_before (start_ticks x) (line_at (lines_of ss) p).base (line_at (lines_of ss) q).reach (line_at (lines_of ss) q).base) Kept
    (Held (mark_after l.after))) (sym there)
    ∙ ap (λ (c : Bool). cond c Kept (cond (is_before (start_ticks x) (line_at (lines_of ss) p).base (line_at (lines_of ss) q).reach (line_at (lines_of ss) q).base) Kept
    (Held (mark_after (line_at (lines_of ss) q).after)))) (sym (ne_eqb q p ne)))

pub fate_self : (ss : List Side) (p q : ℕ) (x : Item) → q ≡ p → Kept ≡ fate_by (bases (lines_of ss)) (reaches (lines_of ss)) (stands (lines_of ss)) p q x
fate_self ss p q x e = ap (λ (c : Bool). cond c Kept (cond (is_before (start_ticks x) (line_at (lines_of ss) p).base (line_at (lines_of ss) q).reach
    (line_at (lines_of ss) q).base) Kept (Held (mark_after (line_at (lines_of ss) q).after)))) (sym (eq-eqb q p e))

-- one stream more
pub fate_more : (ls : List Line) (p q : ℕ) (x : Item) (f g h : Fate) → f ≡ fate_to (bases ls) (reaches ls) (stands ls) p q x
    → g ≡ fate_by (bases ls) (reaches ls) (stands ls) p q x → h ≡ both f g → h ≡ fate_to (bases ls) (reaches ls) (stands ls) p (q + 1) x
fate_more ls p q x f g h e d is =
    let n : q + 1 ≡ suc q = omega arith in
    is ∙ (ap (λ k. both k g) e ∙ (ap (λ k. both (fate_to (bases ls) (reaches ls) (stands ls) p q x) k) d
    ∙ ap (λ m. fate_to (bases ls) (reaches ls) (stands ls) p m x) (sym n)))

-- of the items of a stream some were looked at
pub mark_more : (F : Item → Fate) (xs : List Item) (m w : Mark) (i : ℕ) (x : Item) → i < length xs → x ≡ get_or xs i x → F x ≡ Kept → w ≡ (kept_by F (drop i xs) m).mark
    → w ≡ (kept_by F (drop (i + 1) xs) m).mark
mark_more F xs m w i x lt e k h =
    let n : i + 1 ≡ suc i = omega arith in
    let is : drop i xs ≡ x ∷ drop (suc i) xs = drop-cons xs i x lt ∙ ap (λ (y : Item). y ∷ drop (suc i) xs) (sym e) in
    h ∙ (ap (λ (ys : List Item). (kept_by F ys m).mark) is ∙ (ap (λ (f : Fate). (put_kept f x (kept_by F (drop (suc i) xs) m)).mark) k
    ∙ ap (λ j. (kept_by F (drop j xs) m).mark) (sym n)))

pub mark_held : (F : Item → Fate) (xs : List Item) (m w k : Mark) (i : ℕ) (x : Item) → i < length xs → x ≡ get_or xs i x → F x ≡ Held k
    → w ≡ (kept_by F (drop i xs) m).mark → k ≡ w
mark_held F xs m w k i x lt e f h =
    let is : drop i xs ≡ x ∷ drop (suc i) xs = drop-cons xs i x lt ∙ ap (λ (y : Item). y ∷ drop (suc i) xs) (sym e) in
    sym (h ∙ (ap (λ (ys : List Item). (kept_by F ys m).mark) is ∙ ap (λ (g : Fate). (put_kept g x (kept_by F (drop (suc i) xs) m)).mark) f))

none_left : (i : ℕ) (xs : List Item) → length xs ≤ i → drop i xs ≡ []
none_left zero [] le = refl
none_left zero (x ∷ xs) le = absurd (omega (arith, le))
none_left (suc i) [] le = refl
none_left (suc i) (x ∷ xs) le = none_left i xs (omega (arith, le))

pub mark_last : (F : Item → Fate) (xs : List Item) (m w : Mark) (i : ℕ) → length xs ≤ i → w ≡ (kept_by F (drop i xs) m).mark → m ≡ w
mark_last F xs m w i le h = sym (h ∙ ap (λ (ys : List Item). (kept_by F ys m).mark) (none_left i xs le))

pub closed_over : (a : After) → is_over a ≡ is_closed (mark_after a)
closed_over More = refl
closed_over Whole = refl
closed_over Broke = refl

-- so many outputs are done
pub done_more : (ls : List Line) (p : ℕ) (b : Bool) → b ≡ is_done ls p → b ≡ true → done_to ls p ≡ true → done_to ls (p + 1) ≡ true
done_more ls p b is t h = let n : p + 1 ≡ suc p = omega arith in ap (λ m. done_to ls m) n ∙ and_from (done_to ls p) (is_done ls p) h (sym is ∙ t)

pub done_fails : (ls : List Line) (n p : ℕ) (b : Bool) → p < n → b ≡ is_done ls p → b ≡ false → done_to ls n ≡ false
done_fails ls zero p b lt is f = absurd (omega (arith, lt))
done_fails ls (suc n) p b lt is f = elim (cases_eq p n) as (λ _. done_to ls (suc n) ≡ false) [
  | inl same ↦ and_right (done_to ls n) (is_done ls n) (ap (λ k. is_done ls k) (sym same) ∙ (sym is ∙ f))
  | inr ne ↦ and_left (done_to ls n) (is_done ls n) (done_fails ls n p b (omega (arith, lt, ne)) is f)
]

pub spent_exact : (ss : List Side) (p : ℕ) (b : Bool) → p < length ss → b ≡ shortest_spent (lines_of ss) p → (IsTrue b → IsSpent (view_of ss) p)
    × (IsSpent (view_of ss) p → IsTrue b)
spent_exact ss p b lt is = (
  λ t. shortest-spent_only ss p (let l = long_lanes ss in omega (arith, lt, l)) (sym is ∙ t),
  λ s. is
      ∙ spent_from (lanes_of ss) (lines_of ss) (lanes_long ss) p s,
)

pub new_more : (hs ks : List StreamHead) (ss : List Side) (s : Side) (h : StreamHead) → ks ≡ hs ++ h ∷ [] → AreNew hs ss → s.head ≡ h
    → line_of s ≡ new_line (base_of_head h) → AreNew ks (ss ++ s ∷ [])
new_more hs ks ss s h e n g l = subst (λ (js : List StreamHead). AreNew js (ss ++ s ∷ [])) (sym e) (record
    { lanes = lanes ss hs n.lanes; long = long ss hs n.long; lines = λ q. at ss hs n.long n.lines q })
  where
    lanes : (ss : List Side) (hs : List StreamHead) → lanes_of ss ≡ map Frames hs → lanes_of (ss ++ s ∷ []) ≡ map Frames (hs ++ h ∷ [])
    lanes [] [] e = ap (λ (j : StreamHead). Frames j ∷ []) g
    lanes [] (j ∷ hs) e = cc
    lanes (r ∷ ss) [] e = cc
    lanes (r ∷ ss) (j ∷ hs) e = let rest = lanes ss hs (cc (e)) in let first : Frames r.head ≡ Frames j = cc (e) in cc (rest, first)

    long : (ss : List Side) (hs : List StreamHead) → length ss ≡ length hs → length (ss ++ s ∷ []) ≡ length (hs ++ h ∷ [])
    long [] [] e = refl
    long [] (j ∷ hs) e = absurd (omega (arith, e))
    long (r ∷ ss) [] e = absurd (omega (arith, e))
    long (r ∷ ss) (j ∷ hs) e = let rest = long ss hs (omega (arith, e)) in omega (arith, rest)

    at : (ss : List Side) (hs : List StreamHead) → length ss ≡ length hs → ((q : ℕ) → line_at (lines_of ss) q ≡ new_line (head_base hs q)) → (q : ℕ)
        → line_at (lines_of (ss ++ s ∷ [])) q ≡ new_line (head_base (hs ++ h ∷ []) q)
    at [] [] e k zero = l
    at [] [] e k (suc q) = refl
    at [] (j ∷ hs) e k q = absurd (omega (arith, e))
    at (r ∷ ss) [] e k q = absurd (omega (arith, e))
    at (r ∷ ss) (j ∷ hs) e k zero = k zero
    at (r ∷ ss) (j ∷ hs) e k (suc q) = at ss hs (omega (arith, e)) (λ i. k (suc i)) q

pub new_is : (hs : List StreamHead) (ss : List Side) → AreNew hs ss → IsShortest hs (view_of ss)
new_is hs ss n = record {
  ins = n.lanes;
  outs = n.lanes;
  new = record {
    shut = λ p. ap (λ (l : Line). is_over l.after) (n.lines p);
    ended = λ p. ap (λ (l : Line). l.ended) (n.lines p);
    stopped = λ p. ap
        (λ (l : Line). l.stopped) (n.lines p);
  };
  rest = λ ext p. ap (λ b. cond b nothing (still_kept (lines_of ss) ext p)) (ap (λ (l : Line). l.ended) (n.lines p))
      ∙ kept_alike (bases (lines_of ss)) (head_base hs) (ends_with (lines_of ss) ext) (λ q. furthest 0 (ext q).items) (marks_with (lines_of ss) ext) (λ q. (ext q).mark)
      p (length (lines_of ss)) (length hs)
      (came (line_at (lines_of ss) p) (ext p)).items (ext p).items (came (line_at (lines_of ss) p) (ext p)).mark (ext p).mark
      (λ q. ap (λ (l : Line). l.base) (n.lines q)) (λ q. ap (λ (l : Line). end_with l (ext q)) (n.lines q)) (λ q. ap (λ (l : Line). mark_with l (ext q)) (n.lines q))
      (long_lines ss ∙ n.long) (ap (λ (l : Line). (came l (ext p)).items) (n.lines p)) (ap (λ (l : Line). (came l (ext p)).mark) (n.lines p));
}

pub front_there : (xs : List Item) (x : Item) → 0 < length xs → x ≡ get_or xs 0 x → (ys : List Item) × (xs ≡ x ∷ ys)
front_there [] x lt e = absurd (omega (arith, lt))
front_there (y ∷ ys) x lt e = (ys, ap (λ (z : Item). z ∷ ys) (sym e))

all_heads : (n : ℕ) (hs : List StreamHead) → length hs ≤ n → take n hs ≡ hs
all_heads zero [] le = refl
all_heads zero (h ∷ hs) le = absurd (omega (arith, le))
all_heads (suc n) [] le = refl
all_heads (suc n) (h ∷ hs) le = ap (λ (ks : List StreamHead). h ∷ ks) (all_heads n hs (omega (arith, le)))

pub all_new : (n : ℕ) (hs : List StreamHead) (ss : List Side) → length hs ≤ n → AreNew (take n hs) ss → AreNew hs ss
all_new n hs ss le h = subst (λ (ks : List StreamHead). AreNew ks ss) (all_heads n hs le) h

pub fate_from : (r : Option After) (a : After) (g : Fate) → fate_is r ≡ g → r ≡ Some a → g ≡ Held (mark_after a)
fate_from r a g e is = sym e ∙ ap fate_is is

-- the closing item was given
pub gave_closing : (ss ns : List Side) (p : ℕ) (x : Item) (m : Mark) → lanes_of ns ≡ lanes_of ss → IsClosedAt (lines_of ss) (lines_of ns) p
    → (line_at (lines_of ss) p).ended ≡ false
    → next_fate (lines_of ss) p (line_at (lines_of ss) p).waits ≡ Held m → m ≢ still_open → ((t : Flow) → before x t ≡ record { items = []; mark = m })
    → closes x ≡ true → Gave (view_of ss) (view_of ns) p x
gave_closing ss ns p x m lanes closed going fate c closing shuts =
    gave_end (lanes_of ss) (lanes_of ns) (lines_of ss) (lines_of ns) p (line_at (lines_of ns) p) lanes
    (record { long = closed.long; here = refl; others = closed.others }) x m going fate c closing shuts closed.here

pub done_unwanted : (a b c : Bool) → (a || b) ≡ true → true ≡ (a || (b || c))
done_unwanted true b c e = refl
done_unwanted false true c e = refl
done_unwanted false false c e = cc

pub done_wanted : (a b c : Bool) → (a || b) ≡ false → c ≡ (a || (b || c))
done_wanted true b c e = cc
done_wanted false true c e = cc
done_wanted false false c e = refl
