-- The function that shortens streams is what a node's has to be.
use Rattle.std.proofs.Common.{◌≡◌, ◌≢◌, ℕ, zero, suc, ◌==◌, Bool, true, false, cond, Option, Some, None, List, [], ◌∷◌, map, length, refl, ap, sym, ◌∙◌, subst}
use mathlib.Core.List.{IsPrefix}
use Rattle.ff_time.specs.Fraction.{Fraction}
use Rattle.ff_frame.specs.declared.head.StreamHead.{StreamHead}
use Rattle.ff_frame.specs.Heads.{base_of_head}
use Rattle.ff_stream.specs.declared.item.Item.{Item}
use Rattle.ff_stream.specs.declared.item.Lane.{Lane}
use Rattle.ff_stream.specs.Stream.{Mark, still_open, whole, broken, opened}
use Rattle.ff_stream.specs.Lanes.{IsValid}
use Rattle.ff_stream.specs.laws.LaneLaws.{valid_front}
use Rattle.ff_stream.specs.declared.item.Lane.TheVariants.{Frames}
use Rattle.ff_stream.specs.laws.Order.{below_self}
use Rattle.ff_stream.specs.Ports.{nothing, stream_at, AllUnbroken}
use Rattle.ff_filter.specs.Joins.{Flow, Ports, Grows, HidesBreaks}
use Rattle.ff_filter.specs.Shifts.{start_ticks}
use Rattle.ff_filter.specs.Views.{View}
use Rattle.ff_net.specs.declared.fault.Fault.{Fault}
use Rattle.ff_net.specs.Pasts.{Task, start}
use Rattle.ff_net.specs.Ways.{lane_at, AreValid, IsValidOn}
use Rattle.ff_node_filter.specs.Tasks.{IsLawful, Stands, listed, filter_task}
use Rattle.ff_node_sync.specs.Shortened.{Fate, Kept, Held, held_by, both, put_kept, kept_by, fate_by, fate_to, furthest, is_before, shortened}
use Rattle.ff_node_sync.specs.Lines.{Line, new_line, line_at, bases, ends_with, marks_with, came, end_with, mark_with, still_kept, shortest_view, head_base, IsShortest}
use Rattle.ff_node_sync.specs.laws.ShortLaws.{kept_alike, shortest-grows, shortest-hides}
use Rattle.ff_node_sync.specs.laws.Straights.{IsStraight}
use Rattle.ff_node_sync.specs.JointTask.{joint, joint_task, IsJointOf}

-- streams of these heads of which nothing came
abbrev fresh : List StreamHead → List Line
fresh hs = map (λ h. new_line (base_of_head h)) hs

fresh_at : (hs : List StreamHead) (q : ℕ) → line_at (fresh hs) q ≡ new_line (head_base hs q)
fresh_at [] q = refl
fresh_at (h ∷ hs) zero = refl
fresh_at (h ∷ hs) (suc q) = fresh_at hs q

fresh_long : (hs : List StreamHead) → length (fresh hs) ≡ length hs
fresh_long [] = refl
fresh_long (h ∷ hs) = ap suc (fresh_long hs)

fresh_rest : (hs : List StreamHead) (ext : Ports) (p : ℕ) → (shortest_view [] (fresh hs)).rest ext p ≡ shortened (length hs) (head_base hs) ext p
fresh_rest hs ext p = ap (λ b. cond b nothing (still_kept (fresh hs) ext p)) (ap (λ (l : Line). l.ended) (fresh_at hs p))
    ∙ kept_alike (bases (fresh hs)) (head_base hs) (ends_with (fresh hs) ext) (λ q. furthest 0 (ext q).items) (marks_with (fresh hs) ext) (λ q. (ext q).mark)
    p (length (fresh hs)) (length hs)
    (came (line_at (fresh hs) p) (ext p)).items (ext p).items (came (line_at (fresh hs) p) (ext p)).mark (ext p).mark
    (λ q. ap (λ (l : Line). l.base) (fresh_at hs q)) (λ q. ap (λ (l : Line). end_with l (ext q)) (fresh_at hs q))
    (λ q. ap (λ (l : Line). mark_with l (ext q)) (fresh_at hs q)) (fresh_long hs)
    (ap (λ (l : Line). (came l (ext p)).items) (fresh_at hs p)) (ap (λ (l : Line). (came l (ext p)).mark) (fresh_at hs p))

fresh_all : (hs : List StreamHead) → (shortest_view [] (fresh hs)).rest ≡ shortened (length hs) (head_base hs)
fresh_all hs = λ i ext p. fresh_rest hs ext p i

-- what is kept begins what came
kept_front : (f : Item → Fate) (xs : List Item) (m : Mark) → IsPrefix (kept_by f xs m).items xs
kept_front f [] m = ([], refl)
kept_front f (x ∷ xs) m = at (f x) (kept_front f xs m)
  where
    at : (k : Fate) → IsPrefix (kept_by f xs m).items xs → IsPrefix (put_kept k x (kept_by f xs m)).items (x ∷ xs)
    at Kept r = (r.0, ap (λ (ys : List Item). x ∷ ys) r.1)
    at (Held n) r = (x ∷ xs, refl)

-- nothing breaks where no stream is broken
held_unbroken : (m n : Mark) → m ≢ broken → n ≢ broken → held_by m n ≢ broken
held_unbroken still_open still_open h k = h
held_unbroken still_open whole h k = k
held_unbroken still_open broken h k = h
held_unbroken whole n h k = h
held_unbroken broken n h k = k

both_unbroken : (f g : Fate) → f ≢ Held broken → g ≢ Held broken → both f g ≢ Held broken
both_unbroken Kept g h k = k
both_unbroken (Held m) Kept h k = h
both_unbroken (Held m) (Held n) h k = λ e. held_unbroken m n (λ s. h (ap Held s)) (λ s. k (ap Held s)) (cc (e))

by_unbroken : (self b : Bool) (m : Mark) → m ≢ broken → cond self Kept (cond b Kept (Held m)) ≢ Held broken
by_unbroken true b m h = λ e. cc
by_unbroken false true m h = λ e. cc
by_unbroken false false m h = λ e. h (cc (e))

module _ (base : ℕ → Fraction) (ends : ℕ → ℕ) (marks : ℕ → Mark) where
  fate_unbroken : (p n : ℕ) (x : Item) → ((q : ℕ) → marks q ≢ broken) → fate_to base ends marks p n x ≢ Held broken
  fate_unbroken p zero x h = λ e. cc
  fate_unbroken p (suc n) x h = both_unbroken (fate_to base ends marks p n x) (fate_by base ends marks p n x) (fate_unbroken p n x h)
      (by_unbroken (n == p) (is_before (start_ticks x) (base p) (ends n) (base n)) (marks n) (h n))

kept_unbroken : (f : Item → Fate) → ((x : Item) → f x ≢ Held broken) → (xs : List Item) (m : Mark) → m ≢ broken → (kept_by f xs m).mark ≢ broken
kept_unbroken f h [] m c = c
kept_unbroken f h (x ∷ xs) m c = at (f x) (h x) (kept_unbroken f h xs m c)
  where
    at : (k : Fate) → k ≢ Held broken → (kept_by f xs m).mark ≢ broken → (put_kept k x (kept_by f xs m)).mark ≢ broken
    at Kept n r = r
    at (Held w) n r = λ e. n (ap Held e)

-- streams by their ports are valid where each is valid for the lane of its port
pub listed_valid : (lanes : List Lane) (g : Ports) → ((p : ℕ) (l : Lane) → lane_at lanes p ≡ Some l → IsValid l (g p)) → AreValid lanes (listed (length lanes) g)
listed_valid [] g h p = refl
listed_valid (l ∷ ls) g h zero = h 0 l refl
listed_valid (l ∷ ls) g h (suc p) = listed_valid ls (λ q. g (suc q)) (λ q m e. h (suc q) m e) p

valid_kept : (hs : List StreamHead) (lanes : List Lane) (ss : List Flow) → AreValid lanes ss → (p : ℕ) (l : Lane) → lane_at lanes p ≡ Some l
    → IsValid l (shortened (length hs) (head_base hs) (stream_at ss) p)
valid_kept hs lanes ss v p l e =
    let f = fate_to (head_base hs) (λ q. furthest 0 (stream_at ss q).items) (λ q. (stream_at ss q).mark) p (length hs) in
    valid_front l (shortened (length hs) (head_base hs) (stream_at ss) p) (stream_at ss p) (kept_front f (stream_at ss p).items (stream_at ss p).mark)
    (subst (λ (o : Option Lane). IsValidOn o (stream_at ss p)) e (v p))

shortened_unbroken : (hs : List StreamHead) (ss : List Flow) → AllUnbroken ss → (p : ℕ) → (shortened (length hs) (head_base hs) (stream_at ss) p).mark ≢ broken
shortened_unbroken hs ss u p =
    let ends : ℕ → ℕ = λ q. furthest 0 (stream_at ss q).items in
    let marks : ℕ → Mark = λ q. (stream_at ss q).mark in
    kept_unbroken (fate_to (head_base hs) ends marks p (length hs)) (λ x. fate_unbroken (head_base hs) ends marks p (length hs) x u) (stream_at ss p).items (stream_at ss p).mark
    (u p)

lawful_on : (hs : List StreamHead) (lanes : List Lane) → IsLawful lanes lanes (shortened (length hs) (head_base hs)) (λ ss. None)
lawful_on hs lanes = record {
  grows = subst Grows (fresh_all hs) (shortest-grows [] (fresh hs));
  hides = subst HidesBreaks (fresh_all hs) (shortest-hides [] (fresh hs));
  keeps = λ ss v. listed_valid lanes (shortened (length hs) (head_base hs) (stream_at ss)) (valid_kept hs lanes ss v);
  cause_stays = λ rs ss c v w b e. cc;
  too_long = λ ss q lt v u e. absurd (shortened_unbroken hs ss u q e);
}

pub shortest_lawful : (hs : List StreamHead) (v : View) → IsShortest hs v → IsLawful v.ins v.outs v.rest (λ ss. None)
shortest_lawful hs v s =
    let same : v.rest ≡ shortened (length hs) (head_base hs) = λ i ext p. s.rest ext p i in
    let outs : v.ins ≡ v.outs = s.ins ∙ sym s.outs in
    subst (λ (f : Ports → Ports). IsLawful v.ins v.outs f (λ ss. None)) (sym same)
    (subst (λ (ls : List Lane). IsLawful v.ins ls (shortened (length hs) (head_base hs)) (λ ss. None)) outs (lawful_on hs v.ins))

-- streams as they are
straight_on : (lanes : List Lane) → IsLawful lanes lanes (λ ss. ss) (λ ss. None)
straight_on lanes = record {
  grows = λ rs ss h. h;
  hides = λ rs q. below_self (opened (rs q));
  keeps = λ ss v. listed_valid lanes (stream_at ss) (λ p l e. subst (λ (o : Option Lane). IsValidOn o (stream_at ss p)) e (v p));
  cause_stays = λ rs ss c v w b e. cc;
  too_long = λ ss q lt v u e. absurd (u q e);
}

pub straight_lawful : (hs : List StreamHead) (v : View) → IsStraight hs v → IsLawful v.ins v.outs v.rest (λ ss. None)
straight_lawful hs v s =
    let same : v.rest ≡ (λ ss. ss) = λ i ext p. s.rest ext p i in
    let outs : v.ins ≡ v.outs = s.ins ∙ sym s.outs in
    subst (λ (f : Ports → Ports). IsLawful v.ins v.outs f (λ ss. None)) (sym same)
    (subst (λ (ls : List Lane). IsLawful v.ins ls (λ ss. ss) (λ ss. None)) outs (straight_on v.ins))

-- streams that come together, one way or the other
pub shortest_joint : (hs : List StreamHead) (v : View) → IsShortest hs v → IsJointOf true hs v
shortest_joint hs v s = record { ins = s.ins; outs = s.outs; new = s.new; rest = λ i ext p. s.rest ext p i }

pub straight_joint : (hs : List StreamHead) (v : View) → IsStraight hs v → IsJointOf false hs v
straight_joint hs v s = record { ins = s.ins; outs = s.outs; new = s.new; rest = λ i ext p. s.rest ext p i }

joint_on : (b : Bool) (hs : List StreamHead) (lanes : List Lane) → IsLawful lanes lanes (joint b hs) (λ ss. None)
joint_on true hs lanes = lawful_on hs lanes
joint_on false hs lanes = straight_on lanes

long_map : (hs : List StreamHead) → length (map Frames hs) ≡ length hs
long_map [] = refl
long_map (h ∷ hs) = ap suc (long_map hs)

pub joint_lawful : (b : Bool) (hs : List StreamHead) (v : View) → IsJointOf b hs v → IsLawful v.ins v.outs v.rest (λ ss. None)
joint_lawful b hs v s =
    let outs : v.ins ≡ v.outs = s.ins ∙ sym s.outs in
    subst (λ (f : Ports → Ports). IsLawful v.ins v.outs f (λ ss. None)) (sym s.rest)
    (subst (λ (ls : List Lane). IsLawful v.ins ls (joint b hs) (λ ss. None)) outs (joint_on b hs v.ins))

pub joint_is : (b : Bool) (hs : List StreamHead) (v : View) → IsJointOf b hs v → filter_task (length v.outs) v.rest (λ ss. None) ≡ joint_task b hs
joint_is b hs v s = ap (λ n. filter_task n v.rest (λ ss. None)) (ap (λ (ls : List Lane). length ls) s.outs ∙ long_map hs)
    ∙ ap (λ (f : Ports → Ports). filter_task (length hs) f (λ ss. None)) s.rest

-- a machine that stands for what the filter does stands for the streams that come together so
pub joint_stands : {b : Bool} {hs : List StreamHead} {v w : View} {hurt long : Bool} → IsJointOf b hs v
    → ((cause : List Flow → Option Fault) → IsLawful v.ins v.outs v.rest cause → Stands w hurt long (start (filter_task (length v.outs) v.rest cause)))
    → Stands w hurt long (start (joint_task b hs))
joint_stands {b} {hs} {v} {w} {hurt} {long} s stands = subst (λ (task : Task). Stands w hurt long (start task)) (joint_is b hs v s) (stands (λ ss. None) (joint_lawful b hs v s))
