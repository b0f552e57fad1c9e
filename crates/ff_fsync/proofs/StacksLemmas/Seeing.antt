-- The machine of a stack before anything was fed.
use Rattle.std.specs.Prelude.{◌≡◌, ℕ, zero, suc, Bool, false, List, [], ◌∷◌, map, length, refl}
use Rattle.std.proofs.Common.{ap, ◌∙◌}
use Rattle.ff_frame.specs.declared.head.StreamHead.{StreamHead}
use Rattle.ff_stream.specs.declared.item.Item.{Item}
use Rattle.ff_stream.specs.declared.item.Lane.{Lane}
use Rattle.ff_stream.specs.declared.item.Lane.TheVariants.{Frames}
use Rattle.ff_stream.specs.Within.{within, passes_limits}
use Rattle.ff_filter.specs.Joins.{Flow, Ports}
use Rattle.ff_filter.specs.laws.Limits.{limited, limited_is}
use Rattle.ff_filter.specs.Made.{is_over}
use Rattle.ff_filter.specs.Views.{View}
use Rattle.ff_fsync.specs.Pictures.{timed}
use Rattle.ff_fsync.specs.Sides.{Side, no_side, side_at, coming, kept, streams, timing, shown_as, sync_view}
use Rattle.ff_fsync.specs.Synced.{Timing, synced_from}
use Rattle.ff_fsync.specs.declared.stacks.shape.Shape.{Shape}
use Rattle.ff_fsync.specs.stacks.Bases.{units_on, all_told, told_view}
use Rattle.ff_fsync.specs.laws.stacks.Limits.{limits_view}
use Rattle.ff_fsync.specs.stacks.Shapes.{stacked, shape_of}
use Rattle.ff_fsync.specs.stacks.Stacks.{StackOf, stacked_of, stack_view}

-- inputs of these streams, to which nothing came
abbrev pub none_came : List StreamHead → List Side
none_came hs = map (λ h. no_side (Frames h)) hs

lanes_none : (hs : List StreamHead) → map (λ (s : Side). s.lane) (none_came hs) ≡ map Frames hs
lanes_none [] = refl
lanes_none (h ∷ hs) = ap (λ (ls : List Lane). Frames h ∷ ls) (lanes_none hs)

long_none : (hs : List StreamHead) → length (none_came hs) ≡ length hs
long_none [] = refl
long_none (h ∷ hs) = ap suc (long_none hs)

side_none : (lane : Lane) (hs : List StreamHead) (p : ℕ) (t : Flow) → coming (side_at lane (none_came hs) p) t ≡ kept 0 t
side_none lane [] p t = refl
side_none lane (h ∷ hs) zero t = refl
side_none lane (h ∷ hs) (suc p) t = side_none lane hs p t

shut_none : (lane : Lane) (hs : List StreamHead) (p : ℕ) → is_over (side_at lane (none_came hs) p).after ≡ false
shut_none lane [] p = refl
shut_none lane (h ∷ hs) zero = refl
shut_none lane (h ∷ hs) (suc p) = shut_none lane hs p

abbrev view_by : Lane → List Lane → (Ports → Ports) → (ℕ → Bool) → View
view_by out ins rest shut = record { ins = ins; outs = out ∷ []; rest = rest; shut = shut; ended = λ q. false; stopped = λ q. false }

module _ (m : StackOf) where
  shown : List Side → Ports → Flow
  shown ss ext = synced_from (timing m.shortest ss) (shown_as (stacked (shape_of m.direction m.head))) 0 (streams (Frames m.head) ss ext)

  abbrev units : List ℕ
  units = units_on m.heads m.head

  shown_is : (ext : Ports)
      → synced_from (timing m.shortest (none_came m.heads)) (shown_as (stacked (shape_of m.direction m.head))) 0 (streams (Frames m.head) (none_came m.heads) (all_told units ext))
      ≡ stacked_of m ext
  shown_is ext =
      let show = shown_as (stacked (shape_of m.direction m.head)) in
      let time_of : ℕ → Timing Item = λ n. timed n m.shortest in
      let all : streams (Frames m.head) (none_came m.heads) (all_told units ext) ≡ (λ p. kept 0 (all_told units ext p)) =
      λ i p. side_none (Frames m.head) m.heads p (all_told units ext p) i in
      ap (λ n. synced_from (timed n m.shortest) show 0 (streams (Frames m.head) (none_came m.heads) (all_told units ext))) (long_none m.heads)
      ∙ ap (λ (ss : ℕ → Flow). synced_from (timed (length m.heads) m.shortest) show 0 ss) all

  pub stack_seen : limits_view (Frames m.head) 0 (told_view units (sync_view (stacked (shape_of m.direction m.head)) m.shortest (Frames m.head) 0 (none_came m.heads) false false)) ≡ stack_view m
  stack_seen =
      let out : Lane = Frames m.head in
      let rest_at : Ports → Ports = λ ext q. limited (passes_limits out) 0
      (synced_from (timing m.shortest (none_came m.heads)) (shown_as (stacked (shape_of m.direction m.head))) 0 (streams out (none_came m.heads) (all_told units ext))) in
      let rest_is : Ports → Ports = λ ext q. within (passes_limits out) (stacked_of m ext) in
      let shut_at : ℕ → Bool = λ p. is_over (side_at out (none_came m.heads) p).after in
      let none : ℕ → Bool = λ p. false in
      let rests : rest_at ≡ rest_is = λ i ext q. (ap (λ (s : Flow). limited (passes_limits out) 0 s) (shown_is ext) ∙ limited_is (passes_limits out) (stacked_of m ext)) i in
      let shuts : shut_at ≡ none = λ i p. shut_none out m.heads p i in
      ap (λ (ls : List Lane). view_by out ls rest_at shut_at) (lanes_none m.heads)
      ∙ (ap (λ (f : Ports → Ports). view_by out (map Frames m.heads) f shut_at) rests
      ∙ ap (λ (g : ℕ → Bool). view_by out (map Frames m.heads) rest_is g) shuts)

-- the same where the shape, the inputs and the units are known by equations
pub seen_new : (m : StackOf) (shape : Shape) (ss : List Side) (us : List ℕ) → shape ≡ shape_of m.direction m.head → ss ≡ none_came m.heads → us ≡ units_on m.heads m.head
    → limits_view (Frames m.head) 0 (told_view us (sync_view (stacked shape) m.shortest (Frames m.head) 0 ss false false)) ≡ stack_view m
seen_new m shape ss us e f g =
    let at : Shape → List Side → List ℕ → View =
    λ s rs ns. limits_view (Frames m.head) 0 (told_view ns (sync_view (stacked s) m.shortest (Frames m.head) 0 rs false false)) in
    ap (λ (s : Shape). at s ss us) e
    ∙ (ap (λ (rs : List Side). at (shape_of m.direction m.head) rs us) f
    ∙ (ap (λ (ns : List ℕ). at (shape_of m.direction m.head) (none_came m.heads) ns) g ∙ stack_seen m))
