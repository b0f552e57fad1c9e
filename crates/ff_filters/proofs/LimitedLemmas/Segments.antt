-- Segments one after another are behind limits.
use Rattle.std.proofs.Common.{◌≡◌, ℕ, zero, suc, ◌<◌, Option, Some, List, [], ◌∷◌, length, get_or, map}
use Rattle.std.proofs.Common.{refl, ap, subst, arith}
use Rattle.std.specs.List.{AllByRecursion}
use Rattle.ff_frame.specs.declared.head.StreamHead.{StreamHead}
use Rattle.ff_stream.specs.declared.item.Lane.{Lane}
use Rattle.ff_stream.specs.declared.item.Lane.TheVariants.{Frames}
use Rattle.ff_stream.specs.Ports.{stream_at}
use Rattle.ff_stream.specs.Lanes.{IsValid}
use Rattle.ff_stream.specs.Within.{within, passes_limits}
use Rattle.ff_net.specs.Ways.{lane_at, IsValidOn}
use Rattle.ff_filter.specs.Joins.{Ports}
use Rattle.ff_node_filter.specs.Tasks.{listed}
use Rattle.ff_concat.specs.Concats.{concatenated}
use Rattle.ff_concat.specs.ConcatOptions.{whole_at, start_view}
use Rattle.ff_concat.specs.laws.Fed.{CanFollow}
use Rattle.ff_concat.specs.laws.StartLaws.{start-grows, start-hides, start_free, uncut_at}
use Rattle.ff_concat.proofs.Lanes.{fed_by}
use Rattle.ff_concat.proofs.Unbroken.{free_unbroken}
use Rattle.ff_concat.proofs.Wholes.{wholes_valid}
use Rattle.ff_filters.proofs.LimitedLemmas.Opening.{Owes}

lane_of : (ls : List Lane) (p : ℕ) (d : Lane) → p < length ls → lane_at ls p ≡ Some (get_or ls p d)
lane_of [] p d lt = absurd (omega arith)
lane_of (l ∷ ls) zero d lt = refl
lane_of (l ∷ ls) (suc p) d lt = lane_of ls p d (omega (arith, lt))

cut_at : (all : List StreamHead) (n q : ℕ) (hs : List StreamHead) (i : ℕ) (lane : Lane) (ss : Ports) → lane_at (map Frames hs) i ≡ Some lane
    → whole_at all n q hs i ss ≡ within (passes_limits lane) (uncut_at all n q hs i ss)
cut_at all n q [] i lane ss e = cc
cut_at all n q (h ∷ hs) zero lane ss e = let same : Frames h ≡ lane = cc in ap (λ (l : Lane). within (passes_limits l) (concatenated all h q n ss)) same
cut_at all n q (h ∷ hs) (suc i) lane ss e = cut_at all n q hs i lane ss e

outs_valid : (hs : List StreamHead) (g : Ports) → ((q : ℕ) (d : StreamHead) → q < length hs → IsValid (Frames (get_or hs q d)) (g q)) → (q : ℕ)
    → IsValidOn (lane_at (map Frames hs) q) (stream_at (listed (length (map Frames hs)) g) q)
outs_valid [] g v q = refl
outs_valid (h ∷ hs) g v zero = v 0 h (omega arith)
outs_valid (h ∷ hs) g v (suc q) = outs_valid hs (λ p. g (suc p)) (λ i d lt. v (suc i) d (omega (arith, lt))) q

pub concat_owes : (heads : List StreamHead) (n : ℕ) → AllByRecursion CanFollow heads
    → Owes (start_view (heads, n)).ins (start_view (heads, n)).outs (start_view (heads, n)).rest
concat_owes heads n can =
    let view = start_view (heads, n) in
    record {
      grows = start-grows (heads, n);
      hides = start-hides (heads, n);
      keeps = λ ss v. outs_valid heads (view.rest (stream_at ss))
          (λ q d lt. wholes_valid heads n q d (stream_at ss) can
          (fed_by heads n (stream_at ss) (λ p l less. subst (λ (o : Option Lane). IsValidOn o (stream_at ss p)) (lane_of view.ins p l less) (v p))) lt);
      free = start_free (heads, n);
      within_limits = record {
        cut = λ ss v q lane e. cut_at heads n q heads q lane (stream_at ss) e;
        unbroken = λ ss v u q lt. free_unbroken (heads, n) (stream_at ss) u q;
      };
    }
