-- Cuts on whole streams: their laws, and that of functions behind limits with cuts behind them.
use Rattle.std.proofs.Common.{subst, sym, ◌∙◌, ◌≡◌, ℕ, zero, suc, Bool, true, false, cond, Option, Some, None, List, [], ◌∷◌, map, length, arith}
use Rattle.ff_time.specs.declared.cut.TimeCut.{TimeCut}
use Rattle.ff_frame.specs.declared.head.StreamHead.{StreamHead}
use Rattle.ff_frame.specs.declared.head.StreamHead.TheVariants.{Audio as AudioHead, Video as VideoHead}
use Rattle.ff_frame.specs.Heads.{base_of_head}
use Rattle.ff_stream.specs.declared.item.Lane.{Lane}
use Rattle.ff_stream.specs.declared.item.Lane.TheVariants.{Frames}
use Rattle.ff_stream.specs.Stream.{Mark, whole, broken, whole_stream, LiesBelow, opened}
use Rattle.ff_stream.specs.laws.Order.{below_self, below_trans}
use Rattle.ff_stream.specs.Ports.{nothing, stream_at, IsClosed}
use Rattle.ff_filter.specs.laws.spread.Valid.{GivesValid}
use Rattle.ff_net.specs.Ways.{AreValid}
use Rattle.ff_filter.specs.declared.range.Range.{Range}
use Rattle.ff_filter.specs.Joins.{Flow, Ports, all_opened}
use Rattle.ff_filter.specs.Shifts.{shifted-below}
use Rattle.ff_filter.specs.Views.{View}
use Rattle.ff_vfilter.specs.Trims.{trimmed}
use Rattle.ff_vfilter.specs.laws.TrimLaws.{trimmed-below, trimmed-calm, trimmed-settles}
use Rattle.ff_afilter.specs.Trims.{sound_trimmed}
use Rattle.ff_afilter.specs.laws.TrimLaws.{trimmed-below as sound-below, trimmed-calm as sound-calm, trimmed-settles as sound-settles}
use Rattle.ff_node_filter.specs.Tasks.{listed}
use Rattle.ff_node_filter.specs.Limiting.{IsLimited}
use Rattle.ff_trim.specs.declared.counted.OutputCut.{OutputCut}
use Rattle.ff_trim.specs.Cuts.{is_uncut, is_empty, range_in, from_range, cut, counted, output_cut, cut_at, cut_each}
use Rattle.ff_trim.specs.laws.CountLaws.{counted-below, counted-calm, counted-settles}
use Rattle.ff_trim.specs.laws.Taps.{IsCutting}
use Rattle.ff_trim.proofs.Valid.{cut_valid, counted_valid, counted_unbroken}

range-below : (h : StreamHead) (range : Range) (r s : Flow) → LiesBelow r s → LiesBelow (from_range h range r) (from_range h range s)
range-below (AudioHead tb rate bits channels codec) range r s b = shifted-below (Some range.start) (sound_trimmed range r) (sound_trimmed range s) (sound-below range r s b)
range-below (VideoHead tb format width height sar_num sar_den) range r s b = shifted-below (Some range.start) (trimmed range r) (trimmed range s) (trimmed-below range r s b)

range-calm : (h : StreamHead) (range : Range) (r : Flow) → LiesBelow (opened (from_range h range r)) (from_range h range (opened r))
range-calm (AudioHead tb rate bits channels codec) range r = shifted-below (Some range.start) (opened (sound_trimmed range r)) (sound_trimmed range (opened r)) (sound-calm range r)
range-calm (VideoHead tb format width height sar_num sar_den) range r = shifted-below (Some range.start) (opened (trimmed range r)) (trimmed range (opened r)) (trimmed-calm range r)

range-settles : (h : StreamHead) (range : Range) (r : Flow) → IsClosed r → IsClosed (from_range h range r)
range-settles (AudioHead tb rate bits channels codec) range r c = sound-settles range r c
range-settles (VideoHead tb format width height sar_num sar_den) range r c = trimmed-settles range r c

-- of two pairs of streams: whichever it is, it is so
both_of : (P : Flow → Flow → Type 0) (a b : Bool) (r r' s s' t t' : Flow) → P r r' → P s s' → P t t' → P (cond a r (cond b s t)) (cond a r' (cond b s' t'))
both_of P true b r r' s s' t t' h i j = h
both_of P false true r r' s s' t t' h i j = i
both_of P false false r r' s s' t t' h i j = j

pub cut-below : (h : StreamHead) (c : TimeCut) (r s : Flow) → LiesBelow r s → LiesBelow (cut h c r) (cut h c s)
cut-below h c r s b =
    let range = range_in (base_of_head h) c in
    both_of (λ (x y : Flow). LiesBelow x y) (is_empty c.length) (is_uncut c) (whole_stream []) (whole_stream []) r s (from_range h range r) (from_range h range s)
    (below_self (whole_stream [])) b (range-below h range r s b)

pub cut-calm : (h : StreamHead) (c : TimeCut) (r : Flow) → LiesBelow (opened (cut h c r)) (cut h c (opened r))
cut-calm h c r =
    let range = range_in (base_of_head h) c in
    both_of (λ (x y : Flow). LiesBelow (opened x) y) (is_empty c.length) (is_uncut c) (whole_stream []) (whole_stream []) r (opened r) (from_range h range r) (from_range h range (opened r))
    (below_self (whole_stream [])) (below_self (opened r)) (range-calm h range r)

pub cut-settles : (h : StreamHead) (c : TimeCut) (r : Flow) → IsClosed r → IsClosed (cut h c r)
cut-settles h c r k =
    let range = range_in (base_of_head h) c in
    both_of (λ (x y : Flow). IsClosed x) (is_empty c.length) (is_uncut c) (whole_stream []) (whole_stream []) r r (from_range h range r) (from_range h range r)
    (λ e. cc) k (range-settles h range r k)

-- a cut of a stream breaks only where the stream does
broken_by : (b : Bool) (m : Mark) → cond b whole m ≡ broken → m ≡ broken
broken_by true m e = cc
broken_by false m e = e

range_breaks : (h : StreamHead) (range : Range) (s : Flow) → (from_range h range s).mark ≡ broken → s.mark ≡ broken
range_breaks (AudioHead tb rate bits channels codec) range s e = broken_by _ s.mark e
range_breaks (VideoHead tb format width height sar_num sar_den) range s e = broken_by _ s.mark e

pub cut_breaks : (h : StreamHead) (c : TimeCut) (s : Flow) → (cut h c s).mark ≡ broken → s.mark ≡ broken
cut_breaks h c s =
    let range = range_in (base_of_head h) c in
    both_of (λ (x y : Flow). x.mark ≡ broken → s.mark ≡ broken) (is_empty c.length) (is_uncut c) (whole_stream []) (whole_stream []) s s (from_range h range s) (from_range h range s)
    (λ e. cc) (λ e. e) (λ e. range_breaks h range s e)

-- ---- and by number

pub output-below : (h : StreamHead) (c : OutputCut) (r s : Flow) → LiesBelow r s → LiesBelow (output_cut h c r) (output_cut h c s)
output-below h c r s b = counted-below c.frames (cut h c.time r) (cut h c.time s) (cut-below h c.time r s b)

pub output-calm : (h : StreamHead) (c : OutputCut) (r : Flow) → LiesBelow (opened (output_cut h c r)) (output_cut h c (opened r))
output-calm h c r =
    below_trans (opened (output_cut h c r)) (counted c.frames (opened (cut h c.time r))) (output_cut h c (opened r))
    (counted-calm c.frames (cut h c.time r)) (counted-below c.frames (opened (cut h c.time r)) (cut h c.time (opened r)) (cut-calm h c.time r))

pub output-settles : (h : StreamHead) (c : OutputCut) (r : Flow) → IsClosed r → IsClosed (output_cut h c r)
output-settles h c r k = counted-settles c.frames (cut h c.time r) (cut-settles h c.time r k)

counted_breaks : (o : Option ℕ) (s : Flow) → (counted o s).mark ≡ broken → s.mark ≡ broken
counted_breaks None s e = e
counted_breaks (Some n) s e = broken_by _ s.mark e

pub output_breaks : (h : StreamHead) (c : OutputCut) (s : Flow) → (output_cut h c s).mark ≡ broken → s.mark ≡ broken
output_breaks h c s e = cut_breaks h c.time s (counted_breaks c.frames (cut h c.time s) e)

pub output_valid : (h : StreamHead) (c : OutputCut) → GivesValid (Frames h) (Frames h) (λ s. output_cut h c s)
output_valid h c = record {
  valid = λ s v. counted_valid (Frames h) c.frames (cut h c.time s) ((cut_valid h c.time).valid s v);
  unbroken = λ s v u. counted_unbroken c.frames (cut h c.time s) ((cut_valid h c.time).unbroken s v u);
}

-- ---- port by port

at-below : (hs : List StreamHead) (cs : List OutputCut) (q : ℕ) (r s : Flow) → LiesBelow r s → LiesBelow (cut_at hs cs q r) (cut_at hs cs q s)
at-below [] cs q r s b = below_self nothing
at-below (h ∷ hs) [] q r s b = below_self nothing
at-below (h ∷ hs) (c ∷ cs) zero r s b = output-below h c r s b
at-below (h ∷ hs) (c ∷ cs) (suc q) r s b = at-below hs cs q r s b

at-calm : (hs : List StreamHead) (cs : List OutputCut) (q : ℕ) (r : Flow) → LiesBelow (opened (cut_at hs cs q r)) (cut_at hs cs q (opened r))
at-calm [] cs q r = below_self nothing
at-calm (h ∷ hs) [] q r = below_self nothing
at-calm (h ∷ hs) (c ∷ cs) zero r = output-calm h c r
at-calm (h ∷ hs) (c ∷ cs) (suc q) r = at-calm hs cs q r

at_breaks : (hs : List StreamHead) (cs : List OutputCut) (q : ℕ) (s : Flow) → (cut_at hs cs q s).mark ≡ broken → s.mark ≡ broken
at_breaks [] cs q s e = cc
at_breaks (h ∷ hs) [] q s e = cc
at_breaks (h ∷ hs) (c ∷ cs) zero s e = output_breaks h c s e
at_breaks (h ∷ hs) (c ∷ cs) (suc q) s e = at_breaks hs cs q s e

valid_each : (hs : List StreamHead) (cs : List OutputCut) (g : Ports) → length cs ≡ length hs → AreValid (map Frames hs) (listed (length (map Frames hs)) g)
    → AreValid (map Frames hs) (listed (length (map Frames hs)) (λ q. cut_at hs cs q (g q)))
valid_each [] cs g same v p = v p
valid_each (h ∷ hs) [] g same v p = absurd (omega (arith, same))
valid_each (h ∷ hs) (c ∷ cs) g same v zero = (output_valid h c).valid (g 0) (v 0)
valid_each (h ∷ hs) (c ∷ cs) g same v (suc p) = valid_each hs cs (λ q. g (suc q)) (omega (arith, same)) (λ q. v (suc q)) p

pub cut_limited : (ins : List Lane) (hs : List StreamHead) (cs : List OutputCut) (f : Ports → Ports) (cuts : List Flow → Bool) → length cs ≡ length hs
    → IsLimited ins (map Frames hs) f cuts → IsLimited ins (map Frames hs) (cut_each hs cs f) cuts
cut_limited ins hs cs f cuts same l = record {
  grows = λ rs ss b q. at-below hs cs q (f rs q) (f ss q) (l.grows rs ss b q);
  hides = λ rs q. below_trans (opened (cut_at hs cs q (f rs q))) (cut_at hs cs q (opened (f rs q))) (cut_at hs cs q (f (all_opened rs) q)) (at-calm hs cs q (f rs q))
      (at-below hs cs q (opened (f rs q)) (f (all_opened rs) q) (l.hides rs q));
  keeps = λ ss v. valid_each hs cs (f (stream_at ss)) same (l.keeps ss v);
  stays = l.stays;
  breaks = λ ss q lt v u e. l.breaks ss q lt v u (at_breaks hs cs q (f (stream_at ss) q) e);
}

-- a filter with cuts behind its outputs, as it is seen when nothing was done to it
pub cutting_limited : (hs : List StreamHead) (cs : List OutputCut) (v w : View) (cuts : List Flow → Bool) → length cs ≡ length hs → v.outs ≡ map Frames hs → IsCutting hs cs v w
    → IsLimited v.ins v.outs v.rest cuts → IsLimited w.ins w.outs w.rest cuts
cutting_limited hs cs v w cuts same outs c l =
    let rest : w.rest ≡ cut_each hs cs v.rest = λ i ext q. c.rest ext q i in
    let heads : w.outs ≡ map Frames hs = c.outs ∙ outs in
    let cut_so : IsLimited v.ins (map Frames hs) (cut_each hs cs v.rest) cuts = cut_limited v.ins hs cs v.rest cuts same (subst (λ (ls : List Lane). IsLimited v.ins ls v.rest cuts) outs l) in
    subst (λ (ls : List Lane). IsLimited ls w.outs w.rest cuts) (sym c.ins)
    (subst (λ (ls : List Lane). IsLimited v.ins ls w.rest cuts) (sym heads) (subst (λ (f : Ports → Ports). IsLimited v.ins (map Frames hs) f cuts) (sym rest) cut_so))
