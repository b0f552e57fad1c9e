-- What each step does with the blocks on their way.
use Rattle.std.proofs.Common.{◌≡◌, ℕ, zero, suc, ◌+◌, ◌*◌, ◌/◌, ◌%◌, ◌^◌, ◌<◌, ◌≤◌, Bool, true, false, List, [], ◌∷◌, ◌++◌, length, take, get_or, Option, Some, Ok, Err, ℤ, ◌&&◌, if◌then◌else◌, refl, sym, ap, ◌∙◌, subst, arith, length-append, append_assoc, append-nil}
use Rattle.std.specs.Prelude.{slice_get, slice_index_or, nat_lt, nat_le, ◌||◌, remove}
use Rattle.std.specs.List.{All}
use Rattle.std.specs.Result.{OnOk}
use Rattle.std.specs.declared.result.Result.{Result}
use Rattle.std.proofs.lemmas.Bool.Decides.{nat_tests}
use Rattle.std.proofs.lemmas.List.Elements.{All-append, All-take}
use Rattle.std.proofs.Math.Nat.{mul-mod_left, mod-eq-sub-div-mul, div-mul-le_self, le_of_mul-le-mul_right}
use mathlib.Core.List.{IsPrefix}
use Rattle.ff_frame.specs.Audio.{IsAudio}
use Rattle.ff_frame.specs.declared.audio.AFrame.{AFrame}
use Rattle.ff_frame.specs.Frame.{audio_frame}
use Rattle.ff_pcm.specs.Depth.{at_depth}
use Rattle.ff_pcm.proofs.DepthLaws.{all_same}
use Rattle.ff_flac_enc.specs.Frame.{IsBlock}
use Rattle.ff_stream.specs.declared.item.Item.TheVariants.{Packet}
use Rattle.ff_stream.specs.laws.Order.{prefix_trans}
use Rattle.ff_flac_enc.specs.declared.blocks.Blocks.{Blocks}
use Rattle.ff_flac_enc.specs.declared.counter.Counter.{Counter}
use Rattle.ff_flac_enc.specs.declared.format.Format.{Format}
use Rattle.ff_flac_enc.specs.laws.Blocks.{IsCoded}
use Rattle.ff_flac_enc.specs.laws.Cuts.{Cuts, has_ended, format_in}
use Rattle.ff_flac_enc.specs.Gathered.{Holds, IsKept, blocks_due, format_of, full_size}
use Rattle.ff_flac_enc.specs.Totals.{Added, added, Counts}
use Rattle.ff_flac_enc.proofs.GatherLaws.{stays}
use Rattle.ff_node_flac.specs.Packets.{coded_bits, at_coded, added_from, block_bytes, packet_of}
use Rattle.ff_node_flac.specs.Coding.{passes_in_flac}
use Rattle.ff_node_flac.specs.laws.Gathering.{AreCodes, Gathers}
use Rattle.ff_node_flac.specs.laws.Kept.{IsCut, IsFormat}
use Rattle.ff_node_flac.proofs.Codes.{coded_is, codes_more, added_more}

-- ---- the first of what is due

-- what stands behind a front
at_end : (xs zs : List AFrame) (b : AFrame) → slice_get (xs ++ zs) (length xs) ≡ Some b → (rest : List AFrame) × (zs ≡ b ∷ rest)
at_end [] [] b e = cc
at_end [] (z ∷ zs) b e = let same : z ≡ b = cc (e) in (zs, ap (λ (x : AFrame). x ∷ zs) same)
at_end (x ∷ xs) zs b e = at_end xs zs b e

prefix_next : (xs ys : List AFrame) (b : AFrame) → IsPrefix xs ys → slice_get ys (length xs) ≡ Some b → IsPrefix (xs ++ b ∷ []) ys
prefix_next xs ys b p e =
    let r = at_end xs p.0 b (subst (λ (zs : List AFrame). slice_get zs (length xs) ≡ Some b) (sym p.1) e) in
    (r.0, append_assoc xs (b ∷ []) r.0 ∙ (ap (λ (zs : List AFrame). xs ++ zs) (sym r.1) ∙ p.1))

-- a front of a front
pub prefix_first : (xs ys zs : List AFrame) → IsPrefix (xs ++ ys) zs → IsPrefix xs zs
prefix_first xs ys zs p = (ys ++ p.0, sym (append_assoc xs ys p.0) ∙ p.1)

-- a front that is as long as the whole
pub prefix_all : (xs ys : List AFrame) → IsPrefix xs ys → length ys ≡ length xs → ys ≡ xs
prefix_all [] [] p e = refl
prefix_all [] (y ∷ ys) p e = let clash : suc (length ys) ≡ 0 = e in cc
prefix_all (x ∷ xs) [] p e = let clash : 0 ≡ suc (length xs) = e in cc
prefix_all (x ∷ xs) (y ∷ ys) p e =
    let same : x ∷ (xs ++ p.0) ≡ y ∷ ys = p.1 in
    let count : length ys ≡ length xs = let s : suc (length ys) ≡ suc (length xs) = e in omega (arith, s) in
    let rest : ys ≡ xs = prefix_all xs ys (p.0, cc (same)) count in
    let first : y ≡ x = cc (same) in
    cc (rest, first)

-- ---- cutting

pub cut_more : (old new : Blocks) (cut now : List AFrame) (codes : List (List ℕ)) (counter : Counter) (given : ℕ) (fed done : List AFrame) (b : AFrame)
    → Gathers old cut codes counter given fed done
    → ((n : ℕ) → Cuts old fed n → Cuts new fed (n + 1) × (slice_get (blocks_due (has_ended old) fed) n ≡ Some b))
    → has_ended new ≡ has_ended old → now ≡ cut ++ b ∷ [] → Gathers new now codes counter given fed done
cut_more old new cut now codes counter given fed done b g next ended is =
    let r = next (given + length cut) g.cuts in
    let long : length now ≡ length cut + 1 = ap (λ (xs : List AFrame). length xs) is ∙ length-append cut (b ∷ []) in
    let total : given + length cut + 1 ≡ given + length now = omega (arith, long) in
    let here : given + length cut ≡ length (done ++ cut) = let l = length-append done cut in let n = g.number in omega (arith, l, n) in
    let due : IsPrefix ((done ++ cut) ++ b ∷ []) (blocks_due (has_ended old) fed) =
    prefix_next (done ++ cut) (blocks_due (has_ended old) fed) b g.due (subst (λ (n : ℕ). slice_get (blocks_due (has_ended old) fed) n ≡ Some b) here r.1) in
    record {
      number = g.number;
      cuts = subst (λ (n : ℕ). Cuts new fed n) total r.0;
      due = subst (λ (e : Bool). IsPrefix (done ++ now) (blocks_due e fed)) (sym ended)
          (subst (λ (xs : List AFrame). IsPrefix xs (blocks_due (has_ended old) fed)) (append_assoc done cut (b ∷ [])
          ∙ ap (λ (xs : List AFrame). done ++ xs) (sym is)) due);
      coded = subst (λ (xs : List AFrame). AreCodes given codes xs) (sym is) (codes_more given codes cut b g.coded);
      counts = g.counts;
    }

-- a block of the format
pub block_cut : (format : Format) (b : AFrame) (found : Option Format) → format.bits ≤ 24 → format.rate < 1048576 → IsFormat format found → found ≡ Some (format_of b)
    → IsAudio b.bits b.channels b.samples → length b.samples ≤ full_size b.channels → IsCut b
block_cut format b found few rate alike is a size =
    let same : IsFormat format (Some (format_of b)) = subst (λ (o : Option Format). IsFormat format o) is alike in
    let whole : length b.samples % b.channels ≡ 0 = ap (λ n. n % b.channels) a.interleaved ∙ mul-mod_left a.sample_frames b.channels in
    let full : 1 ≤ a.sample_frames * b.channels = some_product a.sample_frames b.channels a.some_sample_frames a.some_channels in
    record {
      kept = record { some_channels = a.some_channels; few_channels = a.few_channels; some_bits = a.some_bits; few_bits = a.few_bits; whole = whole; fit = a.within_bits };
      some_samples = let l = a.interleaved in omega (arith, l, full);
      few_samples = size;
      few_bits = let s = same.1 in omega (arith, s, few);
      rate = let s = same.0 in omega (arith, s, rate);
    }
  where
    some_product : (k c : ℕ) → 1 ≤ k → 1 ≤ c → 1 ≤ k * c
    some_product (suc k) c h g = omega (arith, g)
    some_product zero c h g = absurd (omega (arith, h))

pub all_more : (blocks : List AFrame) (b : AFrame) → All IsCut blocks → IsCut b → All IsCut (blocks ++ b ∷ [])
all_more blocks b all one = All-append IsCut blocks (b ∷ []) all only
  where
    only : All IsCut (b ∷ [])
    only zero d lt = one
    only (suc k) d lt = absurd (omega (arith, lt))

-- ---- feeding

-- where something was fed, it has a channel
some_channel : (blocks : Blocks) (f : AFrame) → format_in blocks ≡ Some (format_of f) → Holds blocks.format blocks.waiting → 1 ≤ f.channels
some_channel blocks f is h =
    let kept : IsKept (format_of f) blocks.waiting = subst (λ (o : Option Format). Holds o blocks.waiting) is h in
    kept.some_channels

due_stays : (blocks : Blocks) (fed more : List AFrame) (n : ℕ) (ended : Bool) → Cuts blocks fed n → IsPrefix (blocks_due false fed) (blocks_due ended (fed ++ more))
due_stays blocks [] more n ended c = (blocks_due ended more, refl)
due_stays blocks (f ∷ fs) more n ended c = stays f fs more ended (some_channel blocks f c.goes.format_is blocks.sound)

-- a further frame
pub fed_more : (old new : Blocks) (cut : List AFrame) (codes : List (List ℕ)) (counter : Counter) (given : ℕ) (fed done : List AFrame) (frame : AFrame)
    → Gathers old cut codes counter given fed done → has_ended old ≡ false → has_ended new ≡ false
    → Cuts new (fed ++ frame ∷ []) (given + length cut) → Gathers new cut codes counter given (fed ++ frame ∷ []) done
fed_more old new cut codes counter given fed done frame g was is cuts = record {
  number = g.number;
  cuts = cuts;
  due =
      subst (λ (e : Bool). IsPrefix (done ++ cut) (blocks_due e (fed ++ frame ∷ []))) (sym is)
      (prefix_trans (done ++ cut) (blocks_due false fed) (blocks_due false (fed ++ frame ∷ []))
      (subst (λ (e : Bool). IsPrefix (done ++ cut) (blocks_due e fed)) was g.due)
      (due_stays old fed (frame ∷ []) (given + length cut) false g.cuts));
  coded = g.coded;
  counts = g.counts;
}

-- the end
pub ended_now : (old new : Blocks) (cut : List AFrame) (codes : List (List ℕ)) (counter : Counter) (given : ℕ) (fed done : List AFrame)
    → Gathers old cut codes counter given fed done → has_ended old ≡ false → has_ended new ≡ true
    → Cuts new fed (given + length cut) → Gathers new cut codes counter given fed done
ended_now old new cut codes counter given fed done g was is cuts = record {
  number = g.number;
  cuts = cuts;
  due =
      subst (λ (e : Bool). IsPrefix (done ++ cut) (blocks_due e fed)) (sym is)
      (prefix_trans (done ++ cut) (blocks_due false fed) (blocks_due true fed)
      (subst (λ (e : Bool). IsPrefix (done ++ cut) (blocks_due e fed)) was g.due)
      (subst (λ (xs : List AFrame). IsPrefix (blocks_due false fed) (blocks_due true xs)) (append-nil fed)
      (due_stays old fed [] (given + length cut) true g.cuts)));
  coded = g.coded;
  counts = g.counts;
}

-- ---- giving

-- the first code is that of the first block
pub first_code : (codes : List (List ℕ)) (cut : List AFrame) (given : ℕ) (b : AFrame) (bytes : List ℕ) → 1 ≤ length codes → AreCodes given codes cut
    → b ≡ slice_index_or cut 0 b → bytes ≡ slice_index_or codes 0 bytes → IsCoded b given bytes
first_code [] cut given b bytes some c is code = absurd (omega (arith, some))
first_code (x ∷ xs) [] given b bytes some c is code = absurd c
first_code (x ∷ xs) (y ∷ ys) given b bytes some c is code =
    subst (λ (z : List ℕ). IsCoded b given z) (sym code) (subst (λ (z : AFrame). IsCoded z given x) (sym is) c.0)

-- the first block is given
pub given_one : (blocks : Blocks) (cut cut' : List AFrame) (codes codes' : List (List ℕ)) (counter counter' : Counter) (given : ℕ) (fed done : List AFrame) (b : AFrame)
    → Gathers blocks cut codes counter given fed done → 1 ≤ length codes → b ≡ slice_index_or cut 0 b → cut' ≡ remove cut 0 → codes' ≡ remove codes 0
    → ((all : List Added) → Counts counter all → Counts counter' (all ++ added b (length (block_bytes b given)) ∷ []))
    → Gathers blocks cut' codes' counter' (given + 1) fed (done ++ b ∷ [])
given_one blocks cut cut' [] codes' counter counter' given fed done b g some is left rest counts = absurd (omega (arith, some))
given_one blocks [] cut' (x ∷ xs) codes' counter counter' given fed done b g some is left rest counts = absurd g.coded
given_one blocks (y ∷ ys) cut' (x ∷ xs) codes' counter counter' given fed done b g some is left rest counts =
    let same : b ≡ y = is in
    let tail : cut' ≡ ys = left in
    let codes_tail : codes' ≡ xs = rest in
    let count : given + length (y ∷ ys) ≡ (given + 1) + length cut' = let l : length cut' ≡ length ys = ap (λ (zs : List AFrame). length zs) tail in omega (arith, l) in
    let whole : done ++ y ∷ ys ≡ (done ++ b ∷ []) ++ cut' =
    ap (λ (z : AFrame). done ++ z ∷ ys) (sym same) ∙ (ap (λ (zs : List AFrame). done ++ b ∷ zs) (sym tail) ∙ sym (append_assoc done (b ∷ []) cut')) in
    let all : added_from 0 (done ++ b ∷ []) ≡ added_from 0 done ++ added b (length (block_bytes b given)) ∷ [] =
    added_more 0 done b ∙ ap
    (λ (n : ℕ). added_from 0 done ++ added b (length (block_bytes b n)) ∷ []) (let n = g.number in let e : 0 + length done ≡ given = omega (arith, n) in e) in
    record {
      number = let l = length-append done (b ∷ []) in let n = g.number in omega (arith, l, n);
      cuts = subst (λ (n : ℕ). Cuts blocks fed n) count g.cuts;
      due = subst (λ (zs : List AFrame). IsPrefix zs (blocks_due (has_ended blocks) fed)) whole g.due;
      coded =
          subst (λ (zs : List (List ℕ)). AreCodes (given + 1) zs cut') (sym codes_tail)
          (subst (λ (zs : List AFrame). AreCodes (given + 1) xs zs) (sym tail) g.coded.1);
      counts = subst (λ (zs : List Added). Counts counter' zs) (sym all) (counts (added_from 0 done) g.counts);
    }

-- some block is next
pub next_due : (cut : List AFrame) (done due : List AFrame) → 1 ≤ length cut → IsPrefix (done ++ cut) due → (b : AFrame) × IsPrefix (done ++ b ∷ []) due
next_due [] done due some p = absurd (omega (arith, some))
next_due (y ∷ ys) done due some p =
    (y, prefix_first (done ++ y ∷ []) ys due (subst (λ (zs : List AFrame). IsPrefix zs due) (sym (append_assoc done (y ∷ []) ys)) p))

-- a number that can't be told, a size that can't, and neither
pub number_passes : (n size : ℕ) → n ≡ 2 ^ 31 → (nat_lt (2 ^ 31) (n + 1) || nat_le (2 ^ 24) size) ≡ true
number_passes n size e = ap (λ (b : Bool). b || nat_le (2 ^ 24) size) (let lt : nat_lt (2 ^ 31) (n + 1) ≡ true = grind (arith, nat_tests) in lt)

or_so : (b : Bool) → (b || true) ≡ true
or_so true = refl
or_so false = refl

pub size_passes : (n size : ℕ) → 2 ^ 24 ≤ size → (nat_lt (2 ^ 31) (n + 1) || nat_le (2 ^ 24) size) ≡ true
size_passes n size le =
    ap (λ (b : Bool). nat_lt (2 ^ 31) (n + 1) || b) (let e : nat_le (2 ^ 24) size ≡ true = grind (arith, nat_tests) in e) ∙ or_so (nat_lt (2 ^ 31) (n + 1))

pub none_passes : (n size : ℕ) → n < 2 ^ 31 → size < 2 ^ 24 → (nat_lt (2 ^ 31) (n + 1) || nat_le (2 ^ 24) size) ≡ false
none_passes n size lt le =
    ap (λ (b : Bool). b || nat_le (2 ^ 24) size) (let e : nat_lt (2 ^ 31) (n + 1) ≡ false = grind (arith, nat_tests) in e)
    ∙ (let e : nat_le (2 ^ 24) size ≡ false = grind (arith, nat_tests) in e)

-- ---- blocks that are coded

pub cut_block : (a : AFrame) → IsCut a → IsBlock a
cut_block a c =
    let frames = length a.samples / a.channels in
    let positive : 0 < a.channels = let s = c.kept.some_channels in omega (arith, s) in
    let whole : length a.samples ≡ frames * a.channels =
    let m = c.kept.whole in
    let d = mod-eq-sub-div-mul (length a.samples) a.channels in
    let l = div-mul-le_self (length a.samples) a.channels in omega (arith, m, d, l) in
    let some : 1 ≤ frames = some_frames frames (length a.samples) a.channels whole c.some_samples in
    let size : frames * a.channels ≤ 4096 * a.channels = let f = c.few_samples in omega (arith, whole, f) in
    let few : frames ≤ 4096 = le_of_mul-le-mul_right size positive in
    record {
      sound = record {
        some_bits = c.kept.some_bits;
        few_bits = c.kept.few_bits;
        some_channels = c.kept.some_channels;
        few_channels = c.kept.few_channels;
        sample_frames = frames;
        interleaved = whole;
        some_sample_frames = some;
        few_sample_frames = omega (arith, few);
        within_bits = c.kept.fit;
      };
      few_samples = c.few_samples;
      few_bits = c.few_bits;
      rate = c.rate;
    }
  where
    some_frames : (q n ch : ℕ) → n ≡ q * ch → 1 ≤ n → 1 ≤ q
    some_frames zero n ch e some = absurd (omega (arith, e, some))
    some_frames (suc q) n ch e some = omega arith

pub front_blocks : (count : ℕ) (cut xs : List AFrame) → All IsCut cut → xs ≡ take count cut → All IsBlock xs
front_blocks count cut xs all is k d lt =
    let front : All IsCut xs = subst (λ (ys : List AFrame). All IsCut ys) (sym is) (All-take IsCut count cut all) in
    cut_block (slice_index_or xs k d) (front k d lt)

-- a frame whose depth is kept
same_bits : (bits : ℕ) → 4 ≤ bits → bits ≤ 24 → coded_bits bits ≡ bits
same_bits bits some few =
    let a : nat_le 4 bits ≡ true = grind (arith, nat_tests) in
    let b : nat_le bits 24 ≡ true = grind (arith, nat_tests) in
    pick (nat_le 4 bits) (nat_le bits 24) a b
  where
    pick : (x y : Bool) → x ≡ true → y ≡ true → (if x && y then bits else 24) ≡ bits
    pick true true e f = refl
    pick true false e f = cc
    pick false y e f = cc

pub same_depth : (f : AFrame) → 4 ≤ f.bits → f.bits ≤ 24 → at_coded f ≡ f
same_depth f some few =
    ap (λ (b : ℕ). at_depth b f) (same_bits f.bits some few)
    ∙ ap (λ (xs : List ℤ). audio_frame f.pts f.rate f.bits f.channels xs) (all_same f.bits f.samples)

-- the first block of those that wait stands behind those that were given
pub first_due : (cut done due : List AFrame) (e : AFrame) → 1 ≤ length cut → IsPrefix (done ++ cut) due → IsPrefix (done ++ slice_index_or cut 0 e ∷ []) due
first_due [] done due e some p = absurd (omega (arith, some))
first_due (y ∷ ys) done due e some p =
    prefix_first (done ++ y ∷ []) ys due (subst (λ (zs : List AFrame). IsPrefix zs due) (sym (append_assoc done (y ∷ []) ys)) p)

-- the packet of the first block has a size that can't be told
pub too_long : (codes : List (List ℕ)) (cut : List AFrame) (given : ℕ) (done due : List AFrame) (bytes : List ℕ) → 1 ≤ length codes → AreCodes given codes cut
    → bytes ≡ slice_index_or codes 0 bytes → ((i : ℕ) → get_or bytes i 0 < 256) → 2 ^ 24 ≤ length bytes → length done ≡ given → IsPrefix (done ++ cut) due
    → (b : AFrame) × IsPrefix (done ++ b ∷ []) due × (passes_in_flac (length done) (Packet (packet_of b (length done))) ≡ true)
too_long [] cut given done due bytes some c is small size number p = absurd (omega (arith, some))
too_long (x ∷ xs) [] given done due bytes some c is small size number p = absurd c
too_long (x ∷ xs) (y ∷ ys) given done due bytes some c is small size number p =
    let code : IsCoded y given bytes = subst (λ (zs : List ℕ). IsCoded y given zs) (sym is) c.0 in
    let own : bytes ≡ block_bytes y (length done) = coded_is y given bytes code small ∙ ap (λ (n : ℕ). block_bytes y n) (sym number) in (
      y,
      first_due (y ∷ ys) done due y (omega arith) p,
      size_passes (length done) (length (block_bytes y (length done))) (subst
          (λ (zs : List ℕ). 2 ^ 24 ≤ length zs) own size),
    )

-- where the numbers are used up, that of the next block can't be told
pub no_number : (cut : List AFrame) (done due : List AFrame) → 1 ≤ length cut → length done ≡ 2 ^ 31 → IsPrefix (done ++ cut) due
    → (b : AFrame) × IsPrefix (done ++ b ∷ []) due × (passes_in_flac (length done) (Packet (packet_of b (length done))) ≡ true)
no_number [] done due some number p = absurd (omega (arith, some))
no_number (y ∷ ys) done due some number p =
    (y, first_due (y ∷ ys) done due y some p, number_passes (length done) (length (block_bytes y (length done))) number)

pub same_first : {A : Type 0} (xs : List A) (a b : A) → 1 ≤ length xs → a ≡ slice_index_or xs 0 a → b ≡ slice_index_or xs 0 b → a ≡ b
same_first [] a b some e f = absurd (omega (arith, some))
same_first (x ∷ xs) a b some e f = e ∙ sym f

-- nothing was cut that wasn't given
pub given_all : (cut done due : List AFrame) → IsPrefix (done ++ cut) due → length cut ≡ 0 → length due ≡ length (done ++ cut) → due ≡ done
given_all [] done due p none count =
    let same : done ++ [] ≡ done = append-nil done in
    prefix_all done due (subst (λ (xs : List AFrame). IsPrefix xs due) same p) (count ∙ ap (λ (xs : List AFrame). length xs) same)
given_all (y ∷ ys) done due p none count = let clash : suc (length ys) ≡ 0 = none in cc

pub on_ok : {A E : Type 0} (r : Result A E) (P Q : Type 0) → (P → Q) → OnOk r P → OnOk r Q
on_ok (Ok x) P Q h p = h p
on_ok (Err e) P Q h p = p
