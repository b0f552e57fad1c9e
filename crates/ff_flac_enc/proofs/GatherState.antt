-- What was gathered, tied to what it was fed and gave.
use Rattle.std.proofs.Common.{◌≡◌, ◌≢◌, ℕ, ◌+◌, ◌-◌, ◌*◌, ◌/◌, ◌^◌, ◌<◌, ◌≤◌, ℤ, pos, ◌+ℤ◌, ◌<ℤ◌, Bool, true, false, List, [], ◌∷◌, ◌++◌, length, take, drop, Option, Some, None, refl, sym, ap, ◌∙◌, subst, arith, length-append, append-nil}
use Rattle.std.specs.Prelude.{slice_get, unwrap_or}
use Rattle.std.proofs.lemmas.Int.{ints}
use Rattle.std.proofs.lemmas.List.{drop-append-le}
use Rattle.std.proofs.lemmas.List.Concat.{flat_map-append}
use Rattle.std.proofs.lemmas.Nat.{le-div}
use Rattle.ff_frame.specs.Frame.{audio_frame}
use Rattle.ff_frame.specs.declared.audio.AFrame.{AFrame}
use Rattle.ff_flac_enc.specs.declared.format.Format.{Format}
use Rattle.ff_flac_enc.specs.declared.blocks.Blocks.{Blocks}
use Rattle.ff_flac_enc.specs.Gathered.{format_of, full_size, all_samples, count_due, block_at, blocks_due, EndInTime, IsDue, IsKept, Holds}
use Rattle.ff_flac_enc.specs.laws.Cuts.{Cuts, Goes, IsLike}
use Rattle.ff_flac_enc.proofs.GatherLemmas.{alike, within_open, takes, none_with, get_block, count_blocks}

-- with a frame of this format there is a channel
some_size : (old : Blocks) (f : AFrame) (samples : List ℤ) (n : ℕ) → Goes old f samples n → 0 < full_size f.channels
some_size old f samples n g =
    let k : IsKept (format_of f) old.waiting = subst (λ (o : Option Format). Holds o old.waiting) g.format_is old.sound in
    let s = k.some_channels in omega (arith, s)

-- ---- feed

all_more : (f : AFrame) (fs : List AFrame) (frame : AFrame) → all_samples ((f ∷ fs) ++ frame ∷ []) ≡ all_samples (f ∷ fs) ++ frame.samples
all_more f fs frame = flat_map-append (λ (g : AFrame). g.samples) (f ∷ fs) (frame ∷ []) ∙ ap (λ (xs : List ℤ). all_samples (f ∷ fs) ++ xs) (append-nil frame.samples)

first_goes : (new : Blocks) (frame : AFrame) → new.format ≡ Some (format_of frame) → new.pts ≡ frame.pts → new.waiting ≡ frame.samples → Goes new frame (all_samples (frame ∷ [])) 0
first_goes new frame fo t w =
    let none : 0 * full_size frame.channels ≡ 0 = omega arith in record {
      format_is = fo;
      time = omega (arith, ints, t);
      kept = w ∙ (sym (append-nil frame.samples) ∙ ap (λ k. drop k (all_samples (frame ∷ []))) (sym none));
      given = omega arith;
    }

open_more : (size a b n : ℕ) → 0 < size → n ≤ count_due size false a → a ≤ b → n ≤ count_due size false b
open_more size a b n some le more = let w = within_open size a n le in le-div n b size some (omega (arith, w, more))

more_goes : (old new : Blocks) (f frame : AFrame) (samples : List ℤ) (n : ℕ) → Goes old f samples n → old.ended ≡ false → IsLike old.format frame → new.format ≡ Some (format_of frame) → new.ended ≡ old.ended → new.waiting ≡ old.waiting ++ frame.samples
    → ((g : Format) → old.format ≡ Some g → new.pts ≡ old.pts) → Goes new f (samples ++ frame.samples) n
more_goes old new f frame samples n g going like fo en wa some =
    let size = full_size f.channels in
    let given : n ≤ count_due size false (length samples) = subst (λ (b : Bool). n ≤ count_due size b (length samples)) going g.given in
    let same : format_of frame ≡ format_of f = alike (format_of f) frame (subst (λ (o : Option Format). IsLike o frame) g.format_is like) in
    let longer : length samples ≤ length (samples ++ frame.samples) = omega (arith, length-append samples frame.samples) in record {
      format_is = fo ∙ ap Some same;
      time = some (format_of f) g.format_is ∙ g.time;
      kept = wa ∙ (ap (λ (xs : List ℤ). xs ++ frame.samples) g.kept ∙ sym (drop-append-le (n * size) samples frame.samples (within_open size (length samples) n given)));
      given = subst (λ (b : Bool). n ≤ count_due size b (length (samples ++ frame.samples))) (sym (en ∙ going)) (open_more size (length samples) (length (samples ++ frame.samples)) n (some_size old f samples n g) given longer);
    }

pub feed_cuts : (old new : Blocks) (fed : List AFrame) (n : ℕ) (frame : AFrame) → Cuts old fed n → old.ended ≡ false → IsLike old.format frame → EndInTime (fed ++ frame ∷ []) → new.format ≡ Some (format_of frame) → new.ended ≡ old.ended → new.waiting ≡ old.waiting ++ frame.samples
    → (old.format ≡ None → new.pts ≡ frame.pts) → ((g : Format) → old.format ≡ Some g → new.pts ≡ old.pts) → Cuts new (fed ++ frame ∷ []) n
feed_cuts old new [] n frame c going like time fo en wa none some = record {
  in_time = time;
  goes = subst (λ k. Goes new frame (all_samples (frame ∷ [])) k) (sym c.goes.2) (first_goes new frame fo (none c.goes.0) (wa ∙ ap (λ (xs : List ℤ). xs ++ frame.samples) c.goes.1));
}
feed_cuts old new (f ∷ fs) n frame c going like time fo en wa none some = record {
  in_time = time;
  goes = subst (λ (xs : List ℤ). Goes new f xs n) (sym (all_more f fs frame)) (more_goes old new f frame (all_samples (f ∷ fs)) n c.goes going like fo en wa some);
}

-- ---- end

ended_more : (size len n : ℕ) → 0 < size → n ≤ count_due size false len → n ≤ count_due size true len
ended_more size len n some le = let w = within_open size len n le in le-div n (len + (size - 1)) size some (omega (arith, w))

pub end_cuts : (old new : Blocks) (fed : List AFrame) (n : ℕ) → Cuts old fed n → old.ended ≡ false → new.format ≡ old.format → new.pts ≡ old.pts → new.waiting ≡ old.waiting → new.ended ≡ true → Cuts new fed n
end_cuts old new [] n c going fo t wa en = record { in_time = c.in_time; goes = (fo ∙ c.goes.0, wa ∙ c.goes.1, c.goes.2) }
end_cuts old new (f ∷ fs) n c going fo t wa en =
    let g = c.goes in
    let size = full_size f.channels in
    let len = length (all_samples (f ∷ fs)) in record {
      in_time = c.in_time;
      goes = record {
        format_is = fo ∙ g.format_is;
        time = t ∙ g.time;
        kept = wa ∙ g.kept;
        given = subst (λ (b : Bool). n ≤ count_due size b len) (sym en) (ended_more size len n (some_size old f (all_samples (f ∷ fs)) n g) (subst (λ (b : Bool). n ≤ count_due size b len) going g.given));
      };
    }

-- ---- pull

-- the next block's time is no greater than the end of the samples
time_fits : (p q : ℤ) (n len ch : ℕ) → q ≡ p +ℤ pos (4096 * n) → (p +ℤ pos (len / ch)) <ℤ pos (2 ^ 62) → 0 < ch → n * (4096 * ch) < len → (q +ℤ pos 4096) <ℤ pos (2 ^ 63)
time_fits p q n len ch e lt some inside =
    let a : (4096 * n) * ch ≤ len = omega (arith, inside) in
    let h = le-div (4096 * n) len ch some a in omega (arith, ints, e, lt, h)

pub block_is : (f : AFrame) (samples : List ℤ) (n : ℕ) → block_at f samples n ≡ audio_frame (f.pts +ℤ pos (4096 * n)) f.rate f.bits f.channels (take (full_size f.channels) (drop (n * full_size f.channels) samples))
unfolding block_at
block_is f samples n = refl

-- what is given is the next block
abbrev pub Gives : Blocks → Blocks → List AFrame → ℕ → AFrame → Type 0
Gives old new fed n b = Cuts new fed (n + 1) × (slice_get (blocks_due old.ended fed) n ≡ Some b)

gives_some : (old new : Blocks) (f : AFrame) (fs : List AFrame) (n count : ℕ) (b : AFrame) → Cuts old (f ∷ fs) n → IsDue old.ended (full_size f.channels) (length old.waiting) count → count ≢ 0 → new.format ≡ old.format → new.ended ≡ old.ended → new.waiting ≡ drop count old.waiting
    → ((old.pts +ℤ pos 4096) <ℤ pos (2 ^ 63) → new.pts ≡ old.pts +ℤ pos 4096) → b ≡ audio_frame old.pts f.rate f.bits f.channels (take count old.waiting) → Gives old new (f ∷ fs) n b
gives_some old new f fs n count b c due one fo en wa time e =
    let g = c.goes in
    let samples = all_samples (f ∷ fs) in
    let size = full_size f.channels in
    let some = some_size old f samples n g in
    let t = takes size old.ended samples old.waiting n count some g.kept due one in
    let channel : 0 < f.channels = omega (arith, some) in
    let later = time (time_fits f.pts old.pts n (length samples) f.channels g.time c.in_time channel t.before) in
    let at = g.time in
    let due_now = t.due in
    let block : block_at f samples n ≡ b =
    block_is f samples n
    ∙ (ap (λ (p : ℤ). audio_frame p f.rate f.bits f.channels (take size (drop (n * size) samples))) (sym g.time)
    ∙ (ap (λ (xs : List ℤ). audio_frame old.pts f.rate f.bits f.channels xs) (sym t.block) ∙ sym e)) in (
      record {
        in_time = c.in_time;
        goes = record {
          format_is = fo ∙ g.format_is;
          time = omega (arith, ints, later, at);
          kept = wa ∙ t.rest;
          given = subst (λ (b : Bool). n + 1 ≤ count_due size b (length samples)) (sym en) (omega (arith, due_now));
        };
      },
      get_block old.ended f samples n t.due ∙ ap Some block,
    )

same_format : (format : Format) (f : AFrame) (o : Option Format) → o ≡ Some format → o ≡ Some (format_of f) → format ≡ format_of f
same_format format f o p q = ap (λ (x : Option Format). unwrap_or x format) (sym p ∙ q)

pub gives : (old new : Blocks) (fed : List AFrame) (n count : ℕ) (b : AFrame) (format : Format) → old.format ≡ Some format → Cuts old fed n → IsDue old.ended (full_size format.channels) (length old.waiting) count → count ≢ 0 → new.format ≡ old.format → new.ended ≡ old.ended → new.waiting ≡ drop count old.waiting
    → ((old.pts +ℤ pos 4096) <ℤ pos (2 ^ 63) → new.pts ≡ old.pts +ℤ pos 4096) → b ≡ audio_frame old.pts format.rate format.bits format.channels (take count old.waiting) → Gives old new fed n b
gives old new [] n count b format is c due one fo en wa time e = let clash = sym is ∙ c.goes.0 in cc
gives old new (f ∷ fs) n count b format is c due one fo en wa time e =
    let same = same_format format f old.format is c.goes.format_is in
    gives_some old new f fs n count b c (subst (λ (g : Format). IsDue old.ended (full_size g.channels) (length old.waiting) count) same due) one fo en wa time
    (e ∙ ap (λ (g : Format). audio_frame old.pts g.rate g.bits g.channels (take count old.waiting)) same)

-- where nothing is given, all that are due were given
pub none_due : (old : Blocks) (fed : List AFrame) (n count : ℕ) (format : Format) → old.format ≡ Some format → Cuts old fed n → IsDue old.ended (full_size format.channels) (length old.waiting) count → count ≡ 0 → length (blocks_due old.ended fed) ≡ n
none_due old [] n count format is c due none = let clash = sym is ∙ c.goes.0 in cc
none_due old (f ∷ fs) n count format is c due none =
    let g = c.goes in
    let samples = all_samples (f ∷ fs) in
    let same = same_format format f old.format is g.format_is in
    count_blocks old.ended f samples
    ∙ none_with (full_size f.channels) old.ended samples old.waiting n count (some_size old f samples n g) g.kept g.given (subst (λ (g : Format). IsDue old.ended (full_size g.channels) (length old.waiting) count) same due) none

-- and where something is, they were not
pub some_due : (old : Blocks) (fed : List AFrame) (n count : ℕ) (format : Format) → old.format ≡ Some format → Cuts old fed n → IsDue old.ended (full_size format.channels) (length old.waiting) count → count ≢ 0 → length (blocks_due old.ended fed) ≡ n → ⊥
some_due old [] n count format is c due one all = let clash = sym is ∙ c.goes.0 in cc
some_due old (f ∷ fs) n count format is c due one all =
    let g = c.goes in
    let samples = all_samples (f ∷ fs) in
    let same = same_format format f old.format is g.format_is in
    let t = takes (full_size f.channels) old.ended samples old.waiting n count (some_size old f samples n g) g.kept (subst (λ (g : Format). IsDue old.ended (full_size g.channels) (length old.waiting) count) same due) one in
    let due_now = t.due in
    let number : count_due (full_size f.channels) old.ended (length samples) ≡ n = sym (count_blocks old.ended f samples) ∙ all in
    omega (arith, due_now, number)

pub due_as : (ended : Bool) (a b len len' count : ℕ) → a ≡ b → len ≡ len' → IsDue ended a len count → IsDue ended b len' count
due_as ended a b len len' count p q d = subst (λ k. IsDue ended k len' count) p (subst (λ k. IsDue ended a k count) q d)
