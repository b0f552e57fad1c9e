-- Channels, one after the other.
use Rattle.std.proofs.Common.{◌≡◌, ℕ, zero, suc, ◌+◌, ◌-◌, ◌<◌, List, [], ◌∷◌, ◌++◌, length, map, drop, get_or, sym, ap, ◌∙◌, append_assoc, arith}
use Rattle.std.proofs.Common.{ℤ, pos}
use Rattle.std.proofs.lemmas.List.{drop_more, drop_all}
use Rattle.ff_flac_frame.specs.declared.subframe.Subframe.{Subframe}
use Rattle.ff_flac_frame.specs.Frame.{Part}
use Rattle.ff_flac_frame.specs.laws.Parts.{part_of}
use Rattle.ff_flac_frame.specs.Prediction.{AllInDepth}
use Rattle.ff_flac_dec.specs.Channels.{sample_frame, interleaved_from, interleaved, AllChannels}

pub next_part : (ss : List Subframe) (i : ℕ) (s : Subframe) → i < length ss → s ≡ get_or ss i s → map part_of (drop i ss) ≡ part_of s ∷ map part_of (drop (i + 1) ss)
next_part ss i s lt is =
    ap (λ (xs : List Subframe). map part_of xs) (drop_more ss i s lt) ∙ ap (λ (x : Subframe). part_of x ∷ map part_of (drop (i + 1) ss)) (sym is)

pub channels_go_on : (f : Part → List ℤ) (out : List (List ℤ)) (now rest : List Part) (p : Part) (xs : List ℤ) (total : List (List ℤ)) → now ≡ p ∷ rest → xs ≡ f p → out ++ map f now ≡ total → (out ++ xs ∷ []) ++ map f rest ≡ total
channels_go_on f out now rest p xs total e is so_far =
    append_assoc out (xs ∷ []) (map f rest) ∙ ap (λ (ys : List ℤ). out ++ (ys ∷ map f rest)) is ∙ ap (λ (ps : List Part). out ++ map f ps) (sym e) ∙ so_far

pub channels_push : (depth : ℕ) (channels : List (List ℤ)) (xs : List ℤ) → AllChannels depth channels → AllInDepth depth xs → AllChannels depth (channels ++ xs ∷ [])
channels_push depth [] xs h g = (g, tt)
channels_push depth (ys ∷ channels) xs h g = (h.0, channels_push depth channels xs h.1 g)

pub interleave_goes_on : (channels : List (List ℤ)) (block place : ℕ) (out new total : List ℤ) → place < block → new ≡ out ++ sample_frame channels place → out ++ interleaved_from channels (block - place) place ≡ total → new ++ interleaved_from channels (block - (place + 1)) (place + 1) ≡ total
interleave_goes_on channels block place out new total lt e so_far =
    let k : block - place ≡ suc (block - (place + 1)) = omega arith in
    let tail : List ℤ = interleaved_from channels (block - (place + 1)) (place + 1) in
    ap (λ (m : List ℤ). m ++ tail) e ∙ append_assoc out (sample_frame channels place) tail ∙ ap (λ (n : ℕ). out ++ interleaved_from channels n place) (sym k) ∙ so_far

-- one sample frame of two channels more
pub two_go_on : (channels : List (List ℤ)) (block place : ℕ) (out total : List ℤ) (x y : ℤ) → place < block → sample_frame channels place ≡ x ∷ y ∷ [] → out ++ interleaved_from channels (block - place) place ≡ total → ((out ++ x ∷ []) ++ y ∷ []) ++ interleaved_from channels (block - (place + 1)) (place + 1) ≡ total
two_go_on channels block place out total x y lt e so_far =
    interleave_goes_on channels block place out ((out ++ x ∷ []) ++ y ∷ []) total lt (append_assoc out (x ∷ []) (y ∷ []) ∙ ap (λ (m : List ℤ). out ++ m) (sym e)) so_far

-- one channel is its own list of sample frames
one_from : (xs : List ℤ) (n t : ℕ) → t + n ≡ length xs → interleaved_from (xs ∷ []) n t ≡ drop t xs
one_from xs zero t e = sym (drop_all t xs (omega (arith, e)))
one_from xs (suc n) t e =
    ap (λ (ys : List ℤ). sample_frame (xs ∷ []) t ++ ys) (one_from xs n (t + 1) (omega (arith, e))) ∙ sym (drop_more xs t (pos 0) (omega (arith, e)))

pub interleaved_one : (block : ℕ) (xs : List ℤ) → length xs ≡ block → interleaved block (xs ∷ []) ≡ xs
unfolding interleaved
interleaved_one block xs len = one_from xs block 0 (omega (arith, len))
