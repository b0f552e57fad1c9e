-- Streams by their numbers.
use Rattle.std.proofs.Common.{zero, suc, ◌≡◌, ℕ, ◌+◌, ◌<◌, ◌≤◌, List, [], ◌∷◌, ◌++◌, length, take, drop, get_or, refl, sym, ap, ◌∙◌, append_assoc, arith}
use Rattle.std.proofs.lemmas.List.{append-nil, take-map, drop-map}
use Rattle.std.specs.Prelude.{unwrap_or, slice_get}
use Rattle.std.specs.List.{AllByRecursion}
use Rattle.std.specs.declared.alloc.Global.{Global}
use Rattle.std.specs.declared.vec.Vec.{Vec}
use Rattle.ff_frame.specs.declared.head.StreamHead.{StreamHead}
use Rattle.ff_words.specs.declared.maps.map.Pick.{Pick}
use Rattle.ff_words.specs.declared.maps.map.Pick.TheVariants as pick
use Rattle.ff_words.specs.declared.maps.streams.Stream.{Stream}
use Rattle.ff_words.specs.maps.Choice.{stream_at, numbered, streams_of, streams_from, lists, places, at_number, picked}

-- the place of the one at a number
pub places-number : (n : ℕ) (ss : List Stream) → take 1 (drop n (places ss)) ≡ places (at_number n ss)
places-number n ss = ap (take 1) (drop-map (λ (s : Stream). s.at) n ss) ∙ take-map (λ (s : Stream). s.at) 1 (drop n ss)

-- of no streams none is picked
pub picked-none : (p : Pick) → picked p [] ≡ []
picked-none pick.All = refl
picked-none (pick.Index zero) = refl
picked-none (pick.Index (suc n)) = refl
picked-none (pick.Kind k) = refl
picked-none (pick.Nth k zero) = refl
picked-none (pick.Nth k (suc n)) = refl

pub no-list : (vs : List (Vec StreamHead Global)) (n : ℕ) → length vs ≤ n → unwrap_or (slice_get (lists vs) n) [] ≡ []
no-list [] n h = refl
no-list (v ∷ vs) zero h = absurd (omega (arith, h))
no-list (v ∷ vs) (suc n) h = no-list vs n (omega (arith, h))

pub some-list : (vs : List (Vec StreamHead Global)) (n : ℕ) (v : Vec StreamHead Global) → n < length vs → v ≡ get_or vs n v → unwrap_or (slice_get (lists vs) n) [] ≡ v.items
some-list [] n v h e = absurd (omega (arith, h))
some-list (x ∷ vs) zero v h e = ap (λ (w : Vec StreamHead Global). w.items) (sym e)
some-list (x ∷ vs) (suc n) v h e = some-list vs n v (omega (arith, h)) e

-- ---- one more at the end

pub numbered-push : (input n : ℕ) (hs : List StreamHead) (h : StreamHead) → numbered input n (hs ++ h ∷ []) ≡ numbered input n hs ++ stream_at input (n + length hs) h ∷ []
numbered-push input n [] h = ap (λ m. stream_at input m h ∷ []) (omega arith)
numbered-push input n (x ∷ hs) h =
    ap (λ t. stream_at input n x ∷ t) (numbered-push input (n + 1) hs h ∙ ap (λ m. numbered input (n + 1) hs ++ stream_at input m h ∷ []) (omega arith))

pub streams-push : (input : ℕ) (all : List (List StreamHead)) (hs : List StreamHead) → streams_from input (all ++ hs ∷ []) ≡ streams_from input all ++ streams_of (input + length all) hs
streams-push input [] hs = append-nil (streams_of input hs) ∙ ap (λ m. streams_of m hs) (omega arith)
streams-push input (x ∷ all) hs =
    ap (λ t. streams_of input x ++ t) (streams-push (input + 1) all hs ∙ ap (λ m. streams_from (input + 1) all ++ streams_of m hs) (omega arith))
    ∙ sym (append_assoc (streams_of input x) (streams_from (input + 1) all) (streams_of (input + suc (length all)) hs))

pub lists-push : (vs : List (Vec StreamHead Global)) (v : Vec StreamHead Global) → lists (vs ++ v ∷ []) ≡ lists vs ++ v.items ∷ []
lists-push [] v = refl
lists-push (x ∷ vs) v = ap (λ t. x.items ∷ t) (lists-push vs v)

pub all-at : {X : Type 0} (P : X → Type 0) (xs : List X) (i : ℕ) (d : X) → i < length xs → AllByRecursion P xs → P (get_or xs i d)
all-at P [] i d lt h = absurd (omega (arith, lt))
all-at P (x ∷ xs) zero d lt h = h.0
all-at P (x ∷ xs) (suc i) d lt h = all-at P xs i d (omega (arith, lt)) h.1
