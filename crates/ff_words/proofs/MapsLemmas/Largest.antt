-- The largest of some streams and one more.
use Rattle.std.proofs.Common.{zero, suc, ◌≡◌, ℕ, ◌+◌, ◌<◌, ◌≤◌, Bool, true, false, Option, Some, None, List, [], ◌∷◌, ◌++◌, length, take, get_or, refl, sym, ap, subst, ◌∙◌, append_assoc, arith, if◌then◌else◌}
use Rattle.std.proofs.lemmas.List.{append-nil, take_more}
use Rattle.std.specs.List.{AllByRecursion}
use Rattle.std.specs.declared.alloc.Global.{Global}
use Rattle.std.specs.declared.vec.Vec.{Vec}
use Rattle.ff_frame.specs.declared.head.StreamHead.{StreamHead}
use Rattle.ff_words.specs.declared.maps.map.Kind.{Kind}
use Rattle.ff_words.specs.declared.maps.streams.Stream.{Stream}
use Rattle.ff_words.specs.maps.Choice.{stream_at, numbered, streams_of, all_streams, lists, has_kind, of_kind, size, IsLargest}
use Rattle.ff_words.proofs.MapsLemmas.Numbered.{numbered-push, streams-push, lists-push}

all_append : {X : Type 0} (P : X → Type 0) (xs ys : List X) → AllByRecursion P xs → AllByRecursion P ys → AllByRecursion P (xs ++ ys)
all_append P [] ys h k = k
all_append P (x ∷ xs) ys h k = (h.0, all_append P xs ys h.1 k)

all_map : {X : Type 0} (P Q : X → Type 0) (xs : List X) → ((x : X) → P x → Q x) → AllByRecursion P xs → AllByRecursion Q xs
all_map P Q [] f h = tt
all_map P Q (x ∷ xs) f h = (f x h.0, all_map P Q xs f h.1)

one_more : (b : Bool) (x : Stream) (xs ys : List Stream) → (if b then x ∷ (xs ++ ys) else (xs ++ ys)) ≡ (if b then x ∷ xs else xs) ++ ys
one_more true x xs ys = refl
one_more false x xs ys = refl

kind_append : (k : Kind) (xs ys : List Stream) → of_kind k (xs ++ ys) ≡ of_kind k xs ++ of_kind k ys
kind_append k [] ys = refl
kind_append k (x ∷ xs) ys = ap (λ t. if has_kind k x.head then x ∷ t else t) (kind_append k xs ys) ∙ one_more (has_kind k x.head) x (of_kind k xs) (of_kind k ys)

kind_push : (k : Kind) (ss : List Stream) (s : Stream) (b : Bool) → has_kind k s.head ≡ b → of_kind k (ss ++ s ∷ []) ≡ of_kind k ss ++ (if b then s ∷ [] else [])
kind_push k ss s b e = kind_append k ss (s ∷ []) ∙ ap (λ c. of_kind k ss ++ (if c then s ∷ [] else [])) e

-- one of another kind changes nothing
pub other-kind : (k : Kind) (ss : List Stream) (best : Option Stream) (s : Stream) → has_kind k s.head ≡ false → IsLargest k ss best → IsLargest k (ss ++ s ∷ []) best
other-kind k ss None s e h = kind_push k ss s false e ∙ (append-nil (of_kind k ss) ∙ h)
other-kind k ss (Some best) s e h = (h.0, h.1, kind_push k ss s false e ∙ (append-nil (of_kind k ss) ∙ h.2), h.3, h.4)

-- the first of its kind
pub first-kind : (k : Kind) (ss : List Stream) (s : Stream) → has_kind k s.head ≡ true → IsLargest k ss None → IsLargest k (ss ++ s ∷ []) (Some s)
first-kind k ss s e h = ([], [], kind_push k ss s true e ∙ ap (λ t. t ++ s ∷ []) h, tt, tt)

-- one that isn't larger
pub not-larger : (k : Kind) (ss : List Stream) (best s : Stream) → has_kind k s.head ≡ true → size s.head ≤ size best.head → IsLargest k ss (Some best) → IsLargest k (ss ++ s ∷ []) (Some best)
not-larger k ss best s e le h = (
  h.0,
  h.1 ++ s ∷ [],
  kind_push k ss s true e ∙ (ap (λ t. t ++ s ∷ []) h.2 ∙ append_assoc h.0 (best ∷ h.1) (s ∷ [])),
  h.3,
  all_append (λ (x : Stream). size x.head ≤ size best.head) h.1 (s ∷ []) h.4 (le, tt),
)

-- one that is
pub is-larger : (k : Kind) (ss : List Stream) (best s : Stream) → has_kind k s.head ≡ true → size best.head < size s.head → IsLargest k ss (Some best) → IsLargest k (ss ++ s ∷ []) (Some s)
is-larger k ss best s e lt h = (
  h.0 ++ best ∷ h.1,
  [],
  kind_push k ss s true e ∙ ap (λ t. t ++ s ∷ []) h.2,
  all_append (λ (x : Stream). size x.head < size s.head) h.0 (best ∷ h.1)
      (all_map (λ (x : Stream). size x.head < size best.head) (λ (x : Stream). size x.head < size s.head) h.0 (λ x p. omega (arith, p, lt)) h.3)
      (lt, all_map (λ (x : Stream). size x.head ≤ size best.head) (λ (x : Stream). size x.head < size s.head) h.1 (λ x p. omega (arith, p, lt)) h.4),
  tt,
)

-- ---- the loops

short_take : {X : Type 0} (xs : List X) (n : ℕ) → n ≤ length xs → length (take n xs) ≡ n
short_take [] zero h = refl
short_take [] (suc n) h = absurd (omega (arith, h))
short_take (x ∷ xs) zero h = refl
short_take (x ∷ xs) (suc n) h = ap (λ m. suc m) (short_take xs n (omega (arith, h)))

lists_length : (vs : List (Vec StreamHead Global)) → length (lists vs) ≡ length vs
lists_length [] = refl
lists_length (v ∷ vs) = ap (λ m. suc m) (lists_length vs)

pub stream-step : (k : Kind) (ss : List Stream) (input n : ℕ) (heads : List StreamHead) (h : StreamHead) (best : Option Stream) → n < length heads → h ≡ get_or heads n h
    → IsLargest k ((ss ++ numbered input 0 (take n heads)) ++ stream_at input n h ∷ []) best → IsLargest k (ss ++ numbered input 0 (take (n + 1) heads)) best
stream-step k ss input n heads h best lt is now =
    let more : take (n + 1) heads ≡ take n heads ++ h ∷ [] = take_more heads n h lt ∙ ap (λ x. take n heads ++ x ∷ []) (sym is) in
    let placed : 0 + length (take n heads) ≡ n = omega (arith, short_take heads n (omega (arith, lt))) in
    let spelled : numbered input 0 (take (n + 1) heads) ≡ numbered input 0 (take n heads) ++ stream_at input n h ∷ [] =
    ap (numbered input 0) more ∙ (numbered-push input 0 (take n heads) h ∙ ap (λ m. numbered input 0 (take n heads) ++ stream_at input m h ∷ []) placed) in
    subst (λ t. IsLargest k t best) (append_assoc ss (numbered input 0 (take n heads)) (stream_at input n h ∷ []) ∙ ap (λ t. ss ++ t) (sym spelled)) now

pub input-step : (k : Kind) (n : ℕ) (heads : List (Vec StreamHead Global)) (v : Vec StreamHead Global) (best : Option Stream) → n < length heads → v ≡ get_or heads n v
    → IsLargest k (all_streams (lists (take n heads)) ++ streams_of n v.items) best → IsLargest k (all_streams (lists (take (n + 1) heads))) best
input-step k n heads v best lt is now =
    let more : take (n + 1) heads ≡ take n heads ++ v ∷ [] = take_more heads n v lt ∙ ap (λ x. take n heads ++ x ∷ []) (sym is) in
    let placed : 0 + length (lists (take n heads)) ≡ n = omega (arith, lists_length (take n heads), short_take heads n (omega (arith, lt))) in
    let spelled : all_streams (lists (take (n + 1) heads)) ≡ all_streams (lists (take n heads)) ++ streams_of n v.items =
    ap (λ t. all_streams (lists t)) more ∙ (ap all_streams (lists-push (take n heads) v)
    ∙ (streams-push 0 (lists (take n heads)) v.items ∙ ap (λ m. all_streams (lists (take n heads)) ++ streams_of m v.items) placed)) in
    subst (λ t. IsLargest k t best) (sym spelled) now
