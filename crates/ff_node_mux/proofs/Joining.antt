-- Streams with one item more, and what comes behind them.
use Rattle.std.proofs.Common.{◌≡◌, ℕ, zero, suc, ◌<◌, ◌+◌, ◌==◌, Bool, true, false, List, [], length, inl, inr, refl, ap, sym, ◌∙◌, subst, arith, append-nil}
use Rattle.std.specs.Prelude.{◌&&◌}
use Rattle.std.proofs.lemmas.Bool.{cases_eq, eq-eqb, ne_eqb, and_right}
use Rattle.ff_time.specs.Fraction.{Fraction}
use Rattle.ff_stream.specs.declared.item.Item.{Item}
use Rattle.ff_stream.specs.declared.item.Item.TheVariants.{Audio, Video, Packet, Trailer, End, Broken}
use Rattle.ff_stream.specs.Stream.{Mark, still_open, whole, broken, Stream, is_whole}
use Rattle.ff_stream.specs.Items.{with_item}
use Rattle.ff_stream.specs.Ports.{stream_at}
use Rattle.ff_filter.specs.Joins.{Ports, silence, joined, joined_at, joined_assoc, joined_nothing, one, before_if, before_at}
use Rattle.ff_node_mux.specs.merge.Merges.{Placed, packets_in, decided, merge_to}
use Rattle.ff_node_mux.specs.merge.Queues.{base_at}
use Rattle.ff_net.specs.Ways.{Flow, with_item_at}
use Rattle.ff_net.proofs.Flows.{stream_at-with_item_same, stream_at-with_item_other}
use Rattle.ff_node_mux.specs.laws.Mixing.{mixed_alike}
use Rattle.ff_node_mux.specs.Muxing.{packets_at, are_whole, count_open, one_if_not, left_with, mixed, and_then, NothingCame}

-- an item more on an open stream
grown_at : (xs : List Item) (m : Mark) (x : Item) → m ≡ still_open → with_item (record { items = xs; mark = m }) x ≡ joined_at xs m (one x)
grown_at xs still_open (Audio f) o = refl
grown_at xs still_open (Video f) o = refl
grown_at xs still_open (Packet p) o = refl
grown_at xs still_open (Trailer p) o = refl
grown_at xs still_open End o = sym (ap (λ (zs : List Item). let r : Flow = record { items = zs; mark = whole } in r) (append-nil xs))
grown_at xs still_open Broken o = sym (ap (λ (zs : List Item). let r : Flow = record { items = zs; mark = broken } in r) (append-nil xs))
grown_at xs whole x o = cc
grown_at xs broken x o = cc

-- what was fed, with one item more and then the rest, is what was fed and then the item before the rest
fed_on : (got : List Flow) (p : ℕ) (x : Item) (ext : Ports) → (stream_at got p).mark ≡ still_open → (q : ℕ)
    → joined (stream_at (with_item_at got p x) q) (ext q) ≡ joined (stream_at got q) (before_at p x ext q)
fed_on got p x ext o q = elim (cases_eq q p) as (λ _. joined (stream_at (with_item_at got p x) q) (ext q) ≡ joined (stream_at got q) (before_at p x ext q)) [
  | inl same ↦ subst (λ r. joined (stream_at (with_item_at got p x) r) (ext r) ≡ joined (stream_at got r) (before_at p x ext r)) (sym same)
      (ap (λ (s : Flow). joined s (ext p)) (stream_at-with_item_same got p x ∙ grown_at (stream_at got p).items (stream_at got p).mark x o)
      ∙ (joined_assoc (stream_at got p) (one x) (ext p)
      ∙ ap (λ (b : Bool). joined (stream_at got p) (before_if b x (ext p))) (sym (eq-eqb p p refl))))
  | inr ne ↦ ap (λ (s : Flow). joined s (ext q)) (stream_at-with_item_other got p q x ne)
      ∙ ap (λ (b : Bool). joined (stream_at got q) (before_if b x (ext q))) (sym (ne_eqb q p ne))
]

pub then_on : (got : List Flow) (p : ℕ) (x : Item) (ext : Ports) → (stream_at got p).mark ≡ still_open
    → and_then (with_item_at got p x) ext ≡ and_then got (before_at p x ext)
then_on got p x ext o i q = packets_in (fed_on got p x ext o q i)

-- nothing more
pub then_silence : (got : List Flow) → and_then got silence ≡ packets_at got
then_silence got i q = packets_in (joined_nothing (stream_at got q) i)

-- ---- of streams on which nothing came nothing is decided

merge_none : (base : ℕ → Fraction) (n : ℕ) → merge_to base n (packets_at []) ≡ []
merge_none base zero = refl
merge_none base (suc n) = rw (merge_none base n) refl

pub mixed_nothing : (bases : List Fraction) (got : List Flow) → NothingCame got → (mixed bases got).items ≡ []
mixed_nothing bases got none =
    ap (λ (t : Stream Placed). t.items) (mixed_alike bases got [] (λ q lt. none q))
    ∙ ap (λ (xs : List Placed). decided (length bases) (packets_at []) xs) (merge_none (base_at bases) (length bases))

-- ---- how many aren't whole

pub open_none : (n : ℕ) → count_open n [] ≡ n
open_none zero = refl
open_none (suc n) = let e = open_none n in omega (arith, e)

and_true : (b : Bool) → (b && true) ≡ b
and_true true = refl
and_true false = refl

no_more : (n : ℕ) → n + 0 ≡ n
no_more n = omega arith

-- none just where each is whole
pub all_or_open : (n : ℕ) (ss : List Flow) → (count_open n ss == 0) ≡ are_whole n ss
all_or_open zero ss = refl
all_or_open (suc n) ss = at (is_whole (stream_at ss n).mark) refl (all_or_open n ss)
  where
    at : (b : Bool) → is_whole (stream_at ss n).mark ≡ b → (count_open n ss == 0) ≡ are_whole n ss → (count_open (suc n) ss == 0) ≡ are_whole (suc n) ss
    at true e h =
        ap (λ (b : Bool). (count_open n ss + one_if_not b) == 0) e
        ∙ (ap (λ (k : ℕ). k == 0) (no_more (count_open n ss))
        ∙ (h ∙ (sym (and_true (are_whole n ss)) ∙ ap (λ (b : Bool). are_whole n ss && b) (sym e))))
    at false e h =
        ap (λ (b : Bool). (count_open n ss + one_if_not b) == 0) e
        ∙ (ne_eqb (count_open n ss + 1) 0 (λ z. omega (arith, z)) ∙ sym (and_right (are_whole n ss) (is_whole (stream_at ss n).mark) e))

count_alike : (n : ℕ) (rs ss : List Flow) → ((q : ℕ) → q < n → is_whole (stream_at rs q).mark ≡ is_whole (stream_at ss q).mark)
    → count_open n rs ≡ count_open n ss
count_alike zero rs ss h = refl
count_alike (suc n) rs ss h =
    ap (λ (k : ℕ). k + one_if_not (is_whole (stream_at rs n).mark)) (count_alike n rs ss (λ q lt. h q (omega (arith, lt))))
    ∙ ap (λ (b : Bool). count_open n ss + one_if_not b) (h n (omega arith))

open_is : (m : Mark) → m ≡ still_open → one_if_not (is_whole m) ≡ 1
open_is m o = ap (λ (k : Mark). one_if_not (is_whole k)) o

count_end : (n : ℕ) (got : List Flow) (p : ℕ) → (stream_at got p).mark ≡ still_open → p < n
    → count_open n got ≡ suc (count_open n (with_item_at got p End))
count_end zero got p o lt = absurd (omega (arith, lt))
count_end (suc n) got p o lt = elim (cases_eq p n) as (λ _. count_open (suc n) got ≡ suc (count_open (suc n) (with_item_at got p End))) [
  | inl same ↦ (
      let before : count_open n got ≡ count_open n (with_item_at got p End) =
      count_alike n got (with_item_at got p End) (λ q l. ap (λ (s : Flow). is_whole s.mark) (sym (stream_at-with_item_other got p q End (λ e. omega (arith, e, same, l))))) in
      let here : one_if_not (is_whole (stream_at got n).mark) ≡ 1 = open_is (stream_at got n).mark (ap (λ r. (stream_at got r).mark) (sym same) ∙ o) in
      let there : one_if_not (is_whole (stream_at (with_item_at got p End) n).mark) ≡ 0 =
      ap (λ r. one_if_not (is_whole (stream_at (with_item_at got p End) r).mark)) (sym same)
      ∙ ap (λ (s : Flow). one_if_not (is_whole s.mark)) (stream_at-with_item_same got p End) in
      omega (arith, before, here, there)
      )
  | inr ne ↦ (
      let before = count_end n got p o (omega (arith, lt, ne)) in
      let same : one_if_not (is_whole (stream_at got n).mark) ≡ one_if_not (is_whole (stream_at (with_item_at got p End) n).mark) =
      ap (λ (s : Flow). one_if_not (is_whole s.mark)) (sym (stream_at-with_item_other got p n End (λ e. ne (sym e)))) in
      omega (arith, before, same)
      )
]

-- an item that isn't the end leaves each as whole as it was
stays_open : (got : List Flow) (p : ℕ) (x : Item) → is_whole (with_item (stream_at got p) x).mark ≡ is_whole (stream_at got p).mark → (q : ℕ)
    → is_whole (stream_at (with_item_at got p x) q).mark ≡ is_whole (stream_at got q).mark
stays_open got p x h q = elim (cases_eq q p) as (λ _. is_whole (stream_at (with_item_at got p x) q).mark ≡ is_whole (stream_at got q).mark) [
  | inl same ↦ subst (λ r. is_whole (stream_at (with_item_at got p x) r).mark ≡ is_whole (stream_at got r).mark) (sym same)
      (ap (λ (s : Flow). is_whole s.mark) (stream_at-with_item_same got p x) ∙ h)
  | inr ne ↦ ap (λ (s : Flow). is_whole s.mark) (stream_at-with_item_other got p q x ne)
]

pub count_fed : (n : ℕ) (got : List Flow) (p : ℕ) (x : Item) → (stream_at got p).mark ≡ still_open → p < n
    → left_with (count_open n got) x ≡ count_open n (with_item_at got p x)
count_fed n got p (Audio f) o lt = count_alike n got (with_item_at got p (Audio f)) (λ q l. sym (stays_open got p (Audio f) refl q))
count_fed n got p (Video f) o lt = count_alike n got (with_item_at got p (Video f)) (λ q l. sym (stays_open got p (Video f) refl q))
count_fed n got p (Packet k) o lt = count_alike n got (with_item_at got p (Packet k)) (λ q l. sym (stays_open got p (Packet k) refl q))
count_fed n got p (Trailer t) o lt = count_alike n got (with_item_at got p (Trailer t)) (λ q l. sym (stays_open got p (Trailer t) refl q))
count_fed n got p End o lt = let e = count_end n got p o lt in omega (arith, e)
count_fed n got p Broken o lt =
    count_alike n got (with_item_at got p Broken) (λ q l. sym (stays_open got p Broken (ap is_whole (sym o)) q))
