-- Each map is read, as it stands.
use Rattle.std.proofs.Common.{suc, ◌≡◌, ℕ, ◌+◌, ◌-◌, ◌*◌, ◌^◌, ◌<◌, ◌≤◌, Bool, true, false, nat_lt, Some, None, List, [], ◌∷◌, ◌++◌, length, refl, sym, ap, ◌∙◌, append_assoc, arith, length-append}
use Rattle.std.proofs.lemmas.List.{append-nil}
use Rattle.std.proofs.Math.Nat.{add-mul, mul_assoc, mul_comm, pow-suc}
use Rattle.std.specs.Prelude.{if◌then◌else◌}
use Rattle.std.specs.List.{AllByRecursion}
use Rattle.ff_time.specs.Duration.{IsDigit, number}
use Rattle.ff_lang.specs.Letters.{is_label_byte}
use Rattle.ff_lang.proofs.Bytes.{both_true, lt_true, label_93}
use Rattle.ff_words.specs.declared.maps.map.Kind.{Kind}
use Rattle.ff_words.specs.declared.maps.map.Kind.TheVariants.{Audio, Video}
use Rattle.ff_words.specs.declared.maps.map.MapFrom.{MapFrom}
use Rattle.ff_words.specs.declared.maps.map.MapFrom.TheVariants as from
use Rattle.ff_words.specs.declared.maps.map.MapSpec.{MapSpec}
use Rattle.ff_words.specs.declared.maps.map.Pick.{Pick}
use Rattle.ff_words.specs.declared.maps.map.Pick.TheVariants as pick
use Rattle.ff_words.specs.declared.maps.reading.Reading.{Reading}
use Rattle.ff_words.specs.declared.maps.reading.Reading.TheVariants.{Start, File, Separator, Index, Second, Nth, Label, Closed}
use Rattle.ff_words.specs.maps.Grammar.{IsNumber, IsPick, IsFrom, IsMap, mark, letter}
use Rattle.ff_words.specs.maps.Reading.{letter_next, byte_next, of_input, start_next, file_next, separator_next, index_next}
use Rattle.ff_words.proofs.MapsLemmas.Letters.{letter-digit}
use Rattle.ff_words.proofs.MapsLemmas.Runs.{reads, reads_byte}

-- a number may go on
record Counts (mk : ℕ → ℕ → Reading) : Type 0 where
  pub more : (k n b : ℕ) → IsDigit b → k < 9 → byte_next (mk k n) b ≡ Some (mk (k + 1) (n * 10 + (b - 48)))

shifted : (n d p : ℕ) → n * (p * 10) + d * p ≡ (n * 10 + d) * p
shifted n d p = omega (arith, add-mul (n * 10) d p, mul_assoc n 10 p, ap (λ x. n * x) (mul_comm p 10))

number_on : (n d len : ℕ) (ds : List ℕ) → (n * 10 + d) * 10 ^ len + number ds ≡ n * 10 ^ suc len + (d * 10 ^ len + number ds)
number_on n d len ds = omega (arith, shifted n d (10 ^ len), ap (λ x. n * x) (pow-suc 10 len))

at_same : (mk : ℕ → ℕ → Reading) (k j n m : ℕ) (y : List ℕ) → k ≡ j → n ≡ m → reads y (mk k n) ≡ reads y (mk j m)
at_same mk k j n m y p q = ap (λ x. reads y (mk x n)) p ∙ ap (λ x. reads y (mk j x)) q

digits_read : (mk : ℕ → ℕ → Reading) → Counts mk → (k n : ℕ) (ds y : List ℕ) → AllByRecursion IsDigit ds → k + length ds ≤ 9
    → reads (ds ++ y) (mk k n) ≡ reads y (mk (k + length ds) (n * 10 ^ length ds + number ds))
digits_read mk c k n [] y h short = at_same mk k (k + 0) n (n * 10 ^ 0 + 0) y (omega arith) (omega arith)
digits_read mk c k n (b ∷ ds) y h short =
    reads_byte b (ds ++ y) (mk k n) (mk (k + 1) (n * 10 + (b - 48))) (c.more k n b h.0 (omega (arith, short)))
    ∙ (digits_read mk c (k + 1) (n * 10 + (b - 48)) ds y h.1 (omega (arith, short))
    ∙ at_same mk (k + 1 + length ds) (k + suc (length ds)) ((n * 10 + (b - 48)) * 10 ^ length ds + number ds) (n * 10 ^ suc (length ds) + ((b - 48) * 10 ^ length ds + number ds)) y
    (omega arith) (number_on n (b - 48) (length ds) ds))

number_read : (mk : ℕ → ℕ → Reading) (s : Reading) → Counts mk → ((b : ℕ) → IsDigit b → byte_next s b ≡ Some (mk 1 (b - 48)))
    → (ds y : List ℕ) (n : ℕ) → IsNumber ds n → reads (ds ++ y) s ≡ reads y (mk (length ds) n)
number_read mk s c first [] y n h = absurd (omega (arith, h.digits.some))
number_read mk s c first (b ∷ ds) y n h =
    reads_byte b (ds ++ y) s (mk 1 (b - 48)) (first b h.digits.each.0)
    ∙ (digits_read mk c 1 (b - 48) ds y h.digits.each.1 (omega (arith, h.short))
    ∙ at_same mk (1 + length ds) (suc (length ds)) ((b - 48) * 10 ^ length ds + number ds) n y (omega arith) (sym h.value))

file_counts : Counts File
file_counts = record { more = λ k n b h lt. ap (file_next k n) (letter-digit b h) ∙ ap (λ c. if c then Some (File (k + 1) (n * 10 + (b - 48))) else None) (lt_true k 9 lt) }

index_counts : (f : ℕ) → Counts (Index f)
index_counts f = record { more = λ k n b h lt. ap (index_next f k n) (letter-digit b h) ∙ ap (λ c. if c then Some (Index f (k + 1) (n * 10 + (b - 48))) else None) (lt_true k 9 lt) }

nth_counts : (f : ℕ) (kind : Kind) → Counts (Nth f kind)
nth_counts f kind =
    record { more = λ k n b h lt. ap (letter_next (Nth f kind k n)) (letter-digit b h) ∙ ap (λ c. if c then Some (Nth f kind (k + 1) (n * 10 + (b - 48))) else None) (lt_true k 9 lt) }

-- ---- picks

all_read : (k f : ℕ) (o : Bool) → reads (mark o) (File k f) ≡ Some (of_input f pick.All o)
all_read k f true = refl
all_read k f false = refl

index_read : (f k n : ℕ) (o : Bool) → reads (mark o) (Index f k n) ≡ Some (of_input f (pick.Index n) o)
index_read f k n true = refl
index_read f k n false = refl

kind_read : (k f : ℕ) (kind : Kind) (o : Bool) → reads ((58 ∷ letter kind) ++ mark o) (File k f) ≡ Some (of_input f (pick.Kind kind) o)
kind_read k f Audio true = refl
kind_read k f Audio false = refl
kind_read k f Video true = refl
kind_read k f Video false = refl

nth_read : (f : ℕ) (kind : Kind) (k n : ℕ) (o : Bool) → reads (mark o) (Nth f kind k n) ≡ Some (of_input f (pick.Nth kind n) o)
nth_read f kind k n true = refl
nth_read f kind k n false = refl

to_second : (k f : ℕ) (kind : Kind) (y : List ℕ) → reads ((58 ∷ (letter kind ++ 58 ∷ [])) ++ y) (File k f) ≡ reads y (Second f kind)
to_second k f Audio y = refl
to_second k f Video y = refl

pick_read : (k f : ℕ) (p : Pick) (o : Bool) (behind : List ℕ) → IsPick behind p → reads (behind ++ mark o) (File k f) ≡ Some (of_input f p o)
pick_read k f pick.All o behind h = ap (λ t. reads (t ++ mark o) (File k f)) h ∙ all_read k f o
pick_read k f (pick.Index n) o behind h =
    ap (λ t. reads (t ++ mark o) (File k f)) h.1
    ∙ (number_read (Index f) (Separator f) (index_counts f) (λ b d. ap (separator_next f) (letter-digit b d)) h.0 (mark o) n h.2 ∙ index_read f (length h.0) n o)
pick_read k f (pick.Kind kind) o behind h = ap (λ t. reads (t ++ mark o) (File k f)) h ∙ kind_read k f kind o
pick_read k f (pick.Nth kind n) o behind h =
    ap (λ t. reads (t ++ mark o) (File k f)) h.1
    ∙ (ap (λ t. reads t (File k f)) (append_assoc (58 ∷ (letter kind ++ 58 ∷ [])) h.0 (mark o))
    ∙ (to_second k f kind (h.0 ++ mark o)
    ∙ (number_read (Nth f kind) (Second f kind) (nth_counts f kind) (λ b d. ap (letter_next (Second f kind)) (letter-digit b d)) h.0 (mark o) n h.2 ∙ nth_read f kind (length h.0) n o)))

-- ---- labels

label_read : (l x y : List ℕ) → AllByRecursion (λ b. is_label_byte b ≡ true) x → length l + length x ≤ 64 → reads (x ++ y) (Label l) ≡ reads y (Label (l ++ x))
label_read l [] y h short = ap (λ t. reads y (Label t)) (sym (append-nil l))
label_read l (b ∷ x) y h short =
    reads_byte b (x ++ y) (Label l) (Label (l ++ b ∷ [])) (simp (both_true (is_label_byte b) (nat_lt (length l) 64) h.0 (lt_true (length l) 64 (omega (arith, short)))) refl)
    ∙ (label_read (l ++ b ∷ []) x y h.1 (omega (arith, short, length-append l (b ∷ [])))
    ∙ ap (λ t. reads y (Label t)) (append_assoc l (b ∷ []) x))

closed_read : (l : List ℕ) → 0 < length l → reads (93 ∷ []) (Label l) ≡ Some (record { from = from.Label l; optional = false })
closed_read l some = reads_byte 93 [] (Label l) (Closed l) (simp (label_93, lt_true 0 (length l) some) refl)

from_read : (text : List ℕ) (m : MapFrom) (o : Bool) → IsFrom text m o → reads text Start ≡ Some (record { from = m; optional = o })
from_read text (from.Input f p) o h =
    ap (λ t. reads t Start) (h.2 ∙ append_assoc h.0 h.1 (mark o))
    ∙ (number_read File Start file_counts (λ b d. ap start_next (letter-digit b d)) h.0 (h.1 ++ mark o) f h.3 ∙ pick_read (length h.0) f p o h.1 h.4)
from_read text (from.Label l) o h =
    ap (λ t. reads t Start) h.2
    ∙ (label_read [] l (93 ∷ []) h.1.each (omega (arith, h.1.short)) ∙ (closed_read l h.1.some ∙ ap (λ x. Some (record { from = from.Label l; optional = x })) (sym h.0)))

pub reads_map : (text : List ℕ) (m : MapSpec) → IsMap text m → reads text Start ≡ Some m
reads_map text m h = from_read text m.from m.optional h
