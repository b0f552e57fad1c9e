-- One frame at most begins bytes, and it stays whatever follows.
use Rattle.std.proofs.Common.{◌≡◌, ℕ, ◌*◌, ◌≤◌, Bool, List, [], ◌++◌, length, take, drop, sym, ap, subst, ◌∙◌, arith, length-append, length-drop}
use Rattle.std.proofs.lemmas.List.{drop-append-le, take-append-drop, drop_all, length-take-le}
use Rattle.ff_bits.specs.Bits.{bits}
use Rattle.ff_bits.specs.Reading.{Done}
use Rattle.ff_bits.proofs.Sound.{done_same}
use Rattle.ff_bits.proofs.BitsLemmas.{length-bits, bits-append}
use Rattle.ff_flac_frame.specs.declared.stream.FlacStream.{FlacStream}
use Rattle.ff_flac_frame.specs.Frame.{Frame, IsStream, frame, Begins}
use Rattle.ff_flac_frame.specs.laws.Facts.{IsFrame}
use Rattle.ff_flac_frame.proofs.FrameSound.{IsSound-frame}

pub apart : (s : FlacStream) (bytes : List ℕ) (f g : Frame) (m n : ℕ) → Begins s bytes f m → Begins s bytes g n → (m ≡ n) × (f ≡ g)
apart s bytes f g m n h k =
    let d = done_same f g (bits (drop m bytes)) (bits (drop n bytes)) (sym h.1 ∙ k.1) in
    let l : 8 * length (drop m bytes) ≡ 8 * length (drop n bytes) = sym (length-bits (drop m bytes)) ∙ ap length d.1 ∙ length-bits (drop n bytes) in
    ((let e : m ≡ n = omega (arith, l, length-drop m bytes, length-drop n bytes, h.0, k.0) in e), d.0)

pub longer : (s : FlacStream) → IsStream s → (bytes more : List ℕ) (f : Frame) (n : ℕ) → Begins s bytes f n → Begins s (bytes ++ more) f n
longer s i bytes more f n h =
    let e = (IsSound-frame s i).stays (bits bytes) (bits more) f (bits (drop n bytes)) h.1 in
    let le : n ≤ length (bytes ++ more) = omega (arith, length-append bytes more, h.0) in
    let d : bits (drop n (bytes ++ more)) ≡ bits (drop n bytes) ++ bits more = ap bits (drop-append-le n bytes more h.0) ∙ bits-append (drop n bytes) more in
    (le, ap (λ (xs : List Bool). frame s xs) (bits-append bytes more) ∙ e ∙ ap (λ (xs : List Bool). Done f xs) (sym d))

pub alone : (s : FlacStream) → IsStream s → (bytes : List ℕ) (f : Frame) (n : ℕ) → Begins s bytes f n → Begins s (take n bytes) f n
unfolding bits
alone s i bytes f n h =
    let split : bits bytes ≡ bits (take n bytes) ++ bits (drop n bytes) = ap bits (sym (take-append-drop n bytes)) ∙ bits-append (take n bytes) (drop n bytes) in
    let whole : frame s (bits (take n bytes)) ≡ Done f [] =
    (IsSound-frame s i).enough (bits (take n bytes)) (bits (drop n bytes)) f (subst (λ (xs : List Bool). frame s xs ≡ Done f (bits (drop n bytes))) split h.1) in
    let len : length (take n bytes) ≡ n = length-take-le n bytes h.0 in
    (omega (arith, len), whole ∙ ap (λ (xs : List ℕ). Done f (bits xs)) (sym (drop_all n (take n bytes) (omega (arith, len)))))

pub in_shape : (s : FlacStream) → IsStream s → (bytes : List ℕ) (f : Frame) (n : ℕ) → Begins s bytes f n → IsFrame s f
in_shape s i bytes f n h = (IsSound-frame s i).gives (bits bytes) f (bits (drop n bytes)) h.1
