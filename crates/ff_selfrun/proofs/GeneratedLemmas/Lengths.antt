-- How long the sound is, and its whole file.
use Rattle.std.proofs.Common.{◌≡◌, ℕ, zero, suc, ◌*◌, ◌%◌, ◌==◌, ℤ, if◌then◌else◌, List, [], ◌∷◌, ◌++◌, length, refl, sym, ap, ◌∙◌, arith, length-append, append-nil}
use Rattle.ff_format.specs.declared.format.Rf64.{Rf64 as Mode}
use Rattle.ff_format.specs.declared.format.Rf64.TheVariants.{Never}
use Rattle.ff_frame.specs.declared.head.StreamHead.{StreamHead}
use Rattle.ff_wav.specs.Header.{header_of}
use Rattle.ff_wav.specs.Written.{file_of, pad_of}
use Rattle.ff_selfrun.specs.generated.Generated.{sample, sample_bytes, sound, sound_head, generated_wav}

two : (x : ℤ) → length (sample_bytes x) ≡ 2
two x = refl

length_sound : (n : ℕ) → length (sound n) ≡ 4 * n
length_sound zero = refl
length_sound (suc n) =
    let left = sample_bytes (sample n 0) in
    let right = sample_bytes (sample n 1) in
    omega (arith, length_sound n, length-append (sound n) (left ++ right), length-append left right, two (sample n 0), two (sample n 1))

abbrev pad_by : ℕ → List ℕ
pad_by rest = if rest == 1 then 0 ∷ [] else []

not_padded : (m : ℕ) → m % 2 ≡ 0 → pad_of m ≡ []
not_padded m even = ap pad_by even

whole : (n : ℕ) → header_of Never sound_head (4 * n) ++ sound n ≡ file_of Never sound_head (sound n)
whole n =
    let none = not_padded (length (sound n)) (omega (arith, length_sound n)) in
    ap (λ (k : ℕ). header_of Never sound_head k ++ sound n) (sym (length_sound n))
    ∙ ap (λ (pad : List ℕ). header_of Never sound_head (length (sound n)) ++ pad) (sym (ap (λ (pad : List ℕ). sound n ++ pad) none ∙ append-nil (sound n)))

pub generated : (n size : ℕ) (mode : Mode) (head : StreamHead) (start bytes : List ℕ) → mode ≡ Never → head ≡ sound_head → size ≡ 4 * (8000 * n)
    → start ≡ header_of mode head size → bytes ≡ start ++ sound (8000 * n) → bytes ≡ generated_wav n
generated n size mode head start bytes same_mode same_head same_size begun made =
    made ∙ ap (λ (xs : List ℕ). xs ++ sound (8000 * n)) (begun ∙ ap (λ (m : Mode). header_of m head size) same_mode ∙ ap (λ (h : StreamHead). header_of Never h size) same_head ∙ ap (λ (k : ℕ). header_of Never sound_head k) same_size)
    ∙ whole (8000 * n)
