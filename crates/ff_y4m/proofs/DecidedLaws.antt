-- What may still come of some bytes.
use Rattle.std.proofs.Common.{◌≡◌, ℕ, zero, suc, ◌+◌, ◌<◌, ◌≤◌, ◌⊎◌, inl, inr, Bool, true, false, cond, List, [], ◌∷◌, ◌++◌, drop, length, Option, Some, None, refl, sym, ap, ◌∙◌, subst, arith, length-append, append_assoc, append-nil}
use Rattle.std.specs.Prelude.{◌==◌}
use Rattle.std.specs.Option.{option_map}
use Rattle.ff_y4m.specs.declared.frame.Front.{Front}
use Rattle.ff_y4m.specs.declared.frame.Front.TheVariants.{Wait, Other, Frame}
use Rattle.ff_y4m.specs.Lines.{begins, line_end, longest_line}
use Rattle.ff_y4m.specs.Packets.{frame_word, line_unit, unit}
use Rattle.ff_y4m.specs.Header.{frame_line}
use Rattle.ff_y4m.specs.laws.Units.{IsFrame, IsDecided}
use Rattle.ff_y4m.proofs.LineLaws.{bool_cases, test_equal, and_parts, begins_long, line_end-append, line_end_none}
use Rattle.ff_y4m.proofs.UnitLaws.{unit_at, unit_else, frame_at, frame_made, five, wait_line, other-append}
use Rattle.ff_y4m.proofs.FrameLaws.{line_frame}

front_cases : (f : Front) → (f ≡ Wait) ⊎ ((f ≡ Other) ⊎ ((line : ℕ) × (f ≡ Frame line)))
front_cases Wait = inl refl
front_cases Other = inr (inl refl)
front_cases (Frame line) = inr (inr (line, refl))

pub frame_of : (size line : ℕ) (bs : List ℕ) → unit size bs ≡ Frame line → IsFrame size line bs
frame_of size line bs e = let f = frame_at size line bs e in record { word = f.0; ends = f.1; short = f.2; planes = f.3 }

pub frame_found : (size line : ℕ) (bs : List ℕ) → IsFrame size line bs → unit size bs ≡ Frame line
frame_found size line bs f = unit_at size bs f.word ∙ (ap (λ o. line_unit size (length bs) o) f.ends ∙ frame_made size (length bs) line f.short f.planes)

-- ---- further bytes that make a frame

abbrev zeros : ℕ → List ℕ
zeros zero = []
zeros (suc n) = 0 ∷ zeros n

length-zeros : (n : ℕ) → length (zeros n) ≡ n
length-zeros zero = refl
length-zeros (suc n) = ap suc (length-zeros n)

begins_front : (ws bs : List ℕ) → begins ws bs ≡ true → length bs ≤ length ws → bs ++ drop (length bs) ws ≡ ws
begins_front [] [] e le = refl
begins_front [] (b ∷ bs) e le = absurd (omega arith)
begins_front (w ∷ ws) [] e le = refl
begins_front (w ∷ ws) (b ∷ bs) e le =
    let parts = and_parts (b == w) (begins ws bs) e in
    ap (λ xs. b ∷ xs) (begins_front ws bs parts.1 (omega arith)) ∙ ap (λ x. x ∷ ws) (test_equal b w parts.0)

line_stop : (room : ℕ) (bs ys : List ℕ) → line_end room bs ≡ None → line_end room (bs ++ (10 ∷ ys)) ≡ Some (length bs)
line_stop zero bs ys e = cc
line_stop (suc room) [] ys e = refl
line_stop (suc room) (b ∷ bs) ys e = pick (b == 10) (line_end room bs) (line_end room (bs ++ (10 ∷ ys))) (line_stop room bs ys) e
  where
    pick : (t : Bool) (o p : Option ℕ) → (o ≡ None → p ≡ Some (length bs)) → cond t (Some 0) (option_map suc o) ≡ None → cond t (Some 0) (option_map suc p) ≡ Some (suc (length bs))
    pick true o p h e = cc
    pick false None p h e = ap (option_map suc) (h refl)
    pick false (Some m) p h e = cc

abbrev pub More : ℕ → List ℕ → Type 0
More size bs = (more : List ℕ) × (line : ℕ) × IsFrame size line (bs ++ more)

-- the line has ended, and planes are lacking
more_planes : (size n : ℕ) (bs : List ℕ) → begins frame_word bs ≡ true → line_end longest_line bs ≡ Some n → n < 1024 → More size bs
more_planes size n bs a l lt =
    let rest = zeros (n + 1 + size) in (
      rest,
      n,
      record {
        word = begins_long frame_word bs rest (five bs n a l) ∙ a;
        ends = line_end-append longest_line n bs rest l;
        short = lt;
        planes = omega (arith, length-append bs rest, length-zeros (n + 1 + size));
      },
    )

-- the line goes on, and the word is there
more_line : (size : ℕ) (bs : List ℕ) → begins frame_word bs ≡ true → line_end longest_line bs ≡ None → length frame_word < length bs → More size bs
more_line size bs a l lt =
    let rest : List ℕ = 10 ∷ zeros size in
    let few = line_end_none longest_line bs l in (
      rest,
      length bs,
      record {
        word = begins_long frame_word bs rest lt ∙ a;
        ends = line_stop longest_line bs (zeros size) l;
        short = few;
        planes = omega (arith, length-append bs rest, length-zeros size);
      },
    )

-- some of the word is there
more_word : (size : ℕ) (bs : List ℕ) → begins frame_word bs ≡ true → length bs ≤ length frame_word → More size bs
more_word size bs a le =
    let rest : List ℕ = drop (length bs) frame_word ++ (10 ∷ zeros size) in
    let same : bs ++ rest ≡ frame_line ++ zeros size = sym (append_assoc bs (drop (length bs) frame_word) (10 ∷ zeros size)) ∙ ap (λ xs. xs ++ (10 ∷ zeros size)) (begins_front frame_word bs a le) in
    (rest, 5, frame_of size 5 (bs ++ rest) (ap (λ xs. unit size xs) same ∙ line_frame size (zeros size) (omega (arith, length-zeros size))))

pub wait_more : (size : ℕ) (bs : List ℕ) → unit size bs ≡ Wait → More size bs
wait_more size bs e = elim (bool_cases (begins frame_word bs)) [
  | inl a ↦ elim (wait_line size (length bs) (line_end longest_line bs) (sym (unit_at size bs a) ∙ e)) [
    | inl l ↦ elim (le_or_more (length bs) (length frame_word)) [ inl le ↦ more_word size bs a le | inr lt ↦ more_line size bs a l lt ]
    | inr some ↦ more_planes size some.0 bs a some.1 some.2
  ]
  | inr a ↦ let clash = sym (unit_else size bs a) ∙ e in cc
]
  where
    le_or_more : (m n : ℕ) → (m ≤ n) ⊎ (n < m)
    le_or_more zero n = inl (omega arith)
    le_or_more (suc m) zero = inr (omega arith)
    le_or_more (suc m) (suc n) = elim (le_or_more m n) [ inl le ↦ inl (omega (arith, le)) | inr lt ↦ inr (omega (arith, lt)) ]

pub decided : (size : ℕ) (bs : List ℕ) → IsDecided size bs
decided size bs = record {
  whole = λ line. (frame_of size line bs, frame_found size line bs);
  never = (
    λ e more line f. let clash = sym (other-append size bs more e) ∙ frame_found size line (bs ++ more) f in cc,
    λ none. elim (front_cases (unit size bs)) [
      | inl w ↦ let m = wait_more size bs w in absurd (none m.0 m.1 m.2)
      | inr (inl o) ↦ o
      | inr (inr f) ↦ absurd (none [] f.0 (subst (λ xs. IsFrame size f.0 xs) (sym (append-nil bs)) (frame_of size f.0 bs f.1)))
    ],
  );
  waits = (
    λ e. (λ line f. let clash = sym e ∙ frame_found size line bs f in cc, wait_more size bs e),
    λ h. elim (front_cases (unit size bs)) [
      | inl w ↦ w
      | inr (inl o) ↦ let clash = sym (other-append size bs h.1.0 o) ∙ frame_found size h.1.1 (bs ++ h.1.0) h.1.2 in cc
      | inr (inr f) ↦ absurd (h.0 f.0 (frame_of size f.0 bs f.1))
    ],
  );
}
