-- The header that is written is read again.
use Rattle.std.proofs.Common.{◌≡◌, ℕ, ◌+◌, ◌^◌, ◌<◌, ◌≤◌, inl, Bool, true, false, cond, List, [], ◌∷◌, ◌++◌, take, drop, length, Some, Ok, Err, refl, sym, ap, ◌∙◌, subst, arith, length-append, append_assoc, decimal}
use Rattle.std.specs.Prelude.{nat_lt, nat_le, ◌==◌, ◌&&◌, ◌||◌, Result, codes}
use Rattle.std.specs.Int.{IsGcd, ◌∣◌}
use Rattle.std.proofs.lemmas.Bool.Decides.{nat_tests}
use Rattle.std.proofs.Math.Nat.{one-dvd}
use Rattle.ff_time.specs.Fraction.{Fraction, IsBase, IsReduced}
use Rattle.ff_frame.specs.Video.{IsSide}
use Rattle.ff_frame.specs.declared.video.Format.{Format}
use Rattle.ff_frame.specs.declared.video.Format.TheVariants.{C420, C422, C444, Mono}
use Rattle.ff_frame.specs.declared.head.StreamHead.{StreamHead}
use Rattle.ff_frame.specs.declared.head.StreamHead.TheVariants.{Audio, Video}
use Rattle.ff_reader.specs.declared.fault.HeadFault.{HeadFault}
use Rattle.ff_reader.specs.declared.fault.HeadFault.TheVariants.{Damaged, Unsupported}
use Rattle.ff_y4m.specs.declared.parameters.Parameters.{Parameters}
use Rattle.ff_y4m.specs.Lines.{line_end, longest_line}
use Rattle.ff_y4m.specs.Numbers.{base_of}
use Rattle.ff_y4m.specs.Parameters.{no_parameters, side_in, base_or, base_in, aspect_in, is_progressive, format_of, with_width, with_height, with_base, with_aspect, lettered}
use Rattle.ff_y4m.specs.Heads.{magic, parameters, finished, line_head, found_at, reading, early, head as head_read}
use Rattle.ff_y4m.specs.Header.{format_name, sides, ratio, header, frames, planes_of}
use Rattle.ff_y4m.specs.Packets.{packets_from, broken_from}
use Rattle.ff_y4m.specs.laws.Written.{IsPictures, aspect_again, head_again, planes_size, says, HeadersAreRead, FilesAreRead, FramesAreRead}
use Rattle.ff_reader.proofs.AnswerLaws.{head_some}
use Rattle.ff_y4m.proofs.NumberLaws.{base_ok}
use Rattle.ff_y4m.proofs.HeadLaws.{reading_at}
use Rattle.ff_y4m.proofs.FrameLaws.{read_frames}
use Rattle.ff_y4m.proofs.TextLaws.{take_front, drop_front, Lacks, lacks-append, end_lacks, decimal_lacks, decimal_few, whole_decimal, joined, pair_joined, joined_lacks, tail_end, tail_space, word_step}

-- ---- what each word says

side_good : (at n : ℕ) → IsSide n → side_in at (Some n) ≡ Ok n
side_good at n s = let t : (nat_le 1 n && nat_le n 16384) ≡ true = grind (arith, nat_tests) in ap (λ c. cond c (Ok n) (Err (Unsupported at))) t

side_small : (n : ℕ) → IsSide n → n < 2 ^ 32
side_small n s = omega (arith, s.1)

width_said : (at n : ℕ) (p : Parameters) → IsSide n → lettered at 87 (decimal n) p ≡ Ok (record p { width = Some n })
unfolding lettered
width_said at n p s = ap (λ o. with_width p (side_in at o)) (whole_decimal n (side_small n s)) ∙ ap (with_width p) (side_good at n s)

height_said : (at n : ℕ) (p : Parameters) → IsSide n → lettered at 72 (decimal n) p ≡ Ok (record p { height = Some n })
unfolding lettered
height_said at n p s = ap (λ o. with_height p (side_in at o)) (whole_decimal n (side_small n s)) ∙ ap (with_height p) (side_good at n s)

-- a time base is in lowest terms already
base_back : (tb : Fraction) → IsBase tb → Some tb ≡ base_of tb.num tb.den
base_back tb b =
    let greatest : IsGcd tb.num tb.den 1 = (one-dvd tb.num, one-dvd tb.den, λ k p q. subst (λ (n : ℕ). n ∣ 1) (sym (b.lowest k p q)) (one-dvd 1)) in
    let reduced : IsReduced tb.num tb.den tb = record { common = 1; greatest = greatest; num = omega arith; den = omega arith } in
    base_ok tb.num tb.den tb (record { n = tb.num; d = tb.den; num_is = refl; den_is = refl; num_positive = b.num_positive; den_positive = b.den_positive; reduced = reduced }) b

half_small : (n : ℕ) → n < 2 ^ 31 → n < 2 ^ 32
half_small n lt = omega (arith, lt)

base_said : (at : ℕ) (tb : Fraction) (p : Parameters) → IsBase tb → lettered at 70 (joined tb.den tb.num) p ≡ Ok (record p { base = Some tb })
unfolding lettered
base_said at tb p b =
    ap (λ o. with_base p (base_in at o)) (pair_joined tb.den tb.num (half_small tb.den b.den_small) (half_small tb.num b.num_small))
    ∙ ap (λ o. with_base p (base_or at o)) (sym (base_back tb b))

no_fields_said : (at : ℕ) (p : Parameters) → lettered at 73 (112 ∷ []) p ≡ Ok p
unfolding lettered is_progressive
no_fields_said at p = refl

abbrev Aspect : Type 0
Aspect = Result (ℕ × ℕ) HeadFault

abbrev good : ℕ × ℕ → Aspect
good x = Ok x

ok_inside : (c : Bool) (x y : ℕ × ℕ) → cond c (good x) (good y) ≡ good (cond c x y)
ok_inside true x y = refl
ok_inside false x y = refl

aspect_good : (at m n : ℕ) → m < 2 ^ 32 → n < 2 ^ 32 → aspect_in at (Some (m, n)) ≡ Ok (aspect_again m n)
aspect_good at m n p q =
    let t : (nat_lt m (2 ^ 32) && nat_lt n (2 ^ 32)) ≡ true = grind (arith, nat_tests) in
    ap (λ c. cond c (cond (m == 0 || n == 0) (Ok (0, 0)) (Ok (m, n))) (Err (Unsupported at))) t ∙ ok_inside (m == 0 || n == 0) (0, 0) (m, n)

aspect_said : (at m n : ℕ) (p : Parameters) → m < 2 ^ 32 → n < 2 ^ 32 → lettered at 65 (joined m n) p ≡ Ok (record p { sar_num = (aspect_again m n).0; sar_den = (aspect_again m n).1 })
unfolding lettered
aspect_said at m n p lm ln = ap (λ o. with_aspect p (aspect_in at o)) (pair_joined m n lm ln) ∙ ap (with_aspect p) (aspect_good at m n lm ln)

format_said : (at : ℕ) (f : Format) (p : Parameters) → lettered at 67 (format_name f) p ≡ Ok (record p { format = f })
unfolding lettered format_of
format_said at C420 p = refl
format_said at C422 p = refl
format_said at C444 p = refl
format_said at Mono p = refl

-- ---- the text of the first line

-- pieces one behind the other, and then more
abbrev pub flat : List (List ℕ) → List ℕ → List ℕ
flat [] r = r
flat (p ∷ ps) r = p ++ flat ps r

-- pieces added one by one
abbrev pub added : List ℕ → List (List ℕ) → List ℕ
added a [] = a
added a (p ∷ ps) = added (a ++ p) ps

added_flat : (a : List ℕ) (ps : List (List ℕ)) (r : List ℕ) → added a ps ++ r ≡ a ++ flat ps r
added_flat a [] r = refl
added_flat a (p ∷ ps) r = added_flat (a ++ p) ps r ∙ append_assoc a p (flat ps r)

flat-append : (ps : List (List ℕ)) (ys : List ℕ) → flat ps [] ++ ys ≡ flat ps ys
flat-append [] ys = refl
flat-append (p ∷ ps) ys = append_assoc p (flat ps []) ys ∙ ap (λ zs. p ++ zs) (flat-append ps ys)

ratio_text : (letter : List ℕ) (m n : ℕ) (r : List ℕ) → ratio letter m n ++ r ≡ letter ++ (joined m n ++ r)
unfolding ratio
ratio_text letter m n r = added_flat letter (decimal m ∷ codes ":" ∷ decimal n ∷ []) r ∙ ap (λ xs. letter ++ xs) (sym (append_assoc (decimal m) (58 ∷ decimal n) r))

sides_text : (width height : ℕ) (r : List ℕ) → sides width height ++ r ≡ codes "YUV4MPEG2 W" ++ (decimal width ++ (codes " H" ++ (decimal height ++ r)))
unfolding sides
sides_text width height r = added_flat (codes "YUV4MPEG2 W") (decimal width ∷ codes " H" ∷ decimal height ∷ []) r

module _ (tb : Fraction) (format : Format) (width height sar_num sar_den : ℕ) where
  abbrev stream : StreamHead
  stream = Video tb format width height sar_num sar_den

  -- the words of the line
  abbrev words : List (List ℕ)
  words = magic ∷ (32 ∷ 87 ∷ decimal width) ∷ (32 ∷ 72 ∷ decimal height) ∷ (32 ∷ 70 ∷ joined tb.den tb.num) ∷ (32 ∷ 73 ∷ 112 ∷ []) ∷ (32 ∷ 65 ∷ joined sar_num sar_den) ∷ (32 ∷ 67 ∷ format_name format) ∷ []

  abbrev line : List ℕ
  line = flat words []

  -- and what stands behind each
  abbrev from_format : List ℕ
  from_format = (32 ∷ 67 ∷ format_name format) ++ []

  abbrev from_aspect : List ℕ
  from_aspect = (32 ∷ 65 ∷ joined sar_num sar_den) ++ from_format

  abbrev from_fields : List ℕ
  from_fields = (32 ∷ 73 ∷ 112 ∷ []) ++ from_aspect

  abbrev from_rate : List ℕ
  from_rate = (32 ∷ 70 ∷ joined tb.den tb.num) ++ from_fields

  abbrev from_height : List ℕ
  from_height = (32 ∷ 72 ∷ decimal height) ++ from_rate

  abbrev from_width : List ℕ
  from_width = (32 ∷ 87 ∷ decimal width) ++ from_height

  header_flat : (r : List ℕ) → header stream ++ r ≡ flat words (10 ∷ r)
  header_flat r =
      let colours : List ℕ = codes " C" ++ (format_name format ++ (10 ∷ r)) in
      let aspect : List ℕ = codes " Ip A" ++ (joined sar_num sar_den ++ colours) in
      let rate : List ℕ = codes " F" ++ (joined tb.den tb.num ++ aspect) in
      added_flat (sides width height) (ratio (codes " F") tb.den tb.num ∷ ratio (codes " Ip A") sar_num sar_den ∷ codes " C" ∷ format_name format ∷ codes "\n" ∷ []) r
      ∙ (ap (λ xs. sides width height ++ (ratio (codes " F") tb.den tb.num ++ xs)) (ratio_text (codes " Ip A") sar_num sar_den colours)
      ∙ (ap (λ xs. sides width height ++ xs) (ratio_text (codes " F") tb.den tb.num aspect) ∙ sides_text width height rate))

  pub header_text : (r : List ℕ) → header stream ++ r ≡ line ++ 10 ∷ r
  header_text r = header_flat r ∙ sym (flat-append words (10 ∷ r))

  header_line : header stream ≡ line ++ 10 ∷ []
  header_line = sym (append_nil (header stream)) ∙ header_text []
    where
      append_nil : (xs : List ℕ) → xs ++ [] ≡ xs
      append_nil [] = refl
      append_nil (x ∷ xs) = ap (λ ys. x ∷ ys) (append_nil xs)

  header_length : length line + 1 ≡ length (header stream)
  header_length = omega (arith, length-append line (10 ∷ []), ap length header_line)

  module _ (h : IsPictures stream) where
    den_small : tb.den < 2 ^ 32
    den_small = half_small tb.den h.2.den_small

    num_small : tb.num < 2 ^ 32
    num_small = half_small tb.num h.2.num_small

    -- ---- no line feed, and few bytes

    plain : Lacks 10 line
    plain = lacks-append 10 magic from_width magic_plain
        (lacks-append 10 (32 ∷ 87 ∷ decimal width) from_height (refl, (refl, digits width (side_small width h.0)))
        (lacks-append 10 (32 ∷ 72 ∷ decimal height) from_rate (refl, (refl, digits height (side_small height h.1)))
        (lacks-append 10 (32 ∷ 70 ∷ joined tb.den tb.num) from_fields (refl, (refl, joined_lacks 10 tb.den tb.num den_small num_small (inl (omega arith))))
        (lacks-append 10 (32 ∷ 73 ∷ 112 ∷ []) from_aspect (refl, (refl, (refl, tt)))
        (lacks-append 10 (32 ∷ 65 ∷ joined sar_num sar_den) from_format (refl, (refl, joined_lacks 10 sar_num sar_den h.3 h.4 (inl (omega arith))))
        (lacks-append 10 (32 ∷ 67 ∷ format_name format) [] (refl, (refl, name_plain format)) tt))))))
      where
        digits : (n : ℕ) → n < 2 ^ 32 → Lacks 10 (decimal n)
        digits n lt = decimal_lacks 10 n lt (inl (omega arith))

        magic_plain : Lacks 10 magic
        magic_plain = (refl, (refl, (refl, (refl, (refl, (refl, (refl, (refl, (refl, tt)))))))))

        name_plain : (f : Format) → Lacks 10 (format_name f)
        name_plain C420 = (refl, (refl, (refl, (refl, (refl, (refl, (refl, tt)))))))
        name_plain C422 = (refl, (refl, (refl, tt)))
        name_plain C444 = (refl, (refl, (refl, tt)))
        name_plain Mono = (refl, (refl, (refl, (refl, tt))))

    few : length line < 1024
    few =
        let w = decimal_few width (side_small width h.0) in
        let r = decimal_few height (side_small height h.1) in
        let d = joined_few tb.den tb.num den_small num_small in
        let a = joined_few sar_num sar_den h.3 h.4 in
        let e = longer (32 ∷ 67 ∷ format_name format) [] 9 0 (name_few format) (omega arith) in
        let f = longer (32 ∷ 65 ∷ joined sar_num sar_den) from_format 23 9 (omega (arith, a)) e in
        let g = longer (32 ∷ 73 ∷ 112 ∷ []) from_aspect 3 32 (omega arith) f in
        let i = longer (32 ∷ 70 ∷ joined tb.den tb.num) from_fields 23 35 (omega (arith, d)) g in
        let j = longer (32 ∷ 72 ∷ decimal height) from_rate 12 58 (omega (arith, r)) i in
        let k = longer (32 ∷ 87 ∷ decimal width) from_height 12 70 (omega (arith, w)) j in
        let l = longer magic from_width 9 82 (omega arith) k in
        omega (arith, l)
      where
        longer : (p q : List ℕ) (a b : ℕ) → length p ≤ a → length q ≤ b → length (p ++ q) ≤ a + b
        longer p q a b x y = omega (arith, length-append p q, x, y)

        joined_few : (m n : ℕ) → m < 2 ^ 32 → n < 2 ^ 32 → length (joined m n) ≤ 21
        joined_few m n p q =
            let x = decimal_few m p in
            let y = decimal_few n q in
            omega (arith, length-append (decimal m) (58 ∷ decimal n), x, y)

        name_few : (f : Format) → length (32 ∷ 67 ∷ format_name f) ≤ 9
        name_few C420 = omega arith
        name_few C422 = omega arith
        name_few C444 = omega arith
        name_few Mono = omega arith

    -- ---- what the words say

    abbrev again : ℕ × ℕ
    again = aspect_again sar_num sar_den

    abbrev said : Parameters
    said = record { width = Some width; height = Some height; base = Some tb; sar_num = again.0; sar_den = again.1; format = format }

    line_said : parameters 0 9 no_parameters (drop 9 line) ≡ Ok said
    line_said =
        let p1 : Parameters = record no_parameters { width = Some width } in
        let p2 : Parameters = record p1 { height = Some height } in
        let p3 : Parameters = record p2 { base = Some tb } in
        let p4 : Parameters = record p3 { sar_num = again.0; sar_den = again.1 } in
        let l1 = 9 + 2 + length (decimal width) in
        let l2 = l1 + 2 + length (decimal height) in
        let l3 = l2 + 2 + length (joined tb.den tb.num) in
        let l4 = l3 + 2 + 1 in
        let l5 = l4 + 2 + length (joined sar_num sar_den) in
        word_step 9 87 no_parameters p1 (decimal width) from_height refl (digits width (side_small width h.0)) (tail_space _) (width_said 10 width no_parameters h.0)
        ∙ (word_step l1 72 p1 p2 (decimal height) from_rate refl (digits height (side_small height h.1)) (tail_space _) (height_said (l1 + 1) height p1 h.1)
        ∙ (word_step l2 70 p2 p3 (joined tb.den tb.num) from_fields refl (joined_lacks 32 tb.den tb.num den_small num_small (inl (omega arith))) (tail_space _) (base_said (l2 + 1) tb p2 h.2)
        ∙ (word_step l3 73 p3 p3 (112 ∷ []) from_aspect refl (refl, tt) (tail_space _) (no_fields_said (l3 + 1) p3)
        ∙ (word_step l4 65 p3 p4 (joined sar_num sar_den) from_format refl (joined_lacks 32 sar_num sar_den h.3 h.4 (inl (omega arith))) (tail_space _) (aspect_said (l4 + 1) sar_num sar_den p3 h.3 h.4)
        ∙ word_step l5 67 p4 said (format_name format) [] refl (name_plain format) tail_end (format_said (l5 + 1) format p4)))))
      where
        digits : (n : ℕ) → n < 2 ^ 32 → Lacks 32 (decimal n)
        digits n lt = decimal_lacks 32 n lt (inl (omega arith))

        name_plain : (f : Format) → Lacks 32 (format_name f)
        name_plain C420 = (refl, (refl, (refl, (refl, (refl, (refl, (refl, tt)))))))
        name_plain C422 = (refl, (refl, (refl, tt)))
        name_plain C444 = (refl, (refl, (refl, tt)))
        name_plain Mono = (refl, (refl, (refl, (refl, tt))))

    line_is : line_head line ≡ Ok (says stream)
    unfolding line_head
    line_is = ap (finished (length line)) line_said ∙ ap (λ n. Ok (record { head = head_again stream; start = n; frame_bytes = planes_size stream })) header_length

    pub header_read : (rest : List ℕ) → head_read (header stream ++ rest) ≡ Ok (says stream)
    header_read rest =
        let all : List ℕ = line ++ 10 ∷ rest in
        let ends : line_end longest_line all ≡ Some (length line) = end_lacks longest_line line rest plain few in
        let short : nat_lt (length line) longest_line ≡ true = grind (arith, nat_tests, few) in
        let found : found_at all (length line) ≡ Ok (says stream) =
        ap (λ c. cond c (line_head (take (length line) all)) (Err (Damaged longest_line))) short ∙ (ap line_head (take_front line (10 ∷ rest)) ∙ line_is) in
        ap head_read (header_text rest) ∙ head_some reading early all (Ok (says stream)) (reading_at all (Some (length line)) refl ends ∙ ap Some found)

pub headers : HeadersAreRead
headers (Audio tb rate bits channels codec) rest h = absurd h
headers (Video tb format width height sar_num sar_den) rest h = header_read tb format width height sar_num sar_den h rest

pub files : FilesAreRead
files head packets h = headers head (frames packets) h

pub frames_read : FramesAreRead
frames_read head packets sizes =
    let rest = drop_front (header head) (frames packets) in
    let read = read_frames packets (planes_size head) (length (header head)) 0 sizes in (
      ap (λ xs. planes_of (packets_from (planes_size head) 0 (length (header head)) 0 xs)) rest ∙ read.0,
      ap (broken_from (planes_size head) 0 (length (header head))) rest ∙ read.1,
    )
