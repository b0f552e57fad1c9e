-- What each first word owes to its format.
use Rattle.std.proofs.Common.{◌≡◌, ℕ, ◌+◌, ◌<◌, Bool, true, false, List, [], ◌∷◌, ◌++◌, length, map, take, Some, None, Ok, Err, refl, sym, ap, ◌∙◌, subst}
use Rattle.std.proofs.Common.{arith, append-nil, lit<}
use Rattle.std.specs.Prelude.{◌≢◌, ◌==◌, ◌&&◌, All, codes}
use Rattle.std.proofs.lemmas.List.{take_all, drop_all}
use Rattle.std.proofs.lemmas.List.Elements.{All-nil, All-cons}
use Rattle.std.proofs.lemmas.Bool.Decides.{nat_tests}
use Rattle.ff_reader.specs.declared.fault.HeadFault.TheVariants.{Damaged, Unsupported}
use Rattle.ff_reader.specs.Heads.{Found, early}
use Rattle.ff_reader.specs.Walks.{Grammar, agrees, walk, walked, within, reading, head_limit, head_by as head_by_grammar, IsGrammar}
use Rattle.ff_reader.proofs.AnswerLaws.{head_none, head_some, early_long}
use Rattle.ff_reader.proofs.WalkLaws.{walk-drop}
use Rattle.ff_reader.proofs.ReadingLaws.{reading_at, within_short}
use Rattle.ff_format.specs.declared.format.FileFormat.{FileFormat}
use Rattle.ff_format.specs.declared.format.FileFormat.TheVariants as format
use Rattle.ff_y4m.specs.declared.head.Y4mHead.{Y4mHead}
use Rattle.ff_au.specs.laws.HeadLaws as au_laws
use Rattle.ff_avi.specs.laws.HeadLaws as avi_laws
use Rattle.ff_avi.specs.Heads as avi
use Rattle.ff_au.specs.Heads as au
use Rattle.ff_pcm.specs.declared.body.head.PcmHead.{PcmHead}
use Rattle.ff_wav.specs.laws.HeadLaws as wav_laws
use Rattle.ff_wav.proofs.FormLaws as wav_forms
use Rattle.ff_y4m.specs.Heads as y4m
use Rattle.ff_y4m.specs.Lines.{line_feed, space}
use Rattle.ff_y4m.proofs.HeadLaws as y4m_laws
use Rattle.ff_flac_dec.specs.Tags as flac_tags
use Rattle.ff_flac_dec.proofs.HeadLemmas.{own_name, own_tag}
use Rattle.ff_flac_dec.proofs.NamedLaws.{tag_rest, tag_rest_bytes}
use Rattle.ff_wav.specs.Heads as wav
use Rattle.ff_flac_dec.specs.Heads as flac
use Rattle.ff_input.specs.declared.one_of.OneOf.TheVariants.{First, Other}
use Rattle.ff_input.specs.Answers.{as_found}
use Rattle.ff_input.specs.FirstWords.{IsFirstWord, are_apart}
use Rattle.ff_input.specs.Formats.{first_words, head_in}

-- ---- of a format that is read unit by unit: an input that ends behind the first bytes is damaged there

walked_end : {H S : Type 0} (g : Grammar H S) (bs : List ℕ) → length bs ≡ length g.magic → walked g bs ≡ None
walked_end g bs e =
    walk-drop g.unit bs (length g.magic) g.start 0
    ∙ ap (λ xs. walk g.unit 0 g.start (0 + length g.magic) xs) (drop_all (length g.magic) bs (omega (arith, e)))

damaged_behind : {H S : Type 0} (g : Grammar H S) → IsGrammar g → (bs : List ℕ) → length bs ≡ length g.magic → agrees g.magic bs ≡ true
    → head_by_grammar g bs ≡ Err (Damaged (length bs))
damaged_behind g law bs e a =
    let few : length bs < head_limit = subst (λ (n : ℕ). n < head_limit) (sym e) law.few in
    let all : take head_limit bs ≡ bs = take_all head_limit bs (omega (arith, few)) in
    let none : reading g head_limit bs ≡ None =
    reading_at g head_limit bs a ∙ (ap (λ o. within head_limit bs o) (ap (λ xs. walked g xs) all ∙ walked_end g bs e) ∙ within_short head_limit bs few) in
    head_none (reading g head_limit) (early (length g.magic)) bs none ∙ early_long (length g.magic) bs (omega (arith, e))

-- damage isn't that of another format
not_other : {H : Type 0} (found : Found H) (p : ℕ) → found ≡ Err (Damaged p) → found ≢ Err (Unsupported 0)
not_other found p e = λ same. let clash = sym e ∙ same in cc

-- a word that is its own alone
alone : (f : FileFormat) (bs : List ℕ) → head_in f bs ≢ Err (Unsupported 0) → head_in f (bs ++ []) ≢ Err (Unsupported 0)
alone f bs own = subst (λ xs. head_in f xs ≢ Err (Unsupported 0)) (sym (append-nil bs)) own

-- ---- of FLAC

found_not : {H K : Type 0} (make : H → K) (found : Found H) → found ≢ Err (Unsupported 0) → as_found make found ≢ Err (Unsupported 0)
found_not make (Ok head) n e = cc
found_not make (Err (Damaged p)) n e = cc
found_not make (Err (Unsupported p)) n e = let same : p ≡ 0 = cc in n (ap (λ q. Err (Unsupported q)) same)

flac_own : (bs these : List ℕ) → bs ≡ these → flac.head these ≢ Err (Unsupported 0) → head_in format.Flac bs ≢ Err (Unsupported 0)
flac_own bs these e own =
    let here : flac.head bs ≢ Err (Unsupported 0) = subst (λ xs. flac.head xs ≢ Err (Unsupported 0)) (sym e) own in
    let one = found_not First (flac.head bs) here in
    let two = found_not Other (as_found First (flac.head bs)) one in
    found_not First (as_found Other (as_found Other (as_found First (flac.head bs)))) (found_not Other (as_found Other (as_found First (flac.head bs))) two)

-- ---- of YUV4MPEG2: a line that is empty, and one that has begun

-- bytes that agree with some are these
are_these : (ws bs : List ℕ) → length bs ≡ length (map Some ws) → agrees (map Some ws) bs ≡ true → bs ≡ ws
are_these [] [] e a = refl
are_these [] (b ∷ bs) e a = absurd (omega (arith, e))
are_these (w ∷ ws) [] e a = absurd (omega (arith, e))
are_these (w ∷ ws) (b ∷ bs) e a =
    let parts = and_parts (b == w) (agrees (map Some ws) bs) a in
    let same : b ≡ w = grind (arith, nat_tests) in
    ap (λ x. x ∷ bs) same ∙ ap (λ xs. w ∷ xs) (are_these ws bs (omega (arith, e)) parts.1)
  where
    and_parts : (x y : Bool) → (x && y) ≡ true → (x ≡ true) × (y ≡ true)
    and_parts true y e = (refl, e)
    and_parts false y e = cc

begun_line : y4m.head (y4m.magic ++ space ∷ []) ≡ Err (Damaged 10)
begun_line =
    let bs = y4m.magic ++ space ∷ [] in
    head_none y4m.reading y4m.early bs (y4m_laws.reading_at bs None refl refl) ∙ early_long 10 bs (omega arith)

empty_found : y4m.found_at (y4m.magic ++ line_feed ∷ []) 9 ≡ Err (Damaged 9)
unfolding y4m.line_head
empty_found = refl

empty_line : y4m.head (y4m.magic ++ line_feed ∷ []) ≡ Err (Damaged 9)
empty_line =
    let bs = y4m.magic ++ line_feed ∷ [] in
    head_some y4m.reading y4m.early bs (Err (Damaged 9)) (y4m_laws.reading_at bs (Some 9) refl refl ∙ ap Some empty_found)

line_head : (ws bs : List ℕ) (p : ℕ) → y4m.head ws ≡ Err (Damaged p) → length bs ≡ length (map Some ws) → agrees (map Some ws) bs ≡ true
    → head_in format.Y4m bs ≡ Err (Damaged p)
line_head ws bs p e l a = ap (λ xs. head_in format.Y4m xs) (are_these ws bs l a) ∙ ap (λ (found : Found Y4mHead). as_found First (as_found Other (as_found First found))) e

-- ---- each word

riff_word : IsFirstWord head_in (record { word = wav.riff_magic; format = format.Wav })
riff_word = record {
  bytes = wav_laws.riff_lawful.bytes;
  few = wav_laws.riff_lawful.few;
  more = [];
  more_bytes = All-nil (λ b. b < 256);
  own = λ bs l a. alone format.Wav bs (not_other (head_in format.Wav bs) (length bs)
      (ap (λ (found : Found PcmHead). as_found First (as_found First found)) (wav_forms.head_riff bs (wav_forms.riff_told bs (omega (arith, l)) a) ∙ damaged_behind wav.riff_grammar wav_laws.riff_lawful bs l a)));
}

rf64_word : IsFirstWord head_in (record { word = wav.rf64_magic; format = format.Wav })
rf64_word = record {
  bytes = wav_laws.rf64_lawful.bytes;
  few = wav_laws.rf64_lawful.few;
  more = [];
  more_bytes = All-nil (λ b. b < 256);
  own = λ bs l a. alone format.Wav bs (not_other (head_in format.Wav bs) (length bs)
      (ap (λ (found : Found PcmHead). as_found First (as_found First found)) (wav_forms.head_rf64 bs (wav_forms.magic_told bs a) ∙ damaged_behind wav.rf64_grammar wav_laws.rf64_lawful bs l a)));
}

line_word : IsFirstWord head_in (record { word = map Some (y4m.magic ++ space ∷ []); format = format.Y4m })
line_word = record {
  bytes = (lit< tt, (lit< tt, (lit< tt, (lit< tt, (lit< tt, (lit< tt, (lit< tt, (lit< tt, (lit< tt, (lit< tt, tt))))))))));
  few = lit< tt;
  more = [];
  more_bytes = All-nil (λ b. b < 256);
  own = λ bs l a. alone format.Y4m bs (not_other (head_in format.Y4m bs) 10 (line_head (y4m.magic ++ space ∷ []) bs 10 begun_line l a));
}

empty_line_word : IsFirstWord head_in (record { word = map Some (y4m.magic ++ line_feed ∷ []); format = format.Y4m })
empty_line_word = record {
  bytes = (lit< tt, (lit< tt, (lit< tt, (lit< tt, (lit< tt, (lit< tt, (lit< tt, (lit< tt, (lit< tt, (lit< tt, tt))))))))));
  few = lit< tt;
  more = [];
  more_bytes = All-nil (λ b. b < 256);
  own = λ bs l a. alone format.Y4m bs (not_other (head_in format.Y4m bs) 9 (line_head (y4m.magic ++ line_feed ∷ []) bs 9 empty_line l a));
}

flac_word : IsFirstWord head_in (record { word = flac_tags.magic; format = format.Flac })
flac_word = record {
  bytes = (lit< tt, (lit< tt, (lit< tt, (lit< tt, tt))));
  few = lit< tt;
  more = [];
  more_bytes = All-nil (λ b. b < 256);
  own = λ bs l a. alone format.Flac bs (flac_own bs (codes "fLaC") (are_these (codes "fLaC") bs l a) own_name);
}

tag_word : IsFirstWord head_in (record { word = flac_tags.tag_magic; format = format.Flac })
tag_word = record {
  bytes = (lit< tt, (lit< tt, (lit< tt, tt)));
  few = lit< tt;
  more = tag_rest;
  more_bytes = tag_rest_bytes;
  own = λ bs l a. flac_own (bs ++ tag_rest) (codes "ID3" ++ tag_rest) (ap (λ xs. xs ++ tag_rest) (are_these (codes "ID3") bs l a)) own_tag;
}

au_word : IsFirstWord head_in (record { word = au.magic; format = format.Au })
au_word = record {
  bytes = au_laws.is_lawful.bytes;
  few = au_laws.is_lawful.few;
  more = [];
  more_bytes = All-nil (λ b. b < 256);
  own = λ bs l a. alone format.Au bs (not_other (head_in format.Au bs) (length bs)
      (ap (λ (found : Found PcmHead). as_found First (as_found Other (as_found Other (as_found Other found)))) (damaged_behind au.grammar au_laws.is_lawful bs l a)));
}

avi_word : IsFirstWord head_in (record { word = avi.magic; format = format.Avi })
avi_word = record {
  bytes = avi_laws.is_lawful.bytes;
  few = avi_laws.is_lawful.few;
  more = [];
  more_bytes = All-nil (λ b. b < 256);
  own = λ bs l a. alone format.Avi bs (not_other (head_in format.Avi bs) (length bs) (ap (as_found Other) (damaged_behind avi.grammar avi_laws.is_lawful bs l a)));
}

pub all_words : All (IsFirstWord head_in) first_words
all_words =
    let Owes = IsFirstWord head_in in
    let avi_words = record { word = avi.magic; format = format.Avi } ∷ [] in
    let au_words = record { word = au.magic; format = format.Au } ∷ avi_words in
    let tag_words = record { word = flac_tags.tag_magic; format = format.Flac } ∷ au_words in
    let flac_words = record { word = flac_tags.magic; format = format.Flac } ∷ tag_words in
    let empty_lines = record { word = map Some (y4m.magic ++ line_feed ∷ []); format = format.Y4m } ∷ flac_words in
    let lines = record { word = map Some (y4m.magic ++ space ∷ []); format = format.Y4m } ∷ empty_lines in
    let rf64 = record { word = wav.rf64_magic; format = format.Wav } ∷ lines in
    All-cons Owes (record { word = wav.riff_magic; format = format.Wav }) rf64 riff_word
    (All-cons Owes (record { word = wav.rf64_magic; format = format.Wav }) lines rf64_word
    (All-cons Owes (record { word = map Some (y4m.magic ++ space ∷ []); format = format.Y4m }) empty_lines line_word
    (All-cons Owes (record { word = map Some (y4m.magic ++ line_feed ∷ []); format = format.Y4m }) flac_words empty_line_word
    (All-cons Owes (record { word = flac_tags.magic; format = format.Flac }) tag_words flac_word
    (All-cons Owes (record { word = flac_tags.tag_magic; format = format.Flac }) au_words tag_word
    (All-cons Owes (record { word = au.magic; format = format.Au }) avi_words au_word
    (All-cons Owes (record { word = avi.magic; format = format.Avi }) [] avi_word (All-nil Owes))))))))

-- and each two words differ
pub words_apart : are_apart first_words ≡ true
words_apart = refl
