-- How far a walk has read.
use Rattle.std.proofs.Common.{◌≡◌, ℕ, ◌<◌, ◌≤◌, Bool, true, false, List, [], ◌++◌, length, Option, Some, None, Result, Err, refl, sym, ap, ◌∙◌, subst, arith, append_assoc, append-nil}
use Rattle.std.specs.Prelude.{if◌then◌else◌}
use Rattle.std.proofs.lemmas.List.Elements.{All-nil}
use Rattle.ff_frame.specs.declared.cut.HeadEnd.{HeadEnd}
use Rattle.ff_frame.specs.declared.cut.HeadEnd.TheVariants as end
use Rattle.ff_reader.specs.declared.fault.HeadFault.TheVariants.{Unsupported}
use Rattle.ff_reader.specs.Heads.{IsOpen, answered}
use Rattle.ff_reader.specs.Walks.{head_limit}
use Rattle.ff_format.specs.declared.format.FileFormat.{FileFormat}
use Rattle.ff_input.specs.declared.first_word.FirstWord.TheVariants.{Named, Open, Other as OtherWord}
use Rattle.ff_input.specs.declared.walk.InputWalk.{InputWalk}
use Rattle.ff_input.specs.declared.walk.InputWalk.TheVariants.{Start, Other, In}
use Rattle.ff_input.specs.Answers.{Answers, IsBehind}
use Rattle.ff_input.specs.FirstWords.{told}
use Rattle.ff_input.specs.Formats.{Found, InputHead, IsHead, first_words, named, head_in, head_by, input_head, any_head}
use Rattle.ff_input.specs.laws.Places.{IsOf, IsOfNone, Reached, IsReached}
use Rattle.ff_input.proofs.FirstWordLaws.{named_stays, none_stays, open_unnamed, open_goes_on}
use Rattle.ff_input.proofs.Told.{answers_same}
use Rattle.ff_input.proofs.WordLaws.{all_words, words_apart}

-- ---- what goes on

-- what goes on a front goes on what goes on it
behind_more : {R : List ℕ → Type 0} (front rest bs : List ℕ) → bs ≡ front ++ rest → IsBehind R front → IsBehind R bs
behind_more front rest bs e h = (h.0, h.1 ++ rest, e ∙ (ap (λ xs. xs ++ rest) h.2 ∙ append_assoc h.0 h.1 rest), h.3)

of_more : (given : Option FileFormat) (head : List ℕ → Found) (front rest bs : List ℕ) → bs ≡ front ++ rest → IsOf given head front → IsOf given head bs
of_more given head front rest bs e h more =
    subst (λ xs. input_head given (xs ++ more) ≡ head (xs ++ more)) (sym e) (subst (λ xs. input_head given xs ≡ head xs) (sym (append_assoc front rest more)) (h (rest ++ more)))

none_more : (given : Option FileFormat) (front rest bs : List ℕ) → bs ≡ front ++ rest → IsOfNone given front → IsOfNone given bs
none_more given front rest bs e h more =
    subst (λ xs. input_head given (xs ++ more) ≡ Err (Unsupported 0)) (sym e) (subst (λ xs. input_head given xs ≡ Err (Unsupported 0)) (sym (append_assoc front rest more)) (h (rest ++ more)))

-- ---- a format that is told

-- the head of an input of which no format was given
head_named : (bs : List ℕ) (o : Option FileFormat) → named bs ≡ o → input_head None bs ≡ head_by o bs
unfolding input_head
head_named bs o e = ap (λ (f : Option FileFormat). head_by f bs) e

head_given : (f : FileFormat) (bs : List ℕ) → input_head (Some f) bs ≡ head_in f bs
unfolding input_head
head_given f bs = refl

here_reached : (walk : InputWalk) (given : Option FileFormat) (bs : List ℕ) → Reached walk given bs → IsReached walk given bs
here_reached walk given bs r = (bs, [], sym (append-nil bs), r)

-- the walk of the format that the first bytes tell
pub named_reached : (walk : InputWalk) (given : Option FileFormat) (bs : List ℕ) (f : FileFormat) → told first_words bs ≡ Named f → Reached walk (Some f) []
    → IsReached Start given bs → IsReached walk given bs
named_reached Start given bs f t r h = let clash : Some f ≡ None = r in absurd cc
named_reached Other given bs f t r h =
    here_reached Other given bs
    (subst (λ o. IsOfNone o bs) (sym h.3) (λ more. head_named (bs ++ more) (Some f) (named_stays first_words bs more f t) ∙ (sym (head_given f (bs ++ more)) ∙ r (bs ++ more))))
named_reached (In walk) given bs f t r h =
    here_reached (In walk) given bs (
      subst (λ o. IsOf o (any_head walk) bs) (sym h.3) (λ more. head_named (bs ++ more) (Some f) (named_stays first_words bs more f t) ∙ (sym (head_given f (bs ++ more)) ∙ r.0 (bs ++ more))),
      behind_more [] bs bs refl r.1,
    )

-- or of none
pub other_reached : (given : Option FileFormat) (bs : List ℕ) → told first_words bs ≡ OtherWord → IsReached Start given bs → IsReached Other given bs
other_reached given bs t h =
    here_reached Other given bs (subst (λ o. IsOfNone o bs) (sym h.3) (λ more. head_named (bs ++ more) None (none_stays first_words bs more t)))

-- ---- none is told yet

open_head : (bs : List ℕ) → told first_words bs ≡ Open → input_head None bs ≡ Err (Unsupported 0)
open_head bs t = head_named bs None (open_unnamed first_words bs words_apart t)

is_open : (bs : List ℕ) → told first_words bs ≡ Open → IsOpen (input_head None) bs
is_open bs t =
    let g = open_goes_on head_in first_words bs all_words t in
    let none : input_head None (bs ++ []) ≡ Err (Unsupported 0) = ap (input_head None) (append-nil bs) ∙ open_head bs t in
    let own : input_head None (bs ++ g.rest) ≡ head_in g.word.format (bs ++ g.rest) = head_named (bs ++ g.rest) (Some g.word.format) g.named in
    ([], g.rest, All-nil (λ b. b < 256), g.bytes, λ same. g.own (sym own ∙ (sym same ∙ none)))

untold_answers : (bs : List ℕ) (whole : Bool) → told first_words bs ≡ Open
    → Answers (input_head None) IsHead whole bs (if whole then Err (end.Unsupported 0) else Err end.NotYet)
untold_answers bs true t = record {
  not_yet = (λ e. absurd cc, λ h. let clash : true ≡ false = h.0 in absurd cc);
  decided = λ n. ap answered (sym (open_head bs t));
  stays = λ n w. absurd cc;
  sound = tt;
}
untold_answers bs false t = record {
  not_yet = (λ e. (refl, is_open bs t), λ h. refl);
  decided = λ n. absurd (n refl);
  stays = λ n w. absurd (n refl);
  sound = tt;
}

module _ (given : Option FileFormat) (whole : Bool) (bs : List ℕ) (r : Result InputHead HeadEnd) where
  pub start_told : IsReached Start given bs → told first_words bs ≡ Open → r ≡ (if whole then Err (end.Unsupported 0) else Err end.NotYet)
      → Answers (input_head given) IsHead whole bs r
  start_told h t e = subst (λ o. Answers (input_head o) IsHead whole bs r) (sym h.3) (subst (λ x. Answers (input_head None) IsHead whole bs x) (sym e) (untold_answers bs whole t))

  pub start_on : IsReached Start given bs → told first_words bs ≡ Open → (length bs ≤ head_limit) × Reached Start given bs
  start_on h t =
      let g = open_goes_on head_in first_words bs all_words t in
      let few = g.law.few in
      let shorter = g.shorter in
      (omega (arith, shorter, few), h.3)

  -- the reading of a format
  pub format_told : (head : List ℕ → Found) → IsBehind (IsOf given head) bs → Answers head IsHead whole bs r → Answers (input_head given) IsHead whole bs r
  format_told head h a = answers_same head (input_head given) IsHead whole bs r (of_more given head h.0 h.1 bs h.2 h.3) a

pub format_on : (given : Option FileFormat) (bs : List ℕ) (head head' : List ℕ → Found) → head' ≡ head → IsBehind (IsOf given head) bs → IsOf given head' bs
format_on given bs head head' e h = subst (λ (k : List ℕ → Found). IsOf given k bs) (sym e) (of_more given head h.0 h.1 bs h.2 h.3)

pub other_told : (given : Option FileFormat) (whole : Bool) (bs : List ℕ) → IsReached Other given bs → Answers (input_head given) IsHead whole bs (Err (end.Unsupported 0))
other_told given whole bs h =
    let none = none_more given h.0 h.1 bs h.2 h.3 in
    let here : input_head given bs ≡ Err (Unsupported 0) = subst (λ xs. input_head given xs ≡ Err (Unsupported 0)) (append-nil bs) (none []) in
    record {
      not_yet = (λ e. absurd cc, λ o. absurd (o.1.4 (none o.1.0 ∙ sym (none o.1.1))));
      decided = λ n. ap answered (sym here);
      stays = λ n w more. none more ∙ sym here;
      sound = tt;
    }

pub behind_at : {R : List ℕ → Type 0} (front rest bs : List ℕ) → bs ≡ front ++ rest → IsBehind R front → IsBehind R bs
behind_at front rest bs e h = behind_more front rest bs e h

pub behind_here : {R : List ℕ → Type 0} (bs : List ℕ) → R bs → IsBehind R bs
behind_here bs r = (bs, [], sym (append-nil bs), r)
