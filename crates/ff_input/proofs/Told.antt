-- What an answer of one format says of an input.
use Rattle.std.proofs.Common.{◌≡◌, ℕ, Bool, List, [], ◌++◌, Result, Ok, Err, refl, sym, ap, ◌∙◌, subst, append-nil}
use Rattle.std.specs.Prelude.{IfOk}
use Rattle.ff_frame.specs.declared.cut.HeadEnd.{HeadEnd}
use Rattle.ff_frame.specs.declared.cut.HeadEnd.TheVariants as end
use Rattle.ff_reader.specs.declared.fault.HeadFault.TheVariants.{Damaged, Unsupported}
use Rattle.ff_reader.specs.Heads.{Found, answered}
use Rattle.ff_reader.specs.Walks.{Grammar, head_by as head_by_grammar, answer_by, IsGrammar, Keeps}
use Rattle.ff_reader.proofs.GrammarLaws.{answer_not_yet, answer_decided, answer_stays, answer_sound}
use Rattle.ff_input.specs.Answers.{Answers, as_found, as_answer}

-- what a format that is read unit by unit answers
pub answers_by : {H S : Type 0} (g : Grammar H S) (is_known : S → Type 0) (is_sound : H → Type 0) → IsGrammar g → is_known g.start → Keeps is_known is_sound g.unit
    → (whole : Bool) (bs : List ℕ) → Answers (head_by_grammar g) is_sound whole bs (answer_by g whole bs)
answers_by g is_known is_sound law known keeps whole bs = record {
  not_yet = answer_not_yet g law whole bs;
  decided = answer_decided g whole bs;
  stays = λ n w. answer_stays g law bs (λ e. n (ap (λ b. answer_by g b bs) w ∙ e));
  sound = answer_sound g is_known is_sound known keeps whole bs;
}

module _ {H K : Type 0} (make : H → K) (one : (x y : H) → make x ≡ make y → x ≡ y) where
  found_one : (a b : Found H) → as_found make a ≡ as_found make b → a ≡ b
  found_one (Ok x) (Ok y) e = let same : make x ≡ make y = cc in ap Ok (one x y same)
  found_one (Ok x) (Err q) e = absurd cc
  found_one (Err p) (Ok y) e = absurd cc
  found_one (Err p) (Err q) e = cc

  answer_end : (r : Result H HeadEnd) → as_answer make r ≡ Err end.NotYet → r ≡ Err end.NotYet
  answer_end (Ok x) e = cc
  answer_end (Err x) e = cc

  answered_as : (a : Found H) → as_answer make (answered a) ≡ answered (as_found make a)
  answered_as (Ok x) = refl
  answered_as (Err (Damaged p)) = refl
  answered_as (Err (Unsupported p)) = refl

  sound_as : (is_sound : H → Type 0) (is_sound' : K → Type 0) → ((h : H) → is_sound h → is_sound' (make h)) → (r : Result H HeadEnd) → IfOk r is_sound → IfOk (as_answer make r) is_sound'
  sound_as is_sound is_sound' s (Ok h) k = s h k
  sound_as is_sound is_sound' s (Err x) k = tt

  -- an answer of a format is one of the input
  pub answers_as : (head : List ℕ → Found H) (is_sound : H → Type 0) (is_sound' : K → Type 0) → ((h : H) → is_sound h → is_sound' (make h))
      → (whole : Bool) (bs : List ℕ) (r : Result H HeadEnd) → Answers head is_sound whole bs r → Answers (λ xs. as_found make (head xs)) is_sound' whole bs (as_answer make r)
  answers_as head is_sound is_sound' s whole bs r a = record {
    not_yet = (
      λ e. let h = a.not_yet.0 (answer_end r e) in (h.0, (h.1.0, h.1.1, h.1.2, h.1.3, λ same. h.1.4 (found_one (head (bs ++ h.1.0)) (head (bs ++ h.1.1)) same))),
      λ h. ap (as_answer make) (a.not_yet.1 (h.0, (h.1.0, h.1.1, h.1.2, h.1.3, λ same. h.1.4 (ap (as_found make) same)))),
    );
    decided = λ n. ap (as_answer make) (a.decided (λ e. n (ap (as_answer make) e))) ∙ answered_as (head bs);
    stays = λ n w more. ap (as_found make) (a.stays (λ e. n (ap (as_answer make) e)) w more);
    sound = sound_as is_sound is_sound' s r a.sound;
  }

-- what the heads of a format are, those of one of several are
abbrev pub all_as : {H K : Type 0} → (H → K) → (List ℕ → Found H) → List ℕ → Found K
all_as make head bs = as_found make (head bs)

pub same_as : {H K : Type 0} (make : H → K) (one other : List ℕ → Found H) → one ≡ other → all_as make one ≡ all_as make other
same_as make one other e = ap (all_as make) e

-- two heads that are the same whatever follows
pub answers_same : {H : Type 0} (one two : List ℕ → Found H) (is_sound : H → Type 0) (whole : Bool) (bs : List ℕ) (r : Result H HeadEnd) → ((more : List ℕ) → two (bs ++ more) ≡ one (bs ++ more))
    → Answers one is_sound whole bs r → Answers two is_sound whole bs r
answers_same one two is_sound whole bs r same a =
    let here : two bs ≡ one bs = subst (λ xs. two xs ≡ one xs) (append-nil bs) (same []) in
    record {
      not_yet = (
        λ e. let h = a.not_yet.0 e in (h.0, (h.1.0, h.1.1, h.1.2, h.1.3, λ k. h.1.4 (sym (same h.1.0) ∙ (k ∙ same h.1.1)))),
        λ h. a.not_yet.1 (h.0, (h.1.0, h.1.1, h.1.2, h.1.3, λ k. h.1.4 (same h.1.0 ∙ (k ∙ sym (same h.1.1))))),
      );
      decided = λ n. a.decided n ∙ ap answered (sym here);
      stays = λ n w more. same more ∙ (a.stays n w more ∙ sym here);
      sound = a.sound;
    }
