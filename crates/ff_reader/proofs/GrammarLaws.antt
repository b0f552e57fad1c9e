-- What an answer says of the head of a whole input, in a format that is read unit by unit.
use Rattle.std.proofs.Common.{◌≡◌, ℕ, Bool, false, List, ◌++◌, length, Err}
use Rattle.std.specs.Prelude.{◌↔◌, IfOk}
use Rattle.ff_frame.specs.declared.cut.HeadEnd.TheVariants as end
use Rattle.ff_reader.specs.Heads.{early, answered, IsOpen}
use Rattle.ff_reader.specs.Walks.{Grammar, reading, head_limit, head_by, answer_by, IsGrammar, Keeps}
use Rattle.ff_reader.proofs.AnswerLaws as answers
use Rattle.ff_reader.proofs.ReadingLaws.{reading_stays, reading_opens, reading_sound, early_sound}

-- not yet exactly where the input goes on, and some bytes decide otherwise than others
pub answer_not_yet : {H S : Type 0} (g : Grammar H S) → IsGrammar g → (whole : Bool) (bs : List ℕ) → (answer_by g whole bs ≡ Err end.NotYet) ↔ ((whole ≡ false) × IsOpen (head_by g) bs)
answer_not_yet g law whole bs = answers.answer_not_yet (reading g head_limit) (early (length g.magic)) (reading_stays g law) (reading_opens g law) whole bs

pub answer_decided : {H S : Type 0} (g : Grammar H S) (whole : Bool) (bs : List ℕ) → (answer_by g whole bs ≡ Err end.NotYet → ⊥) → answer_by g whole bs ≡ answered (head_by g bs)
answer_decided g whole bs n = answers.answer_decided (reading g head_limit) (early (length g.magic)) whole bs n

pub answer_stays : {H S : Type 0} (g : Grammar H S) → IsGrammar g → (bs : List ℕ) → (answer_by g false bs ≡ Err end.NotYet → ⊥) → (more : List ℕ) → head_by g (bs ++ more) ≡ head_by g bs
answer_stays g law bs n = answers.answer_stays (reading g head_limit) (early (length g.magic)) (reading_stays g law) bs n

pub answer_sound : {H S : Type 0} (g : Grammar H S) (is_known : S → Type 0) (is_sound : H → Type 0) → is_known g.start → Keeps is_known is_sound g.unit
    → (whole : Bool) (bs : List ℕ) → IfOk (answer_by g whole bs) is_sound
answer_sound g is_known is_sound known keeps whole bs =
    answers.answer_sound (reading g head_limit) (early (length g.magic)) is_sound (reading_sound g is_known is_sound known keeps) (early_sound is_sound (length g.magic)) whole bs
