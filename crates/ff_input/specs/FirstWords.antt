-- Which format the first bytes of an input tell: a format has one first word or more, and no two words begin alike to their end.
use Rattle.std.specs.Prelude.{◌≡◌, ◌≢◌, ℕ, ◌<◌, ◌==◌, ◌&&◌, ◌||◌, nat_le, not, Bool, true, false, if◌then◌else◌, find, List, [], ◌∷◌, ◌++◌, All, length, Option}
use Rattle.std.specs.Prelude.{Some, None, Err}
use Rattle.std.specs.Option.{option_map}
use Rattle.ff_reader.specs.Heads.{Found}
use Rattle.ff_reader.specs.Walks.{agrees, AreBytes, head_limit}
use Rattle.ff_reader.specs.declared.fault.HeadFault.TheVariants.{Unsupported}
use Rattle.ff_format.specs.declared.format.FileFormat.{FileFormat}
use Rattle.ff_input.specs.declared.first_word.FirstWord.{FirstWord}
use Rattle.ff_input.specs.declared.first_word.FirstWord.TheVariants.{Named, Open, Other}

-- a first word (None: any byte), and the format whose inputs begin so
pub record Word : Type 0 where
  pub word : List (Option ℕ)
  pub format : FileFormat

-- an input begins with it
abbrev pub begins_with : List ℕ → Word → Bool
begins_with bs w = nat_le (length w.word) (length bs) && agrees w.word bs

-- the format whose first word an input has
abbrev pub named_in : List Word → List ℕ → Option FileFormat
named_in ws bs = option_map (λ w. w.format) (find (begins_with bs) ws)

-- What these bytes tell, whatever follows: the format whose word is there, or that they may go on to one; or that they go on to none.
abbrev pub told_by : Word → List ℕ → FirstWord
told_by w bs =
    if not (agrees w.word bs) then Other
    else if nat_le (length w.word) (length bs) then Named w.format
    else Open

abbrev pub or_else : FirstWord → FirstWord → FirstWord
or_else (Named f) next = Named f
or_else Open next = Open
or_else Other next = next

abbrev pub told : List Word → List ℕ → FirstWord
told [] bs = Other
told (w ∷ ws) bs = or_else (told_by w bs) (told ws bs)

-- at some place both have a byte, and not the same
abbrev pub differ : List (Option ℕ) → List (Option ℕ) → Bool
differ [] vs = false
differ (w ∷ ws) [] = false
differ (None ∷ ws) (v ∷ vs) = differ ws vs
differ (Some n ∷ ws) (None ∷ vs) = differ ws vs
differ (Some n ∷ ws) (Some m ∷ vs) = not (n == m) || differ ws vs

-- each two words differ
abbrev pub differs_from : List (Option ℕ) → List Word → Bool
differs_from w [] = true
differs_from w (v ∷ vs) = differ w v.word && differs_from w vs

abbrev pub are_apart : List Word → Bool
are_apart [] = true
are_apart (w ∷ ws) = differs_from w.word ws && are_apart ws

-- What a word owes to its format, by what the head of a whole input is: its bytes are bytes, few, and an input that is such a word and
-- goes on with these bytes isn't of another format.
pub record IsFirstWord {H : Type 0} (head : FileFormat → List ℕ → Found H) (w : Word) : Type 0 where
  pub bytes : AreBytes w.word
  pub few : length w.word < head_limit
  pub more : List ℕ
  pub more_bytes : All (λ b. b < 256) more
  pub own : (bs : List ℕ) → length bs ≡ length w.word → agrees w.word bs ≡ true → head w.format (bs ++ more) ≢ Err (Unsupported 0)
