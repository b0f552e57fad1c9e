-- Reading a map byte by byte.
use Rattle.std.specs.Prelude.{ℕ, ◌+◌, ◌-◌, ◌*◌, ◌^◌, ◌<◌, Bool, true, false, ◌&&◌, Option, Some, None, List, [], ◌∷◌, ◌++◌, length, nat_lt, nat_le, ◌==◌, if◌then◌else◌}
use Rattle.ff_lang.specs.Letters.{is_label_byte}
use Rattle.ff_words.specs.declared.maps.letter.Letter.{Letter}
use Rattle.ff_words.specs.declared.maps.letter.Letter.TheVariants.{Digit, Colon, Question, A, V, Bracket, Other}
use Rattle.ff_words.specs.declared.maps.map.Kind.TheVariants.{Audio, Video}
use Rattle.ff_words.specs.declared.maps.map.Pick.{Pick}
use Rattle.ff_words.specs.declared.maps.map.Pick.TheVariants as pick
use Rattle.ff_words.specs.declared.maps.map.MapFrom.TheVariants as from
use Rattle.ff_words.specs.declared.maps.map.MapSpec.{MapSpec}
use Rattle.ff_words.specs.declared.maps.reading.Reading.{Reading}
use Rattle.ff_words.specs.declared.maps.reading.Reading.TheVariants.{Start, File, Separator, Index, OfKind, Second, Nth, Optional, Label, Closed}

-- what a byte is in a map
abbrev pub letter_of : ℕ → Letter
letter_of b =
    if nat_le 48 b && nat_le b 57 then Digit (b - 48) else
    (if b == 58 then Colon else
    (if b == 63 then Question else
    (if b == 97 then A else
    (if b == 118 then V else
    (if b == 91 then Bracket else Other)))))

-- a digit is below 10
abbrev pub IsDecimal : Letter → Type 0
IsDecimal (Digit d) = d < 10
IsDecimal _ = Unit {0}

-- a number of at most nine digits has one digit more
abbrev pub if_room : ℕ → Reading → Option Reading
if_room k s = if nat_lt k 9 then Some s else None

abbrev pub start_next : Letter → Option Reading
start_next (Digit d) = Some (File 1 d)
start_next Bracket = Some (Label [])
start_next _ = None

abbrev pub file_next : ℕ → ℕ → Letter → Option Reading
file_next k n (Digit d) = if_room k (File (k + 1) (n * 10 + d))
file_next k n Colon = Some (Separator n)
file_next k n Question = Some (Optional n pick.All)
file_next k n _ = None

abbrev pub separator_next : ℕ → Letter → Option Reading
separator_next f (Digit d) = Some (Index f 1 d)
separator_next f A = Some (OfKind f Audio)
separator_next f V = Some (OfKind f Video)
separator_next f _ = None

abbrev pub index_next : ℕ → ℕ → ℕ → Letter → Option Reading
index_next f k n (Digit d) = if_room k (Index f (k + 1) (n * 10 + d))
index_next f k n Question = Some (Optional f (pick.Index n))
index_next f k n _ = None

-- reading goes on by a letter, or no map does; labels don't go by letters
abbrev pub letter_next : Reading → Letter → Option Reading
letter_next Start letter = start_next letter
letter_next (File k n) letter = file_next k n letter
letter_next (Separator f) letter = separator_next f letter
letter_next (Index f k n) letter = index_next f k n letter
letter_next (OfKind f kind) Colon = Some (Second f kind)
letter_next (OfKind f kind) Question = Some (Optional f (pick.Kind kind))
letter_next (OfKind f kind) _ = None
letter_next (Second f kind) (Digit d) = Some (Nth f kind 1 d)
letter_next (Second f kind) _ = None
letter_next (Nth f kind k n) (Digit d) = if_room k (Nth f kind (k + 1) (n * 10 + d))
letter_next (Nth f kind k n) Question = Some (Optional f (pick.Nth kind n))
letter_next (Nth f kind k n) _ = None
letter_next (Optional f p) letter = None
letter_next (Label label) letter = None
letter_next (Closed label) letter = None

-- a label has more, or it is closed
abbrev pub label_next : List ℕ → ℕ → Option Reading
label_next label b =
    if is_label_byte b && nat_lt (length label) 64 then Some (Label (label ++ b ∷ [])) else
    (if (b == 93) && nat_lt 0 (length label) then Some (Closed label) else None)

-- reading goes on by a byte, or no map does
abbrev pub byte_next : Reading → ℕ → Option Reading
byte_next (Label label) b = label_next label b
byte_next s b = letter_next s (letter_of b)

abbrev pub of_input : ℕ → Pick → Bool → MapSpec
of_input f p optional = record { from = from.Input f p; optional = optional }

-- the map, where the text may end here
abbrev pub end_of : Reading → Option MapSpec
end_of Start = None
end_of (File k n) = Some (of_input n pick.All false)
end_of (Separator f) = None
end_of (Index f k n) = Some (of_input f (pick.Index n) false)
end_of (OfKind f kind) = Some (of_input f (pick.Kind kind) false)
end_of (Second f kind) = None
end_of (Nth f kind k n) = Some (of_input f (pick.Nth kind n) false)
end_of (Optional f p) = Some (of_input f p true)
end_of (Label label) = None
end_of (Closed label) = Some (record { from = from.Label label; optional = false })

-- a number is as small as its digits want
abbrev pub IsSound : Reading → Type 0
IsSound (File k n) = n < 10 ^ k
IsSound (Index f k n) = n < 10 ^ k
IsSound (Nth f kind k n) = n < 10 ^ k
IsSound _ = Unit {0}
