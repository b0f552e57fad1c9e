-- The worked examples: files whose only stream is pictures of 2 columns and 2 rows.
use Rattle.std.specs.Prelude.{ℕ, List, [], ◌∷◌, ◌++◌, codes, replicate, Some, None}
use Rattle.ff_frame.specs.declared.head.StreamHead.{StreamHead}
use Rattle.ff_frame.specs.declared.head.StreamHead.TheVariants.{Audio, Video}
use Rattle.ff_frame.specs.declared.head.Codec.TheVariants.{PcmS16le}
use Rattle.ff_frame.specs.declared.video.Format.TheVariants.{C420}
use Rattle.ff_avi.specs.declared.head.AviHead.{AviHead}

-- a number of 32 bits below 256
abbrev pub number : ℕ → List ℕ
number n = n ∷ 0 ∷ 0 ∷ 0 ∷ []

-- a chunk's first 8 bytes, and a list's first 12
abbrev pub chunk : List ℕ → ℕ → List ℕ
chunk id size = id ++ number size

abbrev pub list : List ℕ → ℕ → List ℕ
list kind size = chunk (codes "LIST") size ++ kind

abbrev pub nothing : ℕ → List ℕ
nothing n = replicate n 0

-- the header of pictures with a scale of 1, and their format
abbrev pub header : ℕ → List ℕ
header rate = chunk (codes "strh") 56 ++ (codes "vids" ++ (nothing 16 ++ (number 1 ++ (number rate ++ nothing 28))))

abbrev pub format : List ℕ → List ℕ
format code = chunk (codes "strf") 40 ++ (nothing 4 ++ (number 2 ++ (number 2 ++ (nothing 4 ++ (code ++ nothing 20)))))

-- all that comes before the data, 160 bytes
abbrev pub opening : ℕ → List ℕ → List ℕ
opening rate code =
    chunk (codes "RIFF") 0 ++ (codes "AVI " ++ (list (codes "hdrl") 128 ++ (list (codes "strl") 116 ++ (header rate ++ (format code ++ list (codes "movi") 0)))))

-- one picture
abbrev pub picture : List ℕ
picture = chunk (codes "00db") 6 ++ codes "abcdef"

-- ---- what follows a head, from byte 160 on

abbrev pub pictures : StreamHead
pictures = Video (record { num = 1; den = 25 }) C420 2 2 0 0

-- sound of 16 bits on one channel
abbrev pub sound : StreamHead
sound = Audio (record { num = 1; den = 1000 }) 1000 16 1 PcmS16le

abbrev pub film : AviHead
film = record { first = pictures; second = None; start = 160 }

abbrev pub film_with_sound : AviHead
film_with_sound = record { first = pictures; second = Some sound; start = 160 }

-- two sample frames and half of one, and a pad byte
abbrev pub some_sound : List ℕ
some_sound = chunk (codes "01wb") 5 ++ (codes "abcde" ++ nothing 1)
