-- The parameters of the first line (yuv4mpeg(5), "Stream Header"). A fault lies at the parameter's first byte.
use Rattle.std.specs.Prelude.{ℕ, ◌^◌, ◌==◌, ◌&&◌, ◌||◌, nat_le, nat_lt, Bool, if◌then◌else◌, List, codes, Option, Some, None, Result, Ok, Err, IfSome}
use Rattle.std.specs.Str.{bytes_eq}
use Rattle.ff_time.specs.Fraction.{Fraction}
use Rattle.ff_frame.specs.Video.{IsSide}
use Rattle.ff_frame.specs.declared.video.Format.{Format}
use Rattle.ff_frame.specs.declared.video.Format.TheVariants.{C420, C422, C444, Mono}
use Rattle.ff_reader.specs.declared.fault.HeadFault.{HeadFault}
use Rattle.ff_reader.specs.declared.fault.HeadFault.TheVariants.{Damaged, Unsupported}
use Rattle.ff_y4m.specs.declared.parameters.Parameters.{Parameters}
use Rattle.ff_y4m.specs.Numbers.{whole, pair, base_of}

-- before the first: 4:2:0, and an aspect that isn't known
abbrev pub no_parameters : Parameters
no_parameters = record { width = None; height = None; base = None; sar_num = 0; sar_den = 0; format = C420 }

-- columns and rows, where they were said, are as many as a picture may have
abbrev pub AreSane : Parameters → Type 0
AreSane p = IfSome p.width IsSide × IfSome p.height IsSide

-- columns or rows
abbrev pub side_in : ℕ → Option ℕ → Result ℕ HeadFault
side_in at None = Err (Damaged at)
side_in at (Some n) = if nat_le 1 n && nat_le n 16384 then Ok n else Err (Unsupported at)

-- the time base of so many frames in so many seconds
abbrev pub base_or : ℕ → Option Fraction → Result Fraction HeadFault
base_or at None = Err (Unsupported at)
base_or at (Some base) = Ok base

abbrev pub base_in : ℕ → Option (ℕ × ℕ) → Result Fraction HeadFault
base_in at None = Err (Damaged at)
base_in at (Some p) = base_or at (base_of p.1 p.0)

-- the aspect of a sample, 0:0 where a number of it is 0
abbrev pub aspect_in : ℕ → Option (ℕ × ℕ) → Result (ℕ × ℕ) HeadFault
aspect_in at None = Err (Damaged at)
aspect_in at (Some p) =
    if nat_lt p.0 (2 ^ 32) && nat_lt p.1 (2 ^ 32) then (if p.0 == 0 || p.1 == 0 then Ok (0, 0) else Ok p)
    else Err (Unsupported at)

-- frames without fields, or none said
unfoldable pub is_progressive : List ℕ → Bool
is_progressive value = bytes_eq value (codes "p") || bytes_eq value (codes "?")

-- the format of a name, wherever its samples of colour lie
unfoldable pub format_of : List ℕ → Option Format
format_of value =
    if bytes_eq value (codes "420") || bytes_eq value (codes "420jpeg") || bytes_eq value (codes "420mpeg2") || bytes_eq value (codes "420paldv") then Some C420
    else if bytes_eq value (codes "422") then Some C422
    else if bytes_eq value (codes "444") then Some C444
    else if bytes_eq value (codes "mono") then Some Mono
    else None

abbrev pub with_width : Parameters → Result ℕ HeadFault → Result Parameters HeadFault
with_width p (Ok n) = Ok (record p { width = Some n })
with_width p (Err e) = Err e

abbrev pub with_height : Parameters → Result ℕ HeadFault → Result Parameters HeadFault
with_height p (Ok n) = Ok (record p { height = Some n })
with_height p (Err e) = Err e

abbrev pub with_base : Parameters → Result Fraction HeadFault → Result Parameters HeadFault
with_base p (Ok f) = Ok (record p { base = Some f })
with_base p (Err e) = Err e

abbrev pub with_aspect : Parameters → Result (ℕ × ℕ) HeadFault → Result Parameters HeadFault
with_aspect p (Ok a) = Ok (record p { sar_num = a.0; sar_den = a.1 })
with_aspect p (Err e) = Err e

abbrev pub with_format : ℕ → Parameters → Option Format → Result Parameters HeadFault
with_format at p (Some f) = Ok (record p { format = f })
with_format at p None = Err (Unsupported at)

-- the letters of the parameters: columns, rows, frames a second, the aspect of a sample, fields, where colours lie
abbrev pub letter_W : ℕ
letter_W = 87

abbrev pub letter_H : ℕ
letter_H = 72

abbrev pub letter_F : ℕ
letter_F = 70

abbrev pub letter_A : ℕ
letter_A = 65

abbrev pub letter_I : ℕ
letter_I = 73

abbrev pub letter_C : ℕ
letter_C = 67

-- What a parameter of this letter and value, at this offset, adds to those before it: of a letter that comes again the last
-- value counts, and each is checked. Other letters say nothing.
unfoldable pub lettered : ℕ → ℕ → List ℕ → Parameters → Result Parameters HeadFault
lettered at letter value p =
    if letter == letter_W then with_width p (side_in at (whole value))
    else if letter == letter_H then with_height p (side_in at (whole value))
    else if letter == letter_F then with_base p (base_in at (pair value))
    else if letter == letter_A then with_aspect p (aspect_in at (pair value))
    else if letter == letter_I then (if is_progressive value then Ok p else Err (Unsupported at))
    else if letter == letter_C then with_format at p (format_of value)
    else Ok p
