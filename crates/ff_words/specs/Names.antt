-- The names that words give: of an input, of an output, of a trace.
use Rattle.std.specs.Prelude.{ℕ, Bool, ◌&&◌, ◌||◌, ◌==◌, nat_eq, nat_lt, if◌then◌else◌, Option, Some, None, List, drop, codes}
use Rattle.std.specs.Char.{is_ascii_alphanumeric}
use Rattle.std.specs.List.{prefix_len, starts_with}
use Rattle.std.specs.Str.{bytes_eq}

-- standard input and standard output, as files
abbrev pub stdin : List ℕ
stdin = codes "/dev/stdin"

abbrev pub stdout : List ℕ
stdout = codes "/dev/stdout"

-- what stands behind `file:`
abbrev pub after_file : List ℕ → Option (List ℕ)
after_file word = if starts_with nat_eq word (codes "file:") then Some (drop 5 word) else None

-- a letter, a digit, `+`, `-` or `.`
abbrev pub is_scheme_byte : ℕ → Bool
is_scheme_byte b = is_ascii_alphanumeric b || (b == 43) || (b == 45) || (b == 46)

-- how many of them it begins with
abbrev pub scheme_len : List ℕ → ℕ
scheme_len word = prefix_len is_scheme_byte word

-- it begins with some of them, and then `://`
abbrev pub has_scheme : List ℕ → Bool
has_scheme word = nat_lt 0 (scheme_len word) && starts_with nat_eq (drop (scheme_len word) word) (codes "://")

-- it says something else than a file
abbrev pub is_foreign : List ℕ → Bool
is_foreign word = starts_with nat_eq word (codes "pipe:") || has_scheme word

abbrev pub name_by : Option (List ℕ) → List ℕ → Option (List ℕ)
name_by (Some name) word = Some name
name_by None word = if is_foreign word then None else Some word

-- the name of a file: what stands behind `file:`, or else the word itself, unless it says something else
abbrev pub file_name : List ℕ → Option (List ℕ)
file_name word = name_by (after_file word) word

unfoldable pub input_name : List ℕ → Option (List ℕ)
input_name word =
    if bytes_eq word (codes "-") || bytes_eq word (codes "pipe:") || bytes_eq word (codes "pipe:0") then Some stdin else file_name word

unfoldable pub output_name : List ℕ → Option (List ℕ)
output_name word =
    if bytes_eq word (codes "-") || bytes_eq word (codes "pipe:") || bytes_eq word (codes "pipe:1") then Some stdout else file_name word

-- it can't be standard output
unfoldable pub trace_name : List ℕ → Option (List ℕ)
trace_name word = if bytes_eq word (codes "-") then None else file_name word
