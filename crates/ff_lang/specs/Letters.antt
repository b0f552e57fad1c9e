-- What a byte is in the text of a filtergraph.
use Rattle.std.specs.Prelude.{ℕ, Bool, ◌||◌, ◌&&◌, nat_le, ◌==◌}

-- a letter, a digit or `_`
unfoldable pub is_word_byte : ℕ → Bool
is_word_byte b = (nat_le 48 b && nat_le b 57) || (nat_le 65 b && nat_le b 90) || (nat_le 97 b && nat_le b 122) || (b == 95)

-- a letter, a digit, `_`, `:` or `.`
unfoldable pub is_label_byte : ℕ → Bool
is_label_byte b = is_word_byte b || (b == 58) || (b == 46)

-- a space, a tab or LF
unfoldable pub is_blank : ℕ → Bool
is_blank b = (b == 32) || (b == 9) || (b == 10)

-- `'` `\` `:` `,` `;` `[` `]`, which mean something in a value
unfoldable pub is_special : ℕ → Bool
is_special b = (b == 39) || (b == 92) || (b == 58) || (b == 44) || (b == 59) || (b == 91) || (b == 93)

-- those and `=`, which a printed value escapes
unfoldable pub is_escaped : ℕ → Bool
is_escaped b = is_special b || (b == 61)
