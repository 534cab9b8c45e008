-- Which texts write a capability down.
use Rattle.std.specs.Prelude.{ℕ, List, length, Option, Some, position, not, ◌==◌, if◌then◌else◌}
use Rattle.hex.specs.Hex.{is_hex_digit}

-- where a text fails to be 32 hexadecimal digits: its length where that is another, else its first byte that is no digit
abbrev pub bad_place : List ℕ → Option ℕ
bad_place text = if length text == 32 then position (λ c. not (is_hex_digit c)) text else Some (length text)
