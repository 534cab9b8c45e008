-- Whose maintenance is under way.
use Rattle.std.specs.Prelude.{◌≡◌, ◌==◌, ℕ, Option, Some, None, IfSome, if◌then◌else◌}

-- no other client's maintenance is under way
abbrev pub IsOpenTo : ℕ → Option ℕ → Type 0
IsOpenTo client holder = IfSome holder (λ by. by ≡ client)

-- whose is under way once this client's has ended
abbrev pub left_by : ℕ → Option ℕ → Option ℕ
left_by client None = None
left_by client (Some by) = if by == client then None else Some by
