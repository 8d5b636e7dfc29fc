-- Mirrors private code: which stored cookies expire, and when.
use Rattle.std.specs.Prelude.{◌≡◌, ℕ, ℤ, int_lt, true, Contains, Option, None, Some, length}
use Rattle.cookie_agent.specs.declared.expiries.Expiries.{Expiries}

-- the number is listed at the expiry, if there is one
abbrev pub IsTimed : Expiries → ℕ → Option ℤ → Type 0
IsTimed expiries number None = Unit {0}
IsTimed expiries number (Some expiry) = Contains expiries.listed.keys (expiry, number)

-- the expiry is after the time, or there is none
abbrev pub IsAfter : ℤ → Option ℤ → Type 0
IsAfter time None = Unit {0}
IsAfter time (Some expiry) = int_lt time expiry ≡ true

-- how many are listed
abbrev pub listed_len : Expiries → ℕ
listed_len expiries = length expiries.listed.keys
