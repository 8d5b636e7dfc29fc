-- The bytes that part a header, a pair and an age (RFC 6265 4.1.1, 5.2.2).
use Rattle.std.specs.Prelude.{ℕ}

-- `;`, between a pair and the attributes, and between the pairs of a `Cookie` header
abbrev pub semicolon : ℕ
semicolon = 59

-- `=`, between a name and its value
abbrev pub equals_sign : ℕ
equals_sign = 61

-- `-`, before the digits of an age below zero
abbrev pub hyphen : ℕ
hyphen = 45
