-- The expansion of a key to 64 bytes, two blocks of HMAC-SHA256 (RFC 5869 2.3).
use Rattle.std.specs.Prelude.{ℕ, List, [], ◌∷◌, ◌++◌}
use Rattle.cookie_crypt.specs.Hmac.{hmac}

-- T(1)
abbrev pub first_block : List ℕ → List ℕ → List ℕ
first_block prk info = hmac prk (info ++ 1 ∷ [])

-- T(2)
abbrev pub second_block : List ℕ → List ℕ → List ℕ
second_block prk info = hmac prk (first_block prk info ++ info ++ 2 ∷ [])

-- T(1) and T(2), joined
unfoldable pub expand64 : List ℕ → List ℕ → List ℕ
expand64 prk info = first_block prk info ++ second_block prk info
