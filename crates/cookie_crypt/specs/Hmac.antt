-- HMAC-SHA256 (RFC 2104) on lists of bytes.
use Rattle.std.specs.Prelude.{ℕ, ◌-◌, bit_xor, nat_lt, if◌then◌else◌, List, ◌++◌, length, map, replicate}
use Rattle.sha2.specs.Sha256.{sha256}

-- a key, or the hash of one longer than a block of 64 bytes (RFC 2104 2)
unfoldable pub short_key : List ℕ → List ℕ
short_key key = if nat_lt 64 (length key) then sha256 key else key

-- a key padded with zeros to 64 bytes, with the mask added to each byte (RFC 2104 2, steps 1, 2 and 5)
unfoldable pub masked : List ℕ → ℕ → List ℕ
masked key mask = map (λ byte. bit_xor byte mask) (key ++ replicate (64 - length key) 0)

-- HMAC under a key of at most 64 bytes (RFC 2104 2)
unfoldable pub hmac_short : List ℕ → List ℕ → List ℕ
hmac_short key message = sha256 (masked key 0x5c ++ sha256 (masked key 0x36 ++ message))

-- HMAC (RFC 2104 2)
unfoldable pub hmac : List ℕ → List ℕ → List ℕ
hmac key message = hmac_short (short_key key) message
