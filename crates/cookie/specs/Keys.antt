-- The key of signed and private jars, as the list of its 64 bytes.
use Rattle.std.specs.Prelude.{ℕ, List, codes, take, drop}
use Rattle.cookie_crypt.specs.Expand.{expand64}

-- how many bytes a key has
abbrev pub key_length : ℕ
key_length = 64

-- how many bytes a master key has at least
abbrev pub master_length : ℕ
master_length = 32

-- the half that signs
abbrev pub signing_half : List ℕ → List ℕ
signing_half key = take 32 key

-- the half that encrypts
abbrev pub encryption_half : List ℕ → List ℕ
encryption_half key = drop 32 key

-- the key in at least 64 bytes: the first 64
abbrev pub key_bytes : List ℕ → List ℕ
key_bytes bytes = take key_length bytes

-- what the expansion of a master key is for (RFC 5869 3.2)
abbrev pub key_info : List ℕ
key_info = codes "COOKIE;SIGNED:HMAC-SHA256;PRIVATE:AEAD-AES-256-GCM"

-- the key derived from a master key, by the whole of it (RFC 5869 2.3)
abbrev pub derived_key : List ℕ → List ℕ
derived_key master = expand64 master key_info
