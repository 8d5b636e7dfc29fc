-- Keys for C: the bytes that they are made of, and the handle that has them. `old` is what the handle has at the call and
-- `new` at the return.
use Rattle.std.specs.Prelude.{◌≡◌, ℕ, ◌<◌, ◌%◌, ◌⊎◌, List, length, All, Option}
use Rattle.std.specs.List.{concat}
use Rattle.cookie.specs.Keys.{key_length}
use Rattle.cookie_c.specs.Handles.{IsKept, IsPut, keys_in}
use Rattle.cookie_c.specs.declared.keys.Keys.{Keys}
use Rattle.cookie_c.specs.declared.status.Status.{Status}
use Rattle.cookie_c.specs.declared.status.Status.TheVariants as status

-- the bytes of one key or more
abbrev pub HasKeys : List ℕ → Type 0
HasKeys bytes = (0 < length bytes) × (length bytes % key_length ≡ 0)

-- the bytes are these keys, one after the other
pub record AreKeys (bytes : List ℕ) (keys : List (List ℕ)) : Type 0 where
  pub joined : concat keys ≡ bytes
  pub long : All (λ key. length key ≡ key_length) keys
  pub some : 0 < length keys

-- what a handle has as keys, the newest first
abbrev pub keys_of : Keys → Option (List (List ℕ))
keys_of keys = keys_in keys.handle.held.content

-- the handle has these keys; or the bytes aren't keys, or memory ran out, and it is as before
abbrev pub MakesKeys : List ℕ → Status → Option (List (List ℕ)) → Option (List (List ℕ)) → Type 0
MakesKeys bytes answer old new =
    ((keys : List (List ℕ)) × AreKeys bytes keys × IsPut keys answer old new)
    ⊎ ((IsKept status.KeyTooShort answer old new × ¬ HasKeys bytes)
    ⊎ (IsKept status.OutOfMemory answer old new × HasKeys bytes))
