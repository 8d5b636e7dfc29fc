-- The texts of a key's refusals.
use Rattle.std.specs.Prelude.{ℕ, List, ◌++◌, codes}
use Rattle.std.specs.Fmt.{decimal}
use Rattle.cookie.specs.declared.secure.key_error.KeyError.{KeyError}
use Rattle.cookie.specs.declared.secure.key_error.KeyError.TheVariants as refusal

-- the text of a refusal
abbrev pub key_refusal_text : KeyError → List ℕ
key_refusal_text (refusal.TooShort n) =
    codes "key material is too short: expected >= 64 bytes, got " ++ (decimal n ++ codes " bytes")
key_refusal_text (refusal.MasterTooShort n) =
    codes "master key is too short: expected >= 32 bytes, got " ++ (decimal n ++ codes " bytes")
