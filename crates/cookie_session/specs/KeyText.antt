-- The keys of a site in a text, as a variable of the environment or a file holds them.
use Rattle.std.specs.Prelude.{ℕ, ◌+◌, ◌==◌, ◌||◌, ◌++◌, nat_lt, Bool, List, [], ◌∷◌, codes, length, Result, Ok, Err, if◌then◌else◌}
use Rattle.std.specs.Char.{is_ascii_whitespace}
use Rattle.std.specs.Fmt.{decimal}
use Rattle.std.specs.List.{slice_split}
use Rattle.std.specs.Result.{result_map_both}
use Rattle.base64.specs.Engines.{standard}
use Rattle.base64.specs.GeneralPurpose.{decode_of}
use Rattle.cookie.specs.Keys.{key_bytes, key_length}
use Rattle.cookie_session.specs.declared.key_text_error.KeyTextError.{KeyTextError}
use Rattle.cookie_session.specs.declared.key_text_error.KeyTextError.TheVariants as refusal

-- between two keys stand commas or white space
abbrev pub is_between : ℕ → Bool
is_between byte = byte == 44 || is_ascii_whitespace byte

-- the texts between them
abbrev pub key_texts : List ℕ → List (List ℕ)
key_texts text = slice_split is_between text

-- the key in bytes, which the text at this place stands for: the first 64, if there are as many
abbrev pub key_in_bytes : ℕ → List ℕ → Result (List ℕ) KeyTextError
key_in_bytes place bytes =
    if nat_lt (length bytes) key_length then Err (refusal.TooShort place (length bytes))
    else Ok (key_bytes bytes)

-- the key in the text at this place, which is the padded base64 of its bytes (RFC 4648 4)
abbrev pub key_in : ℕ → List ℕ → Result (List ℕ) KeyTextError
key_in place text =
    elim (decode_of standard text) as (λ _. Result (List ℕ) KeyTextError) [
      | Ok bytes ↦ key_in_bytes place bytes
      | Err _ ↦ Err (refusal.NotBase64 place)
    ]

-- the keys in these texts, of which the first key is at this place, or the first refusal; an empty text has none
abbrev pub keys_in : ℕ → List (List ℕ) → Result (List (List ℕ)) KeyTextError
keys_in place [] = Ok []
keys_in place ([] ∷ texts) = keys_in place texts
keys_in place ((c ∷ cs) ∷ texts) =
    elim (key_in place (c ∷ cs)) as (λ _. Result (List (List ℕ)) KeyTextError) [
      | Ok key ↦ result_map_both (λ keys. key ∷ keys) (λ why. why) (keys_in (place + 1) texts)
      | Err why ↦ Err why
    ]

-- keys, of which there is one at least
abbrev pub some_keys : Result (List (List ℕ)) KeyTextError → Result (List (List ℕ)) KeyTextError
some_keys (Ok []) = Err refusal.Missing
some_keys (Ok (key ∷ keys)) = Ok (key ∷ keys)
some_keys (Err why) = Err why

-- the keys in a text
abbrev pub ring_in : List ℕ → Result (List (List ℕ)) KeyTextError
ring_in text = some_keys (keys_in 0 (key_texts text))

-- the text of a refusal
abbrev pub key_refusal_text : KeyTextError → List ℕ
key_refusal_text refusal.OutOfMemory = codes "out of memory"
key_refusal_text refusal.Missing = codes "no key"
key_refusal_text (refusal.NotBase64 place) =
    codes "key " ++ decimal place ++ codes " is no padded base64"
key_refusal_text (refusal.TooShort place count) =
    codes "key " ++ decimal place ++ codes " is too short: expected >= 64 bytes"
