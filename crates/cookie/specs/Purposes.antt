-- Values that are sealed for a purpose, as base64url without padding (RFC 4648 5).
use Rattle.std.specs.Prelude.{◌≡◌, ℕ, List, ◌∷◌, ◌++◌, IsUtf8}
use Rattle.base64.specs.Engines.{url_safe_no_pad}
use Rattle.cookie.specs.Sealing.{IsSealable, IsSealedWith, sealed_text}

-- the associated data: no text has the byte 255 (RFC 3629 3)
abbrev pub purpose_data : List ℕ → List ℕ → List ℕ
purpose_data purpose name = 255 ∷ (purpose ++ 255 ∷ name)

-- the name's data for the purpose is no name, and no other purpose or name has it
pub record IsApart (purpose name : List ℕ) : Type 0 where
  pub from_names : (other : List ℕ) → IsUtf8 other → ¬ (purpose_data purpose name ≡ other)
  pub from_purposes : (other_purpose other : List ℕ) → IsUtf8 other_purpose → IsUtf8 other
      → purpose_data purpose name ≡ purpose_data other_purpose other
      → (purpose ≡ other_purpose) × (name ≡ other)

-- they are within the limits of the cipher (SP 800-38D 5.2.1.1)
abbrev pub IsSealableFor : List ℕ → List ℕ → List ℕ → Type 0
IsSealableFor purpose name value = IsSealable (purpose_data purpose name) value

-- the sealing of a value
abbrev pub sealing_for : List ℕ → List ℕ → List ℕ → List ℕ → List ℕ → List ℕ
sealing_for key purpose name nonce value =
    sealed_text url_safe_no_pad key (purpose_data purpose name) nonce value

-- the text is a sealing of the value
abbrev pub IsSealedFor : List ℕ → List ℕ → List ℕ → List ℕ → List ℕ → Type 0
IsSealedFor key purpose name text value =
    IsSealedWith url_safe_no_pad key (purpose_data purpose name) text value

-- the text is the sealing of the value under this nonce, and so it is opened to it, and to nothing else
pub record IsTextFor (key purpose name value nonce text : List ℕ) : Type 0 where
  pub made : text ≡ sealing_for key purpose name nonce value
  pub opens : IsSealedFor key purpose name text value
  pub only : (other : List ℕ) → IsSealedFor key purpose name text other → other ≡ value
