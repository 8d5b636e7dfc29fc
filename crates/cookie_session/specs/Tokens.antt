-- Tokens: values that are sealed for a purpose of the site, until a second.
use Rattle.std.specs.Coded.{Coded, code_by, coded×, coded_list, coded_ℕ}
use Rattle.std.specs.Prelude.{◌≡◌, ◌↔◌, ℕ, ◌+◌, ◌<◌, ◌^◌, ◌++◌, List, Some, codes, refl, take}
use Rattle.std.specs.Fmt.{decimal}
use Rattle.jiff.specs.Types.{DateTime}
use Rattle.cookie.specs.Keys.{encryption_half}
use Rattle.cookie.specs.Purposes.{IsSealableFor, purpose_data, sealing_for}
use Rattle.cookie_session.specs.KeyRing.{OpensTextAt, newest}
use Rattle.cookie_session.specs.Seconds.{second_of}
use Rattle.cookie_session.specs.Sessions.{session_purpose}
use Rattle.cookie_session.specs.declared.tokens.Tokens.{Tokens}

-- what the values of tokens are sealed for, whatever the purpose that the site names
abbrev pub token_purpose : List ℕ
token_purpose = codes "token v=2"

-- a token: when it was made and when it ends, in seconds since 1970 in UTC, and its value
pub record TokenState : Type 0 where
  pub made : ℕ
  pub end : ℕ
  pub value : List ℕ

-- how a token is stored, as a pair
abbrev pub token_code : Coded TokenState
token_code =
    code_by (ℕ × (ℕ × List ℕ)) (coded× coded_ℕ (coded× coded_ℕ (coded_list coded_ℕ)))
    (λ token. (token.made, (token.end, token.value)))
    (λ parts. record {
      made = parts.0;
      end = parts.1.0;
      value = parts.1.1;
    }) (λ _. refl)

-- what is sealed: both seconds, with a blank after each, and the value
abbrev pub token_text : TokenState → List ℕ
token_text token =
    decimal token.made ++ (codes " " ++ (decimal token.end ++ (codes " " ++ token.value)))

-- The text is this token at this time: it is sealed for the site's purpose, by the key at this place, the newest that
-- opens the text. Its seconds are numbers of 64 bits. Neither its own end is over, nor the lifetime that the site has now
-- (RFC 7519 4.1.4).
pub record IsToken (site : Tokens) (now : DateTime) (text : List ℕ) (token : TokenState)
    : Type 0 where
  pub place : ℕ
  pub fits : (token.made < 2 ^ 64) × (token.end < 2 ^ 64)
  pub own : second_of now < token.end
  pub young : second_of now < token.made + site.lifetime
  pub sealed : OpensTextAt (Some token_purpose) site.keys.now place site.purpose.now text
      (token_text token)

-- the token of this value that is made at this time
abbrev pub new_token : Tokens → DateTime → List ℕ → TokenState
new_token site now value =
    record { made = second_of now; end = second_of now + site.lifetime; value = value }

-- it is within the limits of the cipher
abbrev pub CanMakeToken : Tokens → DateTime → List ℕ → Type 0
CanMakeToken site now value =
    IsSealableFor token_purpose site.purpose.now (token_text (new_token site now value))

-- its text under this nonce, by the newest key
abbrev pub made_token : Tokens → List ℕ → DateTime → List ℕ → List ℕ
made_token site nonce now value =
    sealing_for (encryption_half (newest site.keys.now)) token_purpose site.purpose.now nonce
    (token_text (new_token site now value))

-- It is this token and no other, at each time before its end, and at no other.
abbrev pub IsReadUntilEnd : Tokens → List ℕ → TokenState → Type 0
IsReadUntilEnd site text token =
    (later : DateTime) (other : TokenState)
    → IsToken site later text other ↔ ((other ≡ token) × (second_of later < token.end))

-- a token's id: the first sixteen characters of its text, which are those of its nonce
abbrev pub token_id : List ℕ → List ℕ
token_id text = take 16 text

-- a token's associated data is no session's
abbrev pub IsNoSession : List ℕ → Type 0
IsNoSession purpose = (name : List ℕ)
    → ¬ (purpose_data token_purpose purpose ≡ purpose_data session_purpose name)

-- ---- Mirrors private code (src/tokens.rt)

-- the text is a number of 64 bits, a blank, and the rest
abbrev pub IsNumbered : List ℕ → ℕ → List ℕ → Type 0
IsNumbered text number rest =
    (number < 2 ^ 64) × (text ≡ decimal number ++ (codes " " ++ rest))

-- this token is sealed, and neither its end nor this lifetime is over
pub record HoldsAt (second lifetime : ℕ) (text : List ℕ) (token : TokenState) : Type 0 where
  pub fits : (token.made < 2 ^ 64) × (token.end < 2 ^ 64)
  pub own : second < token.end
  pub young : second < token.made + lifetime
  pub written : text ≡ token_text token
