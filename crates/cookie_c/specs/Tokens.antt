-- Tokens for C: `old` is the buffer at the call and `new` at the return.
use Rattle.std.specs.Prelude.{◌≡◌, ℕ, ◌<◌, ◌≤◌, ◌⊎◌, List, IsUtf8, Option, Some, None, replicate}
use Rattle.jiff.specs.Types.{DateTime}
use Rattle.cookie_session.specs.Tokens.{CanMakeToken, IsReadUntilEnd, IsToken, TokenState, made_token, new_token, token_id}
use Rattle.cookie_session.specs.declared.tokens.Tokens.{Tokens}
use Rattle.cookie_c.specs.Answers.{IsGiven, IsRefused}
use Rattle.cookie_c.specs.Sites.{IsAtSecond, last_second}
use Rattle.cookie_c.specs.Codes.{code_of}
use Rattle.cookie_c.specs.declared.answer.Answer.{Answer}
use Rattle.cookie_c.specs.declared.status.Status.{Status}
use Rattle.cookie_c.specs.declared.status.Status.TheVariants as status
use Rattle.cookie_c.specs.declared.tokens.TokenSettings.{TokenSettings}
use Rattle.cookie_c.specs.declared.tokens.reading.TokenReading.{TokenReading}

-- the settings' purpose and the text that is passed in are UTF-8
abbrev pub AreUtf8 : TokenSettings → List ℕ → Type 0
AreUtf8 settings text = IsUtf8 settings.purpose.now × IsUtf8 text

-- the tokens have these keys and the settings' purpose and lifetime, and the text and the second can be used
pub record IsTokenCall (ring : List (List ℕ)) (settings : TokenSettings) (text : List ℕ) (now : ℕ)
    (site : Tokens) (time : DateTime) : Type 0 where
  pub keys : site.keys.now ≡ ring
  pub purpose : site.purpose.now ≡ settings.purpose.now
  pub lifetime : site.lifetime ≡ settings.lifetime
  pub texts : AreUtf8 settings text
  pub dated : (now ≤ last_second) × IsAtSecond now time

-- why the settings, the text or the second are refused: the purpose and the text come first, and then the second
abbrev pub IsTokenRefusal : TokenSettings → List ℕ → ℕ → Status → Type 0
IsTokenRefusal settings text now why =
    ((why ≡ status.NotUtf8) × ¬ AreUtf8 settings text)
    ⊎ ((why ≡ status.NoDate) × AreUtf8 settings text × (last_second < now))

-- the settings, the text and the time are valid, and `Holds` is true for them; or a refusal as `IsTokenRefusal` says
abbrev pub CallsTokens : List (List ℕ) → TokenSettings → List ℕ → ℕ
    → (Tokens → DateTime → Type 0) → (Status → Type 0) → Type 0
CallsTokens keys settings text now Holds Refuses =
    ((site : Tokens) × (time : DateTime) × IsTokenCall keys settings text now site time
    × Holds site time)
    ⊎ ((why : Status) × IsTokenRefusal settings text now why × Refuses why)

-- How a token is made under this nonce: it is too long, or the token is given, and is read until its lifetime ends.
-- Memory may run out in any case.
pub record MakesToken (site : Tokens) (nonce : List ℕ) (time : DateTime) (value : List ℕ)
    (answer : Answer) (old new : List ℕ) : Type 0 where
  pub too_long : ¬ CanMakeToken site time value
      → IsRefused status.TooLong answer old new ⊎ IsRefused status.OutOfMemory answer old new
  pub made : CanMakeToken site time value
      → (IsGiven (made_token site nonce time value) answer old new
      × IsReadUntilEnd site (made_token site nonce time value) (new_token site time value))
      ⊎ IsRefused status.OutOfMemory answer old new

-- what is told where there is no token, for this reason
abbrev pub unread_token : Status → TokenReading
unread_token why =
    record { status = code_of why; length = 0; made = 0; end = 0; id = replicate 16 0 }

-- the token's value is given, and its times and its id are told
pub record IsGivenToken (token : TokenState) (id : List ℕ) (reading : TokenReading)
    (old new : List ℕ) : Type 0 where
  pub value : IsGiven token.value (record { status = reading.status; length = reading.length })
      old new
  pub times : (reading.made ≡ token.made) × (reading.end ≡ token.end)
  pub named : reading.id ≡ id

-- how a text is read: it is a token, which is given; or it is none; or memory ran out
abbrev pub ReadsToken : Tokens → DateTime → List ℕ → TokenReading → List ℕ → List ℕ → Type 0
ReadsToken site time text reading old new =
    ((token : TokenState) × IsToken site time text token
    × IsGivenToken token (token_id text) reading old new)
    ⊎ ((((token : TokenState) → ¬ IsToken site time text token)
    × (reading ≡ unread_token status.NotSealed) × (new ≡ old))
    ⊎ ((reading ≡ unread_token status.OutOfMemory) × (new ≡ old)))

-- how these keys make a token of the value under this nonce, in this second
abbrev pub MakesTokenBy : TokenSettings → List ℕ → ℕ → List ℕ → List (List ℕ) → Answer → List ℕ
    → List ℕ → Type 0
MakesTokenBy settings nonce now value keys answer old new =
    CallsTokens keys settings value now
    (λ site time. MakesToken site nonce time value answer old new)
    (λ why. IsRefused why answer old new)

-- how these keys read a text, in this second
abbrev pub ReadsTokenBy : TokenSettings → ℕ → List ℕ → List (List ℕ) → TokenReading → List ℕ
    → List ℕ → Type 0
ReadsTokenBy settings now text keys reading old new =
    CallsTokens keys settings text now
    (λ site time. ReadsToken site time text reading old new)
    (λ why. (reading ≡ unread_token why) × (new ≡ old))

-- what is told by the keys of a handle; if it has none, nothing is read
abbrev pub TellsToken : (List (List ℕ) → TokenReading → List ℕ → List ℕ → Type 0)
    → Option (List (List ℕ)) → TokenReading → List ℕ → List ℕ → Type 0
TellsToken By None reading old new = (reading ≡ unread_token status.NoKeys) × (new ≡ old)
TellsToken By (Some keys) reading old new = By keys reading old new
