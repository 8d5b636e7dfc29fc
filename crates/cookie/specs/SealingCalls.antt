-- What a call that seals comes to (SP 800-38D 7.1). `Fits` says that the name and the value are within the limits of the
-- cipher, and `IsMade` what is made under a nonce.
use Rattle.std.specs.Prelude.{◌≡◌, ◌↔◌, ℕ, List, None, Result, Err, IfOk, OnOk}
use Rattle.cookie_core.specs.Memory.{Gives}
use Rattle.cookie_core.specs.Record.{CookieView}
use Rattle.cookie.specs.Sealing.{IsNonce, IsSealed, IsSealingOf, sealed_cookie, sealing}
use Rattle.cookie.specs.declared.jar_error.JarError.{JarError}
use Rattle.cookie.specs.declared.jar_error.JarError.TheVariants as refusal

-- what sealing under this nonce comes to
pub record IsNoncedCall {T : Type 0} (Fits : Type 0) (IsMade : List ℕ → T → Type 0)
    (nonce : List ℕ) (result : Result T JarError) : Type 0 where
  pub gives : Fits → Gives refusal.OutOfMemory result (IsMade nonce)
  pub within : OnOk result Fits
  -- past the cipher's limits it is refused as such
  pub too_long : (¬ Fits) ↔ (result ≡ Err refusal.TooLong)
  -- twelve bytes of an array are a nonce
  pub nonce_fits : IsNonce nonce

-- What sealing under a nonce that is drawn comes to. `IsDrawn` says which nonce the draw gave, `IsUndrawn` that nothing
-- was drawn, and `CanFail` that the generator can fail.
pub record IsDrawnCall {T : Type 0} (Fits : Type 0) (IsMade : List ℕ → T → Type 0)
    (IsDrawn : List ℕ → Type 0) (IsUndrawn CanFail : Type 0) (result : Result T JarError)
    : Type 0 where
  pub ok : IfOk result (λ made.
      (nonce : List ℕ) × IsNonce nonce × IsDrawn nonce × IsMade nonce made)
  pub within : OnOk result Fits
  -- out of memory comes only after the nonce was drawn
  pub drawn : result ≡ Err refusal.OutOfMemory
      → (nonce : List ℕ) × IsNonce nonce × IsDrawn nonce
  -- past the cipher's limits it is refused as such
  pub too_long : (¬ Fits) ↔ (result ≡ Err refusal.TooLong)
  pub undrawn : ¬ Fits → IsUndrawn
  pub failed : result ≡ Err refusal.Generator → CanFail

-- the text is the sealing of the value under this nonce, and so it is opened to it
pub record IsSealedText (key name value nonce text : List ℕ) : Type 0 where
  pub made : text ≡ sealing key name nonce value
  pub opens : IsSealed key name text value

-- the cookie as it is sealed: it stands for its value, and of what it lends only the value changes
pub record IsSealedAs (key : List ℕ) (cookie : CookieView) (nonce : List ℕ) (sealed : CookieView)
    : Type 0 where
  pub fields : sealed.fields ≡ sealed_cookie key nonce cookie.fields
  pub stands : IsSealingOf key sealed.fields cookie.fields.value
  pub raw : sealed.raw ≡ record cookie.raw { value = None }
