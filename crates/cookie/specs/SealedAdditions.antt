-- What an addition through a private jar comes to. `addition` is `Add` or `AddOriginal`, the cookie is as it was passed
-- in, and `old` and `new` are the child jar before and after the call (SP 800-38D 7.1).
use Rattle.std.specs.Prelude.{◌≡◌, ◌↔◌, ℕ, List, Result, Err, OnOk, OnErr}
use Rattle.cookie_core.specs.Memory.{Gives}
use Rattle.cookie_core.specs.Record.{Record}
use Rattle.cookie.specs.ChildJars.{ChangesSame, jar_of, key_of}
use Rattle.cookie.specs.Jar.{Change, after}
use Rattle.cookie.specs.Sealing.{CanSeal, IsNonce, sealed_cookie}
use Rattle.cookie.specs.declared.child.ChildJar.{ChildJar}
use Rattle.cookie.specs.declared.jar_error.JarError.{JarError}
use Rattle.cookie.specs.declared.jar_error.JarError.TheVariants as refusal

-- what an addition under this nonce comes to
pub record IsSealedAddition (addition : Record → Change) (nonce : List ℕ) (cookie : Record)
    (old new : ChildJar (List ℕ)) (result : Result (Unit {0}) JarError) : Type 0 where
  pub gives : CanSeal cookie → Gives refusal.OutOfMemory result (λ _.
      jar_of new ≡ after (addition (sealed_cookie (key_of old) nonce cookie)) (jar_of old))
  pub within : OnOk result (CanSeal cookie)
  -- past the cipher's limits it is refused as such
  pub too_long : (¬ (CanSeal cookie)) ↔ (result ≡ Err refusal.TooLong)
  -- after any refusal the jar is as it was
  pub err : OnErr result (jar_of new ≡ jar_of old)
  pub same : ChangesSame new old
  -- twelve bytes of an array are a nonce
  pub nonce_fits : IsNonce nonce

-- What an addition under a nonce that is drawn comes to. `IsDrawn` says which nonce the draw gave, `IsUndrawn` that
-- nothing was drawn, and `CanFail` that the generator can fail.
pub record IsDrawnAddition (addition : Record → Change) (IsDrawn : List ℕ → Type 0)
    (IsUndrawn CanFail : Type 0) (cookie : Record) (old new : ChildJar (List ℕ))
    (result : Result (Unit {0}) JarError) : Type 0 where
  pub ok : OnOk result ((nonce : List ℕ) × IsNonce nonce × IsDrawn nonce
      × (jar_of new ≡ after (addition (sealed_cookie (key_of old) nonce cookie)) (jar_of old)))
  pub within : OnOk result (CanSeal cookie)
  -- out of memory comes only after the nonce was drawn
  pub drawn : result ≡ Err refusal.OutOfMemory
      → (nonce : List ℕ) × IsNonce nonce × IsDrawn nonce
  -- past the cipher's limits it is refused as such
  pub too_long : (¬ (CanSeal cookie)) ↔ (result ≡ Err refusal.TooLong)
  pub undrawn : ¬ (CanSeal cookie) → IsUndrawn
  pub failed : result ≡ Err refusal.Generator → CanFail
  -- after any refusal the jar is as it was
  pub err : OnErr result (jar_of new ≡ jar_of old)
  pub same : ChangesSame new old
