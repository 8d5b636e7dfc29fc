-- What is revoked for good: a pass, which all copies of a session's cookie have.
use Rattle.std.specs.Prelude.{◌≡◌, ◌⊎◌, ◌<◌, ◌≤◌, ℕ, Bool, false, List, Option, Some}
use Rattle.cookie_session.specs.Revocations.{AreSame, IsRevoked, IsRevokedToo}
use Rattle.cookie_session.specs.declared.pass.Pass.{Pass}

-- the pass was neither over nor revoked, and now it is revoked until its own end
abbrev pub IsSpent : ℕ → Pass → (List ℕ → ℕ → Type 0) → (List ℕ → ℕ → Type 0) → Type 0
IsSpent now pass old new =
    (now < pass.end) × (¬ IsRevoked old pass.id) × IsRevokedToo pass.id pass.end old new

-- the pass was over, or revoked already
abbrev pub IsGone : ℕ → Pass → (List ℕ → ℕ → Type 0) → (List ℕ → ℕ → Type 0) → Type 0
IsGone now pass old new =
    ((pass.end ≤ now) × AreSame old new)
    ⊎ (IsRevoked old pass.id × IsRevokedToo pass.id pass.end old new)

-- the pass may be revoked until its own end
abbrev pub MayBeSpent : Pass → (List ℕ → ℕ → Type 0) → (List ℕ → ℕ → Type 0) → Type 0
MayBeSpent pass old new = AreSame old new ⊎ IsRevokedToo pass.id pass.end old new

-- the user agent has a pass that isn't over, and a store that was asked to revoke it says that it wasn't revoked before
abbrev pub IsEndedBy : ℕ → Bool → Option Pass → Type 0
IsEndedBy now was_revoked given =
    (pass : Pass) × (given ≡ Some pass) × (now < pass.end) × (was_revoked ≡ false)
