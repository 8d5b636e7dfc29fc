-- The jar that a child jar changes, and what it stores cookies with.
use Rattle.std.specs.Prelude.{◌≡◌, ℕ, List}
use Rattle.std.specs.Borrow.{MutBor}
use Rattle.cookie.specs.Jar.{JarState}
use Rattle.cookie.specs.declared.child.ChildJar.{ChildJar}

module _ {S : Type 0} where
  -- the jar as it is
  abbrev pub jar_of : ChildJar S → JarState
  jar_of child = child.jar.now

  -- what it stores cookies with
  abbrev pub storing_of : ChildJar S → S
  storing_of child = child.storing

  -- the child jar changes the jar of this reference
  abbrev pub Changes : ChildJar S → MutBor JarState → Type 0
  Changes child jar = child.jar.ghost_name ≡ jar.ghost_name

  -- both change the same jar, and store cookies alike
  abbrev pub ChangesSame : ChildJar S → ChildJar S → Type 0
  ChangesSame child other =
      (child.jar.ghost_name ≡ other.jar.ghost_name) × (child.storing ≡ other.storing)

-- the half of the key under which a child jar signs or seals
abbrev pub key_of : ChildJar (List ℕ) → List ℕ
key_of child = child.storing
