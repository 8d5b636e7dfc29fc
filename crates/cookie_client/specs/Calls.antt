-- What each call on a jar changes, and what each call is to a client.
use Rattle.std.specs.Prelude.{◌≡◌, ◌≢◌, ℕ, Bool, true, false, List, [], map, string_bytes}
use Rattle.jiff.specs.Types.{DateTime}
use Rattle.cookie.specs.History.{accepted_items}
use Rattle.cookie.specs.Jar.{Name, Change, AddOriginal, Add, Remove, ForceRemove, ResetDelta}
use Rattle.cookie.specs.Keys.{encryption_half, signing_half}
use Rattle.cookie.specs.Normal.{IsUncut}
use Rattle.cookie.specs.Prefixes.{conforming_cookie, host_prefix, host_bound, secure_prefix, secure_cookie}
use Rattle.cookie.specs.Record.{Record, IsCookie}
use Rattle.cookie.specs.Sealing.{CanSeal, sealed_cookie}
use Rattle.cookie.specs.Signing.{signed_cookie}
use Rattle.cookie_client.specs.Live.{is_live}
use Rattle.cookie_client.specs.declared.call.JarCall.{JarCall}
use Rattle.cookie_client.specs.declared.call.JarCall.TheVariants as calls
use Rattle.cookie_client.specs.declared.child_call.ChildCall.{ChildCall}
use Rattle.cookie_client.specs.declared.child_call.ChildCall.TheVariants as child
use Rattle.cookie_client.specs.declared.prefix_kind.PrefixKind.{PrefixKind}
use Rattle.cookie_client.specs.declared.prefix_kind.PrefixKind.TheVariants as kinds

-- ---- what a jar stores

-- what a jar makes of a cookie that is added, and of one that is removed
pub record Handling : Type 0 where
  pub stored : Record → Record
  pub dropped : Record → Record

abbrev pub handling : (Record → Record) → (Record → Record) → Handling
handling stored dropped = record { stored = stored; dropped = dropped }

-- what stands before the names of a kind of prefix
abbrev pub prefix_of : PrefixKind → Name
prefix_of kinds.Host = host_prefix
prefix_of kinds.Secure = secure_prefix

-- what conforming to it makes of a cookie
abbrev pub conformed_to : PrefixKind → Record → Record
conformed_to kinds.Host = host_bound
conformed_to kinds.Secure = secure_cookie

-- the cookie as a child jar of this prefix stores it
abbrev pub stored_with : PrefixKind → Record → Record
stored_with kind cookie = conforming_cookie (prefix_of kind) (conformed_to kind) cookie

-- how the child jars of a prefix and of a key store cookies; for a key, what is removed stays as it is
abbrev pub prefixed_by : PrefixKind → Handling
prefixed_by kind = handling (stored_with kind) (stored_with kind)

abbrev pub signed_by : List ℕ → Handling
signed_by key = handling (signed_cookie (signing_half key)) (λ cookie. cookie)

abbrev pub sealed_by : List ℕ → List ℕ → Handling
sealed_by key nonce = handling (sealed_cookie (encryption_half key) nonce) (λ cookie. cookie)

-- how the jar of a call stores cookies: a child jar in its way, and the jar itself as they are
abbrev pub handling_of : JarCall → Handling
handling_of (calls.Prefixed kind call) = prefixed_by kind
handling_of (calls.Signed key call) = signed_by key.now
handling_of (calls.Private key nonce call) = sealed_by key.now nonce
handling_of call = handling (λ cookie. cookie) (λ cookie. cookie)

-- the change with its cookie as it is stored
abbrev pub stored_by : Handling → Change → Change
stored_by handling (AddOriginal cookie) = AddOriginal (handling.stored cookie)
stored_by handling (Add cookie) = Add (handling.stored cookie)
stored_by handling (Remove cookie now) = Remove (handling.dropped cookie) now
stored_by handling change = change

-- ---- what a call asks for

-- the change that a call on a child jar asks for, with its cookie as it was passed in
abbrev pub asked_of_child : ChildCall → Change
asked_of_child (child.AddOriginal cookie) = AddOriginal cookie.fields
asked_of_child (child.Add cookie) = Add cookie.fields
asked_of_child (child.Remove cookie now) = Remove cookie.fields now

-- `asked_of_child` for any call
abbrev pub asked_of : JarCall → Change
asked_of (calls.AddOriginal cookie) = AddOriginal cookie.fields
asked_of (calls.Add cookie) = Add cookie.fields
asked_of (calls.Remove cookie now) = Remove cookie.fields now
asked_of (calls.ForceRemove name) = ForceRemove (string_bytes name)
asked_of calls.ResetDelta = ResetDelta
asked_of (calls.Prefixed kind call) = asked_of_child call
asked_of (calls.Signed key call) = asked_of_child call
asked_of (calls.Private key nonce call) = asked_of_child call

-- the change that a call makes, with its cookie as it is stored
abbrev pub change_of : JarCall → Change
change_of call = stored_by (handling_of call) (asked_of call)

-- the changes of the calls whose outcome is true
abbrev pub changes_of : List Bool → List JarCall → List Change
changes_of outcomes calls = map change_of (accepted_items outcomes calls)

-- the change's cookie meets `Cookie`'s invariant
abbrev pub IsKnownChange : Change → Type 0
IsKnownChange (AddOriginal cookie) = IsCookie cookie
IsKnownChange (Add cookie) = IsCookie cookie
IsKnownChange (Remove cookie now) = IsCookie cookie
IsKnownChange change = Unit {0}

-- ---- which calls are accepted

-- a change that is never refused
abbrev pub is_certain : Change → Bool
is_certain (ForceRemove name) = true
is_certain ResetDelta = true
is_certain change = false

-- an addition of a cookie that is past the limits of sealing (SP 800-38D 5.2.1.1)
abbrev pub IsTooLong : Change → Type 0
IsTooLong (AddOriginal cookie) = ¬ (CanSeal cookie)
IsTooLong (Add cookie) = ¬ (CanSeal cookie)
IsTooLong change = ⊥

-- such an addition through a private jar, which is always refused
abbrev pub IsUnsealable : JarCall → Type 0
IsUnsealable (calls.Private key nonce call) = IsTooLong (asked_of_child call)
IsUnsealable call = ⊥

-- the outcome of a call: true for one that is never refused, false for one that always is; the cookie in the change of
-- an accepted one is what the type of a cookie says
pub record IsOutcome (call : JarCall) (outcome : Bool) : Type 0 where
  pub accepted : is_certain (change_of call) ≡ true → outcome ≡ true
  pub refused : IsUnsealable call → outcome ≡ false
  pub known : outcome ≡ true → IsKnownChange (change_of call)

-- ---- which calls a client can follow

-- an addition that isn't an original, or a removal
abbrev pub is_change : Change → Bool
is_change (Add cookie) = true
is_change (Remove cookie now) = true
is_change change = false

-- an added cookie that a client can follow: it has a name, it is live at the moment, and its path and
-- its domain, where they are set, hold no `;`
pub record IsFitAddition (now : DateTime) (cookie : Record) : Type 0 where
  pub name : cookie.name ≢ []
  pub live : is_live cookie now ≡ true
  pub uncut : IsUncut cookie

-- a change that a client can follow at the moment
abbrev pub IsFit : DateTime → Change → Type 0
IsFit now (AddOriginal cookie) = cookie.name ≢ []
IsFit now (Add cookie) = IsFitAddition now cookie
IsFit now (Remove cookie moment) = cookie.name ≢ []
IsFit now change = Unit {0}

-- a call that a client can follow at the moment; the cookie is looked at as it was passed in
abbrev pub IsFitCall : DateTime → JarCall → Type 0
IsFitCall now call = IsFit now (asked_of call)
