-- What the text of a fit cookie, and that of a removal, does to a client that reads it.
use Rattle.std.proofs.Common.{◌≡◌, ℕ, ℤ, ◌≤ℤ◌, true, false, cond, List, Option, Some, None, option_map, ◌⊎◌, inl, inr, refl, sym, ap, ◌∙◌, arith}
use Rattle.std.proofs.lemmas.Str.{IsUtf8-nil}
use Rattle.std.specs.Prelude.{int_lt}
use Rattle.jiff.specs.Types.{DateTime}
use Rattle.jiff.specs.Words.{civil_nanos}
use Rattle.jiff.proofs.SpanFacts.{signed_arith}
use Rattle.cookie.specs.CookieOf.{cookie_of}
use Rattle.cookie.specs.Expiration.{whole_second}
use Rattle.cookie.specs.Jar.{Name, Marked}
use Rattle.cookie.specs.Normal.{whole_age, IsNamed, IsExpiryReadBack}
use Rattle.cookie.specs.Record.{Record, IsCookie}
use Rattle.cookie.specs.Removal.{removal}
use Rattle.cookie.specs.Text.{cookie_text}
use Rattle.cookie.specs.Types.{Expiration}
use Rattle.cookie.specs.Types as expiration
use Rattle.cookie.proofs.ExpiryTextLemmas.{never_earlier}
use Rattle.cookie.proofs.NormalLemmas.{whole_age-above}
use Rattle.cookie.proofs.OutcomeLemmas.{live_outcome, removal_outcome}
use Rattle.cookie_client.specs.Calls.{IsFitAddition}
use Rattle.cookie_client.specs.Live.{is_later, is_live_by, is_live}
use Rattle.cookie_client.proofs.ReadTextLemmas.{effect, decided}

-- ---- a cookie that is live is live once it was printed and read

lt_le : (n a b : ℤ) → int_lt n a ≡ true → a ≤ℤ b → int_lt n b ≡ true
lt_le n a b lt le = grind (arith, signed_arith)

pub later_kept : (e back : Option Expiration) (now : DateTime) → IsExpiryReadBack e back → is_later e now ≡ true → is_later back now ≡ true
later_kept None None now is later = refl
later_kept None (Some x) now is later = absurd is
later_kept (Some expiration.Session) None now is later = refl
later_kept (Some expiration.Session) (Some x) now is later = absurd is
later_kept (Some (expiration.AtDateTime m)) None now is later = absurd is
later_kept (Some (expiration.AtDateTime m)) (Some expiration.Session) now is later = absurd is
later_kept (Some (expiration.AtDateTime m)) (Some (expiration.AtDateTime back)) now is later =
    lt_le (civil_nanos now) (civil_nanos (whole_second m)) (civil_nanos (whole_second back)) later (never_earlier m back is)

live_kept : (age back : Option ℤ) (e x : Option Expiration) (now : DateTime) → back ≡ option_map whole_age age → IsExpiryReadBack e x
    → is_live_by age e now ≡ true → is_live_by back x now ≡ true
live_kept None back e x now is readback live = ap (λ o. is_live_by o x now) is ∙ later_kept e x now readback live
live_kept (Some age) back e x now is readback live = ap (λ o. is_live_by o x now) is ∙ whole_age-above age ∙ live

-- the text of an added cookie is read with its value, as live
addition_read : (now : DateTime) (c : Record) → IsCookie c → IsFitAddition now c
    → (n : Record) × (cookie_of true (cookie_text true false c) ≡ Some n) × (n.value ≡ c.value) × (is_live n now ≡ true)
addition_read now c is fit =
    let (n, read, name, value, age, expires) = live_outcome c (record { cookie = is; name = fit.name }) fit.uncut in
    (n, read, value, live_kept c.max_age n.max_age c.expires n.expires now age expires fit.live)

-- ---- a removal

pub IsCookie-removal : (moment : DateTime) (c : Record) → IsCookie c → IsCookie (removal moment c)
IsCookie-removal moment c is =
    record { name = is.name; value = IsUtf8-nil; path = is.path; domain = is.domain; max_age = (omega (arith, signed_arith), omega (arith, signed_arith)) }

-- the text of a removal is read as a cookie that isn't live
removal_read : (now moment : DateTime) (c : Record) → IsNamed c
    → (n : Record) × (cookie_of true (cookie_text true false (removal moment c)) ≡ Some n) × (is_live n now ≡ false)
removal_read now moment c named =
    let (n, read, name, value, age) = removal_outcome (removal moment c) (record { cookie = IsCookie-removal moment c named.cookie; name = named.name }) refl in
    (n, read, ap (λ o. is_live_by o n.expires now) age)

-- ---- the entries of fit calls

-- an addition that a client can follow
pub record IsAddition (now : DateTime) (entry : Marked) : Type 0 where
  pub kept : entry.removed ≡ false
  pub cookie : IsCookie entry.cookie
  pub fit : IsFitAddition now entry.cookie

-- a removal of a cookie with a name
pub record IsRemoval (entry : Marked) : Type 0 where
  pub removed : entry.removed ≡ true
  pub cookie : Record
  pub moment : DateTime
  pub named : IsNamed cookie
  pub is : entry.cookie ≡ removal moment cookie

abbrev pub IsFitEntry : DateTime → Name → Marked → Type 0
IsFitEntry now name entry = IsAddition now entry ⊎ IsRemoval entry

-- its text sets the value, or drops it
pub decided_fit : (now : DateTime) (name : Name) (entry : Marked) → IsFitEntry now name entry → (before : Option (List ℕ))
    → decided now (Some entry) before ≡ cond entry.removed None (Some entry.cookie.value)
decided_fit now name entry (inl a) before =
    let (n, read, value, live) = addition_read now entry.cookie a.cookie a.fit in
    ap (λ o. effect now o before) read ∙ ap (λ b. cond b (Some n.value) None) live ∙ ap Some value
    ∙ sym (ap (λ b. cond b None (Some entry.cookie.value)) a.kept)
decided_fit now name entry (inr r) before =
    let (n, read, dead) = removal_read now r.moment r.cookie r.named in
    ap (λ c. effect now (cookie_of true (cookie_text true false c)) before) r.is ∙ ap (λ o. effect now o before) read ∙ ap (λ b. cond b (Some n.value) None) dead
    ∙ sym (ap (λ b. cond b None (Some entry.cookie.value)) r.removed)
