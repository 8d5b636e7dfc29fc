-- Mirrors private code: stored cookies, each in a slot. A slot may be empty.
use Rattle.std.specs.Prelude.{◌≡◌, ◌+◌, ℕ, ℤ, Bool, false, List, Option, Some, None, length, slice_index_or}
use Rattle.std.specs.List.{filter_map}
use Rattle.cookie_browser.specs.Storage.{KeptView, CookieStore}
use Rattle.cookie_agent.specs.ExpiriesCode.{IsTimed}
use Rattle.cookie_agent.specs.IndexCode.{Lists}
use Rattle.cookie_agent.specs.declared.domain_index.DomainIndex.{DomainIndex}
use Rattle.cookie_agent.specs.declared.expiries.Expiries.{Expiries}
use Rattle.cookie_agent.specs.declared.rows.Rows.{Rows}

abbrev pub Slots : Type 0
Slots = List (Option KeptView)

-- the cookies of the slots, in their order
abbrev pub held : Slots → CookieStore
held slots = filter_map (λ slot. slot) slots

-- what the slot has; none is after the last
abbrev pub slot_at : Slots → ℕ → Option KeptView
slot_at slots place = slice_index_or slots place None

-- it has a cookie that passes the test
abbrev pub has : (KeptView → Bool) → Option KeptView → Bool
has test None = false
has test (Some cookie) = test cookie

-- the expiry of what the slot has
abbrev pub expiry_at : Option KeptView → Option ℤ
expiry_at None = None
expiry_at (Some cookie) = cookie.expiry

-- each slot that isn't empty is at the domain of its cookie
abbrev pub AreListed : DomainIndex → Slots → Type 0
AreListed index slots =
    (place : ℕ) (cookie : KeptView) → slot_at slots place ≡ Some cookie
    → Lists index cookie.domain place

-- each slot that isn't empty is at the expiry of its cookie, if that has one
abbrev pub AreTimed : Expiries → Slots → Type 0
AreTimed expiries slots =
    (place : ℕ) (cookie : KeptView) → slot_at slots place ≡ Some cookie
    → IsTimed expiries place cookie.expiry

-- each cookie is found by its domain and its expiry, and the empty slots are counted
pub record AreRows (rows : Rows) : Type 0 where
  pub listed : AreListed rows.index rows.slots.items
  pub timed : AreTimed rows.expiries rows.slots.items
  pub counted : rows.empty + length (held rows.slots.items) ≡ length rows.slots.items
