-- Mirrors private code: where a cookie is put among stored ones.
use Rattle.std.specs.Prelude.{◌≡◌, ◌&&◌, ℕ, Bool, false, pos, [], None}
use Rattle.std.specs.BTreeMap.{BTreeMap, get}
use Rattle.std.specs.List.{position_from}
use Rattle.std.specs.Ordering.{nat_cmp, ordering_then}
use Rattle.std.specs.declared.cmp.Ordering.{Ordering}
use denote.Ref.{Bor}
use Rattle.jiff.specs.Types.{DateTime}
use Rattle.cookie_browser.specs.Storage.{KeptView, CookieStore, is_same_cookie, lasts}
use Rattle.cookie_browser.specs.declared.enforcement.Enforcement.TheVariants as enforcement
use Rattle.cookie_agent.specs.RowsCode.{AreRows, held}
use Rattle.cookie_agent.specs.Stored.{IsApart}
use Rattle.cookie_agent.specs.SumsCode.{sum_of}
use Rattle.cookie_agent.specs.declared.key.Key.{Key}
use Rattle.cookie_agent.specs.declared.rows.Rows.{Rows}
use Rattle.cookie_agent.specs.contracts.key.KeyOrd.TheImpl as key_ord

-- the old one isn't expired, and is the same cookie as the new one
abbrev pub gives_place : KeptView → DateTime → KeptView → Bool
gives_place cookie now old = lasts old.expiry now && is_same_cookie old cookie

-- a cookie of this key
abbrev pub key_view : Key → KeptView
key_view key =
    record {
      name = key.name.items;
      value = [];
      domain = key.domain.items;
      is_host_only = key.is_host_only;
      path = key.path.items;
      is_secure_only = false;
      is_http_only = false;
      same_site = enforcement.None;
      expiry = None;
      last_access = pos 0;
    }

-- a key after a sum
abbrev pub SummedKey : Type 0
SummedKey = ℕ × Bor Key

-- the sum is that of its name and its domain
abbrev pub IsSummed : SummedKey → Type 0
IsSummed key = key.0 ≡ sum_of key.1.now.name.items key.1.now.domain.items

-- by the sum, and then by the key
abbrev pub summed_key_cmp : SummedKey → SummedKey → Ordering
summed_key_cmp left right =
    ordering_then (nat_cmp left.0 right.0) ((key_ord.ghosts).cmp left.1.now right.1.now)

-- the map has the place of the first cookie of each key
abbrev pub ArePlaces : BTreeMap SummedKey ℕ → CookieStore → Type 0
ArePlaces places store =
    (key : SummedKey) → IsSummed key → get summed_key_cmp places key
    ≡ position_from (λ cookie. is_same_cookie cookie (key_view key.1.now)) 0 store

-- what a store knows of its cookies: no two are the same, and each is found
pub record AreStored (stored : Rows) : Type 0 where
  pub apart : IsApart (held stored.slots.items)
  pub rows : AreRows stored
