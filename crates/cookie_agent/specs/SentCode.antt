-- Mirrors private code: the cookies that are sent, as the code orders them.
use Rattle.std.specs.Prelude.{List, map, IsPermutation, IsSortedByKey}
use denote.Ref.{Bor}
use Rattle.std.specs.List.Sorted.{IsStableByKey}
use Rattle.cookie_agent.specs.Sent.{path_length, greater_first}
use Rattle.cookie_browser.specs.Storage.{CookieStore, KeptView}

-- the cookies that are borrowed
abbrev pub targets : List (Bor KeptView) → CookieStore
targets lent = map (λ c. c.now) lent

-- the same cookies with longer paths first, and else in the order that they had
pub record IsByPath (created ordered : CookieStore) : Type 0 where
  pub moved : IsPermutation created ordered
  pub longer_first : IsSortedByKey path_length greater_first ordered
  pub earlier_first : IsStableByKey path_length greater_first created ordered
