-- The cookies that a user agent sends (RFC 6265bis, Retrieval Algorithm).
use Rattle.std.specs.Prelude.{◌≡◌, ℕ, List, [], ◌∷◌, ◌++◌, map, filter, length, IsPermutation, IsSortedByKey, if◌then◌else◌}
use Rattle.std.specs.List.Sorted.{IsStableByKey}
use Rattle.std.specs.Ordering.{nat_cmp}
use Rattle.std.specs.Str.{bytes_eq}
use Rattle.std.specs.declared.cmp.Ordering.{Ordering}
use Rattle.jiff.specs.Types.{DateTime}
use Rattle.jiff.specs.Words.{civil_nanos}
use Rattle.cookie.specs.Header.{joined_texts}
use Rattle.cookie.specs.Separators.{equals_sign}
use Rattle.cookie_browser.specs.Request.{RequestView}
use Rattle.cookie_browser.specs.Storage.{KeptView, CookieStore, is_sent}

-- the cookies that are sent, in the order of their creation
abbrev pub visible : RequestView → DateTime → CookieStore → CookieStore
visible site now store = filter (is_sent site now) store

-- the values, as they are stored, of the cookies of a stored name that the site sees
abbrev pub seen : RequestView → DateTime → CookieStore → List ℕ → List (List ℕ)
seen site now store name =
    map (λ c. c.value) (filter (λ c. bytes_eq c.name name) (visible site now store))

-- the cookie after the request: if it was sent, the time is its last access
abbrev pub accessed : RequestView → DateTime → KeptView → KeptView
accessed site now cookie =
    if is_sent site now cookie then record cookie { last_access = civil_nanos now } else cookie

-- the name and an `=`, or nothing if there is no name
abbrev pub name_part : List ℕ → List ℕ
name_part [] = []
name_part (byte ∷ bytes) = (byte ∷ bytes) ++ equals_sign ∷ []

-- the cookie as it is in the header
abbrev pub sent_pair : KeptView → List ℕ
sent_pair cookie = name_part cookie.name ++ cookie.value

-- the header of the cookies that are sent, in some order
pub record IsHeader (site : RequestView) (now : DateTime) (store : CookieStore)
    (header : List ℕ) : Type 0 where
  pub cookies : CookieStore
  pub sent : IsPermutation (visible site now store) cookies
  pub text : header ≡ joined_texts (map sent_pair cookies)

-- the length of a cookie's path
abbrev pub path_length : KeptView → ℕ
path_length cookie = length cookie.path

-- the greater number first
abbrev pub greater_first : ℕ → ℕ → Ordering
greater_first a b = nat_cmp b a

-- the header with longer paths first, and the earlier creation first among equals
pub record IsOrderedHeader (site : RequestView) (now : DateTime) (store : CookieStore)
    (header : List ℕ) : Type 0 where
  pub is : IsHeader site now store header
  pub longer_first : IsSortedByKey path_length greater_first is.cookies
  pub earlier_first : IsStableByKey path_length greater_first (visible site now store) is.cookies
