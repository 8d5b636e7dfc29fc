-- Mirrors private code: the order in which cookies go, and which stay, by their places.
use Rattle.std.specs.Prelude.{ℕ, suc, pos, ◌<◌, ◌≤◌, ◌≡◌, ◌==◌, ◌&&◌, Bool, true, false, List, [], ◌∷◌, All, map, count_by, nat_lt, slice_index_or, Option, Some, None}
use Rattle.std.specs.Ordering.{bool_cmp, int_cmp, is_lt, nat_cmp, ordering_then}
use Rattle.std.specs.declared.cmp.Ordering.{Ordering}
use Rattle.std.specs.Str.{bytes_eq}
use Rattle.cookie_browser.specs.Storage.{KeptView, CookieStore}
use Rattle.cookie_browser.specs.Suffixes.{Rule, site_domain}
use Rattle.cookie_browser.specs.declared.enforcement.Enforcement.TheVariants as enforcement
use Rattle.cookie_agent.specs.SumsCode.{summed_cmp}
use Rattle.cookie_agent.specs.declared.group.Group.{Group}
use Rattle.cookie_agent.specs.declared.group.Group.TheVariants.{Domain, Site, Whole}
use Rattle.cookie_agent.specs.declared.ranked.Ranked.{Ranked}

-- a cookie, its place in the order of creation, and the text that it is counted by
pub record Rank : Type 0 where
  pub place : ℕ
  pub text : List ℕ
  pub cookie : KeptView

abbrev pub rank_of : Ranked → Rank
rank_of ranked =
    record { place = ranked.place; text = ranked.text; cookie = ranked.cookie.now }

abbrev pub ranks : List Ranked → List Rank
ranks items = map rank_of items

-- no place that is asked for has this one
abbrev pub blank : KeptView
blank =
    record {
      name = [];
      value = [];
      domain = [];
      is_host_only = false;
      path = [];
      is_secure_only = false;
      is_http_only = false;
      same_site = enforcement.None;
      expiry = None;
      last_access = pos 0;
    }

-- the cookie at this place, which is counted by the text that a function makes of it
abbrev pub rank_at : (KeptView → List ℕ) → CookieStore → ℕ → Rank
rank_at text store place =
    record {
      place = place;
      text = text (slice_index_or store place blank);
      cookie = slice_index_or store place blank;
    }

-- the cookies at these places
abbrev pub picked : CookieStore → List ℕ → CookieStore
picked store places = map (λ place. slice_index_or store place blank) places

-- each is greater than the one before it, and the first is this or greater
abbrev pub Ascends : ℕ → List ℕ → Type 0
Ascends least [] = Unit {0}
Ascends least (place ∷ places) = (least ≤ place) × Ascends (suc place) places

-- the places ascend, and are below the length
abbrev pub IsInOrder : ℕ → List ℕ → Type 0
IsInOrder size places = Ascends 0 places × All (λ place. place < size) places

-- each place is there once at most
abbrev pub AreOnce : List Rank → Type 0
AreOnce items = (place : ℕ) → count_by (λ rank. rank.place == place) items ≤ 1

-- none comes before one that it follows
abbrev pub Rises : {X : Type 0} → (X → X → Bool) → List X → Type 0
Rises before [] = Unit {0}
Rises before (x ∷ xs) = All (λ y. before y x ≡ false) xs × Rises before xs

-- the text that the group counts a cookie by: its domain, its site, or none
abbrev pub text_of : List Rule → Group → KeptView → List ℕ
text_of rules Domain cookie = cookie.domain
text_of rules Site cookie = site_domain rules cookie.domain
text_of rules Whole cookie = []

-- what the group counts by, if it doesn't count all together
abbrev pub counted_by : List Rule → Group → Option (KeptView → List ℕ)
counted_by rules Whole = None
counted_by rules group = Some (text_of rules group)

-- the right one is counted with the left one
abbrev pub shares : Group → Rank → Rank → Bool
shares Whole left right = true
shares group left right = bytes_eq right.text left.text

-- by last access, and then by creation
abbrev pub access_cmp : Rank → Rank → Ordering
access_cmp left right =
    ordering_then (int_cmp left.cookie.last_access right.cookie.last_access)
    (nat_cmp left.place right.place)

-- by the text's sum, by the text, then those that aren't secure-only first, and then by last access
abbrev pub text_cmp : Rank → Rank → Ordering
text_cmp left right =
    ordering_then (summed_cmp left.text right.text)
    (ordering_then (bool_cmp left.cookie.is_secure_only right.cookie.is_secure_only)
    (access_cmp left right))

abbrev pub rank_cmp : Group → Rank → Rank → Ordering
rank_cmp Whole left right = access_cmp left right
rank_cmp group left right = text_cmp left right

abbrev pub comes_before : Group → Rank → Rank → Bool
comes_before group left right = is_lt (rank_cmp group left right)

-- the other one is of its group, and goes later
abbrev pub is_outlasted : Group → Rank → Rank → Bool
is_outlasted group rank other = shares group rank other && comes_before group rank other

-- fewer than the limit are of its group and go later
abbrev pub stays : Group → ℕ → List Rank → Rank → Bool
stays group limit items rank = nat_lt (count_by (is_outlasted group rank) items) limit
