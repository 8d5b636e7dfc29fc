-- The prefixes of cookie names that browsers enforce: two of RFC 6265bis (Cookie Name Prefixes), and two of Chromium.
use Rattle.std.specs.Prelude.{ℕ, ◌&&◌, ◌||◌, not, Bool, true, false, List, [], ◌∷◌, Option, codes}
use Rattle.std.specs.List.{find, list_any}
use Rattle.std.specs.Option.{is_some}
use Rattle.cookie_core.specs.SentNames.{begins_in_any_case}
use Rattle.cookie_core.specs.declared.enforced_prefix.EnforcedPrefix.{EnforcedPrefix}
use Rattle.cookie_core.specs.declared.enforced_prefix.EnforcedPrefix.TheVariants as enforced
use Rattle.cookie_core.specs.declared.guards.Guards.{Guards}

-- ---- the table

-- each prefix, in the order in which they are tested
unfoldable pub enforced_prefixes : List EnforcedPrefix
enforced_prefixes = enforced.Secure ∷ enforced.Host ∷ enforced.Http ∷ enforced.HostHttp ∷ []

-- its text
abbrev pub prefix_text : EnforcedPrefix → List ℕ
prefix_text enforced.Secure = codes "__Secure-"
prefix_text enforced.Host = codes "__Host-"
prefix_text enforced.Http = codes "__Http-"
prefix_text enforced.HostHttp = codes "__Host-Http-"

-- what it requires of a cookie
abbrev pub required : EnforcedPrefix → Guards
required enforced.Secure =
    record { is_secure = true; is_http_only = false; is_host_bound = false }
required enforced.Host =
    record { is_secure = true; is_http_only = false; is_host_bound = true }
required enforced.Http =
    record { is_secure = true; is_http_only = true; is_host_bound = false }
required enforced.HostHttp =
    record { is_secure = true; is_http_only = true; is_host_bound = true }

-- ---- the rule

-- the first have each guard that the second have
abbrev pub covers : Guards → Guards → Bool
covers has needs =
    (has.is_secure || not needs.is_secure)
    && ((has.is_http_only || not needs.is_http_only)
    && (has.is_host_bound || not needs.is_host_bound))

-- the text begins with the prefix, in any ASCII case
abbrev pub has_prefix : EnforcedPrefix → List ℕ → Bool
has_prefix prefix text = begins_in_any_case (prefix_text prefix) text

-- the text begins with one of the prefixes
abbrev pub has_any_prefix : List ℕ → Bool
has_any_prefix text = list_any (λ prefix. has_prefix prefix text) enforced_prefixes

-- the first prefix of the name that requires more than these guards
abbrev pub unmet_prefix : List ℕ → Guards → Option EnforcedPrefix
unmet_prefix name guards =
    find (λ prefix. has_prefix prefix name && not (covers guards (required prefix)))
    enforced_prefixes

-- the guards are what the prefixes of the name require
abbrev pub meets_prefixes : List ℕ → Guards → Bool
meets_prefixes name guards = not (is_some (unmet_prefix name guards))

-- a prefix of the name requires `HttpOnly`
abbrev pub needs_http_only : List ℕ → Bool
needs_http_only name =
    list_any (λ prefix. has_prefix prefix name && (required prefix).is_http_only)
    enforced_prefixes
