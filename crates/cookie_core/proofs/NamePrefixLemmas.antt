-- What the table of prefixes says of one name and one cookie.
use Rattle.std.proofs.Common.{◌≡◌, ◌&&◌, ◌||◌, not, Bool, true, false, cond, ℕ, List, [], ◌∷◌, Some, None, Contains, refl, sym, ap, ◌∙◌, arith}
use Rattle.std.proofs.lemmas.Bool.{and_parts, false≢true}
use Rattle.std.proofs.lemmas.List.Folds.{list_any-from_Any}
use Rattle.std.specs.List.{find, list_all, list_any}
use Rattle.std.specs.Str.{IsUtf8}
use Rattle.cookie_core.specs.Escapes.{escape, is_escaped}
use Rattle.cookie_core.specs.NamePrefixes.{covers, enforced_prefixes, has_any_prefix, has_prefix, needs_http_only, prefix_text, required, unmet_prefix}
use Rattle.cookie_core.specs.declared.enforced_prefix.EnforcedPrefix.{EnforcedPrefix}
use Rattle.cookie_core.specs.declared.enforced_prefix.EnforcedPrefix.TheVariants as enforced
use Rattle.cookie_core.specs.declared.guards.Guards.{Guards}
use Rattle.cookie_core.proofs.EscapeTextLemmas.{unescape-escape, utf8_is_bytes}
use Rattle.cookie_core.proofs.SentHeaderLemmas.{escape-printed}
use Rattle.cookie_core.proofs.SentNameLemmas.{keeps_prefix}

host_listed : Contains enforced_prefixes enforced.Host
unfolding enforced_prefixes
host_listed = (1, omega arith, refl)

-- ---- one row of the table

-- no element passes a test that none does
none_passes : {X : Type 0} (p : X → Bool) (xs : List X) (x : X) → Contains xs x → list_any p xs ≡ false → p x ≡ false
none_passes p xs x (k, inside, at) none = by (p x) refl
  where
    by : (b : Bool) → p x ≡ b → b ≡ false
    by true e = absurd (false≢true (sym none ∙ list_any-from_Any p xs (k, x, inside, at, e)))
    by false e = refl

-- what isn't found is no element
any-from_find : {X : Type 0} (p : X → Bool) (xs : List X) → find p xs ≡ None → list_any p xs ≡ false
any-from_find p [] e = refl
any-from_find p (x ∷ xs) e = by (p x) (any-from_find p xs) e
  where
    by : (b : Bool) → (find p xs ≡ None → list_any p xs ≡ false) → cond b (Some x) (find p xs) ≡ None → (b || list_any p xs) ≡ false
    by true rest e = cc
    by false rest e = rest e

implied : (a b : Bool) → a && not b ≡ false → a ≡ true → b ≡ true
implied true true e f = refl
implied true false e f = absurd (false≢true (sym e))
implied false b e f = absurd (false≢true f)

without_false : (b : Bool) → b || false ≡ true → b ≡ true
without_false true e = refl
without_false false e = e

-- a cookie that meets the prefixes of its name is secure and bound to its host, if one of them is `__Host-`
pub host_met : (name : List ℕ) (guards : Guards) → unmet_prefix name guards ≡ None → has_prefix enforced.Host name ≡ true
    → (guards.is_secure ≡ true) × (guards.is_host_bound ≡ true)
host_met name guards met named =
    let unmet : EnforcedPrefix → Bool = λ prefix. has_prefix prefix name && not (covers guards (required prefix)) in
    let covered = implied (has_prefix enforced.Host name) (covers guards (required enforced.Host))
    (none_passes unmet enforced_prefixes enforced.Host host_listed (any-from_find unmet enforced_prefixes met)) named in
    let first = and_parts (guards.is_secure || false) _ covered in
    let second = and_parts (guards.is_http_only || true) (guards.is_host_bound || false) first.1 in
    (without_false guards.is_secure first.0, without_false guards.is_host_bound second.1)

-- a text with no prefix doesn't begin with `__Host-`
pub host_absent : (text : List ℕ) → has_any_prefix text ≡ false → has_prefix enforced.Host text ≡ false
host_absent text none = none_passes (λ prefix. has_prefix prefix text) enforced_prefixes enforced.Host host_listed none

-- ---- a cookie that is secure and bound to its host

or_true : (b : Bool) → b || true ≡ true
or_true true = refl
or_true false = refl

-- it meets the prefixes of its name, if it is `HttpOnly` where one of them requires that
pub bound_meets : (name : List ℕ) (guards : Guards) → guards.is_secure ≡ true → guards.is_host_bound ≡ true
    → (needs_http_only name ≡ true → guards.is_http_only ≡ true) → unmet_prefix name guards ≡ None
bound_meets name guards secure bound http = all enforced_prefixes http
  where
    needs : EnforcedPrefix → Bool
    needs prefix = has_prefix prefix name && (required prefix).is_http_only

    unmet : EnforcedPrefix → Bool
    unmet prefix = has_prefix prefix name && not (covers guards (required prefix))

    covered : (needed : Guards) → (needed.is_http_only ≡ true → guards.is_http_only ≡ true) → covers guards needed ≡ true
    covered needed h =
        ap (λ b. (b || not needed.is_secure) && ((guards.is_http_only || not needed.is_http_only) && (guards.is_host_bound || not needed.is_host_bound))) secure
        ∙ ap (λ b. (guards.is_http_only || not needed.is_http_only) && (b || not needed.is_host_bound)) bound
        ∙ by needed.is_http_only h
      where
        by : (b : Bool) → (b ≡ true → guards.is_http_only ≡ true) → (guards.is_http_only || not b) && true ≡ true
        by true k = ap (λ c. (c || false) && true) (k refl)
        by false k = ap (λ c. c && true) (or_true guards.is_http_only)

    one : (prefix : EnforcedPrefix) → (needs prefix ≡ true → guards.is_http_only ≡ true) → unmet prefix ≡ false
    one prefix h = by (has_prefix prefix name) h
      where
        by : (b : Bool) → (b && (required prefix).is_http_only ≡ true → guards.is_http_only ≡ true) → b && not (covers guards (required prefix)) ≡ false
        by true k = ap not (covered (required prefix) k)
        by false k = refl

    later : (a b : Bool) → b ≡ true → (a || b) ≡ true
    later true b e = refl
    later false b e = e

    all : (xs : List EnforcedPrefix) → (list_any needs xs ≡ true → guards.is_http_only ≡ true) → find unmet xs ≡ None
    all [] h = refl
    all (x ∷ xs) h =
        ap (λ b. cond b (Some x) (find unmet xs)) (one x (λ e. h (ap (λ b. b || list_any needs xs) e)))
        ∙ all xs (λ e. h (later (needs x) (list_any needs xs) e))

-- ---- a printed name

all_plain : list_all (λ prefix. list_all (λ byte. not (is_escaped byte)) (prefix_text prefix)) enforced_prefixes ≡ true
unfolding enforced_prefixes
all_plain = refl

-- printing a name leaves its prefixes
pub needs-escaped : (name : List ℕ) → IsUtf8 name → needs_http_only (escape name) ≡ needs_http_only name
needs-escaped name utf8 = all enforced_prefixes all_plain
  where
    is_plain : EnforcedPrefix → Bool
    is_plain prefix = list_all (λ byte. not (is_escaped byte)) (prefix_text prefix)

    kept : (prefix : EnforcedPrefix) → is_plain prefix ≡ true → has_prefix prefix (escape name) ≡ has_prefix prefix name
    kept prefix plain =
        let bytes = utf8_is_bytes name utf8 in
        sym (keeps_prefix (prefix_text prefix) (escape name) plain (escape-printed name bytes))
        ∙ ap (has_prefix prefix) (unescape-escape name bytes)

    needs : List ℕ → EnforcedPrefix → Bool
    needs text prefix = has_prefix prefix text && (required prefix).is_http_only

    all : (xs : List EnforcedPrefix) → list_all is_plain xs ≡ true → list_any (needs (escape name)) xs ≡ list_any (needs name) xs
    all [] h = refl
    all (x ∷ xs) h =
        let both = and_parts (is_plain x) (list_all is_plain xs) h in
        ap (λ b. (b && (required x).is_http_only) || list_any (needs (escape name)) xs) (kept x both.0)
        ∙ ap (λ r. needs name x || r) (all xs both.1)
