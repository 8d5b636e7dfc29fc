-- When two cookies are equal: a relation of the library, not of RFC 6265 5.3, which tells cookies apart by name, domain
-- and path.
use Rattle.std.specs.Prelude.{◌≡◌, ℕ, List, Bool, true, bytes_eq}
use Rattle.std.specs.Bool.{beq}
use Rattle.std.specs.Cmp.{IsEquivalence, IsPartialEquivalence, partial_equiv_from_equiv, and_equiv, on_equiv, int_eq_equiv, bool_eq_equiv}
use Rattle.std.specs.Cmp.Lexicographic.{nat_list_eq_equiv, options_equiv}
use Rattle.std.specs.Option.{option_eq}
use Rattle.std.specs.Ordering.{eq_of_both, on, int_eq}
use Rattle.std.specs.Str.{str_to_ascii_lowercase}
use Rattle.jiff.specs.Words.{civil_nanos}
use Rattle.cookie_core.specs.Expiration.{datetime_of}
use Rattle.cookie_core.specs.Record.{CookieView, Record}
use Rattle.cookie_core.specs.declared.expiration.Expiration.{Expiration}

-- equal texts, without ASCII case
abbrev pub same_ignoring_case : List ℕ → List ℕ → Bool
same_ignoring_case = on str_to_ascii_lowercase bytes_eq

-- both the session's end, or the same date-time
abbrev pub same_expiration : Expiration → Expiration → Bool
same_expiration = on datetime_of (option_eq (on civil_nanos int_eq))

-- equal names and values
abbrev pub same_pair : Record → Record → Bool
same_pair = eq_of_both (on (λ cookie. cookie.name) bytes_eq) (on (λ cookie. cookie.value) bytes_eq)

-- equal flags, each unset in both or equal
abbrev pub same_flags : Record → Record → Bool
same_flags =
    eq_of_both (on (λ cookie. cookie.http_only) (option_eq beq))
    (eq_of_both (on (λ cookie. cookie.secure) (option_eq beq))
    (on (λ cookie. cookie.partitioned) (option_eq beq)))

-- equal paths and domains, each unset in both or equal without ASCII case
abbrev pub same_place : Record → Record → Bool
same_place =
    eq_of_both (on (λ cookie. cookie.path) (option_eq same_ignoring_case))
    (on (λ cookie. cookie.domain) (option_eq same_ignoring_case))

-- equal ages and expiries, each unset in both or equal
abbrev pub same_lifetime : Record → Record → Bool
same_lifetime =
    eq_of_both (on (λ cookie. cookie.max_age) (option_eq int_eq))
    (on (λ cookie. cookie.expires) (option_eq same_expiration))

-- equal in all but the attribute `SameSite`
abbrev pub same : Record → Record → Bool
same = eq_of_both same_pair (eq_of_both same_flags (eq_of_both same_place same_lifetime))

-- the test of two records is reflexive, symmetric and transitive
pub record IsEquality (equal : Record → Record → Bool) : Type 0 where
  pub reflexive : (cookie : Record) → equal cookie cookie ≡ true
  pub symmetric : (cookie other : Record) → equal cookie other ≡ equal other cookie
  pub transitive : (cookie other third : Record) → equal cookie other ≡ true
      → equal other third ≡ true → equal cookie third ≡ true

-- `same` for two cookies as contracts see them
abbrev pub same_cookie : CookieView → CookieView → Bool
same_cookie = on (λ cookie. cookie.fields) same

-- each part of it is an equivalence
same_pair-equiv : IsEquivalence same_pair
same_pair-equiv =
    and_equiv (on_equiv (λ (cookie : Record). cookie.name) nat_list_eq_equiv)
    (on_equiv (λ (cookie : Record). cookie.value) nat_list_eq_equiv)

-- so are the flags
same_flags-equiv : IsEquivalence same_flags
same_flags-equiv =
    and_equiv (on_equiv (λ (cookie : Record). cookie.http_only) (options_equiv bool_eq_equiv))
    (and_equiv (on_equiv (λ (cookie : Record). cookie.secure) (options_equiv bool_eq_equiv))
    (on_equiv (λ (cookie : Record). cookie.partitioned) (options_equiv bool_eq_equiv)))

-- so are texts without their case
same_ignoring_case-equiv : IsEquivalence same_ignoring_case
same_ignoring_case-equiv = on_equiv str_to_ascii_lowercase nat_list_eq_equiv

-- so are the path and the domain
same_place-equiv : IsEquivalence same_place
same_place-equiv =
    and_equiv (on_equiv (λ (cookie : Record). cookie.path) (options_equiv same_ignoring_case-equiv))
    (on_equiv (λ (cookie : Record). cookie.domain) (options_equiv same_ignoring_case-equiv))

-- so are expiries
same_expiration-equiv : IsEquivalence same_expiration
same_expiration-equiv = on_equiv datetime_of (options_equiv (on_equiv civil_nanos int_eq_equiv))

-- so are the age and the expiry
same_lifetime-equiv : IsEquivalence same_lifetime
same_lifetime-equiv =
    and_equiv (on_equiv (λ (cookie : Record). cookie.max_age) (options_equiv int_eq_equiv))
    (on_equiv (λ (cookie : Record). cookie.expires) (options_equiv same_expiration-equiv))

-- equality is an equivalence
pub same-equiv : IsEquivalence same
same-equiv =
    and_equiv same_pair-equiv
    (and_equiv same_flags-equiv (and_equiv same_place-equiv same_lifetime-equiv))

-- equality is reflexive, symmetric and transitive
pub same-is_equality : IsEquality same
same-is_equality =
    record {
      reflexive = same-equiv.refl;
      symmetric = same-equiv.symm;
      transitive = (partial_equiv_from_equiv same-equiv).trans;
    }

-- the law that `==` has to give
pub same_cookie-laws : IsPartialEquivalence same_cookie
same_cookie-laws =
    partial_equiv_from_equiv (on_equiv (λ (cookie : CookieView). cookie.fields) same-equiv)
