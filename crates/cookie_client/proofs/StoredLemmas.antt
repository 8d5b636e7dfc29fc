-- A cookie as a child jar stores it is a cookie, and fit where it was fit as it was handed in.
use Rattle.std.proofs.Common.{◌≡◌, ℕ, zero, suc, nat_lt, true, List, [], ◌∷◌, IsAscii, IsUtf8, codes, refl, arith}
use Rattle.std.proofs.lemmas.Bool.{and_parts}
use Rattle.std.specs.List.{list_all}
use mathlib.Core.Logic.{◌≢◌}
use Rattle.std.proofs.lemmas.Str.{IsUtf8-append, IsUtf8-from_ascii}
use Rattle.jiff.specs.Types.{DateTime}
use Rattle.cookie.specs.Pieces.{Lacks}
use Rattle.cookie.specs.Prefixes.{host_prefix, secure_prefix}
use Rattle.cookie.specs.Record.{Record, IsCookie}
use Rattle.cookie.specs.Sealing.{sealed_cookie}
use Rattle.cookie.specs.Signing.{signed_cookie}
use Rattle.cookie.proofs.ByteLemmas.{Lacks-from_test}
use Rattle.cookie.proofs.SealingLemmas.{IsCookie-sealed}
use Rattle.cookie.proofs.SigningLemmas.{IsCookie-signed}
use Rattle.cookie_client.specs.Calls.{IsFitAddition, stored_with}
use Rattle.cookie_client.specs.declared.prefix_kind.PrefixKind.{PrefixKind}
use Rattle.cookie_client.specs.declared.prefix_kind.PrefixKind.TheVariants as kinds

-- it makes cookies of cookies, and keeps them named and fit
pub record IsStoring (stored : Record → Record) : Type 0 where
  pub cookie : (c : Record) → IsCookie c → IsCookie (stored c)
  pub named : (c : Record) → c.name ≢ [] → (stored c).name ≢ []
  pub fit : (now : DateTime) (c : Record) → IsFitAddition now c → IsFitAddition now (stored c)

-- a cookie that is stored as it is
pub IsStoring-same : IsStoring (λ c. c)
IsStoring-same = record { cookie = λ c is. is; named = λ c some. some; fit = λ now c fit. fit }

-- a text whose bytes are all below 128 is UTF-8
below_128 : (bs : List ℕ) → list_all (λ b. nat_lt b 128) bs ≡ true → IsAscii bs
below_128 [] h i = omega arith
below_128 (b ∷ bs) h zero = grind (arith, and_parts (nat_lt b 128) (list_all (λ b. nat_lt b 128) bs) h)
below_128 (b ∷ bs) h (suc i) = below_128 bs (and_parts (nat_lt b 128) (list_all (λ b. nat_lt b 128) bs) h).1 i

ascii : (bs : List ℕ) → list_all (λ b. nat_lt b 128) bs ≡ true → IsUtf8 bs
ascii bs h = IsUtf8-from_ascii bs (below_128 bs h)

IsCookie-stored : (kind : PrefixKind) (c : Record) → IsCookie c → IsCookie (stored_with kind c)
IsCookie-stored kinds.Host c is =
    record {
      name = IsUtf8-append host_prefix c.name (ascii host_prefix refl) is.name;
      value = is.value;
      path = ascii (codes "/") refl;
      domain = tt;
      max_age = is.max_age;
    }
IsCookie-stored kinds.Secure c is =
    record {
      name = IsUtf8-append secure_prefix c.name (ascii secure_prefix refl) is.name;
      value = is.value;
      path = is.path;
      domain = is.domain;
      max_age = is.max_age;
    }

stored-named : (kind : PrefixKind) (c : Record) → (stored_with kind c).name ≢ []
stored-named kinds.Host c e = cc
stored-named kinds.Secure c e = cc

slash_lacks : Lacks 59 (codes "/")
slash_lacks = Lacks-from_test 59 (codes "/") refl

IsFitAddition-stored : (now : DateTime) (kind : PrefixKind) (c : Record) → IsFitAddition now c → IsFitAddition now (stored_with kind c)
IsFitAddition-stored now kinds.Host c fit = record { name = stored-named kinds.Host c; live = fit.live; uncut = record { path = slash_lacks; domain = tt } }
IsFitAddition-stored now kinds.Secure c fit = record { name = stored-named kinds.Secure c; live = fit.live; uncut = record { path = fit.uncut.path; domain = fit.uncut.domain } }

pub IsStoring-prefixed : (kind : PrefixKind) → IsStoring (stored_with kind)
IsStoring-prefixed kind =
    record {
      cookie = IsCookie-stored kind;
      named = λ c _. stored-named kind c;
      fit = λ now. IsFitAddition-stored now kind;
    }

-- ---- signed

IsFitAddition-signed : (key : List ℕ) (now : DateTime) (c : Record) → IsFitAddition now c → IsFitAddition now (signed_cookie key c)
IsFitAddition-signed key now c fit = record { name = fit.name; live = fit.live; uncut = record { path = fit.uncut.path; domain = fit.uncut.domain } }

pub IsStoring-signed : (key : List ℕ) → IsStoring (signed_cookie key)
IsStoring-signed key =
    record {
      cookie = IsCookie-signed key;
      named = λ c some. some;
      fit = IsFitAddition-signed key;
    }

-- ---- sealed

IsFitAddition-sealed : (key nonce : List ℕ) (now : DateTime) (c : Record) → IsFitAddition now c → IsFitAddition now (sealed_cookie key nonce c)
IsFitAddition-sealed key nonce now c fit = record { name = fit.name; live = fit.live; uncut = record { path = fit.uncut.path; domain = fit.uncut.domain } }

pub IsStoring-sealed : (key nonce : List ℕ) → IsStoring (sealed_cookie key nonce)
IsStoring-sealed key nonce =
    record {
      cookie = IsCookie-sealed key nonce;
      named = λ c some. some;
      fit = IsFitAddition-sealed key nonce;
    }
