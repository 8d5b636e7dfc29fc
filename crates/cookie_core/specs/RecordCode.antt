-- Mirrors private code: how a cookie's record is stored, so that contracts can see a map of records.
use Rattle.std.specs.Prelude.{ℕ, ℤ, List, Option, Bool, refl}
use Rattle.std.specs.Coded.{Coded, code_by, coded×, coded_ℕ, coded_ℤ, coded_bool, coded_list, coded_option}
use Rattle.cookie_core.specs.Record.{Record}
use Rattle.cookie_core.specs.declared.expiration.Expiration.{Expiration}
use Rattle.cookie_core.specs.declared.same_site.SameSite.{SameSite}
use Rattle.cookie_core.specs.contracts.expiration.Expiration as expiration
use Rattle.cookie_core.specs.contracts.same_site.SameSite as same_site

-- the fields of a record, as nested pairs: its name and value, its flags, the rule of other sites, its place, its
-- lifetime
abbrev pub FieldPairs : Type 0
FieldPairs =
    (List ℕ × List ℕ) × ((Option Bool × (Option Bool × Option Bool))
    × (Option SameSite × ((Option (List ℕ) × Option (List ℕ)) × (Option ℤ × Option Expiration))))

-- how these pairs are stored
abbrev pub field_pairs_code : Coded FieldPairs
field_pairs_code =
    coded× (coded× (coded_list coded_ℕ) (coded_list coded_ℕ))
    (coded× (coded× (coded_option coded_bool)
    (coded× (coded_option coded_bool) (coded_option coded_bool)))
    (coded× (coded_option (same_site.the_row).coded)
    (coded× (coded× (coded_option (coded_list coded_ℕ)) (coded_option (coded_list coded_ℕ)))
    (coded× (coded_option coded_ℤ) (coded_option (expiration.the_row).coded)))))

-- how a record is stored, as the pairs of its fields
abbrev pub record_code : Coded Record
record_code =
    code_by FieldPairs field_pairs_code
    (λ cookie. (
      (cookie.name, cookie.value),
      (
        (cookie.http_only, (cookie.secure, cookie.partitioned)),
        (cookie.same_site, ((cookie.path, cookie.domain), (cookie.max_age, cookie.expires))),
      ),
    ))
    (λ pairs. record {
      name = pairs.0.0;
      value = pairs.0.1;
      http_only = pairs.1.0.0;
      secure = pairs.1.0.1.0;
      partitioned = pairs.1.0.1.1;
      same_site = pairs.1.1.0;
      path = pairs.1.1.1.0.0;
      domain = pairs.1.1.1.0.1;
      max_age = pairs.1.1.1.1.0;
      expires = pairs.1.1.1.1.1;
    })
    (λ _. refl)
