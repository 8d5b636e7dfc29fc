-- What a list of public suffixes is read as, worked out by hand from publicsuffix.org. No call computes it.
use Rattle.std.specs.Prelude.{◌≡◌, ℕ, Bool, true, false, List, [], ◌∷◌, ◌++◌, codes, map, refl}
use Rattle.std.specs.List.{list_all, list_any}
use Rattle.idna.proofs.Computing.{idna}
use Rattle.cookie_browser.specs.Bytes.{cut}
use Rattle.cookie_browser.specs.Suffixes.{Rule, Plain, Wild, Except, is_public_suffix, site_domain}
use Rattle.cookie_browser.specs.SuffixList.{rule_of, rules_of}

comments : rules_of (codes "// a" ++ 10 ∷ 10 ∷ codes "com" ++ 13 ∷ 10 ∷ codes "*.ck x" ++ 10 ∷ 9 ∷ 10 ∷ codes "!www.ck") ≡ Plain (codes "com") ∷ Wild (codes "ck") ∷ Except (codes "www.ck") ∷ []
unfolding rule_of idna
comments = refl

empty_list : rules_of [] ≡ []
unfolding rule_of idna
empty_list = refl

-- `公司.cn`
other_letters : rules_of (0xE5 ∷ 0x85 ∷ 0xAC ∷ 0xE5 ∷ 0x8F ∷ 0xB8 ∷ codes ".CN") ≡ Plain (codes "xn--55qx5d.cn") ∷ []
unfolding rule_of idna
other_letters = refl

-- an exception and the domains below it, what a wildcard covers and what is below that, and a domain of one label
abbrev answers : List Bool
answers =
    map (is_public_suffix (Wild (codes "ck") ∷ Except (codes "www.ck") ∷ []))
    (codes "www.ck" ∷ codes "a.www.ck" ∷ codes "any.ck" ∷ codes "a.any.ck" ∷ codes "ck" ∷ codes "local" ∷ codes "local.host" ∷ [])

are_public : answers ≡ false ∷ false ∷ true ∷ false ∷ true ∷ true ∷ false ∷ []
unfolding is_public_suffix cut
are_public = refl

-- publicsuffix.org's test data (test_psl.txt), over the rules that it needs: a domain without a registrable domain is a
-- public suffix
abbrev kept : List Rule
kept = rules_of (codes "// a" ++ 10 ∷ codes "com" ++ 10 ∷ codes "uk.com" ++ 13 ∷ 10 ∷ codes "*.mm" ++ 10 ∷ codes "jp " ++ 10 ∷ codes "kyoto.jp" ++ 10 ∷ codes "*.kobe.jp" ++ 10 ∷ codes "!city.kobe.jp" ++ 10 ∷ 10 ∷ codes "us" ++ 10 ∷ codes "ak.us" ++ 10 ∷ codes "k12.ak.us")

suffixes : list_all (is_public_suffix kept) (codes "com" ∷ codes "uk.com" ∷ codes "mm" ∷ codes "c.mm" ∷ codes "jp" ∷ codes "kyoto.jp" ∷ codes "c.kobe.jp" ∷ codes "us" ∷ codes "ak.us" ∷ codes "k12.ak.us" ∷ codes "example" ∷ []) ≡ true
unfolding rule_of idna is_public_suffix cut
suffixes = refl

others : list_any (is_public_suffix kept) (codes "example.com" ∷ codes "b.example.com" ∷ codes "example.uk.com" ∷ codes "b.c.mm" ∷ codes "a.b.c.mm" ∷ codes "test.jp" ∷ codes "test.kyoto.jp" ∷ codes "b.c.kobe.jp" ∷ codes "city.kobe.jp" ∷ codes "www.city.kobe.jp" ∷ codes "test.us" ∷ codes "test.ak.us" ∷ codes "test.k12.ak.us" ∷ codes "example.example" ∷ []) ≡ false
unfolding rule_of idna is_public_suffix cut
others = refl

-- the dot that ends an absolute name is ignored (Algorithm, Definitions)
absolute_suffixes : list_all (is_public_suffix kept) (codes "com." ∷ codes "uk.com." ∷ codes "c.mm." ∷ codes "c.kobe.jp." ∷ codes "k12.ak.us." ∷ codes "localhost." ∷ []) ≡ true
unfolding rule_of idna is_public_suffix cut
absolute_suffixes = refl

absolute_others : list_any (is_public_suffix kept) (codes "example.com." ∷ codes "example.uk.com." ∷ codes "b.c.mm." ∷ codes "city.kobe.jp." ∷ codes "www.city.kobe.jp." ∷ codes "test.us." ∷ codes "." ∷ codes ".com" ∷ codes ".kobe.jp" ∷ []) ≡ false
unfolding rule_of idna is_public_suffix cut
absolute_others = refl

absolute_rules : rules_of (codes "com." ++ 10 ∷ codes "*.ck. x" ++ 10 ∷ codes "!www.ck.") ≡ Plain (codes "com") ∷ Wild (codes "ck") ∷ Except (codes "www.ck") ∷ []
unfolding rule_of idna
absolute_rules = refl

-- the same test data: a domain and its registrable domain, or the domain itself, if it has none
abbrev sites : List (List ℕ)
sites =
    map (site_domain kept)
    (codes "com" ∷ codes "example.com" ∷ codes "b.example.com" ∷ codes "uk.com" ∷ codes "a.b.example.uk.com" ∷ codes "c.mm" ∷ codes "a.b.c.mm" ∷ codes "www.test.jp"
    ∷ codes "b.c.kobe.jp" ∷ codes "city.kobe.jp" ∷ codes "www.city.kobe.jp" ∷ codes "b.example.example" ∷ codes "a.b.example.com." ∷ [])

are_sites : sites ≡ codes "com" ∷ codes "example.com" ∷ codes "example.com" ∷ codes "uk.com" ∷ codes "example.uk.com" ∷ codes "c.mm" ∷ codes "b.c.mm" ∷ codes "test.jp"
    ∷ codes "b.c.kobe.jp" ∷ codes "city.kobe.jp" ∷ codes "city.kobe.jp" ∷ codes "example.example" ∷ codes "example.com." ∷ []
unfolding rule_of idna is_public_suffix cut site_domain
are_sites = refl

-- an address counts by itself
addresses : map (site_domain kept) (codes "10.0.0.1" ∷ codes "[::ffff:1.2.3.4]" ∷ []) ≡ codes "10.0.0.1" ∷ codes "[::ffff:1.2.3.4]" ∷ []
unfolding rule_of idna is_public_suffix cut site_domain
addresses = refl
