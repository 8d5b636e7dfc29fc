-- Mirrors private code: the numbers of stored cookies by their domains.
use Rattle.std.specs.Prelude.{◌||◌, ℕ, Bool, false, List, [], Contains, reverse, option_map, unwrap_or}
use Rattle.std.specs.BTreeMap.{get_by}
use Rattle.std.specs.Cmp.Lexicographic.{slice_cmp}
use Rattle.std.specs.Ordering.{nat_cmp}
use Rattle.cookie_browser.specs.Request.{is_in_domain}
use Rattle.cookie_agent.specs.declared.domain_index.DomainIndex.{DomainIndex}

-- the numbers at the domain whose reverse this is
unfoldable pub numbers_at : DomainIndex → List ℕ → List ℕ
numbers_at index key =
    unwrap_or (option_map (λ v. v.items) (get_by (λ k. slice_cmp nat_cmp key k.items) index.numbers))
    []

-- the number is at the domain whose reverse this is
abbrev pub IsNumberAt : DomainIndex → List ℕ → ℕ → Type 0
IsNumberAt index key number = Contains (numbers_at index key) number

-- the number is at the domain
abbrev pub Lists : DomainIndex → List ℕ → ℕ → Type 0
Lists index domain number = IsNumberAt index (reverse domain) number

-- the other domain is the domain, above it or below it
abbrev pub is_around : List ℕ → List ℕ → Bool
is_around domain other = is_in_domain domain false other || is_in_domain other false domain
