-- Public suffixes, by rules that are passed in (publicsuffix.org, Algorithm).
use Rattle.std.specs.Prelude.{◌≡◌, ℕ, ◌-◌, ◌==◌, ◌&&◌, ◌||◌, not, Bool, false, List, [], ◌∷◌, codes, eqb, find, length, take, Option, Some, None, unwrap_or, if◌then◌else◌}
use Rattle.std.specs.Char.{is_ascii_digit}
use Rattle.std.specs.List.{ends_with, list_all, list_any, starts_with}
use Rattle.std.specs.Str.{bytes_eq}
use Rattle.cookie_browser.specs.Bytes.{cut}
use Rattle.cookie_browser.specs.Request.{is_in_domain}

-- a rule of some labels; one with `*.` before them, for one more label; and one with `!` before them, an exception
pub data Rule : Type 0 where
  Plain : List ℕ → Rule
  Wild : List ℕ → Rule
  Except : List ℕ → Rule

-- the domain has one label
abbrev pub is_one_label : List ℕ → Bool
is_one_label domain = bytes_eq (cut 46 domain).0 domain

-- the domain without its first label is the text
abbrev pub has_parent : List ℕ → Option (List ℕ) → Bool
has_parent text None = false
has_parent text (Some parent) = bytes_eq parent text

-- an exception that the domain matches: it is the text, or ends in a dot and the text
abbrev pub is_excepted : List ℕ → Rule → Bool
is_excepted domain (Except text) = is_in_domain domain false text
is_excepted domain _ = false

-- a rule that the domain matches with all its labels
abbrev pub is_covered : List ℕ → Rule → Bool
is_covered domain (Plain text) = bytes_eq domain text
is_covered domain (Wild text) = has_parent text (cut 46 domain).1
is_covered domain (Except text) = false

-- The prevailing rule has as many labels as the domain. An exception prevails over any other rule, and the suffix that
-- it gives has a label less; where no rule matches, `*` prevails.
abbrev pub fills_rule : List Rule → List ℕ → Bool
fills_rule rules domain =
    not (list_any (is_excepted domain) rules)
    && (is_one_label domain || list_any (is_covered domain) rules)

-- the domain without the dot that ends an absolute name, if it has one (Algorithm, Definitions: that dot is ignored)
abbrev pub without_last_dot : List ℕ → List ℕ
without_last_dot domain =
    if ends_with eqb domain (codes ".") then take (length domain - 1) domain else domain

-- The domain is a public suffix, as `com` and `com.` are. A text that begins with a dot is no domain: no label is empty.
unfoldable pub is_public_suffix : List Rule → List ℕ → Bool
is_public_suffix rules domain =
    not (starts_with eqb domain (codes ".")) && fills_rule rules (without_last_dot domain)

-- ---- sites

-- a digit or a dot
abbrev pub is_number_byte : ℕ → Bool
is_number_byte byte = is_ascii_digit byte || byte == 46

-- an IP address, as a URL has it: digits and dots, or a text in brackets (Canonicalized Host Names)
abbrev pub is_address : List ℕ → Bool
is_address domain =
    starts_with eqb domain (codes "[") || list_all is_number_byte domain

-- what follows each dot of the domain
abbrev pub after_dots : List ℕ → List (List ℕ)
after_dots [] = []
after_dots (byte ∷ bytes) =
    if byte == 46 then bytes ∷ after_dots bytes else after_dots bytes

-- the domain, and the domains above it: what follows each of its dots
abbrev pub endings : List ℕ → List (List ℕ)
endings domain = domain ∷ after_dots domain

-- the domain is the text of an exception
abbrev pub is_exception : List ℕ → Rule → Bool
is_exception domain (Except text) = bytes_eq domain text
is_exception domain _ = false

-- there is such a domain, and it is a public suffix
abbrev pub is_public_parent : List Rule → Option (List ℕ) → Bool
is_public_parent rules None = false
is_public_parent rules (Some parent) = is_public_suffix rules parent

-- one label before a public suffix, or an exception, whose suffix has a label less
abbrev pub is_registrable : List Rule → List ℕ → Bool
is_registrable rules domain =
    list_any (is_exception (without_last_dot domain)) rules
    || is_public_parent rules (cut 46 domain).1

-- The registrable domain: a public suffix and one more label (Algorithm). An address, and a domain that is a public
-- suffix, stand for themselves.
unfoldable pub site_domain : List Rule → List ℕ → List ℕ
site_domain rules domain =
    if is_address domain || is_public_suffix rules domain then domain
    else unwrap_or (find (is_registrable rules) (endings domain)) domain

-- the lists pass the same tests: each element of one is in the other
abbrev pub HasSameElements : {X : Type 0} → List X → List X → Type 0
HasSameElements {X} left right = (test : X → Bool) → list_any test left ≡ list_any test right
