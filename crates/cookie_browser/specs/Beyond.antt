-- What Chromium does beyond RFC 6265bis, as the caller chooses: how it reads a domain, which cookies it refuses, and which
-- it keeps by top-level site.
use Rattle.std.specs.Prelude.{ℕ, ◌==◌, ◌&&◌, ◌||◌, not, Bool, nat_le, List, [], ◌∷◌, length, drop, codes, Option, Some, None, unwrap_or, if◌then◌else◌}
use Rattle.std.specs.List.{list_any}
use Rattle.std.specs.Str.{bytes_eq}
use Rattle.idna.specs.Uts46.{domain_to_ascii}
use Rattle.idna.specs.declared.deny_list.TheConstants.AsciiDenyList.{URL}
use Rattle.cookie_core.specs.Pieces.{pieces}
use Rattle.cookie_core.specs.Separators.{equals_sign}
use Rattle.cookie_browser.specs.Received.{ReceivedView, attribute_name, attribute_value, spells}
use Rattle.cookie_browser.specs.Storage.{has_host_prefix, is_ascii}
use Rattle.cookie_browser.specs.declared.browser_choices.BrowserChoices.{BrowserChoices}
use Rattle.cookie_browser.specs.declared.beyond.Beyond.{Beyond}
use Rattle.cookie_browser.specs.declared.beyond.Beyond.TheVariants as beyond

-- the text, unless it is empty
abbrev pub unless_empty : Option (List ℕ) → Option (List ℕ)
unless_empty None = None
unless_empty (Some []) = None
unless_empty (Some (byte ∷ bytes)) = Some (byte ∷ bytes)

-- The value of a `Domain` attribute as ASCII, if it isn't ASCII and the choices have it read as an internationalized name:
-- ToASCII (UTS 46, 4.2), which ends in the A-labels of RFC 5891, 5.5. The flags and the characters that no name has are
-- those of the URL Standard ("domain to ASCII", beStrict false). `None` also of what isn't such a name, or is no label.
abbrev pub ascii_domain : BrowserChoices → List ℕ → Option (List ℕ)
ascii_domain choices domain =
    if choices.reads_internationalized_domains && not (is_ascii domain)
    then unless_empty (domain_to_ascii URL domain) else None

-- The received cookie, with its domain read so. A domain that can't be read stays, and the standard refuses it, since it
-- isn't ASCII (The Domain Attribute; Storage Model).
abbrev pub with_ascii_domain : BrowserChoices → ReceivedView → ReceivedView
with_ascii_domain choices cookie =
    record cookie {
      attributes = record cookie.attributes {
        domain = unwrap_or (ascii_domain choices cookie.attributes.domain)
            cookie.attributes.domain;
      };
    }

-- the text has this byte
abbrev pub has_byte : ℕ → List ℕ → Bool
has_byte mark text = list_any (λ byte. byte == mark) text

-- a tab is inside the name or the value that a piece has
abbrev pub has_inner_tab : List ℕ → Bool
has_inner_tab piece = has_byte 9 (attribute_name piece) || has_byte 9 (attribute_value piece)

-- a tab is inside the name, the value or an attribute (the standard lets it pass: The Set-Cookie Header Field)
abbrev pub has_tab : List ℕ → Bool
has_tab text = list_any has_inner_tab (pieces text)

-- there is no name, and the value has an `=` (the standard stores it: The Set-Cookie Header Field)
abbrev pub is_nameless_pair : ReceivedView → Bool
is_nameless_pair cookie = bytes_eq cookie.name [] && has_byte equals_sign cookie.value

-- the domain is a dot (for the standard that is no domain: The Domain Attribute)
abbrev pub is_dot_domain : ReceivedView → Bool
is_dot_domain cookie = bytes_eq cookie.attributes.domain (codes ".")

-- the text says `Path=/`, and no domain. The standard requires a path that comes to `/`, and a host-only cookie
-- (Cookie Name Prefixes)
abbrev pub is_written_host_bound : ReceivedView → Bool
is_written_host_bound cookie =
    bytes_eq cookie.attributes.path (codes "/") && bytes_eq cookie.attributes.domain []

-- the name begins with `__Host-`, and the text doesn't say all that it requires
abbrev pub is_unwritten_host_prefix : ReceivedView → Bool
is_unwritten_host_prefix cookie =
    has_host_prefix cookie.name && not (is_written_host_bound cookie)

-- the piece is the attribute `Partitioned`. A value of more than 1024 bytes is passed over
abbrev pub is_partition_mark : List ℕ → Bool
is_partition_mark piece =
    spells (attribute_name piece) (codes "partitioned")
    && nat_le (length (attribute_value piece)) 1024

-- the text has the attribute `Partitioned` after its first piece, which the standard doesn't know (CHIPS)
abbrev pub is_partitioned : List ℕ → Bool
is_partitioned text = list_any is_partition_mark (drop 1 (pieces text))

-- the refusal if the test holds, and else the later one
abbrev pub beyond_if : Bool → Beyond → Option Beyond → Option Beyond
beyond_if test refusal later = if test then Some refusal else later

-- what the choices refuse of a text and of what it is received as, though the standard may store it
unfoldable pub refusal_beyond : BrowserChoices → List ℕ → ReceivedView → Option Beyond
refusal_beyond choices text cookie =
    beyond_if (choices.refuses_tabs && has_tab text) beyond.Tab
    (beyond_if (choices.refuses_nameless_pairs && is_nameless_pair cookie) beyond.NamelessPair
    (beyond_if (choices.refuses_dot_domains && is_dot_domain cookie) beyond.DotDomain
    (beyond_if (choices.asks_written_host_prefix && is_unwritten_host_prefix cookie)
    beyond.UnwrittenHostPrefix
    (beyond_if (choices.partitions && (is_partitioned text && not cookie.attributes.secure))
    beyond.PartitionedWithoutSecure
    None))))
