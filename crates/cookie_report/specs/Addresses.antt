-- Where a request to a URL goes (URL Standard).
use Rattle.std.specs.Prelude.{◌≡◌, ◌↔◌, ℕ, Bool, true, false, ◌||◌, List, codes, bytes_eq, eqb, string_bytes, None, Some, Ok, IsTrue}
use Rattle.std.specs.List.{ends_with}
use Rattle.std.specs.Net.Addr.{IsLoopbackV4, IsLoopbackV6}
use Rattle.std.specs.Io.BufRead.{strip_last}
use Rattle.url.specs.Host.{host_text}
use Rattle.url.specs.Parser.{parse_url}
use Rattle.url.specs.Parts.{Parts, nonempty_host}
use Rattle.url.specs.declared.host.Host.{Host}
use Rattle.url.specs.declared.host.Host.TheVariants.{Domain, Ipv4, Ipv6}
use Rattle.cookie_report.specs.declared.address.Address.{Address}

-- the scheme is one of the two that cookies are for
abbrev pub is_web : Parts → Bool
is_web url = bytes_eq url.scheme (codes "https") || bytes_eq url.scheme (codes "http")

-- the host is an IP address
abbrev pub is_ip : Host (List ℕ) → Bool
is_ip (Domain name) = false
is_ip (Ipv4 address) = true
is_ip (Ipv6 address) = true

-- `localhost`, and what is below it, with a last dot or without (RFC 6761 6.3)
abbrev pub is_localhost : List ℕ → Bool
is_localhost name =
    bytes_eq (strip_last 46 name) (codes "localhost")
    || ends_with eqb (strip_last 46 name) (codes ".localhost")

-- the host is this machine
abbrev pub IsLocal : Host (List ℕ) → Type 0
IsLocal (Domain name) = IsTrue (is_localhost name)
IsLocal (Ipv4 address) = IsLoopbackV4 address
IsLocal (Ipv6 address) = IsLoopbackV6 address

-- The text is a URL of one of the two schemes, and the address is where a request to it goes.
pub record IsAddressOf (text : List ℕ) (address : Address) : Type 0 where
  pub url : Parts
  pub host : Host (List ℕ)
  pub parsed : parse_url None text ≡ Ok url
  pub web : is_web url ≡ true
  pub hosted : nonempty_host url ≡ Some host
  pub name : string_bytes address.host ≡ host_text host
  pub path : string_bytes address.path ≡ url.path
  pub ip : address.is_address ≡ is_ip host
  pub https : address.is_https ≡ bytes_eq url.scheme (codes "https")
  pub local : IsTrue address.is_local ↔ IsLocal host

-- no request of these schemes goes to the text
abbrev pub IsNoAddress : List ℕ → Type 0
IsNoAddress text =
    (url : Parts) → parse_url None text ≡ Ok url → (is_web url ≡ true)
    → (host : Host (List ℕ)) → ¬ (nonempty_host url ≡ Some host)

-- a request of these schemes goes to the text
abbrev pub IsAddress : List ℕ → Type 0
IsAddress text = (address : Address) × IsAddressOf text address
