-- The texts of the refusals, and the sections of RFC 6265bis that have their steps.
use Rattle.std.specs.Prelude.{ℕ, List, codes}
use Rattle.cookie_browser.specs.declared.refusal.Refusal.{Refusal}
use Rattle.cookie_browser.specs.declared.refusal.Refusal.TheVariants as refusal

-- which step refused, and what to do about it
abbrev pub refusal_text : Refusal → List ℕ
refusal_text refusal.ControlCharacter =
    codes "the text holds a control character: leave it out or escape it"
refusal_text refusal.TooLong =
    codes "the name and the value have more than 4096 bytes in all: shorten them"
refusal_text refusal.Empty = codes "the name and the value are both empty: set a name"
refusal_text refusal.NonAsciiDomain = codes "the domain isn't ASCII: write it in Punycode"
refusal_text refusal.PublicSuffix =
    codes "the domain is a public suffix: set a domain below it, or none"
refusal_text refusal.ForeignDomain =
    codes "the host isn't in the domain: set the host or a domain above it, or none"
refusal_text refusal.InsecureConnection =
    codes "Secure was set over an insecure connection: set the cookie over https"
refusal_text refusal.OverlaysSecure =
    codes "a Secure cookie of this name would be overlaid: set the cookie over https"
refusal_text refusal.CrossSite =
    codes "the request came from another site: set SameSite=None and Secure"
refusal_text refusal.NoneWithoutSecure = codes "SameSite=None needs Secure: set Secure over https"
refusal_text refusal.SecurePrefix = codes "the prefix __Secure- needs Secure: set Secure over https"
refusal_text refusal.HostPrefix =
    codes "the prefix __Host- needs Secure, Path=/ and no Domain: set them so"
refusal_text refusal.NamelessPrefix =
    codes "a value without a name begins with a prefix of names: set a name"
refusal_text refusal.HttpPrefix =
    codes "the prefix __Http- or __Host-Http- needs Secure and HttpOnly: set both over https"

-- the title of the section
abbrev pub refusal_section : Refusal → List ℕ
refusal_section refusal.ControlCharacter = codes "The Set-Cookie Header Field"
refusal_section refusal.TooLong = codes "The Set-Cookie Header Field"
refusal_section _ = codes "Storage Model"
