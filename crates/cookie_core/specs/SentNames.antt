-- Whether a server reads a cookie under the name that the user agent sent. A prefix such as `__Host-` says who set a
-- cookie only in the name as a user agent has it (RFC 6265bis, Cookie Name Prefixes): it trims spaces and tabs, and
-- decodes nothing. Here more white space is trimmed, and escapes are decoded.
use Rattle.std.specs.Prelude.{◌≡◌, ℕ, ◌+◌, ◌*◌, ◌==◌, ◌&&◌, ◌||◌, not, eqb, Bool, true, List, [], ◌∷◌}
use Rattle.std.specs.Char.{digit_value}
use Rattle.std.specs.List.{before_first, list_all, starts_with}
use Rattle.std.specs.Str.{bytes_eq, str_to_ascii_lowercase}
use Rattle.percent_encoding.specs.Percent.{is_escape}
use Rattle.cookie_core.specs.CookieOf.{key_text}
use Rattle.cookie_core.specs.Escapes.{is_escaped, unescape}
use Rattle.cookie_core.specs.Separators.{equals_sign}
use Rattle.cookie_core.specs.Wsp.{trim_wsp}

-- the name of a piece of a `Cookie` header, as the user agent has it
abbrev pub sent_name : List ℕ → List ℕ
sent_name piece = trim_wsp (before_first (λ byte. byte == equals_sign) piece)

-- the three bytes are no escape, or one of a byte that printing escapes
abbrev pub is_printed : ℕ → ℕ → ℕ → Bool
is_printed byte high low =
    not (is_escape byte high low) || is_escaped (16 * digit_value high + digit_value low)

-- each escape of the text stands for a byte that printing escapes (RFC 3986 2.1)
abbrev pub has_printed_escapes : List ℕ → Bool
has_printed_escapes [] = true
has_printed_escapes (byte ∷ []) = true
has_printed_escapes (byte ∷ next ∷ []) = true
has_printed_escapes (byte ∷ high ∷ low ∷ rest) =
    is_printed byte high low && has_printed_escapes (high ∷ low ∷ rest)

-- only spaces and tabs are around the piece's name, and its escapes are of bytes that printing escapes
abbrev pub is_named_as_sent : List ℕ → Bool
is_named_as_sent piece =
    bytes_eq (key_text piece) (sent_name piece) && has_printed_escapes (sent_name piece)

-- the text begins with the prefix, in any ASCII case
abbrev pub begins_in_any_case : List ℕ → List ℕ → Bool
begins_in_any_case prefix text =
    starts_with eqb (str_to_ascii_lowercase text) (str_to_ascii_lowercase prefix)

-- Of such a piece the decoded name begins with a prefix exactly if the name that was sent does, if printing escapes no
-- byte of the prefix. That holds of `__Host-` and `__Secure-`.
abbrev pub KeepsPrefixes : List ℕ → Type 0
KeepsPrefixes piece =
    is_named_as_sent piece ≡ true → (prefix : List ℕ)
    → list_all (λ byte. not (is_escaped byte)) prefix ≡ true
    → begins_in_any_case prefix (unescape (key_text piece))
    ≡ begins_in_any_case prefix (sent_name piece)
