-- The file of the list of public suffixes (publicsuffix.org, Format).
use Rattle.std.specs.Prelude.{ℕ, ◌==◌, ◌||◌, List, [], codes, drop, eqb, Option, None, option_map, if◌then◌else◌}
use Rattle.std.specs.Char.{is_ascii_whitespace}
use Rattle.std.specs.List.{before_first, filter_map, slice_split, starts_with}
use Rattle.std.specs.Str.{bytes_eq}
use Rattle.idna.specs.Uts46.{domain_to_ascii}
use Rattle.idna.specs.declared.deny_list.TheConstants.AsciiDenyList.{EMPTY}
use Rattle.cookie_browser.specs.Suffixes.{Rule, Plain, Wild, Except, without_last_dot}

-- labels in lower case and in Punycode (Algorithm, Definitions; UTS #46, ToASCII), if they are valid; a last dot is
-- ignored (Algorithm, Definitions)
abbrev pub canonical : List ℕ → Option (List ℕ)
canonical labels = domain_to_ascii EMPTY (without_last_dot labels)

-- the rule that is written so; a comment begins with `//`
unfoldable pub rule_of : List ℕ → Option Rule
rule_of text =
    if bytes_eq text [] || starts_with eqb text (codes "//") then None
    else if starts_with eqb text (codes "*.") then option_map Wild (canonical (drop 2 text))
    else if starts_with eqb text (codes "!") then option_map Except (canonical (drop 1 text))
    else option_map Plain (canonical text)

-- a line is only read up to the first white space
abbrev pub rule_of_line : List ℕ → Option Rule
rule_of_line line = rule_of (before_first is_ascii_whitespace line)

-- the rules of a file, in its order
abbrev pub rules_of : List ℕ → List Rule
rules_of list = filter_map rule_of_line (slice_split (λ byte. byte == 10) list)
