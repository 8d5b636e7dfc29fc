-- Mirrors private code: the rules of three sets of texts.
use Rattle.std.specs.Prelude.{ℕ, List, ◌++◌, String, map}
use Rattle.std.specs.String.{string_bytes}
use Rattle.cookie_browser.specs.Suffixes.{Rule, Plain, Wild, Except}

-- the texts
abbrev pub texts_of : {Y : Type 0} → List (String Y) → List (List ℕ)
texts_of keys = map string_bytes keys

-- the rules with these texts
abbrev pub rules_view : List (List ℕ) → List (List ℕ) → List (List ℕ) → List Rule
rules_view plain wild except = map Plain plain ++ (map Wild wild ++ map Except except)
