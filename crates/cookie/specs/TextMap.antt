-- A table of texts by name, seen as the finite map of their bytes.
use Rattle.std.specs.Prelude.{ℕ, List, map, String, All, IsUtf8}
use Rattle.std.specs.Coded.{Coded, coded_list, coded_ℕ}
use Rattle.std.specs.FinMap.{FinMap, code, from_entries}
use Rattle.std.specs.String.{string_bytes}
use Rattle.cookie.specs.Jar.{name_cmp}

-- how such a map is stored
abbrev pub texts_code : Coded (FinMap name_cmp (List ℕ))
texts_code = code (coded_list coded_ℕ) (coded_list coded_ℕ)

-- the bytes of each key and of its value
abbrev pub text_pairs : {Y : Type 0} → List (String Y × String Y) → List (List ℕ × List ℕ)
text_pairs es = map (λ e. (string_bytes e.0, string_bytes e.1)) es

-- the map from each key's bytes to its value's bytes
abbrev pub texts_by_name : {Y : Type 0} → List (String Y × String Y) → FinMap name_cmp (List ℕ)
texts_by_name es = from_entries (text_pairs es)

-- each name and each text is UTF-8
abbrev pub AreTexts : List (List ℕ × List ℕ) → Type 0
AreTexts pairs = All (λ pair. IsUtf8 pair.0 × IsUtf8 pair.1) pairs
