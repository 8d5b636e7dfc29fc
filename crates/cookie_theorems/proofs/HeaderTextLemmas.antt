-- A client's header is a field value (RFC 9110 5.5).
use Rattle.std.proofs.Common.{◌≡◌, ℕ, true, codes, List, [], ◌∷◌, ◌++◌, map, refl}
use Rattle.std.specs.FinMap.{entries}
use Rattle.std.specs.List.{list_all}
use Rattle.http_header.specs.FieldValue.{IsFieldValue}
use Rattle.http_header.specs.Token.{is_visible_or_blank}
use Rattle.http_header.proofs.TokenLemmas.{IsFieldValue-from_visible}
use Rattle.cookie.specs.Header.{joined_texts, more_joined}
use Rattle.cookie.specs.Jar.{Name}
use Rattle.cookie_client.specs.Client.{Values, header_text, pair_text}
use Rattle.cookie_http.proofs.FieldTextLemmas.{join_values, pair_then, written}

shown : (t : List ℕ) → list_all is_visible_or_blank t ≡ true → IsFieldValue t
shown t h = written IsFieldValue join_values IsFieldValue-from_visible t h

pair : (p : Name × List ℕ) → IsFieldValue (pair_text p)
pair p = pair_then IsFieldValue join_values IsFieldValue-from_visible p.0 p.1 [] (shown [] refl)

more_pairs : (ps : List (Name × List ℕ)) → IsFieldValue (more_joined (map pair_text ps))
more_pairs [] = shown [] refl
more_pairs (p ∷ ps) =
    join_values (codes "; ") (pair_text p ++ more_joined (map pair_text ps)) (shown (codes "; ") refl)
    (join_values (pair_text p) (more_joined (map pair_text ps)) (pair p) (more_pairs ps))

pairs : (ps : List (Name × List ℕ)) → IsFieldValue (joined_texts (map pair_text ps))
pairs [] = shown [] refl
pairs (p ∷ ps) = join_values (pair_text p) (more_joined (map pair_text ps)) (pair p) (more_pairs ps)

pub IsFieldValue-header_text : (values : Values) → IsFieldValue (header_text values)
IsFieldValue-header_text values = pairs (entries values)
