-- The cookies of the program's line have names, so a client that holds them holds nothing under the empty name.
use Rattle.std.proofs.Common.{◌≡◌, ℕ, true, List, [], ◌∷◌, All, Option, Some, None, refl, sym, ◌∙◌}
use Rattle.std.proofs.lemmas.List.Elements.{All-nil, All-cons}
use Rattle.std.specs.FinMap.{empty, get, get-empty}
use Rattle.std.specs.List.{filter_map, cons_option}
use Rattle.cookie.specs.CookieOf.{cookie_of, header_cookies}
use Rattle.cookie.specs.Header.{header_texts}
use Rattle.cookie.specs.Jar.{name_cmp}
use Rattle.cookie.specs.Record.{Record}
use Rattle.cookie.proofs.CookieOfLemmas.{cookie_of-Reads}
use Rattle.cookie.proofs.EscapeTextLemmas.{unescape_some}
use Rattle.cookie_client.specs.Originals.{client_of_line}
use Rattle.cookie_client.proofs.AgreementLemmas.{HasName, held_unnamed}

-- what is read has a name
read_named : (text : List ℕ) (cookie : Record) → cookie_of true text ≡ Some cookie → HasName cookie
read_named text cookie is =
    let (p, ps, pieces, (n, v, pair, some, name, value, sets)) = (cookie_of-Reads true text cookie).0 is in
    λ empty. unescape_some n some (sym name.0 ∙ empty)

-- so have all that are read of texts
all_read_named : (texts : List (List ℕ)) → All HasName (filter_map (cookie_of true) texts)
all_read_named [] = All-nil HasName
all_read_named (text ∷ texts) = more (all_read_named texts) (cookie_of true text) refl
  where
    more : All HasName (filter_map (cookie_of true) texts) → (o : Option Record) → cookie_of true text ≡ o → All HasName (cons_option o (filter_map (cookie_of true) texts))
    more rest None is = rest
    more rest (Some cookie) is = All-cons HasName cookie (filter_map (cookie_of true) texts) (read_named text cookie is) rest

-- a client of a line holds nothing under the empty name
pub client_of_line-unnamed : (header : List ℕ) → get (client_of_line header) [] ≡ None
unfolding header_cookies
client_of_line-unnamed header = held_unnamed (header_cookies true header) empty (all_read_named (header_texts header)) ∙ get-empty name_cmp []
