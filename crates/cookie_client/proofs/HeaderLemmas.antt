-- The client's header is read back as its names and values.
use Rattle.std.proofs.Common.{◌≡◌, ℕ, Bool, false, cond, None, List, [], ◌∷◌, ◌++◌, true, map, All, Some, refl, sym, ap, subst, ◌∙◌, append_assoc, IsUtf8}
use Rattle.std.proofs.lemmas.List.{append-nil}
use Rattle.std.proofs.lemmas.List.Elements.{All-nil, All-cons, All-head, All-tail}
use Rattle.std.proofs.lemmas.Option.{none-some}
use Rattle.std.specs.FinMap.{get, entries, find, get-entries}
use Rattle.std.specs.Ordering.{eq_by_cmp}
use Rattle.std.specs.Prelude.{codes}
use mathlib.Core.Logic.{◌≢◌}
use Rattle.cookie.specs.CookieOf.{cookie_of}
use Rattle.cookie.specs.Header.{header_texts, joined_texts, more_joined}
use Rattle.cookie.specs.Jar.{Name, name_cmp}
use Rattle.cookie.specs.Normal.{IsNamed}
use Rattle.cookie.specs.Originals.{field_cookies}
use Rattle.cookie.specs.Record.{Record, IsCookie, plain}
use Rattle.cookie.specs.Text.{cookie_text}
use Rattle.cookie.proofs.FieldLemmas.{printed_cookies}
use Rattle.cookie.proofs.LawLemmas.{joined-read}
use Rattle.cookie_client.specs.Client.{Values, pair_text}
use Rattle.cookie_client.proofs.SessionLemmas.{map_map}

-- a name and a value
abbrev pub Pair : Type 0
Pair = Name × List ℕ

-- the cookie of a name and a value
abbrev pub plain_of : Pair → Record
plain_of pair = plain pair.0 pair.1

-- the name isn't empty
abbrev pub HasName : Pair → Type 0
HasName pair = pair.0 ≢ []

named_by : (es : List Pair) → find name_cmp [] es ≡ None → All HasName es
named_by [] e = All-nil HasName
named_by (pair ∷ es) e = by (named_by es) (eq_by_cmp name_cmp [] pair.0) refl e
  where
    by : (find name_cmp [] es ≡ None → All HasName es) → (b : Bool) → eq_by_cmp name_cmp [] pair.0 ≡ b → cond b (Some pair.1) (find name_cmp [] es) ≡ None → All HasName (pair ∷ es)
    by more true is never = absurd (none-some pair.1 (sym never))
    by more false is rest =
        All-cons HasName pair es (λ empty. let never : false ≡ true = sym is ∙ ap (λ n. eq_by_cmp name_cmp [] n) empty in cc) (more rest)

-- where nothing stands under the empty name, each name has a byte
pub all_named : (values : Values) → get values [] ≡ None → All HasName (entries values)
all_named values e = named_by (entries values) (sym (get-entries values []) ∙ e)

-- the name and the value are a cookie's
abbrev pub IsKnown : Pair → Type 0
IsKnown pair = IsCookie (plain_of pair)

named : (pairs : List Pair) → All HasName pairs → All IsKnown pairs → All IsNamed (map plain_of pairs)
named [] h k = All-nil IsNamed
named (pair ∷ pairs) h k =
    All-cons IsNamed (plain_of pair) (map plain_of pairs)
    (record { cookie = All-head IsKnown pair pairs k; name = All-head HasName pair pairs h })
    (named pairs (All-tail HasName pair pairs h) (All-tail IsKnown pair pairs k))

-- the texts of names and values, joined, are read as them
pub header-read : (text : List ℕ) (pairs : List Pair) → All IsKnown pairs → All HasName pairs → text ≡ joined_texts (map pair_text pairs)
    → map (cookie_of true) (header_texts text) ≡ map (λ pair. Some (plain pair.0 pair.1)) pairs
header-read text pairs k h e =
    joined-read text (map plain_of pairs) (named pairs h k) (e ∙ ap joined_texts (sym (map_map plain_of (cookie_text true true) pairs)))
    ∙ map_map plain_of (λ r. Some (plain r.name r.value)) pairs

-- and by a server
pub header-cookies : (text : List ℕ) (pairs : List Pair) → IsUtf8 text → All IsKnown pairs → All HasName pairs → text ≡ joined_texts (map pair_text pairs)
    → field_cookies text ≡ map plain_of pairs
header-cookies text pairs utf8 k h e =
    printed_cookies text (map plain_of pairs) utf8 (named pairs h k) (e ∙ ap joined_texts (sym (map_map plain_of (cookie_text true true) pairs)))
    ∙ map_map plain_of (λ r. plain r.name r.value) pairs

-- what is written of the first pair, with what the others add, is the whole
pub header-first : (empty header : List ℕ) (pair : Pair) (rest pairs : List Pair) → pairs ≡ pair ∷ rest → empty ≡ [] → header ≡ empty ++ pair_text pair
    → header ++ more_joined (map pair_text rest) ≡ joined_texts (map pair_text pairs)
header-first empty header pair rest pairs e none h =
    ap (λ t. t ++ more_joined (map pair_text rest)) (h ∙ ap (λ t. t ++ pair_text pair) none)
    ∙ sym (ap (λ es. joined_texts (map pair_text es)) e)

-- and so it is after the next
pub header-next : (before header : List ℕ) (pair : Pair) (rest pairs : List Pair) → pairs ≡ pair ∷ rest → header ≡ (before ++ codes "; ") ++ pair_text pair
    → header ++ more_joined (map pair_text rest) ≡ before ++ more_joined (map pair_text pairs)
header-next before header pair rest pairs e h =
    ap (λ t. t ++ more_joined (map pair_text rest)) h
    ∙ append_assoc (before ++ codes "; ") (pair_text pair) (more_joined (map pair_text rest))
    ∙ append_assoc before (codes "; ") (pair_text pair ++ more_joined (map pair_text rest))
    ∙ sym (ap (λ es. before ++ more_joined (map pair_text es)) e)

-- and after the last
pub header-last : (header : List ℕ) (pairs : List Pair) → pairs ≡ [] → header ≡ header ++ more_joined (map pair_text pairs)
header-last header pairs e = sym (append-nil header) ∙ sym (ap (λ es. header ++ more_joined (map pair_text es)) e)

-- the pairs are cookies' where the first is and the others are
pub known-first : (pair : Pair) (rest pairs : List Pair) → pairs ≡ pair ∷ rest → IsKnown pair → All IsKnown rest → All IsKnown pairs
known-first pair rest pairs e k h = subst (All IsKnown) (sym e) (All-cons IsKnown pair rest k h)
