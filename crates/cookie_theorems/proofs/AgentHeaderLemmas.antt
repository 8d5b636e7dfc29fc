-- What a header is read as, whatever the order of its cookies.
use Rattle.std.proofs.Common.{◌≡◌, ℕ, Bool, true, false, cond, List, [], ◌∷◌, ◌++◌, length, map, append_assoc, refl, sym, ap, subst, ◌∙◌, All, Option, Some, None, option_map, arith}
use Rattle.std.proofs.lemmas.Bool.{false≢true}
use Rattle.std.proofs.lemmas.List.{append-nil}
use Rattle.std.proofs.lemmas.List.Elements.{All-nil, All-cons, All-head, All-tail, All-weaker, All-map, All-filter}
use Rattle.std.proofs.lemmas.List.Sorted.{All-permutation}
use Rattle.std.proofs.lemmas.Slice.Eq.{bytes_eq-Decides}
use Rattle.std.specs.List.{filter}
use Rattle.std.specs.Option.{option_to_list}
use Rattle.std.specs.Prelude.{IsPermutation}
use Rattle.std.specs.Str.{bytes_eq, IsUtf8}
use mathlib.Core.Logic.{◌≢◌}
use Rattle.cookie.specs.Escapes.{escape, unescape}
use Rattle.cookie.specs.Header.{joined_texts}
use Rattle.cookie.specs.Jar.{Name, view}
use Rattle.cookie.specs.Normal.{IsNamed}
use Rattle.cookie.specs.Originals.{field_cookies}
use Rattle.cookie.specs.Record.{Record, plain}
use Rattle.cookie.specs.Text.{cookie_text}
use Rattle.cookie.proofs.EscapeTextLemmas.{escape_some, unescape-escape, utf8_is_bytes}
use Rattle.cookie.proofs.FieldLemmas.{printed_cookies}
use Rattle.cookie.proofs.LawLemmas.{joined-read}
use Rattle.cookie_client.specs.Agreement.{value_of}
use Rattle.cookie_theorems.specs.Agreement.{IsOurs, values_of, IsSent, PlanView}
use Rattle.cookie_agent.specs.Sent.{visible, name_part, sent_pair}
use Rattle.cookie_agent.proofs.PassingLemmas.{passed, passing, same_length}
use Rattle.cookie_theorems.proofs.Utf8Lemmas.{joined_utf8}
use Rattle.cookie_browser.specs.Storage.{KeptView, CookieStore, is_sent}

-- ---- what passes a test

module _ (p : KeptView → Bool) where
  none_of : (zs : CookieStore) → length zs ≡ 0 → map (λ (c : KeptView). c.value) zs ≡ []
  none_of [] e = refl
  none_of (c ∷ zs) e = absurd (omega arith)

  one_of : (v : List ℕ) (zs : CookieStore) → length zs ≡ 1 → All (λ c. c.value ≡ v) zs → map (λ (c : KeptView). c.value) zs ≡ v ∷ []
  one_of v [] e all = absurd (omega arith)
  one_of v (c ∷ []) e all = ap (λ w. w ∷ []) (All-head (λ d. d.value ≡ v) c [] all)
  one_of v (c ∷ d ∷ zs) e all = absurd (omega arith)

  values_one : (v : List ℕ) (zs : CookieStore) → map (λ (c : KeptView). c.value) zs ≡ v ∷ [] → All (λ c. c.value ≡ v) zs × (length zs ≡ 1)
  values_one v [] e = cc
  values_one v (c ∷ []) e = (All-cons (λ (d : KeptView). d.value ≡ v) c [] (cc) (All-nil (λ (d : KeptView). d.value ≡ v)), refl)
  values_one v (c ∷ d ∷ zs) e = cc

  values_none : (zs : CookieStore) → map (λ (c : KeptView). c.value) zs ≡ [] → length zs ≡ 0
  values_none [] e = refl
  values_none (c ∷ zs) e = cc

  -- at most one passes, so the order doesn't matter
  pub any_order : (xs ys : CookieStore) → IsPermutation xs ys → (o : Option (List ℕ)) → map (λ (c : KeptView). c.value) (filter p xs) ≡ option_to_list o → map (λ (c : KeptView). c.value) (filter p ys) ≡ option_to_list o
  any_order xs ys moved None e = none_of (filter p ys) (same_length p xs ys moved ∙ values_none (filter p xs) e)
  any_order xs ys moved (Some v) e =
      let h = values_one v (filter p xs) e in
      one_of v (filter p ys) (same_length p xs ys moved ∙ h.1)
      (passing p (λ c. c.value ≡ v) ys (All-permutation (λ c. p c ≡ true → c.value ≡ v) xs ys moved (passed p (λ c. c.value ≡ v) xs h.0)))

-- ---- what a stored cookie is read as

abbrev pub plain_of : KeptView → Record
plain_of c = plain (unescape c.name) (unescape c.value)

pub back : (t u : List ℕ) → IsUtf8 t → u ≡ escape t → unescape u ≡ t
back t u h e = ap unescape e ∙ unescape-escape t (utf8_is_bytes t h)

module _ (plans : Name → PlanView) where
  named : (c : KeptView) → IsOurs plans c → IsNamed (plain_of c)
  named c o =
      let n : unescape c.name ≡ o.name = back o.name c.name o.named.cookie.name o.names in
      let v : unescape c.value ≡ o.value = back o.value c.value o.named.cookie.value o.values in
      record {
        cookie = record { name = subst IsUtf8 (sym n) o.named.cookie.name; value = subst IsUtf8 (sym v) o.named.cookie.value; path = tt; domain = tt; max_age = tt };
        name = λ e. o.named.name (sym n ∙ e);
      }

  -- a name that isn't empty stands before an `=`
  named_part : (n : List ℕ) (u : List ℕ) → n ≢ [] → name_part n ++ u ≡ n ++ 61 ∷ u
  named_part [] u some = absurd (some refl)
  named_part (b ∷ bs) u some = append_assoc (b ∷ bs) (61 ∷ []) u

  text_same : (c : KeptView) → IsOurs plans c → sent_pair c ≡ cookie_text true true (plain_of c)
  text_same c o =
      let n : escape (unescape c.name) ≡ c.name = ap escape (back o.name c.name o.named.cookie.name o.names) ∙ sym o.names in
      let v : escape (unescape c.value) ≡ c.value = ap escape (back o.value c.value o.named.cookie.value o.values) ∙ sym o.values in
      named_part c.name c.value (λ e. escape_some o.name o.named.name (sym o.names ∙ e))
      ∙ sym (ap (λ t. t ++ 61 ∷ (escape (unescape c.value) ++ [])) n ∙ ap (λ t. c.name ++ 61 ∷ t) (append-nil (escape (unescape c.value)) ∙ v))

  pub texts_same : (cs : CookieStore) → All (IsOurs plans) cs → map sent_pair cs ≡ map (cookie_text true true) (map plain_of cs)
  texts_same [] all = refl
  texts_same (c ∷ cs) all =
      let e = text_same c (All-head (IsOurs plans) c cs all) in
      let f = texts_same cs (All-tail (IsOurs plans) c cs all) in
      cc

  plain_same : (cs : CookieStore) → map (λ (r : Record). plain r.name r.value) (map plain_of cs) ≡ map plain_of cs
  plain_same [] = refl
  plain_same (c ∷ cs) = ap (λ l. plain_of c ∷ l) (plain_same cs)

  some_same : (cs : CookieStore) → map (λ (r : Record). Some (plain r.name r.value)) (map plain_of cs) ≡ map (λ r. Some r) (map plain_of cs)
  some_same [] = refl
  some_same (c ∷ cs) = ap (λ l. Some (plain_of c) ∷ l) (some_same cs)

  pub named_of : (cs : CookieStore) → All (IsOurs plans) cs → All IsNamed (map plain_of cs)
  named_of cs all = All-map IsNamed plain_of cs (All-weaker (IsOurs plans) (λ c. IsNamed (plain_of c)) named cs all)

  -- the name that is read is the one, where the stored one is the escaped one
  name_test : (name : Name) → IsUtf8 name → (c : KeptView) → IsOurs plans c → bytes_eq (unescape c.name) name ≡ bytes_eq c.name (escape name)
  name_test name u c o = by (bytes_eq (unescape c.name) name) (bytes_eq c.name (escape name)) refl refl
    where
      n : unescape c.name ≡ o.name
      n = back o.name c.name o.named.cookie.name o.names

      by : (a b : Bool) → bytes_eq (unescape c.name) name ≡ a → bytes_eq c.name (escape name) ≡ b → a ≡ b
      by true true e f = refl
      by false false e f = refl
      by true false e f =
          let s : c.name ≡ escape name = o.names ∙ ap escape (sym n ∙ (bytes_eq-Decides (unescape c.name) name).0 e) in
          absurd (false≢true (sym f ∙ (bytes_eq-Decides c.name (escape name)).1 s))
      by false true e f =
          let s : unescape c.name ≡ name = back name c.name u ((bytes_eq-Decides c.name (escape name)).0 f) in
          absurd (false≢true (sym e ∙ (bytes_eq-Decides (unescape c.name) name).1 s))

  pub values_read : (name : Name) → IsUtf8 name → (cs : CookieStore) → All (IsOurs plans) cs
      → values_of name (map plain_of cs) ≡ map unescape (map (λ c. c.value) (filter (λ c. bytes_eq c.name (escape name)) cs))
  values_read name u [] all = refl
  values_read name u (c ∷ cs) all =
      ap (λ b. map (λ (r : Record). r.value) (cond b (plain_of c ∷ filter (λ r. bytes_eq r.name name) (map plain_of cs)) (filter (λ r. bytes_eq r.name name) (map plain_of cs))))
      (name_test name u c (All-head (IsOurs plans) c cs all))
      ∙ by (bytes_eq c.name (escape name)) (values_read name u cs (All-tail (IsOurs plans) c cs all))
    where
      by : (b : Bool) → values_of name (map plain_of cs) ≡ map unescape (map (λ c. c.value) (filter (λ c. bytes_eq c.name (escape name)) cs))
          → map (λ (r : Record). r.value) (cond b (plain_of c ∷ filter (λ r. bytes_eq r.name name) (map plain_of cs)) (filter (λ r. bytes_eq r.name name) (map plain_of cs)))
          ≡ map unescape (map (λ (d : KeptView). d.value) (cond b (c ∷ filter (λ d. bytes_eq d.name (escape name)) cs) (filter (λ d. bytes_eq d.name (escape name)) cs)))
      by true e = ap (λ l. unescape c.value ∷ l) e
      by false e = e

-- what a server reads of a header of such cookies
pub read_as : (plans : Name → PlanView) (header : List ℕ) (cs : CookieStore) → All (IsOurs plans) cs → header ≡ joined_texts (map sent_pair cs)
    → field_cookies header ≡ map plain_of cs
read_as plans header cs all text =
    printed_cookies header (map plain_of cs) (subst IsUtf8 (sym text) (joined_utf8 plans cs all)) (named_of plans cs all) (text ∙ ap joined_texts (texts_same plans cs all))
    ∙ plain_same plans cs

value_back : (o : Option Record) → ((cookie : Record) → o ≡ Some cookie → IsUtf8 cookie.value) → map unescape (option_to_list (option_map escape (value_of o))) ≡ option_to_list (value_of o)
value_back None known = refl
value_back (Some cookie) known = ap (λ v. v ∷ []) (unescape-escape cookie.value (utf8_is_bytes cookie.value (known cookie refl)))

pub sent : IsSent
sent site now plans store jar header known ours mirrors h =
    let all : All (IsOurs plans) h.cookies = All-permutation (IsOurs plans) (visible site now store) h.cookies h.sent (All-filter (is_sent site now) (IsOurs plans) store ours) in
    let text : header ≡ joined_texts (map (cookie_text true true) (map plain_of h.cookies)) = h.text ∙ ap joined_texts (texts_same plans h.cookies all) in
    let cookies : field_cookies header ≡ map plain_of h.cookies = read_as plans header h.cookies all h.text in
    record {
      read = joined-read header (map plain_of h.cookies) (named_of plans h.cookies all) text ∙ some_same plans h.cookies ∙ ap (map (λ r. Some r)) (sym cookies);
      agrees = λ name u.
          ap (values_of name) cookies ∙ values_read plans name u h.cookies all
          ∙ ap (map unescape) (any_order (λ c. bytes_eq c.name (escape name)) (visible site now store) h.cookies h.sent (option_map escape (value_of (view jar name))) (mirrors name u))
          ∙ value_back (view jar name) (known name);
    }
