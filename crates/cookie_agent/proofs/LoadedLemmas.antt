-- Each cookie that is read of a saved text could have been stored.
use Rattle.std.proofs.Common.{◌≡◌, ℕ, ℤ, ◌==◌, ◌&&◌, Bool, true, false, cond, not, List, [], ◌∷◌, drop, map, eqb, Option, Some, None, refl, ap, ◌∙◌, arith}
use Rattle.std.specs.Prelude.{int_le, int_lt}
use Rattle.std.specs.List.{list_all, starts_with}
use Rattle.std.specs.Str.{is_utf8}
use Rattle.std.proofs.lemmas.Bool.{and_from, and_parts}
use Rattle.jiff.proofs.SpanFacts.{signed_arith}
use Rattle.jiff.specs.Types.{DateTime}
use Rattle.jiff.specs.Words.{civil_nanos}
use Rattle.serde_json.specs.Data.{Data}
use Rattle.serde_json.specs.Read.{read}
use Rattle.cookie_core.specs.Attributes.{seconds_of_digits}
use Rattle.cookie_browser.specs.Received.{age_limit}
use Rattle.cookie_browser.specs.Storage.{KeptView, earlier_of, seconds_after}
use Rattle.cookie_browser.specs.Suffixes.{Rule}
use Rattle.cookie_agent.specs.CookiesTxt.{cookie_of, flag_of, has_fields, http_only_mark, line_of, line_of_fields, line_read, read_line, split_fields}
use Rattle.cookie_agent.specs.JsonLines.{cookie_of_data, json_cookie, json_line_read, line_of_cookie, line_of_data}
use Rattle.cookie_agent.specs.Saved.{cookies_of, is_for_suffix, lines_of, taken}
use Rattle.cookie_agent.specs.SavedForms as forms
use Rattle.cookie_agent.specs.Storable.{is_limited, is_storable, is_storable_by, limited}
use Rattle.cookie_agent.specs.declared.saved.form.SavedForm.{SavedForm}
use Rattle.cookie_agent.specs.declared.saved.form.SavedForm.TheVariants as form
use Rattle.cookie_agent.specs.declared.saved.line.Line.{Line}
use Rattle.cookie_agent.specs.declared.saved.line.Line.TheVariants as line

pub int_le-same : (x : ℤ) → int_le x x ≡ true
int_le-same x = grind (arith, signed_arith)

pub int_le-earlier : (a b : ℤ) → int_le (earlier_of a b) b ≡ true
int_le-earlier a b = by (int_lt a b) refl
  where
    by : (t : Bool) → int_lt a b ≡ t → int_le (cond t a b) b ≡ true
    by true h = grind (arith, signed_arith, h)
    by false h = int_le-same b

module _ (now : DateTime) where
  pub limited_is : (e : Option ℤ) → is_limited now (limited now e) ≡ true
  limited_is e = by (is_limited now e) refl
    where
      by : (t : Bool) → is_limited now e ≡ t → is_limited now (cond t e (Some (seconds_after now age_limit))) ≡ true
      by true h = h
      by false h = int_le-same (seconds_after now age_limit)

  -- a line that holds no cookie but one that could have been stored
  abbrev IsFine : Line → Type 0
  IsFine (line.Cookie cookie) = is_storable_by now cookie ≡ true
  IsFine line.Other = Unit {0}
  IsFine line.Bad = Unit {0}

  -- ---- a cookies.txt

  of_is_fine : (n : ℕ) (cookie : KeptView) → cookie.last_access ≡ civil_nanos now → IsFine (line_of now n cookie)
  of_is_fine n cookie at = by (has_fields cookie) refl (n == 0)
    where
      by : (t : Bool) → has_fields cookie ≡ t → (none : Bool)
          → IsFine (cond (not t) line.Bad (cond none line.Other (line.Cookie (record cookie { expiry = limited now cookie.expiry }))))
      by false h none = tt
      by true h true = tt
      by true h false =
          and_from (is_storable cookie) (is_limited now (limited now cookie.expiry) && int_le cookie.last_access (civil_nanos now)) (and_parts (is_storable cookie) _ h).0
          (and_from (is_limited now (limited now cookie.expiry)) (int_le cookie.last_access (civil_nanos now)) (limited_is cookie.expiry)
          (ap (λ t. int_le t (civil_nanos now)) at ∙ int_le-same (civil_nanos now)))

  read_is_fine : (o : Bool) (domain : List ℕ) (b : Option Bool) (path : List ℕ) (s : Option Bool) (e : Option ℕ) (name value : List ℕ)
      → IsFine (read_line now o domain b path s e name value)
  read_is_fine o domain None path s e name value = tt
  read_is_fine o domain (Some b) path None e name value = tt
  read_is_fine o domain (Some b) path (Some s) None name value = tt
  read_is_fine o domain (Some b) path (Some s) (Some n) name value = of_is_fine n (cookie_of now o domain b path s n name value) refl

  fields_are_fine : (o : Bool) (ts : List (List ℕ)) → IsFine (line_of_fields now o ts)
  fields_are_fine o [] = tt
  fields_are_fine o (a ∷ []) = tt
  fields_are_fine o (a ∷ b ∷ []) = tt
  fields_are_fine o (a ∷ b ∷ c ∷ []) = tt
  fields_are_fine o (a ∷ b ∷ c ∷ d ∷ []) = tt
  fields_are_fine o (a ∷ b ∷ c ∷ d ∷ e ∷ []) = tt
  fields_are_fine o (a ∷ b ∷ c ∷ d ∷ e ∷ f ∷ []) = read_is_fine o a (flag_of b) c (flag_of d) (seconds_of_digits e) f []
  fields_are_fine o (a ∷ b ∷ c ∷ d ∷ e ∷ f ∷ g ∷ []) = read_is_fine o a (flag_of b) c (flag_of d) (seconds_of_digits e) f g
  fields_are_fine o (a ∷ b ∷ c ∷ d ∷ e ∷ f ∷ g ∷ h ∷ ts) = tt

  txt_is_fine : (text : List ℕ) → IsFine (line_read now text)
  txt_is_fine [] = tt
  txt_is_fine (b ∷ bs) = by (starts_with eqb (b ∷ bs) http_only_mark) (b == 35)
    where
      by : (m c : Bool) → IsFine (cond m (line_of_fields now true (split_fields (drop 10 (b ∷ bs)))) (cond c line.Other (line_of_fields now false (split_fields (b ∷ bs)))))
      by true c = fields_are_fine true (split_fields (drop 10 (b ∷ bs)))
      by false true = tt
      by false false = fields_are_fine false (split_fields (b ∷ bs))

  -- ---- JSON lines

  cookie_is_fine : (o : Option KeptView) → IsFine (line_of_cookie now o)
  cookie_is_fine None = tt
  cookie_is_fine (Some cookie) = by (is_storable cookie) refl
    where
      by : (t : Bool) → is_storable cookie ≡ t → IsFine (cond t (line.Cookie (json_cookie now cookie)) line.Bad)
      by false h = tt
      by true h =
          let access = earlier_of cookie.last_access (civil_nanos now) in
          and_from (is_storable cookie) (is_limited now (limited now cookie.expiry) && int_le access (civil_nanos now)) h
          (and_from (is_limited now (limited now cookie.expiry)) (int_le access (civil_nanos now)) (limited_is cookie.expiry) (int_le-earlier cookie.last_access (civil_nanos now)))

  data_is_fine : (o : Option Data) → IsFine (line_of_data now o)
  data_is_fine None = tt
  data_is_fine (Some value) = cookie_is_fine (cookie_of_data value)

  json_is_fine : (text : List ℕ) → IsFine (json_line_read now text)
  json_is_fine [] = tt
  json_is_fine (b ∷ bs) = by (is_utf8 (b ∷ bs))
    where
      by : (t : Bool) → IsFine (cond t (line_of_data now (read (b ∷ bs))) line.Bad)
      by true = data_is_fine (read (b ∷ bs))
      by false = tt

  -- ---- all lines

  line_is_fine : (f : SavedForm) (text : List ℕ) → IsFine (forms.line_read f now text)
  line_is_fine form.CookiesTxt text = txt_is_fine text
  line_is_fine form.JsonLines text = json_is_fine text

  taken_is_fine : (rules : List Rule) (l : Line) → IsFine l → IsFine (taken rules l)
  taken_is_fine rules (line.Cookie cookie) h = by (is_for_suffix rules cookie)
    where
      by : (t : Bool) → IsFine (cond t line.Bad (line.Cookie cookie))
      by true = tt
      by false = h
  taken_is_fine rules line.Other h = tt
  taken_is_fine rules line.Bad h = tt

  all_are_fine : (rules : List Rule) (f : SavedForm) (ts : List (List ℕ))
      → list_all (is_storable_by now) (cookies_of (map (λ t. taken rules (forms.line_read f now t)) ts)) ≡ true
  all_are_fine rules f [] = refl
  all_are_fine rules f (t ∷ ts) = by (taken rules (forms.line_read f now t)) (taken_is_fine rules (forms.line_read f now t) (line_is_fine f t)) (all_are_fine rules f ts)
    where
      by : (l : Line) → IsFine l → list_all (is_storable_by now) (cookies_of (map (λ u. taken rules (forms.line_read f now u)) ts)) ≡ true
          → list_all (is_storable_by now) (cookies_of (l ∷ map (λ u. taken rules (forms.line_read f now u)) ts)) ≡ true
      by (line.Cookie cookie) h rest = and_from (is_storable_by now cookie) _ h rest
      by line.Other h rest = rest
      by line.Bad h rest = rest

  pub loaded_are_storable : (rules : List Rule) (f : SavedForm) (text : List ℕ)
      → list_all (is_storable_by now) (forms.loaded_cookies f rules now text) ≡ true
  loaded_are_storable rules f text = all_are_fine rules f (lines_of text)
