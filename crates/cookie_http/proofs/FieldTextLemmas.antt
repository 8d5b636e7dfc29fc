-- The text of a cookie whose path and domain can stand in a field is UTF-8 and a field value (RFC 9110 5.5).
use Rattle.std.proofs.Common.{◌≡◌, Bool, true, false, ℕ, ℤ, arith, codes, List, [], ◌∷◌, ◌++◌, Option, Some, None, option_map, IfSome, IsTrue, refl}
use Rattle.std.proofs.lemmas.Bool.{and_parts}
use Rattle.std.proofs.lemmas.Bool.Decides.{nat_tests}
use Rattle.std.proofs.lemmas.List.Elements.{All-append, All-weaker}
use Rattle.std.proofs.lemmas.Str.{IsUtf8-append}
use Rattle.std.specs.List.{list_all}
use Rattle.std.specs.Str.{IsUtf8}
use Rattle.jiff.specs.Words.{IsDurationNanos}
use Rattle.http_header.specs.FieldValue.{IsFieldValue, IsVisibleAscii}
use Rattle.http_header.specs.Token.{is_value_byte, is_visible_or_blank}
use Rattle.http_header.proofs.TokenLemmas.{AllPass-from_test, IsFieldValue-from_visible, IsUtf8-from_visible}
use Rattle.cookie_date.specs.Text.{moment_text}
use Rattle.cookie.specs.AttributeValues.{FitsField, IsAttributeValue, is_attribute_byte}
use Rattle.cookie.specs.Escapes.{escape}
use Rattle.cookie.specs.Record.{IsCookie, Record}
use Rattle.cookie.specs.SameSite.{same_site_text}
use Rattle.cookie.specs.Text.{ShownAttribute, Flag, Valued, shown_text, shown_texts, scope_attributes, place_attributes, lifetime_attributes, attribute_text, attributes_text, scope_text, place_text, lifetime_text, cookie_text, expiry_text, flag_text, seconds_text}
use Rattle.cookie.specs.Types.{AtDateTime, Expiration, Lax, NoSameSite, SameSite, Session, Strict}
use Rattle.cookie.proofs.AgeTextLemmas.{age_is_tokens}
use Rattle.cookie.proofs.ByteLemmas.{all-weaker}
use Rattle.cookie.proofs.DateTextLemmas.{date_passes, is_date_byte}
use Rattle.cookie.proofs.EscapeTextLemmas.{escape_is_tokens, is_token}

token_is_shown : (b : ℕ) → is_token b ≡ true → is_visible_or_blank b ≡ true
token_is_shown b h = grind (arith, nat_tests)

date_byte_is_shown : (b : ℕ) → is_date_byte b ≡ true → is_visible_or_blank b ≡ true
date_byte_is_shown b h = grind (arith, nat_tests)

-- what an attribute begins with
abbrev word_of : ShownAttribute → List ℕ
word_of (Flag word is_shown) = 59 ∷ word
word_of (Valued label value) = 59 ∷ label

-- what holds of joined texts and of visible ASCII holds of a cookie's text, if it holds of the path and the domain
module _ (P : List ℕ → Type 0) (join : (a b : List ℕ) → P a → P b → P (a ++ b)) (shown : (t : List ℕ) → IsVisibleAscii t → P t) where
  pub written : (t : List ℕ) → list_all is_visible_or_blank t ≡ true → P t
  written t h = shown t (AllPass-from_test is_visible_or_blank t h)

  tokens : (t : List ℕ) → list_all is_token t ≡ true → P t
  tokens t h = written t (all-weaker is_token is_visible_or_blank token_is_shown t h)

  escaped : (t : List ℕ) → P (escape t)
  escaped t = tokens (escape t) (escape_is_tokens t)

  flag : (t : List ℕ) (b : Bool) → P t → P (flag_text t b)
  flag t true h = h
  flag t false h = written [] refl

  attribute : (label : List ℕ) (o : Option (List ℕ)) → P label → IfSome o P → P (attribute_text label o)
  attribute label (Some v) h k = join label v h k
  attribute label None h k = written [] refl

  same_site : (o : Option SameSite) → IfSome (option_map same_site_text o) P
  same_site (Some Strict) = written (codes "Strict") refl
  same_site (Some Lax) = written (codes "Lax") refl
  same_site (Some NoSameSite) = written (codes "None") refl
  same_site None = tt

  age : (o : Option ℤ) → IfSome o IsDurationNanos → IfSome (option_map seconds_text o) P
  age (Some n) h = tokens (seconds_text n) (age_is_tokens n h)
  age None h = tt

  expiry : (o : Option Expiration) → IfSome (expiry_text o) P
  expiry (Some (AtDateTime m)) = written (moment_text m) (all-weaker is_date_byte is_visible_or_blank date_byte_is_shown (moment_text m) (date_passes m))
  expiry (Some Session) = tt
  expiry None = tt

  -- of the values that are shown
  abbrev Values : List ShownAttribute → Type 0
  Values [] = Unit {0}
  Values (Flag word is_shown ∷ attributes) = Values attributes
  Values (Valued label value ∷ attributes) = IfSome value P × Values attributes

  one : (attribute : ShownAttribute) (later : List ShownAttribute) → list_all is_visible_or_blank (word_of attribute) ≡ true → Values (attribute ∷ later)
      → P (shown_text attribute) × Values later
  one (Flag word is_shown) later h values = (flag (59 ∷ word) is_shown (written (59 ∷ word) h), values)
  one (Valued label value) later h (k, values) = (attribute (59 ∷ label) value (written (59 ∷ label) h) k, values)

  texts : (attributes : List ShownAttribute) → list_all (λ attribute. list_all is_visible_or_blank (word_of attribute)) attributes ≡ true → Values attributes → P (shown_texts attributes)
  texts [] h values = written [] refl
  texts (a ∷ []) h values = (one a [] (and_parts _ _ h).0 values).0
  texts (a ∷ b ∷ more) h values =
      let first = one a (b ∷ more) (and_parts _ _ h).0 values in
      join (shown_text a) (shown_texts (b ∷ more)) first.0 (texts (b ∷ more) (and_parts _ _ h).1 first.1)

  scope : (r : Record) → P (scope_text r)
  scope r = texts (scope_attributes r) refl (same_site r.same_site, tt)

  place : (r : Record) → IfSome r.path P → IfSome r.domain P → P (place_text r)
  place r path domain = texts (place_attributes r) refl (path, (domain, tt))

  lifetime : (r : Record) → IfSome r.max_age IsDurationNanos → P (lifetime_text r)
  lifetime r known = texts (lifetime_attributes r) refl (age r.max_age known, (expiry r.expires, tt))

  attributes : (r : Record) → IfSome r.max_age IsDurationNanos → IfSome r.path P → IfSome r.domain P → P (attributes_text r)
  attributes r known path domain =
      join (scope_text r) (place_text r ++ lifetime_text r) (scope r)
      (join (place_text r) (lifetime_text r) (place r path domain) (lifetime r known))

  pub pair_then : (name value rest : List ℕ) → P rest → P (escape name ++ (codes "=" ++ (escape value ++ rest)))
  pair_then name value rest h =
      join (escape name) (codes "=" ++ (escape value ++ rest)) (escaped name)
      (join (codes "=") (escape value ++ rest) (written (codes "=") refl) (join (escape value) rest (escaped value) h))

  cookie : (r : Record) → IfSome r.max_age IsDurationNanos → IfSome r.path P → IfSome r.domain P → P (cookie_text true false r)
  cookie r known path domain = pair_then r.name r.value (attributes_text r) (attributes r known path domain)

pub join_values : (a b : List ℕ) → IsFieldValue a → IsFieldValue b → IsFieldValue (a ++ b)
join_values a b = All-append (λ c. IsTrue (is_value_byte c)) a b

value_byte : (b : ℕ) → IsTrue (is_attribute_byte b) → IsTrue (is_value_byte b)
value_byte b h = grind (arith, nat_tests)

-- what can be the value of an attribute is a field value
field_value : (o : Option (List ℕ)) → IfSome o IsAttributeValue → IfSome o IsFieldValue
field_value (Some t) h = All-weaker (λ b. IsTrue (is_attribute_byte b)) (λ b. IsTrue (is_value_byte b)) value_byte t h
field_value None h = tt

-- the text of each cookie whose path and domain can stand in a field is a field value
pub IsFieldValue-cookie_text : (r : Record) → IsCookie r → FitsField r → IsFieldValue (cookie_text true false r)
IsFieldValue-cookie_text r known fits =
    cookie IsFieldValue join_values IsFieldValue-from_visible r known.max_age (field_value r.path fits.path) (field_value r.domain fits.domain)

-- the text of each cookie is UTF-8
pub IsUtf8-cookie_text : (r : Record) → IsCookie r → IsUtf8 (cookie_text true false r)
IsUtf8-cookie_text r known = cookie IsUtf8 IsUtf8-append IsUtf8-from_visible r known.max_age known.path known.domain
