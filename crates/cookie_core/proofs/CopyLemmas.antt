-- A cookie whose parts are copies has the same view.
use Rattle.std.proofs.Common.{◌≡◌, ℕ, ◌==◌, ◌<◌, Bool, true, false, List, [], ◌∷◌, Option, Some, None, IfSome, IsUtf8, refl, ap, ◌∙◌, option_map, subst, cond, arith}
use Rattle.std.proofs.lemmas.Bool.Decides.{Decides-eqb}
use Rattle.std.proofs.lemmas.Str.{IsCharBoundary-after_ascii, IsUtf8-between, IsUtf8-drop, IsUtf8-string_bytes}
use Rattle.std.proofs.lemmas.Option.{same_Some}
use Rattle.std.specs.Option.{option_and_then}
use Rattle.jiff.specs.Words.{IsDurationNanos, signed_nanos}
use Rattle.jiff.specs.declared.SignedDuration.{SignedDuration}
use Rattle.cookie_core.specs.Record.{CookieView, IsCookie, no_raw_forms, without_leading_dot}
use Rattle.cookie_core.specs.CookieStr.{Fits, source_bytes, text_bytes, raw_bytes, IsNotLent, IsSameIn, IsSameSource, IsSameText, IsSameOptionalText}
use Rattle.cookie_core.specs.Cookie.{cookie_view, HasFittingTexts}
use Rattle.cookie_core.specs.declared.cookie_str.CookieStr.{CookieStr}
use Rattle.cookie_core.specs.declared.cookie_str.CookieStr.TheVariants as text
use Rattle.cookie_core.specs.declared.cookie.Cookie.TheInside.{Inside}
use Rattle.cookie_core.specs.declared.source.Source.{Source}

pub IsSameOptionalText-some : (o : Option CookieStr) (t t' : CookieStr) → o ≡ Some t → IsSameText t t' → IsSameOptionalText o (Some t')
IsSameOptionalText-some o t t' e h =
    rw e (record { bytes = λ s. ap Some (h.bytes s); fits = λ s f. h.fits s f; lent = λ s. h.lent s })

-- the parts of b are copies of the parts of a
pub record Copied (a b : Inside) : Type 0 where
  pub source : source_bytes b.source ≡ source_bytes a.source
  pub name : IsSameText a.name b.name
  pub value : IsSameText a.value b.value
  pub path : IsSameOptionalText a.path b.path
  pub domain : IsSameOptionalText a.domain b.domain
  pub http_only : b.http_only ≡ a.http_only
  pub secure : b.secure ≡ a.secure
  pub partitioned : b.partitioned ≡ a.partitioned
  pub same_site : b.same_site ≡ a.same_site
  pub max_age : b.max_age ≡ a.max_age
  pub expires : b.expires ≡ a.expires

-- a cookie with this source and these texts in the place of its own
abbrev pub copy : Inside → Source → CookieStr → CookieStr → Option CookieStr → Option CookieStr → Inside
copy a o n v p d = record a { source = o; name = n; value = v; path = p; domain = d }

pub Copied-copy : (a : Inside) (o : Source) (n v : CookieStr) (p d : Option CookieStr) → source_bytes o ≡ source_bytes a.source → IsSameText a.name n → IsSameText a.value v → IsSameOptionalText a.path p → IsSameOptionalText a.domain d → Copied a (copy a o n v p d)
Copied-copy a o n v p d e name value path domain =
    record {
      source = e;
      name = name;
      value = value;
      path = path;
      domain = domain;
      http_only = refl;
      secure = refl;
      partitioned = refl;
      same_site = refl;
      max_age = refl;
      expires = refl;
    }

pub HasFittingTexts-copied : (a b : Inside) → Copied a b → HasFittingTexts a → HasFittingTexts b
HasFittingTexts-copied a b k h =
    record {
      source = rw k.source h.source;
      name = rw k.source (k.name.fits _ h.name);
      value = rw k.source (k.value.fits _ h.value);
      path = rw k.source (k.path.fits _ h.path);
      domain = rw k.source (k.domain.fits _ h.domain);
      max_age = rw k.max_age h.max_age;
    }

pub fields-copied : (a b : Inside) → Copied a b → (cookie_view b).fields ≡ (cookie_view a).fields
fields-copied a b k =
    let n : text_bytes (source_bytes b.source) b.name ≡ text_bytes (source_bytes a.source) a.name = rw k.source (k.name.bytes _) in
    let v : text_bytes (source_bytes b.source) b.value ≡ text_bytes (source_bytes a.source) a.value = rw k.source (k.value.bytes _) in
    let p : option_map (text_bytes (source_bytes b.source)) b.path ≡ option_map (text_bytes (source_bytes a.source)) a.path = rw k.source (k.path.bytes _) in
    let d : option_map (text_bytes (source_bytes b.source)) b.domain ≡ option_map (text_bytes (source_bytes a.source)) a.domain = rw k.source (k.domain.bytes _) in
    rw (n, v, p, d, k.http_only, k.secure, k.partitioned, k.same_site, k.max_age, k.expires)

option_and_then-same : (f g : CookieStr → Option (List ℕ)) → ((t : CookieStr) → f t ≡ g t) → (o : Option CookieStr) → option_and_then f o ≡ option_and_then g o
option_and_then-same f g h None = refl
option_and_then-same f g h (Some t) = h t

pub raw-copied : (a b : Inside) → Copied a b → IsSameSource a.source b.source → (cookie_view b).raw ≡ (cookie_view a).raw
raw-copied a b k s =
    let n : raw_bytes b.source b.name ≡ raw_bytes a.source a.name = s.lent b.name ∙ k.name.lent a.source in
    let v : raw_bytes b.source b.value ≡ raw_bytes a.source a.value = s.lent b.value ∙ k.value.lent a.source in
    let p : option_and_then (raw_bytes b.source) b.path ≡ option_and_then (raw_bytes a.source) a.path =
    option_and_then-same _ _ s.lent b.path ∙ k.path.lent a.source in
    let d : option_and_then (raw_bytes b.source) b.domain ≡ option_and_then (raw_bytes a.source) a.domain =
    option_and_then-same _ _ s.lent b.domain ∙ k.domain.lent a.source in
    rw (n, v, p, d)

option_and_then-none : (f : CookieStr → Option (List ℕ)) → ((t : CookieStr) → f t ≡ None) → (o : Option CookieStr) → option_and_then f o ≡ None
option_and_then-none f h None = refl
option_and_then-none f h (Some t) = h t

pub raw-not_lent : (a : Inside) → IsNotLent a.source → (cookie_view a).raw ≡ no_raw_forms
raw-not_lent a h =
    rw (h a.name, h a.value, option_and_then-none _ h a.path, option_and_then-none _ h a.domain)

pub view-copied : (a b : Inside) → Copied a b → IsSameSource a.source b.source → cookie_view b ≡ cookie_view a
view-copied a b k s = rw (fields-copied a b k, raw-copied a b k s)

pub view-copied-own : (a b : Inside) → Copied a b → IsNotLent b.source → cookie_view b ≡ record { fields = (cookie_view a).fields; raw = no_raw_forms }
view-copied-own a b k s = rw (fields-copied a b k, raw-not_lent b s)

-- ---- another source in which the texts are the same

module _ (a : Inside) (kept : Source) (name : IsSameIn a.source kept (Some a.name)) (value : IsSameIn a.source kept (Some a.value)) (path : IsSameIn a.source kept a.path) (domain : IsSameIn a.source kept a.domain) where
  pub HasFittingTexts-kept : (IsUtf8 (source_bytes a.source) → IsUtf8 (source_bytes kept)) → HasFittingTexts a → HasFittingTexts (record a { source = kept })
  HasFittingTexts-kept utf8 h =
      record {
        source = utf8 h.source;
        name = name.fits h.name;
        value = value.fits h.value;
        path = path.fits h.path;
        domain = domain.fits h.domain;
        max_age = h.max_age;
      }

  pub fields-kept : (cookie_view (record a { source = kept })).fields ≡ (cookie_view a).fields
  fields-kept =
      let n : text_bytes (source_bytes kept) a.name ≡ text_bytes (source_bytes a.source) a.name = same_Some _ _ name.bytes in
      let v : text_bytes (source_bytes kept) a.value ≡ text_bytes (source_bytes a.source) a.value = same_Some _ _ value.bytes in
      rw (n, v, path.bytes, domain.bytes)

-- ---- what holds of every cookie

text_is_utf8 : (s : List ℕ) (t : CookieStr) → IsUtf8 s → Fits s t → IsUtf8 (text_bytes s t)
text_is_utf8 s (text.Span p) u (le, first, last) = IsUtf8-between s p.start p.end u le first last
text_is_utf8 s (text.Borrowed t) u is = is
text_is_utf8 s (text.Owned t) u is = IsUtf8-string_bytes t

optional_is_utf8 : (s : List ℕ) (o : Option CookieStr) → IsUtf8 s → IfSome o (Fits s) → IfSome (option_map (text_bytes s) o) IsUtf8
optional_is_utf8 s None u is = tt
optional_is_utf8 s (Some t) u is = text_is_utf8 s t u is

after_dot_is_utf8 : (c : ℕ) (cs : List ℕ) → IsUtf8 (c ∷ cs) → (b : Bool) → (b ≡ true → c ≡ 46) → IsUtf8 (cond b cs (c ∷ cs))
after_dot_is_utf8 c cs is false dot = is
after_dot_is_utf8 c cs is true dot =
    let ascii : c < 128 = omega (arith, dot refl) in
    IsUtf8-drop (c ∷ cs) 1 is (IsCharBoundary-after_ascii (c ∷ cs) 0 is (omega arith) ascii)

IsUtf8-without_leading_dot : (t : List ℕ) → IsUtf8 t → IsUtf8 (without_leading_dot t)
IsUtf8-without_leading_dot [] is = is
IsUtf8-without_leading_dot (c ∷ cs) is = after_dot_is_utf8 c cs is (c == 46) ((Decides-eqb c 46).0)

undotted_is_utf8 : (o : Option (List ℕ)) → IfSome o IsUtf8 → IfSome (option_map without_leading_dot o) IsUtf8
undotted_is_utf8 None is = tt
undotted_is_utf8 (Some t) is = IsUtf8-without_leading_dot t is

age_is_known : (o : Option SignedDuration) → IfSome o (λ age. IsDurationNanos (signed_nanos age)) → IfSome (option_map signed_nanos o) IsDurationNanos
age_is_known None is = tt
age_is_known (Some age) is = is

-- a cookie's record has UTF-8 texts, and an age that a duration can have
pub is_cookie : (a : Inside) (c : CookieView) → cookie_view a ≡ c → HasFittingTexts a → IsCookie c.fields
is_cookie a c is h =
    let s = source_bytes a.source in
    subst (λ (v : CookieView). IsCookie v.fields) is (
    record {
      name = text_is_utf8 s a.name h.source h.name;
      value = text_is_utf8 s a.value h.source h.value;
      path = optional_is_utf8 s a.path h.source h.path;
      domain = undotted_is_utf8 _ (optional_is_utf8 s a.domain h.source h.domain);
      max_age = age_is_known a.max_age h.max_age;
    })
