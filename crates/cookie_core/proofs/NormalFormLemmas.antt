-- A printed cookie is read as its normal form, and a stripped one as its name and value (RFC 6265 4.1.1, 5.2).
use Rattle.std.proofs.Common.{◌≡◌, true, false, ℕ, List, [], ◌∷◌, ◌++◌, Option, Some, None, Ok, option_map, IfSome, refl, sym, ap, ◌∙◌, subst, append_assoc, arith}
use Rattle.std.specs.Str.{trim, IsUtf8}
use Rattle.cookie_core.specs.Attributes.{IsPair, SetsAttributes}
use Rattle.cookie_core.specs.CookieOf.{cookie_of}
use Rattle.cookie_core.specs.Escapes.{escape}
use Rattle.cookie_core.specs.Normal.{normal_form, IsPlainText, IsPlainDomain, CanBeRead, IsNamed, IsUncut}
use Rattle.cookie_core.specs.Pieces.{Lacks}
use Rattle.cookie_core.specs.Reads.{IsDecoded, Reads}
use Rattle.cookie_core.specs.Record.{Record, plain, IsCookie, without_leading_dot}
use Rattle.cookie_core.specs.Text.{attributes_text, cookie_text}
use Rattle.cookie_core.proofs.ByteLemmas.{is_other, all-weaker, Lacks-from_test, Lacks-append}
use Rattle.cookie_core.proofs.CookieOfLemmas.{some-unless_empty, cookie_of-Reads}
use Rattle.cookie_core.proofs.DotLemmas.{without_leading_dot-same}
use Rattle.cookie_core.proofs.EscapeTextLemmas.{is_token, token_is_other_59, token_is_other_61, escape_is_tokens, unescape-escape, escape_some, utf8_is_bytes}
use Rattle.cookie_core.proofs.ExpiryTextLemmas.{read_expiry-long}
use Rattle.cookie_core.proofs.GraphicLemmas.{trim-tokens}
use Rattle.cookie_core.proofs.PartLemmas.{domain_of, read_domain, read_record, attributes_walk}
use Rattle.cookie_core.proofs.ReadingLemmas.{Lacks-more, SetsAttributes-none, SetsAttributes-named}
use Rattle.cookie_core.proofs.PieceWalkLemmas.{HasPieces-nil, IsWalk, Reads-walk}

-- ---- the escaped name and value

escape_lacks_semicolon : (t : List ℕ) → Lacks 59 (escape t)
escape_lacks_semicolon t = Lacks-from_test 59 (escape t) (all-weaker is_token (is_other 59) token_is_other_59 (escape t) (escape_is_tokens t))

escape_lacks_equals : (t : List ℕ) → Lacks 61 (escape t)
escape_lacks_equals t = Lacks-from_test 61 (escape t) (all-weaker is_token (is_other 61) token_is_other_61 (escape t) (escape_is_tokens t))

trim-escape : (t : List ℕ) → trim (escape t) ≡ escape t
trim-escape t = trim-tokens (escape t) (escape_is_tokens t)

-- the name and the value, escaped
abbrev pub escaped_pair : Record → List ℕ
escaped_pair r = escape r.name ++ 61 ∷ escape r.value

pub escaped_pair-apart : (r : Record) → Lacks 59 (escaped_pair r)
escaped_pair-apart r =
    Lacks-append 59 (escape r.name) (61 ∷ escape r.value) (escape_lacks_semicolon r.name) (Lacks-more 59 61 (escape r.value) (λ e. omega arith) (escape_lacks_semicolon r.value))

pub escaped_pair-pair : (r : Record) → IsPair (escaped_pair r) (escape r.name) (escape r.value)
escaped_pair-pair r =
    (escape r.name, escape r.value, refl, escape_lacks_equals r.name, sym (trim-escape r.name), sym (trim-escape r.value))

decodes : (t : List ℕ) → IsUtf8 t → IsDecoded true (escape t) t
decodes t u = (sym (unescape-escape t (utf8_is_bytes t u)), u)

-- the escaped pair, and pieces behind it, are read as a record of that name and value
Reads-escaped : (r n : Record) (u : List ℕ) → IsNamed r → n.name ≡ r.name → n.value ≡ r.value → IsWalk u n → Reads true (escaped_pair r ++ u) (Ok n)
Reads-escaped r n u h en ev w =
    let name : IsDecoded true (escape r.name) n.name = rw en (decodes r.name h.cookie.name) in
    let value : IsDecoded true (escape r.value) n.value = rw ev (decodes r.value h.cookie.value) in
    Reads-walk true (escaped_pair r) (escape r.name) (escape r.value) u n (escaped_pair-apart r) (escaped_pair-pair r) (escape_some r.name h.name) name value w

pub cookie_text-pair : (r : Record) → escaped_pair r ++ attributes_text r ≡ cookie_text true false r
cookie_text-pair r = append_assoc (escape r.name) (61 ∷ escape r.value) (attributes_text r)

-- the printed text of a cookie, where its attributes are pieces that set those of the record n
pub Reads-printed : (r n : Record) → IsNamed r → n.name ≡ r.name → n.value ≡ r.value → IsWalk (attributes_text r) n → Reads true (cookie_text true false r) (Ok n)
Reads-printed r n h en ev w =
    subst (λ t. Reads true t (Ok n)) (cookie_text-pair r) (Reads-escaped r n (attributes_text r) h en ev w)

-- ---- the normal form

-- a printed cookie whose path and domain hold no `;`
pub uncut_form : (r : Record) → IsNamed r → IsUncut r → Reads true (cookie_text true false r) (Ok (read_record r))
uncut_form r h u = Reads-printed r (read_record r) h refl refl (attributes_walk r h.cookie u)

path_lacks : (o : Option (List ℕ)) → IfSome o IsPlainText → IfSome o (Lacks 59)
path_lacks None h = tt
path_lacks (Some p) h = h.whole

path_same : (o : Option (List ℕ)) → IfSome o IsPlainText → option_map trim o ≡ o
path_same None h = refl
path_same (Some p) h = ap Some h.trimmed

domain_lacks : (o : Option (List ℕ)) → IfSome o IsPlainDomain → IfSome o (Lacks 59)
domain_lacks None h = tt
domain_lacks (Some d) h = h.text.whole

domain_same : (o : Option (List ℕ)) → IfSome o IsPlainDomain → read_domain o ≡ o
domain_same None h = refl
domain_same (Some d) h =
    ap domain_of h.text.trimmed ∙ ap (option_map without_leading_dot) (some-unless_empty d h.some) ∙ ap Some (sym (without_leading_dot-same d h.no_dot))

read_record-normal : (r : Record) → CanBeRead r → read_record r ≡ normal_form r
read_record-normal r h =
    λ i. record (normal_form r) {
      path = path_same r.path h.path i;
      domain = domain_same r.domain h.domain i;
      expires = read_expiry-long r.expires h.expires i;
    }

-- a printed cookie is read as its normal form
pub Reads-normal_form : (r : Record) → IsCookie r → CanBeRead r → Reads true (cookie_text true false r) (Ok (normal_form r))
Reads-normal_form r c h =
    let named : IsNamed r = record { cookie = c; name = h.name } in
    let uncut : IsUncut r = record { path = path_lacks r.path h.path; domain = domain_lacks r.domain h.domain } in
    subst (λ n. Reads true (cookie_text true false r) (Ok n)) (read_record-normal r h) (uncut_form r named uncut)

pub cookie_of-normal_form : (r : Record) → IsCookie r → CanBeRead r → cookie_of true (cookie_text true false r) ≡ Some (normal_form r)
cookie_of-normal_form r c h = (cookie_of-Reads true (cookie_text true false r) (normal_form r)).1 (Reads-normal_form r c h)

-- a stripped text is read as its name and value
pub stripped_form : (r : Record) → IsNamed r → Reads true (cookie_text true true r) (Ok (plain r.name r.value))
stripped_form r h =
    let n : Record = plain r.name r.value in
    let w : IsWalk [] n = HasPieces-nil (λ ps. SetsAttributes ps n) (SetsAttributes-named [] (plain [] []) r.name r.value SetsAttributes-none) in
    subst (λ t. Reads true t (Ok n)) (append_assoc (escape r.name) (61 ∷ escape r.value) []) (Reads-escaped r n [] h refl refl w)

pub cookie_of-stripped : (r : Record) → IsNamed r → cookie_of true (cookie_text true true r) ≡ Some (plain r.name r.value)
cookie_of-stripped r h = (cookie_of-Reads true (cookie_text true true r) (plain r.name r.value)).1 (stripped_form r h)
