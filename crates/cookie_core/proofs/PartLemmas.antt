-- Each part of a cookie's printed text sets the field that it is for (RFC 6265 4.1.1, 5.2.1 to 5.2.6).
use Rattle.std.proofs.Common.{◌≡◌, Bool, true, false, codes, ℕ, ℤ, List, [], ◌∷◌, ◌++◌, Option, Some, None, option_map, IfSome, refl, sym, subst, arith}
use Rattle.std.specs.List.{list_all}
use Rattle.std.specs.Option.{option_or}
use Rattle.std.specs.Str.{trim}
use Rattle.jiff.specs.Words.{IsDurationNanos}
use Rattle.cookie_date.proofs.PrintLemmas.{printed_text, read_back}
use Rattle.cookie_core.specs.Attributes.{IsWord, Setting, word_of, GivesSetting, SetsAttributes}
use Rattle.cookie_core.specs.CookieOf.{unless_empty}
use Rattle.cookie_core.specs.Normal.{true_or_unset, whole_age, normal_form, IsUncut}
use Rattle.cookie_core.specs.Pieces.{Lacks}
use Rattle.cookie_core.specs.Record.{Record, IsCookie, without_leading_dot}
use Rattle.cookie_core.specs.SameSite.{same_site_text}
use Rattle.cookie_core.specs.Settings.{only, either, IsSetting}
use Rattle.cookie_core.specs.Text.{is_true, prints_secure, flag_text, attribute_text, seconds_text, expiry_text, attributes_text}
use Rattle.cookie_core.specs.declared.attributes.Key.{Key}
use Rattle.cookie_core.specs.declared.attributes.Key.TheVariants as key
use Rattle.cookie_core.specs.declared.same_site.SameSite.{SameSite}
use Rattle.cookie_core.specs.declared.same_site.SameSite.TheVariants as same_site
use Rattle.cookie_core.specs.declared.expiration.Expiration.{Expiration}
use Rattle.cookie_core.specs.declared.expiration.Expiration.TheVariants as expiration
use Rattle.cookie_core.proofs.AgeTextLemmas.{read_age, age_is_tokens}
use Rattle.cookie_core.proofs.ByteLemmas.{is_other, all-weaker, Lacks-from_test, Lacks-append}
use Rattle.cookie_core.proofs.DateTextLemmas.{date_lacks_semicolon, trim-date}
use Rattle.cookie_core.proofs.EscapeTextLemmas.{is_token, token_is_other_59, token_is_other_61}
use Rattle.cookie_core.proofs.ExpiryTextLemmas.{read_expiry}
use Rattle.cookie_core.proofs.GraphicLemmas.{trim-tokens, trim-space_tokens}
use Rattle.cookie_core.proofs.ReadingLemmas.{Lacks-more, SetsOneField-only, SetsAttributes-none, SetsAttributes-given, SetsAttributes-named}
use Rattle.cookie_core.proofs.PieceWalkLemmas.{HasPieces-nil, HasPieces-one, IsWalk, IsWalk-append}
use mathlib.Core.Logic.{◌≢◌}

-- ---- one part

no_part : IsWalk [] (only key.HttpOnly None)
no_part = HasPieces-nil (λ ps. SetsAttributes ps (only key.HttpOnly None)) SetsAttributes-none

key_lacks : (c : ℕ) (t : List ℕ) → ((b : ℕ) → is_token b ≡ true → is_other c b ≡ true) → 32 ≢ c → list_all is_token t ≡ true → Lacks c (32 ∷ t)
key_lacks c t f d h = Lacks-more c 32 t d (Lacks-from_test c t (all-weaker is_token (is_other c) f t h))

-- a flag, and an attribute with a value
part_of_flag : (t : List ℕ) (k : Key) (o : Option (Setting k)) → list_all is_token t ≡ true → IsWord t (word_of k) → IsSetting k None o → IsWalk (59 ∷ 32 ∷ t) (only k o)
part_of_flag t k o h w g =
    HasPieces-one (λ ps. SetsAttributes ps (only k o)) (32 ∷ t) (key_lacks 59 t token_is_other_59 (λ e. omega arith) h) (SetsAttributes-given (32 ∷ t) t None k (only k o) (key_lacks 61 t token_is_other_61 (λ e. omega arith) h, sym (trim-space_tokens t h)) w (SetsOneField-only k None o g))

part_of_value : (t v : List ℕ) (k : Key) (o : Option (Setting k)) → list_all is_token t ≡ true → Lacks 59 v → IsWord t (word_of k) → IsSetting k (Some (trim v)) o → IsWalk (59 ∷ 32 ∷ (t ++ 61 ∷ v)) (only k o)
part_of_value t v k o h l w g =
    let q : List ℕ = 32 ∷ (t ++ 61 ∷ v) in
    let apart : Lacks 59 q = Lacks-append 59 (32 ∷ t) (61 ∷ v) (key_lacks 59 t token_is_other_59 (λ e. omega arith) h) (Lacks-more 59 61 v (λ e. omega arith) l) in
    HasPieces-one (λ ps. SetsAttributes ps (only k o)) q apart (SetsAttributes-given q t (Some (trim v)) k (only k o) (32 ∷ t, v, refl, key_lacks 61 t token_is_other_61 (λ e. omega arith) h, sym (trim-space_tokens t h), refl) w (SetsOneField-only k (Some (trim v)) o g))

-- the value of such a part, where it is all tokens
part_of_tokens : (t v : List ℕ) (k : Key) (x : Setting k) → list_all is_token t ≡ true → list_all is_token v ≡ true → IsWord t (word_of k) → GivesSetting k (Some v) x → IsWalk (59 ∷ 32 ∷ (t ++ 61 ∷ v)) (only k (Some x))
part_of_tokens t v k x h l w g =
    part_of_value t v k (Some x) h (Lacks-from_test 59 v (all-weaker is_token (is_other 59) token_is_other_59 v l)) w (subst (λ u. GivesSetting k (Some u) x) (sym (trim-tokens v l)) g)

-- ---- each part

pub http_only_part : (b : Bool) → IsWalk (flag_text (codes "; HttpOnly") b) (only key.HttpOnly (true_or_unset b))
http_only_part true = part_of_flag (codes "HttpOnly") key.HttpOnly (Some true) refl refl refl
http_only_part false = no_part

pub partitioned_part : (b : Bool) → IsWalk (flag_text (codes "; Partitioned") b) (only key.Partitioned (true_or_unset b))
partitioned_part true = part_of_flag (codes "Partitioned") key.Partitioned (Some true) refl refl refl
partitioned_part false = no_part

pub secure_part : (b : Bool) → IsWalk (flag_text (codes "; Secure") b) (only key.Secure (true_or_unset b))
secure_part true = part_of_flag (codes "Secure") key.Secure (Some true) refl refl refl
secure_part false = no_part

pub same_site_part : (o : Option SameSite) → IsWalk (attribute_text (codes "; SameSite=") (option_map same_site_text o)) (only key.SameSite o)
same_site_part None = no_part
same_site_part (Some same_site.Strict) = part_of_tokens (codes "SameSite") (codes "Strict") key.SameSite same_site.Strict refl refl refl refl
same_site_part (Some same_site.Lax) = part_of_tokens (codes "SameSite") (codes "Lax") key.SameSite same_site.Lax refl refl refl refl
same_site_part (Some same_site.None) = part_of_tokens (codes "SameSite") (codes "None") key.SameSite same_site.None refl refl refl refl

pub path_part : (o : Option (List ℕ)) → IfSome o (Lacks 59) → IsWalk (attribute_text (codes "; Path=") o) (only key.Path (option_map trim o))
path_part None h = no_part
path_part (Some p) h = part_of_value (codes "Path") p key.Path (Some (trim p)) refl h refl refl

-- the domain that a value gives
abbrev pub domain_of : List ℕ → Option (List ℕ)
domain_of v = option_map without_leading_dot (unless_empty v)

domain_of-is : (v : List ℕ) → IsSetting key.Domain (Some v) (domain_of v)
domain_of-is [] = λ x h. h.0 refl
domain_of-is (c ∷ cs) = ((λ n. cc), refl)

-- what a printed domain is read as
abbrev pub read_domain : Option (List ℕ) → Option (List ℕ)
read_domain None = None
read_domain (Some d) = domain_of (trim d)

pub domain_part : (o : Option (List ℕ)) → IfSome o (Lacks 59) → IsWalk (attribute_text (codes "; Domain=") o) (only key.Domain (read_domain o))
domain_part None h = no_part
domain_part (Some d) h = part_of_value (codes "Domain") d key.Domain (domain_of (trim d)) refl h refl (domain_of-is (trim d))

pub max_age_part : (o : Option ℤ) → IfSome o IsDurationNanos → IsWalk (attribute_text (codes "; Max-Age=") (option_map seconds_text o)) (only key.MaxAge (option_map whole_age o))
max_age_part None h = no_part
max_age_part (Some n) h = part_of_tokens (codes "Max-Age") (seconds_text n) key.MaxAge (whole_age n) refl (age_is_tokens n h) refl (read_age n h)

pub expires_part : (o : Option Expiration) → IsWalk (attribute_text (codes "; Expires=") (expiry_text o)) (only key.Expires (read_expiry o))
expires_part None = no_part
expires_part (Some expiration.Session) = no_part
expires_part (Some (expiration.DateTime m)) =
    let back = read_back m in
    part_of_value (codes "Expires") _ key.Expires (Some (expiration.DateTime back.0)) refl (date_lacks_semicolon m) refl (rw (trim-date m) (printed_text m back.0 back.1))

-- ---- all parts

-- what a printed cookie is read as, where its path and its domain hold no `;`
abbrev pub read_record : Record → Record
read_record r =
    record (normal_form r) { path = option_map trim r.path; domain = read_domain r.domain; expires = read_expiry r.expires }

or_none : {X : Type 0} (o : Option X) → option_or o None ≡ o
or_none None = refl
or_none (Some x) = refl

pub attributes_walk : (r : Record) → IsCookie r → IsUncut r → IsWalk (attributes_text r) (read_record r)
attributes_walk r c u =
    let flags = IsWalk-append _ _ _ _ (partitioned_part (is_true r.partitioned)) (secure_part (prints_secure r)) in
    let scope = IsWalk-append _ _ _ _ (http_only_part (is_true r.http_only)) (IsWalk-append _ _ _ _ (same_site_part r.same_site) flags) in
    let place = IsWalk-append _ _ _ _ (path_part r.path u.path) (domain_part r.domain u.domain) in
    let lifetime = IsWalk-append _ _ _ _ (max_age_part r.max_age c.max_age) (expires_part r.expires) in
    let all = IsWalk-append _ _ _ _ scope (IsWalk-append _ _ _ _ place lifetime) in
    let same : either (either (either (only key.Expires (read_expiry r.expires)) (only key.MaxAge (option_map whole_age r.max_age))) (either (only key.Domain (read_domain r.domain)) (only key.Path (option_map trim r.path)))) (either (either (either (only key.Secure (true_or_unset (prints_secure r))) (only key.Partitioned (true_or_unset (is_true r.partitioned)))) (only key.SameSite r.same_site)) (only key.HttpOnly (true_or_unset (is_true r.http_only)))) ≡ record (read_record r) { name = []; value = [] } = simp or_none refl in
    let sets = subst (SetsAttributes all.pieces) same all.holds in
    record { pieces = all.pieces; text = all.text; apart = all.apart; holds = SetsAttributes-named all.pieces _ r.name r.value sets }
