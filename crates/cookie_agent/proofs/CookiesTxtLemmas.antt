-- What is written in a `cookies.txt` is read again.
use Rattle.std.proofs.Common.{◌≡◌, ℕ, ℤ, ◌-◌, ◌<◌, ◌^◌, ◌==◌, ◌&&◌, Bool, true, false, cond, not, List, [], ◌∷◌, ◌++◌, length, get_or, drop, map, Option, Some, None, refl, sym, ap, ◌∙◌, append_assoc, arith, eqb}
use denote.Ref.{Bor}
use Rattle.std.specs.Prelude.{◌≢◌, codes, decimal, is_some, nat_le, nat_lt, option_map, pos, unwrap_or}
use Rattle.std.specs.Char.{is_ascii_digit, to_ascii_lowercase}
use Rattle.std.specs.List.{All, concat, join_with_byte, list_all, starts_with}
use Rattle.std.specs.Str.{str_to_ascii_lowercase}
use Rattle.std.specs.Str.Lines.{strip_carriage_return}
use Rattle.std.specs.Str.Parse.{digits_value}
use Rattle.std.proofs.lemmas.Bool.{and_parts, cond-false, cond-true, false≢true}
use Rattle.std.proofs.lemmas.Bool.Decides.{nat_tests}
use Rattle.std.proofs.lemmas.Fmt.{digits_value-decimal, decimal_nonempty}
use Rattle.std.proofs.lemmas.List.Elements.{All-cons, All-nil}
use Rattle.std.proofs.lemmas.List.Splits.{slice_split_at, slice_split_none}
use Rattle.std.proofs.lemmas.List.Sums.{AllPass-from_list_all}
use Rattle.jiff.specs.Types.{DateTime}
use Rattle.jiff.specs.Words.{civil_nanos}
use Rattle.cookie_core.specs.Attributes.{nanos_of_seconds, seconds_of_digits}
use Rattle.cookie_core.specs.Record.{without_leading_dot}
use Rattle.cookie_core.proofs.AgeLemmas.{ascii_digits, seconds_of_digits-some}
use Rattle.cookie_core.proofs.AgeTextLemmas.{decimal_is_digits}
use Rattle.cookie_core.proofs.ByteLemmas.{all-append, all-weaker}
use Rattle.cookie_browser.specs.Storage.{KeptView, CookieStore}
use Rattle.cookie_browser.specs.declared.enforcement.Enforcement.TheVariants as enforcement
use Rattle.cookie_agent.specs.CookiesTxt.{cookie_line, cookie_of, domain_field, expiry_seconds, fields_of, flag_of, flag_text, has_fields, head_line, http_only_mark, is_carried, is_field_byte, is_one_field, line_of, line_of_fields, line_read, read_line, seconds_from_1970, split_fields, txt_cookie}
use Rattle.cookie_agent.specs.CookiesTxtCode.{carried_seconds, cookie_as, line_at}
use Rattle.cookie_agent.specs.Saved.{is_persistent, lines_of, saved}
use Rattle.cookie_agent.specs.Storable.{can_be_set, is_domain, is_path, is_received_pair, is_storable, limited, meets_name_prefix, meets_same_site}
use Rattle.cookie_agent.specs.declared.saved.cookies_txt.Fields.{Fields}
use Rattle.cookie_agent.specs.declared.saved.cookies_txt.Kind.{Kind}
use Rattle.cookie_agent.specs.declared.saved.line.Line.{Line}
use Rattle.cookie_agent.specs.declared.saved.line.Line.TheVariants as line
use Rattle.cookie_agent.proofs.SavedLemmas.{lines_for}
use Rattle.cookie_agent.proofs.StorableLemmas.{domain_begins, domain_bytes, is_domain_byte}

-- ---- bytes

-- a byte that no line or field ends at
abbrev pub is_plain : ℕ → Bool
is_plain byte = nat_le 32 byte

-- a byte of a line
abbrev pub is_quiet : ℕ → Bool
is_quiet byte = not (byte == 10) && not (byte == 13)

pub digit_is_plain : (b : ℕ) → is_ascii_digit b ≡ true → is_plain b ≡ true
digit_is_plain b h = grind (arith, nat_tests)

field_is_plain : (b : ℕ) → is_field_byte b ≡ true → is_plain b ≡ true
field_is_plain b h = (and_parts (nat_le 32 b) _ h).0

domain_is_plain : (b : ℕ) → is_domain_byte b ≡ true → is_plain b ≡ true
domain_is_plain b h = let k = (and_parts (nat_lt 32 b) _ h).0 in grind (arith, nat_tests, k)

domain_is_lower : (b : ℕ) → is_domain_byte b ≡ true → to_ascii_lowercase b ≡ b
domain_is_lower b h =
    let k = (and_parts (not (b == 127)) _ (and_parts (nat_lt 32 b) _ h).1).1 in grind (arith, nat_tests, k)

pub plain_is_quiet : (b : ℕ) → is_plain b ≡ true → is_quiet b ≡ true
plain_is_quiet b h = grind (arith, nat_tests)

plain_differs : (m b : ℕ) → m < 32 → is_plain b ≡ true → (b == m) ≡ false
plain_differs m b small h = grind (arith, nat_tests)

quiet_differs : (b : ℕ) → is_quiet b ≡ true → (b == 10) ≡ false
quiet_differs b h = let k = (and_parts (not (b == 10)) _ h).0 in grind (arith, nat_tests, k)

quiet_stays : (b : ℕ) → is_quiet b ≡ true → (b == 13) ≡ false
quiet_stays b h = let k = (and_parts (not (b == 10)) _ h).1 in grind (arith, nat_tests, k)

plain_lacks_tab : (t : List ℕ) → list_all is_plain t ≡ true → All (λ b. (b == 9) ≡ false) t
plain_lacks_tab [] h = All-nil (λ x. (x == 9) ≡ false)
plain_lacks_tab (b ∷ bs) h =
    let k = and_parts (is_plain b) (list_all is_plain bs) h in
    All-cons (λ x. (x == 9) ≡ false) b bs (plain_differs 9 b (omega arith) k.0) (plain_lacks_tab bs k.1)

pub quiet_lacks_feed : (t : List ℕ) → list_all is_quiet t ≡ true → All (λ b. (b == 10) ≡ false) t
quiet_lacks_feed [] h = All-nil (λ x. (x == 10) ≡ false)
quiet_lacks_feed (b ∷ bs) h =
    let k = and_parts (is_quiet b) (list_all is_quiet bs) h in
    All-cons (λ x. (x == 10) ≡ false) b bs (quiet_differs b k.0) (quiet_lacks_feed bs k.1)

pub strip_quiet : (t : List ℕ) → list_all is_quiet t ≡ true → strip_carriage_return t ≡ t
strip_quiet [] h = refl
strip_quiet (b ∷ bs) h =
    let n = length (b ∷ bs) - 1 in
    let last = AllPass-from_list_all is_quiet (b ∷ bs) h n 0 (omega arith) in
    cond-false (get_or (b ∷ bs) n 0 == 13) _ _ (quiet_stays (get_or (b ∷ bs) n 0) last)

-- ---- fields

abbrev ArePlain : List (List ℕ) → Type 0
ArePlain [] = Unit {0}
ArePlain (t ∷ ts) = (list_all is_plain t ≡ true) × ArePlain ts

join_is_quiet : (ts : List (List ℕ)) → ArePlain ts → list_all is_quiet (join_with_byte 9 ts) ≡ true
join_is_quiet [] h = refl
join_is_quiet (t ∷ []) h = all-weaker is_plain is_quiet plain_is_quiet t h.0
join_is_quiet (t ∷ u ∷ us) h =
    all-append is_quiet t (9 ∷ join_with_byte 9 (u ∷ us)) (all-weaker is_plain is_quiet plain_is_quiet t h.0) (join_is_quiet (u ∷ us) h.1)

split_join : (t : List ℕ) (ts : List (List ℕ)) → ArePlain (t ∷ ts) → split_fields (join_with_byte 9 (t ∷ ts)) ≡ t ∷ ts
split_join t [] h = slice_split_none (λ b. b == 9) t (plain_lacks_tab t h.0)
split_join t (u ∷ us) h =
    slice_split_at (λ b. b == 9) t 9 (join_with_byte 9 (u ∷ us)) (plain_lacks_tab t h.0) refl
    ∙ ap (λ vs. t ∷ vs) (split_join u us h.1)

flag_is_plain : (flag : Bool) → list_all is_plain (flag_text flag) ≡ true
flag_is_plain true = refl
flag_is_plain false = refl

flag_of-flag_text : (flag : Bool) → flag_of (flag_text flag) ≡ Some flag
flag_of-flag_text true = refl
flag_of-flag_text false = refl

seconds_of-decimal : (n : ℕ) → n < 2 ^ 63 → seconds_of_digits (decimal n) ≡ Some n
seconds_of-decimal n small =
    let value : digits_value 10 (decimal n) ≡ n = digits_value-decimal ascii_digits n (omega arith) in
    seconds_of_digits-some (decimal n) (decimal_nonempty n (omega arith)) (decimal_is_digits n (omega arith))
    ∙ ap Some (rw value (omega arith))

not-not : (b : Bool) → not (not b) ≡ b
not-not true = refl
not-not false = refl

-- ---- what is known of a cookie that the form can carry

pub record Carried (cookie : KeptView) : Type 0 where
  pub fields : has_fields cookie ≡ true
  pub domain : is_domain cookie.domain ≡ true
  pub name : list_all is_plain cookie.name ≡ true
  pub value : list_all is_plain cookie.value ≡ true
  pub path : list_all is_plain cookie.path ≡ true
  pub seconds : ℕ
  pub expiry : expiry_seconds cookie.expiry ≡ Some seconds
  pub some : 0 < seconds
  pub small : seconds < 2 ^ 63

some_expiry : (e : Option ℤ) → is_some (expiry_seconds e) ≡ true
    → (n : ℕ) × (expiry_seconds e ≡ Some n) × (0 < n) × (n < 2 ^ 63)
some_expiry None h = absurd (false≢true h)
some_expiry (Some time) h = by (nat_lt 0 n && nat_lt n (2 ^ 63)) refl h
  where
    n : ℕ
    n = seconds_from_1970 time

    by : (test : Bool) → (nat_lt 0 n && nat_lt n (2 ^ 63)) ≡ test → is_some (cond test (Some n) None) ≡ true
        → (k : ℕ) × (expiry_seconds (Some time) ≡ Some k) × (0 < k) × (k < 2 ^ 63)
    by true is given =
        let k = and_parts (nat_lt 0 n) (nat_lt n (2 ^ 63)) is in
        (n, cond-true (nat_lt 0 n && nat_lt n (2 ^ 63)) (Some n) None is, grind (arith, nat_tests, k.0), grind (arith, nat_tests, k.1))
    by false is given = absurd (false≢true given)

pub carried : (cookie : KeptView) → is_carried cookie ≡ true → Carried cookie
carried cookie h =
    let outer = and_parts (has_fields cookie) _ h in
    let inner = and_parts (is_storable cookie) _ outer.0 in
    let texts = and_parts (nat_lt 0 (length cookie.name)) _ inner.1 in
    let name = and_parts (is_one_field cookie.name) _ texts.1 in
    let value = and_parts (is_one_field cookie.value) (is_one_field cookie.path) name.1 in
    let pair = and_parts (is_received_pair cookie.name cookie.value) _ inner.0 in
    let domain = and_parts (is_domain cookie.domain) _ pair.1 in
    let e = some_expiry cookie.expiry outer.1 in
    record {
      fields = outer.0;
      domain = domain.0;
      name = all-weaker is_field_byte is_plain field_is_plain cookie.name name.0;
      value = all-weaker is_field_byte is_plain field_is_plain cookie.value value.0;
      path = all-weaker is_field_byte is_plain field_is_plain cookie.path value.1;
      seconds = e.0;
      expiry = e.1;
      some = e.2;
      small = e.3;
    }

-- ---- the domain

lower_domain : (t : List ℕ) → list_all is_domain_byte t ≡ true → str_to_ascii_lowercase t ≡ t
lower_domain [] h = refl
lower_domain (b ∷ bs) h =
    let k = and_parts (is_domain_byte b) (list_all is_domain_byte bs) h in
    ap (λ x. x ∷ str_to_ascii_lowercase bs) (domain_is_lower b k.0) ∙ ap (λ xs. b ∷ xs) (lower_domain bs k.1)

-- the domain of a field with a dot, or without one
abbrev dotted : Bool → List ℕ → List ℕ
dotted is_host_only domain = cond is_host_only domain (46 ∷ domain)

dotted_is_read : (is_host_only : Bool) (domain : List ℕ) → is_domain domain ≡ true
    → str_to_ascii_lowercase (without_leading_dot (dotted is_host_only domain)) ≡ domain
dotted_is_read is_host_only [] h = absurd (false≢true h)
dotted_is_read true (b ∷ bs) h =
    ap str_to_ascii_lowercase (cond-false (b == 46) bs (b ∷ bs) (domain_begins b bs h).undotted) ∙ lower_domain (b ∷ bs) (domain_bytes (b ∷ bs) h)
dotted_is_read false (b ∷ bs) h = lower_domain (b ∷ bs) (domain_bytes (b ∷ bs) h)

dotted_is_plain : (is_host_only : Bool) (domain : List ℕ) → is_domain domain ≡ true
    → list_all is_plain (dotted is_host_only domain) ≡ true
dotted_is_plain true domain h = all-weaker is_domain_byte is_plain domain_is_plain domain (domain_bytes domain h)
dotted_is_plain false domain h = all-weaker is_domain_byte is_plain domain_is_plain domain (domain_bytes domain h)

-- ---- a line

-- the bytes before a line feed
abbrev pub body_of : KeptView → List ℕ
body_of cookie = (cond cookie.is_http_only http_only_mark []) ++ join_with_byte 9 (fields_of cookie)

fields_are_plain : (cookie : KeptView) → Carried cookie → ArePlain (fields_of cookie)
fields_are_plain cookie h =
    let n = h.seconds in
    let digits = decimal_is_digits n (omega (arith, h.small)) in
    let seconds : list_all is_plain (decimal (unwrap_or (expiry_seconds cookie.expiry) 0)) ≡ true =
    ap (λ e. list_all is_plain (decimal (unwrap_or e 0))) h.expiry ∙ all-weaker is_ascii_digit is_plain digit_is_plain (decimal n) digits in
    (dotted_is_plain cookie.is_host_only cookie.domain h.domain, (flag_is_plain (not cookie.is_host_only), (h.path, (flag_is_plain cookie.is_secure_only, (seconds, (h.name, (h.value, tt)))))))

mark_is_quiet : (is_http_only : Bool) → list_all is_quiet (cond is_http_only http_only_mark []) ≡ true
mark_is_quiet true = refl
mark_is_quiet false = refl

body_is_quiet : (cookie : KeptView) → Carried cookie → list_all is_quiet (body_of cookie) ≡ true
body_is_quiet cookie h =
    all-append is_quiet (cond cookie.is_http_only http_only_mark []) (join_with_byte 9 (fields_of cookie))
    (mark_is_quiet cookie.is_http_only) (join_is_quiet (fields_of cookie) (fields_are_plain cookie h))

-- nothing that the test looks at is lost
keeps : (a b c d e f g : Bool) → ((a && (b && (c && (d && (e && f))))) && g) ≡ true → ((a && (b && (c && (d && (e && true))))) && g) ≡ true
keeps false b c d e f g h = h
keeps true false c d e f g h = h
keeps true true false d e f g h = h
keeps true true true false e f g h = h
keeps true true true true false f g h = h
keeps true true true true true false g h = absurd (false≢true h)
keeps true true true true true true g h = h

read_fields : (now : DateTime) (cookie : KeptView) → Carried cookie
    → line_of_fields now cookie.is_http_only (fields_of cookie) ≡ line.Cookie (txt_cookie now cookie)
read_fields now cookie h =
    let n = h.seconds in
    let read = record cookie { same_site = enforcement.Default; expiry = option_map nanos_of_seconds (expiry_seconds cookie.expiry); last_access = civil_nanos now } in
    let has : has_fields read ≡ true =
    keeps (is_received_pair cookie.name cookie.value) (is_domain cookie.domain) (can_be_set cookie) (is_path cookie.path) (meets_name_prefix cookie) (meets_same_site cookie) _ h.fields in
    let whole : seconds_of_digits (decimal (unwrap_or (expiry_seconds cookie.expiry) 0)) ≡ Some n =
    ap (λ e. seconds_of_digits (decimal (unwrap_or e 0))) h.expiry ∙ seconds_of-decimal n h.small in
    let made : cookie_of now cookie.is_http_only (domain_field cookie) (not cookie.is_host_only) cookie.path cookie.is_secure_only n cookie.name cookie.value ≡ read =
    same_cookie now cookie n (str_to_ascii_lowercase (without_leading_dot (domain_field cookie))) (not (not cookie.is_host_only)) (expiry_seconds cookie.expiry)
    (dotted_is_read cookie.is_host_only cookie.domain h.domain) (not-not cookie.is_host_only) h.expiry in
    ap (λ s. read_line now cookie.is_http_only (domain_field cookie) (flag_of (flag_text (not cookie.is_host_only))) cookie.path (flag_of (flag_text cookie.is_secure_only)) s cookie.name cookie.value) whole
    ∙ ap (λ s. read_line now cookie.is_http_only (domain_field cookie) (flag_of (flag_text (not cookie.is_host_only))) cookie.path s (Some n) cookie.name cookie.value) (flag_of-flag_text cookie.is_secure_only)
    ∙ ap (λ s. read_line now cookie.is_http_only (domain_field cookie) s cookie.path (Some cookie.is_secure_only) (Some n) cookie.name cookie.value) (flag_of-flag_text (not cookie.is_host_only))
    ∙ ap (line_of now n) made
    ∙ ap (λ b. cond (not b) line.Bad (cond (n == 0) line.Other (line.Cookie (txt_cookie now cookie)))) has
    ∙ cond-false (n == 0) line.Other (line.Cookie (txt_cookie now cookie)) (positive n h.some)
  where
    positive : (n : ℕ) → 0 < n → (n == 0) ≡ false
    positive n some = grind (arith, nat_tests)

    same_cookie : (now : DateTime) (cookie : KeptView) (n : ℕ) (domain : List ℕ) (is_host_only : Bool) (seconds : Option ℕ)
        → domain ≡ cookie.domain → is_host_only ≡ cookie.is_host_only → seconds ≡ Some n
        → record cookie { domain = domain; is_host_only = is_host_only; same_site = enforcement.Default; expiry = Some (nanos_of_seconds n); last_access = civil_nanos now }
        ≡ record cookie { same_site = enforcement.Default; expiry = option_map nanos_of_seconds seconds; last_access = civil_nanos now }
    same_cookie now cookie n domain is_host_only seconds d o s =
        ap (λ x. record cookie { domain = x; is_host_only = is_host_only; same_site = enforcement.Default; expiry = Some (nanos_of_seconds n); last_access = civil_nanos now }) d
        ∙ ap (λ x. record cookie { is_host_only = x; same_site = enforcement.Default; expiry = Some (nanos_of_seconds n); last_access = civil_nanos now }) o
        ∙ ap (λ x. record cookie { same_site = enforcement.Default; expiry = option_map nanos_of_seconds x; last_access = civil_nanos now }) (sym s)

-- a line that doesn't begin with the mark, nor as a comment
unmarked : (now : DateTime) (b : ℕ) (bs : List ℕ) → (b == 35) ≡ false
    → line_read now (b ∷ bs) ≡ line_of_fields now false (split_fields (b ∷ bs))
unmarked now b bs h =
    cond-false (starts_with eqb (b ∷ bs) http_only_mark) _ _ (ap (λ x. x && starts_with eqb bs (codes "HttpOnly_")) (other b h))
    ∙ cond-false (b == 35) _ _ h
  where
    other : (b : ℕ) → (b == 35) ≡ false → (35 == b) ≡ false
    other b h = grind (arith, nat_tests)

no_comment : (now : DateTime) (is_host_only : Bool) (domain rest : List ℕ) → is_domain domain ≡ true
    → line_read now (dotted is_host_only domain ++ rest) ≡ line_of_fields now false (split_fields (dotted is_host_only domain ++ rest))
no_comment now is_host_only [] rest h = absurd (false≢true h)
no_comment now true (b ∷ bs) rest h = unmarked now b (bs ++ rest) (domain_begins b bs h).unmarked
no_comment now false (b ∷ bs) rest h = unmarked now 46 ((b ∷ bs) ++ rest) refl

read_marked : (now : DateTime) (is_http_only is_host_only : Bool) (domain rest : List ℕ) → is_domain domain ≡ true
    → line_read now (cond is_http_only http_only_mark [] ++ (dotted is_host_only domain ++ rest))
    ≡ line_of_fields now is_http_only (split_fields (dotted is_host_only domain ++ rest))
read_marked now true is_host_only domain rest h = refl
read_marked now false is_host_only domain rest h = no_comment now is_host_only domain rest h

read_body : (now : DateTime) (cookie : KeptView) → Carried cookie → line_read now (body_of cookie) ≡ line.Cookie (txt_cookie now cookie)
read_body now cookie h =
    read_marked now cookie.is_http_only cookie.is_host_only cookie.domain _ h.domain
    ∙ ap (line_of_fields now cookie.is_http_only) (split_join (domain_field cookie) (flag_text (not cookie.is_host_only) ∷ cookie.path ∷ flag_text cookie.is_secure_only ∷ decimal (unwrap_or (expiry_seconds cookie.expiry) 0) ∷ cookie.name ∷ cookie.value ∷ []) (fields_are_plain cookie h))
    ∙ read_fields now cookie h

-- ---- the text

-- what the lines of a text hold
abbrev pub read_lines : DateTime → List ℕ → List Line
read_lines now text = map (line_read now) (lines_of text)

one_line : (cookie : KeptView) (rest : List ℕ) → cookie_line cookie ++ rest ≡ body_of cookie ++ 10 ∷ rest
one_line cookie rest =
    let mark = cond cookie.is_http_only http_only_mark [] in
    let joined = join_with_byte 9 (fields_of cookie) in
    append_assoc mark (joined ++ 10 ∷ []) rest ∙ ap (λ t. mark ++ t) (append_assoc joined (10 ∷ []) rest) ∙ sym (append_assoc mark joined (10 ∷ rest))

abbrev AreCarried : CookieStore → Type 0
AreCarried [] = Unit {0}
AreCarried (cookie ∷ store) = Carried cookie × AreCarried store

read_cookies : (now : DateTime) (store : CookieStore) → AreCarried store → read_lines now (concat (map cookie_line store)) ≡ lines_for (txt_cookie now) store
read_cookies now [] h = refl
read_cookies now (cookie ∷ store) h =
    let rest = concat (map cookie_line store) in
    let quiet = body_is_quiet cookie h.0 in
    ap (read_lines now) (one_line cookie rest)
    ∙ ap (λ ts. map (line_read now) (map strip_carriage_return ts)) (slice_split_at (λ b. b == 10) (body_of cookie) 10 rest (quiet_lacks_feed (body_of cookie) quiet) refl)
    ∙ ap (λ t. line_read now t ∷ read_lines now rest) (strip_quiet (body_of cookie) quiet)
    ∙ ap (λ l. l ∷ read_lines now rest) (read_body now cookie h.0)
    ∙ ap (λ ls. line.Cookie (txt_cookie now cookie) ∷ ls) (read_cookies now store h.1)

saved_are_carried : (moment : DateTime) (store : CookieStore) → AreCarried (saved moment is_carried store)
saved_are_carried moment [] = tt
saved_are_carried moment (cookie ∷ store) = by (is_persistent moment cookie && is_carried cookie) refl (saved_are_carried moment store)
  where
    by : (b : Bool) → (is_persistent moment cookie && is_carried cookie) ≡ b → AreCarried (saved moment is_carried store)
        → AreCarried (cond b (cookie ∷ saved moment is_carried store) (saved moment is_carried store))
    by true h others = (carried cookie (and_parts (is_persistent moment cookie) (is_carried cookie) h).1, others)
    by false h others = others

read_head : (now : DateTime) (rest : List ℕ) → read_lines now (head_line ++ rest) ≡ line.Other ∷ read_lines now rest
read_head now rest =
    ap (λ ts. map (line_read now) (map strip_carriage_return ts))
    (slice_split_at (λ b. b == 10) (codes "# Netscape HTTP Cookie File") 10 rest (quiet_lacks_feed (codes "# Netscape HTTP Cookie File") refl) refl)

pub read_text : (moment now : DateTime) (store : CookieStore)
    → read_lines now (head_line ++ concat (map cookie_line (saved moment is_carried store))) ≡ line.Other ∷ lines_for (txt_cookie now) (saved moment is_carried store)
read_text moment now store =
    let kept = saved moment is_carried store in
    read_head now (concat (map cookie_line kept)) ∙ ap (λ ls. line.Other ∷ ls) (read_cookies now kept (saved_are_carried moment store))

-- ---- what the code does

pub marked : (now : DateTime) (text : List ℕ) → starts_with eqb text http_only_mark ≡ true
    → line_read now text ≡ line_of_fields now true (split_fields (drop 10 text))
marked now [] h = absurd (false≢true h)
marked now (b ∷ bs) h = cond-true (starts_with eqb (b ∷ bs) http_only_mark) _ _ h

pub read_of : (now : DateTime) (is_http_only : Bool) (domain path name value : List ℕ) (b s : Option Bool) (e : Option ℕ)
    (below secure : Bool) (count : ℕ) → b ≡ Some below → s ≡ Some secure → e ≡ Some count
    → read_line now is_http_only domain b path s e name value
    ≡ line_of now count (cookie_of now is_http_only domain below path secure count name value)
read_of now is_http_only domain path name value b s e below secure count is_b is_s is_e =
    ap (λ x. read_line now is_http_only domain x path s e name value) is_b
    ∙ ap (λ x. read_line now is_http_only domain (Some below) path x e name value) is_s
    ∙ ap (λ x. read_line now is_http_only domain (Some below) path (Some secure) x name value) is_e

pub nonzero : (n : ℕ) → pos n ≢ pos 0 → (n == 0) ≡ false
nonzero n h = by (n == 0) refl
  where
    by : (t : Bool) → (n == 0) ≡ t → t ≡ false
    by true e = let none : n ≡ 0 = grind (arith, nat_tests, e) in absurd (h (ap pos none))
    by false e = refl

pub line_of-is : (now : DateTime) (n : ℕ) (cookie : KeptView) → has_fields cookie ≡ true → (n == 0) ≡ false
    → line_of now n cookie ≡ line.Cookie (record cookie { expiry = limited now cookie.expiry })
line_of-is now n cookie has some =
    ap (λ b. cond (not b) line.Bad (cond (n == 0) line.Other (line.Cookie (record cookie { expiry = limited now cookie.expiry })))) has
    ∙ cond-false (n == 0) line.Other (line.Cookie (record cookie { expiry = limited now cookie.expiry })) some

-- the count that was read as an integer
pub counted : (e : Option ℕ) (z : ℤ) → option_map pos e ≡ Some z → (count : ℕ) × (e ≡ Some count) × (z ≡ pos count)
counted None z h = absurd (false≢true (ap is_some h))
counted (Some count) z h = (count, refl, sym (ap (λ o. unwrap_or o z) h))

pub other_texts : (texts : List (Bor (List ℕ))) → length texts ≢ 7 → length texts ≢ 6 → (now : DateTime) (is_http_only : Bool)
    → line.Bad ≡ line_of_fields now is_http_only (map (λ t. t.now) texts)
other_texts [] h k now o = refl
other_texts (a ∷ []) h k now o = refl
other_texts (a ∷ b ∷ []) h k now o = refl
other_texts (a ∷ b ∷ c ∷ []) h k now o = refl
other_texts (a ∷ b ∷ c ∷ d ∷ []) h k now o = refl
other_texts (a ∷ b ∷ c ∷ d ∷ e ∷ []) h k now o = refl
other_texts (a ∷ b ∷ c ∷ d ∷ e ∷ f ∷ []) h k now o = absurd (k refl)
other_texts (a ∷ b ∷ c ∷ d ∷ e ∷ f ∷ g ∷ []) h k now o = absurd (h refl)
other_texts (a ∷ b ∷ c ∷ d ∷ e ∷ f ∷ g ∷ x ∷ xs) h k now o = refl

-- ---- a cookie that is saved or left out

pub carried_seconds-some : (cookie : KeptView) → is_carried cookie ≡ is_some (carried_seconds cookie)
carried_seconds-some cookie = by (has_fields cookie)
  where
    by : (b : Bool) → (b && is_some (expiry_seconds cookie.expiry)) ≡ is_some (cond b (expiry_seconds cookie.expiry) None)
    by true = refl
    by false = refl

pub carried_line : (cookie : KeptView) (n : ℕ) → carried_seconds cookie ≡ Some n → line_at n cookie ≡ cookie_line cookie
carried_line cookie n h = by (has_fields cookie) h
  where
    by : (b : Bool) → cond b (expiry_seconds cookie.expiry) None ≡ Some n → line_at n cookie ≡ cookie_line cookie
    by true given = sym (ap (λ e. line_at (unwrap_or e 0) cookie) given)
    by false given = absurd (false≢true (ap is_some given))

-- ---- the line, part by part

pub line_parts : (t mark domain below path secure expiry name value : List ℕ)
    → ((((((t ++ (mark ++ (domain ++ 9 ∷ (below ++ 9 ∷ [])))) ++ path ++ 9 ∷ []) ++ secure ++ 9 ∷ []) ++ expiry ++ 9 ∷ []) ++ name ++ 9 ∷ []) ++ value) ++ 10 ∷ []
    ≡ t ++ (mark ++ (join_with_byte 9 (domain ∷ below ∷ path ∷ secure ∷ expiry ∷ name ∷ value ∷ []) ++ 10 ∷ []))
line_parts t mark domain below path secure expiry name value = simp append_assoc refl

-- ---- the fields, as the code makes a cookie of them

-- the domain is in lower case
pub as_read : (now : DateTime) (kind : Kind) (count : ℕ) (fields : Fields) (domain : List ℕ)
    → domain ≡ str_to_ascii_lowercase (without_leading_dot fields.domain.now)
    → record {
      name = fields.name.now;
      value = fields.value.now;
      domain = domain;
      is_host_only = not kind.below;
      path = fields.path.now;
      is_secure_only = kind.is_secure_only;
      is_http_only = kind.is_http_only;
      same_site = enforcement.Default;
      expiry = Some (nanos_of_seconds count);
      last_access = civil_nanos now;
    } ≡ cookie_as now kind count fields
as_read now kind count fields domain is =
    ap (λ d. record {
      name = fields.name.now;
      value = fields.value.now;
      domain = d;
      is_host_only = not kind.below;
      path = fields.path.now;
      is_secure_only = kind.is_secure_only;
      is_http_only = kind.is_http_only;
      same_site = enforcement.Default;
      expiry = Some (nanos_of_seconds count);
      last_access = civil_nanos now;
    }) is
