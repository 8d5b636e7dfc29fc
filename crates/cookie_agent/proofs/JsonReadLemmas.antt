-- What is written as JSON lines is read again.
use Rattle.std.proofs.Common.{◌≡◌, ℕ, ℤ, ◌+◌, ◌<◌, ◌^◌, ◌==◌, ◌&&◌, ◌||◌, Bool, true, false, cond, List, [], ◌∷◌, ◌++◌, map, Option, Some, None, IsUtf8, refl, sym, ap, ◌∙◌, pos, negsuc, arith, append_assoc, append-nil, nat_lt}
use Rattle.std.specs.Prelude.{◌%◌, ◌/◌, suc, codes, decimal, option_and_then, int_lt, int_le, neg_ℤ}
use Rattle.std.specs.Char.{digit_char, is_ascii_digit}
use Rattle.cookie_core.proofs.AgeTextLemmas.{decimal_is_digits}
use Rattle.std.specs.Fmt.{signed_decimal}
use Rattle.std.specs.List.{concat, list_all}
use Rattle.std.specs.Str.{encode_utf8_all, is_utf8}
use Rattle.std.specs.Str.Lines.{strip_carriage_return}
use Rattle.std.proofs.lemmas.Bool.{and_from, and_parts, cond-true, false≢true}
use Rattle.std.proofs.lemmas.Bool.Decides.{nat_tests}
use Rattle.std.proofs.lemmas.Fmt.{IsAscii-decimal, IsAscii-signed}
use Rattle.std.proofs.lemmas.List.Splits.{slice_split_at}
use Rattle.std.proofs.lemmas.Str.{IsUtf8-append, IsUtf8-from_ascii, chars-encodes, is_utf8-from_IsUtf8}
use lib.Utf8.{low_scalar, scalar, scalars}
use Rattle.jiff.specs.Types.{DateTime}
use Rattle.json.specs.Json as json
use Rattle.json.specs.Lex.{tokens}
use Rattle.json.specs.Print.{ArePrintable, IsNumber, escape, escape_byte, escape_letter, quoted}
use Rattle.json.specs.Token.{Token}
use Rattle.json.specs.Tree.{json_tokens}
use Rattle.json.proofs.Printed.Decimals.{IsNumber-decimal, IsNumber-signed_decimal}
use Rattle.json.proofs.Printed.Tokens.{tokens-print}
use Rattle.json.proofs.Printed.Trees.{value-json_tokens}
use Rattle.json.proofs.Printed.Utf8.{IsUtf8-are_ascii, IsUtf8-quoted, are_ascii}
use Rattle.serde_json.specs.Data.{Data, Members, boolean, member, no_members, object}
use Rattle.serde_json.specs.Find.{as_i64, of_integer}
use Rattle.serde_json.specs.Read.{max_depth, number_of, of_json, read}
use Rattle.serde_json.specs.Written.{comma_if, compact_text, members_text, number_text, outline}
use Rattle.serde_json.proofs.Numbers.{number_of-decimal, number_of-negative}
use Rattle.serde_json.proofs.Texts.{print-outline}
use Rattle.cookie_core.proofs.ByteLemmas.{all-append, all-weaker}
use Rattle.cookie_browser.specs.Storage.{KeptView, CookieStore}
use Rattle.cookie_browser.specs.declared.enforcement.Enforcement.{Enforcement}
use Rattle.cookie_browser.specs.declared.enforcement.Enforcement.TheVariants as enforcement
use Rattle.cookie_agent.specs.JsonLines.{bytes_of, cookie_data, cookie_of_data, cookie_with, enforcement_of_word, enforcement_word, flags_with, has_bytes, is_byte, is_json_carried, is_json_expiry, is_json_time, json_cookie, json_line, json_line_at, json_line_read, line_of_cookie, line_of_data, texts_with, times_with}
use Rattle.cookie_agent.specs.Saved.{is_persistent, lines_of, saved}
use Rattle.cookie_agent.specs.Storable.{is_storable}
use Rattle.cookie_agent.specs.declared.saved.line.Line.{Line}
use Rattle.cookie_agent.specs.declared.saved.line.Line.TheVariants as line
use Rattle.cookie_agent.proofs.SavedLemmas.{lines_for}
use Rattle.cookie_agent.proofs.CookiesTxtLemmas.{digit_is_plain, is_plain, is_quiet, plain_is_quiet, quiet_lacks_feed, strip_quiet}

-- ---- numbers

pos_bound : (n : ℕ) → is_json_time (pos n) ≡ true → n < 2 ^ 63
pos_bound n h = let k = (and_parts (int_le (neg_ℤ (pos (2 ^ 63))) (pos n)) (int_lt (pos n) (pos (2 ^ 63))) h).1 in grind (arith, nat_tests, k)

neg_bound : (n : ℕ) → is_json_time (negsuc n) ≡ true → n < 2 ^ 63
neg_bound n h = let k = (and_parts (int_le (neg_ℤ (pos (2 ^ 63))) (negsuc n)) (int_lt (negsuc n) (pos (2 ^ 63))) h).0 in grind (arith, nat_tests, k)

is_number : (z : ℤ) → is_json_time z ≡ true → IsNumber (number_text (of_integer z))
is_number (pos n) h = IsNumber-decimal n (omega (arith, pos_bound n h))
is_number (negsuc n) h = IsNumber-signed_decimal (negsuc n) (neg_bound n h)

read_number : (z : ℤ) → is_json_time z ≡ true → number_of (number_text (of_integer z)) ≡ Some (of_integer z)
read_number (pos n) h = number_of-decimal n (omega (arith, pos_bound n h))
read_number (negsuc n) h = number_of-negative n (neg_bound n h)

read_time : (z : ℤ) → is_json_time z ≡ true → as_i64 (of_integer z) ≡ Some z
read_time (pos n) h = cond-true (nat_lt n (2 ^ 63)) (Some (pos n)) None (let k = pos_bound n h in grind (arith, nat_tests, k))
read_time (negsuc n) h = refl

number_is_utf8 : (z : ℤ) → is_json_time z ≡ true → IsUtf8 (number_text (of_integer z))
number_is_utf8 (pos n) h = IsUtf8-from_ascii (decimal n) (IsAscii-decimal n (omega (arith, pos_bound n h)))
number_is_utf8 (negsuc n) h = IsUtf8-from_ascii (signed_decimal (negsuc n)) (IsAscii-signed (negsuc n) (neg_bound n h))

digits_are_quiet : (n : ℕ) → n < 2 ^ 64 → list_all is_quiet (decimal n) ≡ true
digits_are_quiet n h = all-weaker is_plain is_quiet plain_is_quiet (decimal n) (all-weaker is_ascii_digit is_plain digit_is_plain (decimal n) (decimal_is_digits n h))

number_is_quiet : (z : ℤ) → is_json_time z ≡ true → list_all is_quiet (number_text (of_integer z)) ≡ true
number_is_quiet (pos n) h = digits_are_quiet n (omega (arith, pos_bound n h))
number_is_quiet (negsuc n) h = digits_are_quiet (suc n) (omega (arith, neg_bound n h))

-- ---- strings

letter_is_quiet : (x : ℕ) → is_quiet (escape_letter x) ≡ true
letter_is_quiet x = by (x == 34 || x == 92) refl
  where
    later : (a b c d e : Bool) → is_quiet (cond a 98 (cond b 102 (cond c 110 (cond d 114 (cond e 116 0))))) ≡ true
    later true b c d e = refl
    later false true c d e = refl
    later false false true d e = refl
    later false false false true e = refl
    later false false false false true = refl
    later false false false false false = refl

    by : (t : Bool) → (x == 34 || x == 92) ≡ t
        → is_quiet (cond t x (cond (x == 8) 98 (cond (x == 12) 102 (cond (x == 10) 110 (cond (x == 13) 114 (cond (x == 9) 116 0)))))) ≡ true
    by true h = grind (arith, nat_tests, h)
    by false h = later (x == 8) (x == 12) (x == 10) (x == 13) (x == 9)

digit_is_quiet : (d : ℕ) → is_quiet (digit_char d) ≡ true
digit_is_quiet d = by (nat_lt d 10)
  where
    by : (b : Bool) → is_quiet (cond b (48 + d) (87 + d)) ≡ true
    by true = grind (arith, nat_tests)
    by false = grind (arith, nat_tests)

escaped_is_quiet : (x : ℕ) → list_all is_quiet (escape_byte x) ≡ true
unfolding escape_byte
escaped_is_quiet x = by (nat_lt 0 (escape_letter x)) (nat_lt x 32) refl
  where
    by : (short low : Bool) → nat_lt x 32 ≡ low
        → list_all is_quiet (cond short (92 ∷ escape_letter x ∷ []) (cond low (92 ∷ 117 ∷ 48 ∷ 48 ∷ digit_char (x / 16) ∷ digit_char (x % 16) ∷ []) (x ∷ []))) ≡ true
    by true low h = rw (letter_is_quiet x) refl
    by false true h = rw (digit_is_quiet (x / 16), digit_is_quiet (x % 16)) refl
    by false false h = let q : is_quiet x ≡ true = grind (arith, nat_tests, h) in rw q refl

escape_is_quiet : (s : List ℕ) → list_all is_quiet (escape s) ≡ true
escape_is_quiet [] = refl
escape_is_quiet (x ∷ xs) = all-append is_quiet (escape_byte x) (escape xs) (escaped_is_quiet x) (escape_is_quiet xs)

quoted_is_quiet : (s : List ℕ) → list_all is_quiet (quoted s) ≡ true
quoted_is_quiet s = all-append is_quiet (escape s) (34 ∷ []) (escape_is_quiet s) refl

-- ---- an object is quiet, and UTF-8

abbrev AreFine : Members → Type 0
AreFine no_members = Unit {0}
AreFine (member key found members) =
    IsUtf8 key × (IsUtf8 (compact_text found) × ((list_all is_quiet (compact_text found) ≡ true) × AreFine members))

comma_is_utf8 : (later : Bool) → IsUtf8 (comma_if later)
comma_is_utf8 true = IsUtf8-are_ascii (44 ∷ []) refl
comma_is_utf8 false = IsUtf8-are_ascii [] refl

comma_is_quiet : (later : Bool) → list_all is_quiet (comma_if later) ≡ true
comma_is_quiet true = refl
comma_is_quiet false = refl

members_are_utf8 : (later : Bool) (members : Members) → AreFine members → IsUtf8 (members_text later members)
members_are_utf8 later no_members h = IsUtf8-are_ascii (125 ∷ []) refl
members_are_utf8 later (member key found members) h =
    IsUtf8-append (comma_if later) _ (comma_is_utf8 later)
    (IsUtf8-append (quoted key) _ (IsUtf8-quoted key h.0)
    (IsUtf8-append (58 ∷ []) _ (IsUtf8-are_ascii (58 ∷ []) refl)
    (IsUtf8-append (compact_text found) _ h.1.0 (members_are_utf8 true members h.1.1.1))))

members_are_quiet : (later : Bool) (members : Members) → AreFine members → list_all is_quiet (members_text later members) ≡ true
members_are_quiet later no_members h = refl
members_are_quiet later (member key found members) h =
    all-append is_quiet (comma_if later) (quoted key ++ 58 ∷ (compact_text found ++ members_text true members)) (comma_is_quiet later)
    (all-append is_quiet (quoted key) (58 ∷ (compact_text found ++ members_text true members)) (quoted_is_quiet key)
    (all-append is_quiet (compact_text found) (members_text true members) h.1.1.0 (members_are_quiet true members h.1.1.1)))

-- ---- bytes

byte_is_scalar : (bytes : List ℕ) → list_all is_byte bytes ≡ true → scalars bytes ≡ true
byte_is_scalar [] h = refl
byte_is_scalar (b ∷ bs) h =
    let k = and_parts (is_byte b) (list_all is_byte bs) h in
    let small : b < 55296 = grind (arith, nat_tests, k.0) in
    and_from (scalar b) (scalars bs) (low_scalar b small) (byte_is_scalar bs k.1)

read_bytes : (bytes : List ℕ) → list_all is_byte bytes ≡ true → bytes_of (encode_utf8_all bytes) ≡ Some bytes
read_bytes bytes h =
    ap (λ letters. cond (list_all is_byte letters) (Some letters) None) (chars-encodes bytes (byte_is_scalar bytes h))
    ∙ cond-true (list_all is_byte bytes) (Some bytes) None h

text_is_utf8 : (bytes : List ℕ) → list_all is_byte bytes ≡ true → IsUtf8 (quoted (encode_utf8_all bytes))
text_is_utf8 bytes h = IsUtf8-quoted (encode_utf8_all bytes) (bytes, (byte_is_scalar bytes h, refl))

word_is_utf8 : (rule : Enforcement) → IsUtf8 (quoted (enforcement_word rule))
word_is_utf8 enforcement.Default = IsUtf8-quoted (codes "default") (IsUtf8-are_ascii (codes "default") refl)
word_is_utf8 enforcement.Strict = IsUtf8-quoted (codes "strict") (IsUtf8-are_ascii (codes "strict") refl)
word_is_utf8 enforcement.Lax = IsUtf8-quoted (codes "lax") (IsUtf8-are_ascii (codes "lax") refl)
word_is_utf8 enforcement.None = IsUtf8-quoted (codes "none") (IsUtf8-are_ascii (codes "none") refl)

flag_is_utf8 : (flag : Bool) → IsUtf8 (compact_text (boolean flag))
flag_is_utf8 true = IsUtf8-are_ascii _ refl
flag_is_utf8 false = IsUtf8-are_ascii _ refl

flag_is_quiet : (flag : Bool) → list_all is_quiet (compact_text (boolean flag)) ≡ true
flag_is_quiet true = refl
flag_is_quiet false = refl

read_word : (rule : Enforcement) → enforcement_of_word (enforcement_word rule) ≡ Some rule
read_word enforcement.Default = refl
read_word enforcement.Strict = refl
read_word enforcement.Lax = refl
read_word enforcement.None = refl

-- ---- what is known of a cookie that is saved

record Carried (cookie : KeptView) : Type 0 where
  storable : is_storable cookie ≡ true
  expiry : ℤ
  expires : cookie.expiry ≡ Some expiry
  expiry_fits : is_json_time expiry ≡ true
  access_fits : is_json_time cookie.last_access ≡ true
  name : list_all is_byte cookie.name ≡ true
  value : list_all is_byte cookie.value ≡ true
  domain : list_all is_byte cookie.domain ≡ true
  path : list_all is_byte cookie.path ≡ true

some_expiry : (o : Option ℤ) → is_json_expiry o ≡ true → (e : ℤ) × (o ≡ Some e) × (is_json_time e ≡ true)
some_expiry None h = absurd (false≢true h)
some_expiry (Some e) h = (e, refl, h)

carried : (cookie : KeptView) → is_json_carried cookie ≡ true → has_bytes cookie ≡ true → Carried cookie
carried cookie h bytes =
    let a = and_parts (is_storable cookie) _ h in
    let b = and_parts (is_json_expiry cookie.expiry) (is_json_time cookie.last_access) a.1 in
    let e = some_expiry cookie.expiry b.0 in
    let p = and_parts (list_all is_byte cookie.name) _ bytes in
    let q = and_parts (list_all is_byte cookie.value) _ p.1 in
    let r = and_parts (list_all is_byte cookie.domain) (list_all is_byte cookie.path) q.1 in
    record {
      storable = a.0;
      expiry = e.0;
      expires = e.1;
      expiry_fits = e.2;
      access_fits = b.1;
      name = p.0;
      value = q.0;
      domain = r.0;
      path = r.1;
    }

key_is_utf8 : (key : List ℕ) → are_ascii key ≡ true → IsUtf8 key
key_is_utf8 key h = IsUtf8-are_ascii key h

-- the members of the object
abbrev as_members : Data → Members
as_members (object members) = members
as_members _ = no_members

abbrev members_of : KeptView → ℤ → Members
members_of cookie expiry = as_members (cookie_data cookie expiry)

members_are_fine : (cookie : KeptView) (h : Carried cookie) → AreFine (members_of cookie h.expiry)
members_are_fine cookie h = (
  key_is_utf8 (codes "domain") refl,
  (
    text_is_utf8 cookie.domain h.domain,
    (
      quoted_is_quiet (encode_utf8_all cookie.domain),
      (
        key_is_utf8 (codes "expiry") refl,
        (
          number_is_utf8 h.expiry h.expiry_fits,
          (
            number_is_quiet h.expiry h.expiry_fits,
            (
              key_is_utf8 (codes "host_only") refl,
              (
                flag_is_utf8 cookie.is_host_only,
                (
                  flag_is_quiet cookie.is_host_only,
                  (
                    key_is_utf8 (codes "http_only") refl,
                    (
                      flag_is_utf8 cookie.is_http_only,
                      (
                        flag_is_quiet cookie.is_http_only,
                        (
                          key_is_utf8 (codes "last_access") refl,
                          (
                            number_is_utf8 cookie.last_access h.access_fits,
                            (
                              number_is_quiet cookie.last_access h.access_fits,
                              (
                                key_is_utf8 (codes "name") refl,
                                (
                                  text_is_utf8 cookie.name h.name,
                                  (
                                    quoted_is_quiet (encode_utf8_all cookie.name),
                                    (
                                      key_is_utf8 (codes "path") refl,
                                      (
                                        text_is_utf8 cookie.path h.path,
                                        (
                                          quoted_is_quiet (encode_utf8_all cookie.path),
                                          (
                                            key_is_utf8 (codes "same_site") refl,
                                            (
                                              word_is_utf8 cookie.same_site,
                                              (
                                                quoted_is_quiet (enforcement_word cookie.same_site),
                                                (
                                                  key_is_utf8 (codes "secure") refl,
                                                  (
                                                    flag_is_utf8 cookie.is_secure_only,
                                                    (
                                                      flag_is_quiet cookie.is_secure_only,
                                                      (
                                                        key_is_utf8 (codes "value") refl,
                                                        (
                                                          text_is_utf8 cookie.value h.value,
                                                          (
                                                            quoted_is_quiet (encode_utf8_all cookie.value),
                                                            tt,
                                                          ),
                                                        ),
                                                      ),
                                                    ),
                                                  ),
                                                ),
                                              ),
                                            ),
                                          ),
                                        ),
                                      ),
                                    ),
                                  ),
                                ),
                              ),
                            ),
                          ),
                        ),
                      ),
                    ),
                  ),
                ),
              ),
            ),
          ),
        ),
      ),
    ),
  ),
)

body_is_utf8 : (cookie : KeptView) (h : Carried cookie) → IsUtf8 (compact_text (cookie_data cookie h.expiry))
body_is_utf8 cookie h =
    IsUtf8-append (123 ∷ []) (members_text false (members_of cookie h.expiry)) (IsUtf8-are_ascii (123 ∷ []) refl)
    (members_are_utf8 false (members_of cookie h.expiry) (members_are_fine cookie h))

body_is_quiet : (cookie : KeptView) (h : Carried cookie) → list_all is_quiet (compact_text (cookie_data cookie h.expiry)) ≡ true
body_is_quiet cookie h = members_are_quiet false (members_of cookie h.expiry) (members_are_fine cookie h)

-- ---- the object is read

-- what is made of a tree that is all of the tokens
abbrev whole : Option (json.Json × List Token) → Option Data
whole o = option_and_then of_json (option_and_then (λ p. json.if_last p.0 p.1) o)

printable : (cookie : KeptView) (h : Carried cookie) → ArePrintable (json_tokens (outline (cookie_data cookie h.expiry)))
unfolding ArePrintable
printable cookie h = (
  tt,
  (
    tt,
    (
      tt,
      (
        tt,
        (
          is_number h.expiry h.expiry_fits,
          (
            tt,
            (
              tt,
              (
                tt,
                (
                  tt,
                  (
                    tt,
                    (
                      is_number cookie.last_access h.access_fits,
                      (tt, (tt, (tt, (tt, (tt, (tt, (tt, (tt, (tt, (tt, (tt, tt))))))))))),
                    ),
                  ),
                ),
              ),
            ),
          ),
        ),
      ),
    ),
  ),
)

made : (cookie : KeptView) (h : Carried cookie) → of_json (outline (cookie_data cookie h.expiry)) ≡ Some (cookie_data cookie h.expiry)
made cookie h = rw (read_number h.expiry h.expiry_fits, read_number cookie.last_access h.access_fits) refl

read_object : (cookie : KeptView) (h : Carried cookie) → read (compact_text (cookie_data cookie h.expiry)) ≡ Some (cookie_data cookie h.expiry)
read_object cookie h =
    let found = cookie_data cookie h.expiry in
    let tree = outline found in
    let told : tokens (compact_text found) ≡ json_tokens tree =
    ap tokens (sym (print-outline found)) ∙ tokens-print (json_tokens tree) (printable cookie h) in
    ap whole (ap (json.value max_depth) (told ∙ sym (append-nil (json_tokens tree))) ∙ value-json_tokens tree max_depth [] (omega arith))
    ∙ made cookie h

four : {A : Type 0} (F : Option (List ℕ) → Option (List ℕ) → Option (List ℕ) → Option (List ℕ) → A) (a b c d p q r s : Option (List ℕ))
    → a ≡ p → b ≡ q → c ≡ r → d ≡ s → F a b c d ≡ F p q r s
four F a b c d p q r s e f g h =
    ap (λ x. F x b c d) e ∙ ap (λ x. F p x c d) f ∙ ap (λ x. F p q x d) g ∙ ap (λ x. F p q r x) h

read_cookie : (cookie : KeptView) (h : Carried cookie) → cookie_of_data (cookie_data cookie h.expiry) ≡ Some cookie
read_cookie cookie h =
    let flags = flags_with (Some cookie.is_host_only) (Some cookie.is_secure_only) (Some cookie.is_http_only) in
    let texts = texts_with (Some cookie.name) (Some cookie.value) (Some cookie.domain) (Some cookie.path) in
    four (λ n v d p. cookie_with (texts_with n v d p) (flags (enforcement_of_word (enforcement_word cookie.same_site))) (times_with (as_i64 (of_integer h.expiry)) (as_i64 (of_integer cookie.last_access))))
    (bytes_of (encode_utf8_all cookie.name)) (bytes_of (encode_utf8_all cookie.value)) (bytes_of (encode_utf8_all cookie.domain)) (bytes_of (encode_utf8_all cookie.path))
    (Some cookie.name) (Some cookie.value) (Some cookie.domain) (Some cookie.path)
    (read_bytes cookie.name h.name) (read_bytes cookie.value h.value) (read_bytes cookie.domain h.domain) (read_bytes cookie.path h.path)
    ∙ ap (λ rule. cookie_with texts (flags rule) (times_with (as_i64 (of_integer h.expiry)) (as_i64 (of_integer cookie.last_access)))) (read_word cookie.same_site)
    ∙ ap (λ e. cookie_with texts (flags (Some cookie.same_site)) (times_with e (as_i64 (of_integer cookie.last_access)))) (read_time h.expiry h.expiry_fits)
    ∙ ap (λ l. cookie_with texts (flags (Some cookie.same_site)) (times_with (Some h.expiry) l)) (read_time cookie.last_access h.access_fits)
    ∙ ap (λ e. Some (record cookie { expiry = e })) (sym h.expires)

-- ---- a line

read_body : (now : DateTime) (cookie : KeptView) (h : Carried cookie) → json_line_read now (compact_text (cookie_data cookie h.expiry)) ≡ line.Cookie (json_cookie now cookie)
read_body now cookie h =
    let text = compact_text (cookie_data cookie h.expiry) in
    cond-true (is_utf8 text) (line_of_data now (read text)) line.Bad (is_utf8-from_IsUtf8 text (body_is_utf8 cookie h))
    ∙ ap (line_of_data now) (read_object cookie h)
    ∙ ap (line_of_cookie now) (read_cookie cookie h)
    ∙ cond-true (is_storable cookie) (line.Cookie (json_cookie now cookie)) line.Bad h.storable

-- ---- the text

-- what the lines of a text hold
abbrev pub read_lines : DateTime → List ℕ → List Line
read_lines now text = map (json_line_read now) (lines_of text)

abbrev AreCarried : CookieStore → Type 0
AreCarried [] = Unit {0}
AreCarried (cookie ∷ store) = Carried cookie × AreCarried store

read_cookies : (now : DateTime) (store : CookieStore) → AreCarried store → read_lines now (concat (map json_line store)) ≡ lines_for (json_cookie now) store
read_cookies now [] h = refl
read_cookies now (cookie ∷ store) h =
    let rest = concat (map json_line store) in
    let body = compact_text (cookie_data cookie h.0.expiry) in
    let quiet = body_is_quiet cookie h.0 in
    ap (λ e. read_lines now (json_line_at cookie e ++ rest)) h.0.expires
    ∙ ap (read_lines now) (append_assoc body (10 ∷ []) rest)
    ∙ ap (λ ts. map (json_line_read now) (map strip_carriage_return ts)) (slice_split_at (λ b. b == 10) body 10 rest (quiet_lacks_feed body quiet) refl)
    ∙ ap (λ t. json_line_read now t ∷ read_lines now rest) (strip_quiet body quiet)
    ∙ ap (λ l. l ∷ read_lines now rest) (read_body now cookie h.0)
    ∙ ap (λ ls. line.Cookie (json_cookie now cookie) ∷ ls) (read_cookies now store h.1)

saved_are_carried : (moment : DateTime) (store : CookieStore) → list_all has_bytes store ≡ true → AreCarried (saved moment is_json_carried store)
saved_are_carried moment [] h = tt
saved_are_carried moment (cookie ∷ store) h =
    let k = and_parts (has_bytes cookie) (list_all has_bytes store) h in
    by (is_persistent moment cookie && is_json_carried cookie) refl k.0 (saved_are_carried moment store k.1)
  where
    by : (b : Bool) → (is_persistent moment cookie && is_json_carried cookie) ≡ b → has_bytes cookie ≡ true → AreCarried (saved moment is_json_carried store)
        → AreCarried (cond b (cookie ∷ saved moment is_json_carried store) (saved moment is_json_carried store))
    by true h bytes others = (carried cookie (and_parts (is_persistent moment cookie) (is_json_carried cookie) h).1 bytes, others)
    by false h bytes others = others

pub read_text : (moment now : DateTime) (store : CookieStore) → list_all has_bytes store ≡ true
    → read_lines now (concat (map json_line (saved moment is_json_carried store))) ≡ lines_for (json_cookie now) (saved moment is_json_carried store)
read_text moment now store h = read_cookies now (saved moment is_json_carried store) (saved_are_carried moment store h)
