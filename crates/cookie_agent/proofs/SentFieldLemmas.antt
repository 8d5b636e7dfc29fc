-- What a server reads of the cookies that a user agent sends, whatever they hold.
use Rattle.std.proofs.Common.{◌≡◌, ℕ, zero, suc, ◌+◌, ◌-◌, ◌*◌, ◌<◌, ◌==◌, ◌&&◌, ◌||◌, not, eqb, Bool, true, false, cond, List, [], ◌∷◌, ◌++◌, map, length, get_or, take, drop, codes, Option, Some, None, refl, sym, ap, subst, ◌∙◌, ◌⊎◌, inl, inr, arith}
use Rattle.std.proofs.Math.Seq.{take-append_seam, drop-append-add, get_or-append_seam}
use Rattle.std.proofs.lemmas.Bool.{and_parts, false≢true, false_from_ne_true, cond-false}
use Rattle.std.proofs.lemmas.Bool.Decides.{nat_tests}
use Rattle.std.proofs.lemmas.List.{append-nil, append_assoc, length-append}
use Rattle.std.proofs.lemmas.List.Elements.{All-append, All-cons, All-head, All-nil, All-tail, recursion_from_All}
use Rattle.std.proofs.lemmas.Slice.Eq.{bytes_eq-Decides}
use Rattle.std.proofs.lemmas.Str.{IsCharBoundary-after_ascii, IsCharBoundary-before_ascii, IsUtf8-append, IsUtf8-drop, IsUtf8-from_ascii, IsUtf8-from_is_utf8, IsUtf8-take, chars-append, chars-IsAscii, encodes-chars, is_utf8-from_IsUtf8}
use Rattle.std.specs.Char.{digit_value, is_not_whitespace, is_whitespace, to_ascii_lowercase}
use Rattle.std.specs.List.{AllByRecursion, before_first, filter, flat_map, list_all, prefix_len, starts_with, suffix_len}
use Rattle.std.specs.Option.{option_to_list}
use Rattle.std.specs.Prelude.{All}
use Rattle.std.specs.Str.{IsUtf8, NonePass, bytes_eq, chars, is_utf8, str_to_ascii_lowercase, trim}
use Rattle.percent_encoding.specs.Percent.{is_escape, percent_decode}
use Rattle.cookie.specs.Attributes.{IsAttribute}
use Rattle.cookie.specs.CookieOf.{cookie_of, key_text, value_text}
use Rattle.cookie.specs.Escapes.{escape, is_escaped, unescape}
use Rattle.cookie.specs.FieldPieces.{cookies_of_piece}
use Rattle.cookie.specs.Header.{joined_texts, more_joined}
use Rattle.cookie.specs.Originals.{field_cookies, is_readable}
use Rattle.cookie.specs.Pieces.{Lacks, pieces}
use Rattle.cookie.specs.Record.{Record}
use Rattle.cookie.specs.SentNames.{has_printed_escapes, is_named_as_sent, is_printed, sent_name}
use Rattle.cookie.specs.Trim.{IsWhite}
use Rattle.cookie.specs.Wsp.{is_wsp, trim_wsp, trim_wsp_end}
use Rattle.cookie.proofs.ByteLemmas.{IsAscii-from_test, Lacks-append, Lacks-nil, Lacks-trimmed, false_from_not}
use Rattle.cookie.proofs.CookieOfLemmas.{IsAttribute-texts, cookie_of-Reads}
use Rattle.cookie.proofs.EscapeTextLemmas.{escape-nil, escape_kept, is_byte, unescape-escape}
use Rattle.cookie.proofs.FieldLemmas.{field_cookies-pieces}
use Rattle.cookie.proofs.GraphicLemmas.{trim-graphic}
use Rattle.cookie.proofs.OffsetLemmas.{white-Lacks}
use Rattle.cookie.proofs.PieceLemmas.{pieces-cut}
use Rattle.cookie.proofs.ReadingLemmas.{IsPieces-unique, Lacks-more}
use Rattle.cookie.proofs.TrimLemmas.{exactly, trims}
use Rattle.cookie.proofs.WspLemmas.{trim_wsp-space}
use Rattle.cookie_core.proofs.SentNameLemmas.{before_mark, keeps_prefix}
use Rattle.cookie_browser.specs.Storage.{KeptView, has_host_prefix}
use Rattle.cookie_agent.specs.Sent.{name_part}

-- ---- a text before an ASCII byte

seam : (mark : ℕ) → mark < 128 → (p rest : List ℕ) → IsUtf8 (p ++ mark ∷ rest) → IsUtf8 p × IsUtf8 rest
seam mark low p rest utf8 =
    let t = p ++ mark ∷ rest in
    let within : length p < length t = omega (arith, length-append p (mark ∷ rest)) in
    let here : get_or t (length p) 0 < 128 = omega (arith, low, get_or-append_seam p mark rest 0) in (
      subst IsUtf8 (take-append_seam p (mark ∷ rest)) (IsUtf8-take t (length p) utf8 (IsCharBoundary-before_ascii t (length p) within here)),
      subst IsUtf8 (drop-append-add p (mark ∷ rest) 1) (IsUtf8-drop t (length p + 1) utf8 (IsCharBoundary-after_ascii t (length p) utf8 within here)),
    )

-- ---- white space in front

abbrev White : ℕ → Type 0
White c = is_whitespace c ≡ true

trim-white : (w a : List ℕ) → IsUtf8 w → IsWhite w → IsUtf8 a → trim (w ++ a) ≡ trim a
trim-white w a text white utf8 =
    let h = trims a utf8 in
    sym (exactly (w ++ a) (trim a) (record {
      before = w ++ h.before;
      after = h.after;
      whole = ap (λ t. w ++ t) h.whole ∙ sym (append_assoc w h.before (trim a ++ h.after));
      texts = (IsUtf8-append w h.before text h.texts.0, h.texts.1, h.texts.2);
      white = (subst (All White) (sym (chars-append w h.before text)) (All-append White (chars w) (chars h.before) white h.white.0), h.white.1);
      begins = h.begins;
      ends = h.ends;
    }))

white_lacks : (w : List ℕ) → IsUtf8 w → IsWhite w → Lacks 61 w
white_lacks w text white =
    white-Lacks 61 (omega arith) refl w (chars w, encodes-chars w text, none (chars w) (recursion_from_All White (chars w) white))
  where
    none : (cs : List ℕ) → AllByRecursion White cs → NonePass is_not_whitespace cs
    none [] all = tt
    none (c ∷ cs) all = (ap not all.0, none cs all.1)

space_text : IsUtf8 (32 ∷ [])
space_text = IsUtf8-from_ascii (32 ∷ []) (IsAscii-from_test (32 ∷ []) refl)

space_white : IsWhite (32 ∷ [])
space_white =
    subst (All White) (sym (chars-IsAscii (32 ∷ []) (IsAscii-from_test (32 ∷ []) refl))) (All-cons White 32 [] refl (All-nil White))

trim-space : (a : List ℕ) → IsUtf8 a → trim (32 ∷ a) ≡ trim a
trim-space a utf8 = trim-white (32 ∷ []) a space_text space_white utf8

-- ---- the name that a piece is read under

abbrev is_sign : ℕ → Bool
is_sign b = b == 61

-- a text before its first `=`, with white space in front of it or without
front : (w a b : List ℕ) → Lacks 61 w → Lacks 61 a → (p : List ℕ) → p ≡ w ++ (a ++ 61 ∷ b) → w ++ a ≡ before_first is_sign p
front w a b first then p whole =
    before_mark (λ x. x) p (w ++ a) (Lacks-append 61 w a first then) (Some b) (whole ∙ sym (append_assoc w a (61 ∷ b)))

-- what the cookie of a piece is named
read_name : (p : List ℕ) (r : Record) → IsUtf8 p → Lacks 59 p → cookie_of true (trim p) ≡ Some r → r.name ≡ unescape (key_text p)
read_name p r utf8 apart is =
    let h = trims p utf8 in
    let (piece, later, cut, reading) = (cookie_of-Reads true (trim p) r).0 is in
    let (name, value, (a, b, whole, lacks, is_name, is_value), some, decoded, other, sets) = reading in
    let one : piece ≡ trim p = (IsPieces-unique (trim p) piece later (trim p) [] cut (record { joined = refl; first = Lacks-trimmed 59 p (trim p) h apart; later = All-nil (Lacks 59) })).0 in
    let cut_here : trim p ≡ a ++ 61 ∷ b = sym one ∙ whole in
    let text : IsUtf8 a = (seam 61 (omega arith) a b (subst IsUtf8 cut_here h.texts.1)).0 in
    let split : p ≡ h.before ++ (a ++ 61 ∷ (b ++ h.after)) =
    h.whole ∙ ap (λ t. h.before ++ t) (ap (λ t. t ++ h.after) cut_here ∙ append_assoc a (61 ∷ b) h.after) in
    let key : key_text p ≡ name =
    ap trim (sym (front h.before a (b ++ h.after) (white_lacks h.before h.texts.0 h.white.0) lacks p split))
    ∙ trim-white h.before a h.texts.0 h.white.0 text ∙ sym is_name in
    decoded.0 ∙ ap unescape (sym key)

-- a space in front changes nothing of how a piece is read
before_text : (p : List ℕ) → IsUtf8 p → IsUtf8 (before_first is_sign p)
before_text p utf8 = by (value_text p) (IsAttribute-texts p)
  where
    by : (v : Option (List ℕ)) → IsAttribute p (key_text p) v → IsUtf8 (before_first is_sign p)
    by None (lacks, _) = subst IsUtf8 (before_mark (λ x. x) p p lacks None refl) utf8
    by (Some v) (a, b, whole, lacks, _, _) =
        subst IsUtf8 (before_mark (λ x. x) p a lacks (Some b) whole) (seam 61 (omega arith) a b (subst IsUtf8 whole utf8)).0

before-space : (p : List ℕ) → before_first is_sign (32 ∷ p) ≡ 32 ∷ before_first is_sign p
before-space p = take_next (prefix_len (λ b. not (is_sign b)) p)
  where
    take_next : (n : ℕ) → take (1 + n) (32 ∷ p) ≡ 32 ∷ take n p
    take_next n = let next : 1 + n ≡ suc n = omega arith in ap (λ k. take k (32 ∷ p)) next

cookies_of_piece-space : (p : List ℕ) → cookies_of_piece (32 ∷ p) ≡ cookies_of_piece p
cookies_of_piece-space p = by (is_utf8 p) refl
  where
    by : (b : Bool) → is_utf8 p ≡ b → cookies_of_piece (32 ∷ p) ≡ cookies_of_piece p
    by true e =
        let utf8 = IsUtf8-from_is_utf8 p e in
        let text : is_utf8 (32 ∷ p) ≡ is_utf8 p = is_utf8-from_IsUtf8 (32 ∷ p) (IsUtf8-append (32 ∷ []) p space_text utf8) ∙ sym e in
        let key : key_text (32 ∷ p) ≡ key_text p = ap trim (before-space p) ∙ trim-space (before_first is_sign p) (before_text p utf8) in
        let own : sent_name (32 ∷ p) ≡ sent_name p = ap trim_wsp (before-space p) ∙ trim_wsp-space (before_first is_sign p) in
        ap (λ t. cond (is_readable (32 ∷ p)) (option_to_list (cookie_of true t)) []) (trim-space p utf8)
        ∙ (λ i. cond (text i && (bytes_eq (key i) (own i) && has_printed_escapes (own i))) (option_to_list (cookie_of true (trim p))) [])
    by false e =
        let bad : is_utf8 (32 ∷ p) ≡ false = false_from_ne_true (is_utf8 (32 ∷ p)) (λ f. false≢true (sym e ∙ is_utf8-from_IsUtf8 p (seam 32 (omega arith) [] p (IsUtf8-from_is_utf8 (32 ∷ p) f)).1)) in
        ap (λ b. cond (b && is_named_as_sent (32 ∷ p)) (option_to_list (cookie_of true (trim (32 ∷ p)))) []) bad
        ∙ sym (ap (λ b. cond (b && is_named_as_sent p) (option_to_list (cookie_of true (trim p))) []) e)

-- ---- a header of texts without `;`

pieces-joined : (t : List ℕ) (ts : List (List ℕ)) → Lacks 59 t → All (Lacks 59) ts → pieces (t ++ more_joined ts) ≡ t ∷ map (λ u. 32 ∷ u) ts
pieces-joined t [] first later = pieces-cut (t ++ []) t None refl first
pieces-joined t (u ∷ us) first later =
    let next : Lacks 59 (32 ∷ u) = Lacks-more 59 32 u (λ e. omega arith) (All-head (Lacks 59) u us later) in
    pieces-cut (t ++ more_joined (u ∷ us)) t (Some ((32 ∷ u) ++ more_joined us)) refl first
    ∙ ap (λ ps. t ∷ ps) (pieces-joined (32 ∷ u) us next (All-tail (Lacks 59) u us later))

spaced : (ts : List (List ℕ)) → flat_map cookies_of_piece (map (λ u. 32 ∷ u) ts) ≡ flat_map cookies_of_piece ts
spaced [] = refl
spaced (t ∷ ts) =
    let here = cookies_of_piece-space t in
    let rest = spaced ts in
    (λ i. here i ++ rest i)

nothing_read : cookies_of_piece [] ≡ []
unfolding cookie_of
nothing_read = ap (λ t. cond (is_readable []) (option_to_list (cookie_of true t)) []) (trim-graphic [] refl) ∙ by (is_readable [])
  where
    by : (b : Bool) → cond b (option_to_list (cookie_of true [])) [] ≡ []
    by true = refl
    by false = refl

-- the cookies of the header are those of its texts, in order
pub field_cookies-joined : (ts : List (List ℕ)) → All (Lacks 59) ts → field_cookies (joined_texts ts) ≡ flat_map cookies_of_piece ts
field_cookies-joined [] apart = field_cookies-pieces [] ∙ append-nil (cookies_of_piece []) ∙ nothing_read
field_cookies-joined (t ∷ ts) apart =
    field_cookies-pieces (t ++ more_joined ts)
    ∙ ap (flat_map cookies_of_piece) (pieces-joined t ts (All-head (Lacks 59) t ts apart) (All-tail (Lacks 59) t ts apart))
    ∙ ap (λ cs. cookies_of_piece t ++ cs) (spaced ts)

-- ---- a name that has nothing to escape

abbrev is_plain : ℕ → Bool
is_plain b = not (is_escaped b)

plain_back : (t : List ℕ) → has_printed_escapes t ≡ true → list_all is_plain (unescape t) ≡ true → unescape t ≡ t
unfolding percent_decode
plain_back [] printed kept = refl
plain_back (b ∷ []) printed kept = refl
plain_back (b ∷ c ∷ []) printed kept = refl
plain_back (b ∷ high ∷ low ∷ rest) printed kept =
    let ones = and_parts (is_printed b high low) (has_printed_escapes (high ∷ low ∷ rest)) printed in
    by (is_escape b high low) ones.0 (plain_back (high ∷ low ∷ rest) ones.1) kept
  where
    value : ℕ
    value = 16 * digit_value high + digit_value low

    by : (is : Bool) → (not is || is_escaped value) ≡ true
        → (list_all is_plain (unescape (high ∷ low ∷ rest)) ≡ true → unescape (high ∷ low ∷ rest) ≡ high ∷ low ∷ rest)
        → list_all is_plain (cond is (value ∷ unescape rest) (b ∷ unescape (high ∷ low ∷ rest))) ≡ true
        → cond is (value ∷ unescape rest) (b ∷ unescape (high ∷ low ∷ rest)) ≡ b ∷ high ∷ low ∷ rest
    by true escaped later k =
        absurd (false≢true (sym (ap not escaped) ∙ (and_parts (is_plain value) (list_all is_plain (unescape rest)) k).0))
    by false escaped later k =
        ap (λ t. b ∷ t) (later (and_parts (is_plain b) (list_all is_plain (unescape (high ∷ low ∷ rest))) k).1)

pub plain_kept : (t : List ℕ) → list_all is_plain t ≡ true → (escape t ≡ t) × (list_all is_byte t ≡ true)
plain_kept [] kept = (escape-nil, refl)
plain_kept (b ∷ t) kept =
    let at = and_parts (is_plain b) (list_all is_plain t) kept in
    let rest = plain_kept t at.1 in
    let small : is_byte b ≡ true = grind (arith, nat_tests, at.0) in
    (escape_kept b t (false_from_not (is_escaped b) at.0) ∙ ap (λ u. b ∷ u) rest.0, ap (λ x. x && list_all is_byte t) small ∙ rest.1)

plain_same : (t : List ℕ) → list_all is_plain t ≡ true → unescape t ≡ t
plain_same t kept = let h = plain_kept t kept in ap unescape (sym h.0) ∙ unescape-escape t h.1

-- ---- the prefix

host_unescaped : (t : List ℕ) → has_printed_escapes t ≡ true → has_host_prefix (unescape t) ≡ has_host_prefix t
host_unescaped t printed = keeps_prefix (codes "__Host-") t refl printed

begins-take : (p t : List ℕ) (n : ℕ) → starts_with eqb (str_to_ascii_lowercase (take n t)) p ≡ true → starts_with eqb (str_to_ascii_lowercase t) p ≡ true
begins-take [] t n e = refl
begins-take (q ∷ qs) t zero e = absurd (false≢true e)
begins-take (q ∷ qs) [] (suc n) e = e
begins-take (q ∷ qs) (b ∷ t) (suc n) e =
    let at = and_parts (eqb q (to_ascii_lowercase b)) (starts_with eqb (str_to_ascii_lowercase (take n t)) qs) e in
    ap (λ x. x && starts_with eqb (str_to_ascii_lowercase t) qs) at.0 ∙ begins-take qs t n at.1

host-take : (t : List ℕ) (n : ℕ) → has_host_prefix (take n t) ≡ true → has_host_prefix t ≡ true
host-take t n e = begins-take (codes "__host-") t n e

-- ---- what a user agent stores as a name and a value

-- It cut them out of a text, trimmed them, and refused a value without a name that begins with the prefix.
pub record IsCutOut (name value : List ℕ) : Type 0 where
  pub name_apart : Lacks 59 name
  pub value_apart : Lacks 59 value
  pub name_whole : Lacks 61 name
  pub name_trimmed : trim_wsp name ≡ name
  pub value_begins : (byte : ℕ) (rest : List ℕ) → value ≡ byte ∷ rest → is_wsp byte ≡ false
  pub nameless : name ≡ [] → has_host_prefix value ≡ false

abbrev pub IsCutOutOf : KeptView → Type 0
IsCutOutOf c = IsCutOut c.name c.value

pub pair_apart : (name value : List ℕ) → Lacks 59 name → Lacks 59 value → Lacks 59 (name_part name ++ value)
pair_apart [] value first then = then
pair_apart (b ∷ bs) value first then =
    Lacks-append 59 ((b ∷ bs) ++ 61 ∷ []) value (Lacks-append 59 (b ∷ bs) (61 ∷ []) first (Lacks-more 59 61 [] (λ e. omega arith) (Lacks-nil 59))) then

-- a value without a name, up to its first `=`: it begins with the prefix only if the value does
nameless_prefix : (value : List ℕ) → ((byte : ℕ) (rest : List ℕ) → value ≡ byte ∷ rest → is_wsp byte ≡ false)
    → has_host_prefix (trim_wsp (before_first is_sign value)) ≡ true → has_host_prefix value ≡ true
unfolding trim_wsp
nameless_prefix [] begins e = e
nameless_prefix (b ∷ bs) begins e = by (prefix_len (λ x. not (is_sign x)) (b ∷ bs)) e
  where
    by : (n : ℕ) → has_host_prefix (trim_wsp (take n (b ∷ bs))) ≡ true → has_host_prefix (b ∷ bs) ≡ true
    by zero e = absurd (false≢true e)
    by (suc n) e =
        let t : List ℕ = b ∷ take n bs in
        let none : prefix_len is_wsp t ≡ 0 = cond-false _ _ _ (begins b bs refl) in
        let start : trim_wsp t ≡ trim_wsp_end t = ap (λ k. trim_wsp_end (drop k t)) none in
        host-take (b ∷ bs) (suc n) (host-take t (length t - suffix_len is_wsp t) (ap has_host_prefix (sym start) ∙ e))

-- what is known of the name of a cookie that a server reads of it
pub record IsNamedFrom (name value : List ℕ) (r : Record) : Type 0 where
  pub sent : List ℕ
  pub is : r.name ≡ unescape sent
  pub printed : has_printed_escapes sent ≡ true
  pub own : (sent ≡ name) ⊎ ((name ≡ []) × ((has_host_prefix sent ≡ true) → ⊥))

named_from : (name value : List ℕ) → IsCutOut name value → (r : Record) → is_readable (name_part name ++ value) ≡ true
    → cookie_of true (trim (name_part name ++ value)) ≡ Some r → IsNamedFrom name value r
named_from name value h r readable is =
    let p : List ℕ = name_part name ++ value in
    let parts = and_parts (is_utf8 p) (is_named_as_sent p) readable in
    let named = and_parts (bytes_eq (key_text p) (sent_name p)) (has_printed_escapes (sent_name p)) parts.1 in
    let same : key_text p ≡ sent_name p = (bytes_eq-Decides (key_text p) (sent_name p)).0 named.0 in
    record {
      sent = sent_name p;
      is = read_name p r (IsUtf8-from_is_utf8 p parts.0) (pair_apart name value h.name_apart h.value_apart) is ∙ ap unescape same;
      printed = named.1;
      own = by name h;
    }
  where
    by : (n : List ℕ) → IsCutOut n value → (sent_name (name_part n ++ value) ≡ n) ⊎ ((n ≡ []) × ((has_host_prefix (sent_name (name_part n ++ value)) ≡ true) → ⊥))
    by [] h = inr (refl, λ e. false≢true (sym (h.nameless refl) ∙ nameless_prefix value h.value_begins e))
    by (b ∷ bs) h =
        inl (ap trim_wsp (sym (before_mark (λ x. x) (((b ∷ bs) ++ 61 ∷ []) ++ value) (b ∷ bs) h.name_whole (Some value) (append_assoc (b ∷ bs) (61 ∷ []) value))) ∙ h.name_trimmed)

-- whether it has the prefix, and whether it is a name without escapes that has it
pub host_named : (name value : List ℕ) → IsCutOut name value → (r : Record) → IsNamedFrom name value r → has_host_prefix r.name ≡ has_host_prefix name
host_named name value h r from = ap has_host_prefix from.is ∙ host_unescaped from.sent from.printed ∙ by from.own
  where
    by : (from.sent ≡ name) ⊎ ((name ≡ []) × ((has_host_prefix from.sent ≡ true) → ⊥)) → has_host_prefix from.sent ≡ has_host_prefix name
    by (inl same) = ap has_host_prefix same
    by (inr (empty, none)) = false_from_ne_true (has_host_prefix from.sent) none ∙ sym (ap has_host_prefix empty)

pub plain_named : (own : List ℕ) → has_host_prefix own ≡ true → list_all is_plain own ≡ true
    → (name value : List ℕ) → IsCutOut name value → (r : Record) → IsNamedFrom name value r → bytes_eq own r.name ≡ bytes_eq own name
plain_named own prefixed plain name value h r from = by (bytes_eq own r.name) (bytes_eq own name) refl refl
  where
    sent_is : own ≡ r.name → from.sent ≡ own
    sent_is same =
        let back : unescape from.sent ≡ own = sym from.is ∙ sym same in
        sym (plain_back from.sent from.printed (ap (list_all is_plain) back ∙ plain)) ∙ back

    read_same : own ≡ r.name → own ≡ name
    read_same same = one from.own
      where
        one : (from.sent ≡ name) ⊎ ((name ≡ []) × ((has_host_prefix from.sent ≡ true) → ⊥)) → own ≡ name
        one (inl is) = sym (sent_is same) ∙ is
        one (inr (empty, none)) = absurd (none (ap has_host_prefix (sent_is same) ∙ prefixed))

    stored_same : own ≡ name → own ≡ r.name
    stored_same same = one from.own
      where
        one : (from.sent ≡ name) ⊎ ((name ≡ []) × ((has_host_prefix from.sent ≡ true) → ⊥)) → own ≡ r.name
        one (inl is) = sym (from.is ∙ ap unescape (is ∙ sym same) ∙ plain_same own plain)
        one (inr (empty, none)) = absurd (false≢true (sym (ap has_host_prefix (same ∙ empty)) ∙ prefixed))

    by : (a b : Bool) → bytes_eq own r.name ≡ a → bytes_eq own name ≡ b → a ≡ b
    by true true e f = refl
    by false false e f = refl
    by true false e f = absurd (false≢true (sym f ∙ (bytes_eq-Decides own name).1 (read_same ((bytes_eq-Decides own r.name).0 e))))
    by false true e f = absurd (false≢true (sym e ∙ (bytes_eq-Decides own r.name).1 (stored_same ((bytes_eq-Decides own name).0 f))))

-- of a cookie whose name passes a test as its stored name does, all is read, or nothing
pub read_one : (p : List ℕ → Bool) (name value : List ℕ) → IsCutOut name value → ((r : Record) → IsNamedFrom name value r → p r.name ≡ p name)
    → filter (λ r. p r.name) (cookies_of_piece (name_part name ++ value)) ≡ cond (p name) (cookies_of_piece (name_part name ++ value)) []
read_one p name value h alike = by (is_readable text) refl (cookie_of true (trim text)) refl
  where
    text : List ℕ
    text = name_part name ++ value

    none : (b : Bool) → [] ≡ cond {A = List Record} b [] []
    none true = refl
    none false = refl

    by : (b : Bool) → is_readable (name_part name ++ value) ≡ b → (o : Option Record) → cookie_of true (trim (name_part name ++ value)) ≡ o
        → filter (λ r. p r.name) (cond b (option_to_list o) []) ≡ cond (p name) (cond b (option_to_list o) []) []
    by false e o f = none (p name)
    by true e None f = none (p name)
    by true e (Some r) f = ap (λ b. cond b (r ∷ []) []) (alike r (named_from name value h r e f))

-- the cookies of one text
pub field_cookies-text : (t : List ℕ) → Lacks 59 t → field_cookies t ≡ cookies_of_piece t
field_cookies-text t apart =
    field_cookies-pieces t ∙ ap (flat_map cookies_of_piece) (pieces-cut t t None (sym (append-nil t)) apart) ∙ append-nil (cookies_of_piece t)
