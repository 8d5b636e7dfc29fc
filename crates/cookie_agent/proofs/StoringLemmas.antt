-- What a response has an agent store could have been stored: the texts are cut out of a text without control characters,
-- and the steps that refuse a cookie look at the rest.
use Rattle.std.proofs.Common.{◌≡◌, ◌⊎◌, inl, inr, ℕ, zero, suc, ◌+◌, ◌-◌, ◌≤◌, ◌==◌, ◌&&◌, ◌||◌, ℤ, pos, ◌+ℤ◌, ◌*ℤ◌, Bool, true, false, cond, not, List, [], ◌∷◌, length, take, drop, Option, Some, None, option_map, Result, Ok, Err, IfSome, All, bytes_eq, codes, eqb, refl, sym, ap, subst, ◌∙◌, arith, take-append-drop}
use Rattle.std.proofs.Math.Nat.{min-le_right}
use Rattle.std.proofs.lemmas.Bool.{and_from, and_parts, false≢true, or_cases}
use Rattle.std.proofs.lemmas.Bool.Decides.{nat_tests}
use Rattle.std.proofs.lemmas.List.Elements.{All-filter}
use Rattle.std.proofs.lemmas.List.Folds.{list_all-append}
use Rattle.std.proofs.lemmas.Slice.Eq.{bytes_eq-Decides}
use Rattle.std.specs.List.{find, fold, list_all, list_any, onto_first, prefix_len, starts_with, suffix_len}
use Rattle.std.specs.Option.{is_some, option_or}
use Rattle.std.specs.Prelude.{int_le, min, nat_le, nat_lt}
use Rattle.std.specs.Str.{str_to_ascii_lowercase}
use Rattle.jiff.specs.Types.{DateTime}
use Rattle.jiff.specs.Words.{civil_nanos}
use Rattle.jiff.proofs.SpanFacts.{signed_arith}
use Rattle.cookie_core.specs.Attributes.{max_age_seconds}
use Rattle.cookie_core.specs.NamePrefixes.{covers, enforced_prefixes, has_any_prefix, has_prefix, meets_prefixes, required, unmet_prefix}
use Rattle.cookie_core.specs.Pieces.{pieces}
use Rattle.cookie_core.specs.Record.{without_leading_dot}
use Rattle.cookie_core.specs.Size.{most_bytes}
use Rattle.cookie_core.specs.Wsp.{is_wsp, trim_wsp, trim_wsp_start}
use Rattle.cookie_core.specs.declared.enforced_prefix.EnforcedPrefix.{EnforcedPrefix}
use Rattle.cookie_core.specs.declared.guards.Guards.{Guards}
use Rattle.cookie_browser.specs.Bytes.{cut}
use Rattle.cookie_browser.specs.Received.{AttributesView, ReceivedView, age_limit, age_of, attribute_name, attribute_value, attributes_of, is_control, pieces_after, received, received_name_value, received_pair, spells, value_after, with_attribute, with_piece, without_attributes}
use Rattle.cookie_browser.specs.Request.{RequestView, folder_of, is_in_domain, or_root}
use Rattle.cookie_browser.specs.Storage.{CookieStore, KeptView, asked_domain, guards_of as received_guards, is_ascii, is_empty_pair, is_foreign, is_host_only, is_site_bound, is_suffix_at, is_suffix_of_others, kept_after_text, kept_after_verdict, kept_as, kept_until, kept_with, lasting, lasts, or_next_refusal, overlays, crosses, path_or_folder, refusal_by_connection, refusal_by_domain, refusal_by_prefix, seconds_after, verdict, verdict_on}
use Rattle.cookie_browser.specs.Suffixes.{Rule}
use Rattle.cookie_browser.specs.declared.refusal.Refusal.{Refusal}
use Rattle.cookie_browser.specs.declared.refusal.Refusal.TheVariants as refusal
use Rattle.cookie_browser.proofs.DomainLemmas.{follows_dot, in_domain-follows}
use Rattle.cookie_agent.specs.Storable.{IsOfUrl, can_be_set, can_follow, guards_of, is_attribute_length, is_domain, is_host_name, is_limited, is_name_rest, is_path, is_path_value, is_received_byte, is_received_length, is_received_pair, is_received_text, is_request_byte, is_request_path, is_six, is_storable, is_storable_by, lacks_equals_sign, meets_name_prefix, meets_nameless_prefix, meets_same_site}
use Rattle.cookie_agent.proofs.ApartLemmas.{loosened}
use Rattle.cookie_agent.proofs.CutOutLemmas.{trim_nil, trim_twice}
use Rattle.cookie_agent.proofs.HostSetLemmas.{both_none, not_refused, prefixes_met}
use Rattle.cookie_agent.proofs.LoadedLemmas.{int_le-earlier, int_le-same}
use Rattle.cookie_agent.proofs.PutLemmas.{All-put}
use Rattle.cookie_agent.proofs.VerdictLemmas.{IsStoredBy, stored_by}

-- ---- bytes of parts

parts : (p : ℕ → Bool) (n : ℕ) (t : List ℕ) → list_all p t ≡ true → (list_all p (take n t) && list_all p (drop n t)) ≡ true
parts p n t all = sym (list_all-append p (take n t) (drop n t)) ∙ ap (list_all p) (take-append-drop n t) ∙ all

all-take : (p : ℕ → Bool) (n : ℕ) (t : List ℕ) → list_all p t ≡ true → list_all p (take n t) ≡ true
all-take p n t all = (and_parts (list_all p (take n t)) (list_all p (drop n t)) (parts p n t all)).0

all-drop : (p : ℕ → Bool) (n : ℕ) (t : List ℕ) → list_all p t ≡ true → list_all p (drop n t) ≡ true
all-drop p n t all = (and_parts (list_all p (take n t)) (list_all p (drop n t)) (parts p n t all)).1

all-trim : (p : ℕ → Bool) (t : List ℕ) → list_all p t ≡ true → list_all p (trim_wsp t) ≡ true
unfolding trim_wsp
all-trim p t all =
    let s = trim_wsp_start t in
    all-take p (length s - suffix_len is_wsp s) s (all-drop p (prefix_len is_wsp t) t all)

abbrev AllAfter : (ℕ → Bool) → Option (List ℕ) → Type 0
AllAfter p None = Unit {0}
AllAfter p (Some t) = list_all p t ≡ true

abbrev Cut : Type 0
Cut = List ℕ × Option (List ℕ)

all-cut : (p : ℕ → Bool) (c : ℕ) (t : List ℕ) → list_all p t ≡ true → (list_all p (cut c t).0 ≡ true) × AllAfter p (cut c t).1
unfolding cut
all-cut p c [] all = (refl, tt)
all-cut p c (b ∷ t) all =
    let both = and_parts (p b) (list_all p t) all in
    by (b == c) both.0 both.1 (all-cut p c t both.1)
  where
    by : (is : Bool) → p b ≡ true → list_all p t ≡ true → (list_all p (cut c t).0 ≡ true) × AllAfter p (cut c t).1
        → (list_all p (cond {A = Cut} is ([], Some t) (b ∷ (cut c t).0, (cut c t).1)).0 ≡ true) × AllAfter p (cond {A = Cut} is ([], Some t) (b ∷ (cut c t).0, (cut c t).1)).1
    by true first all rest = (refl, all)
    by false first all rest = (and_from (p b) (list_all p (cut c t).0) first rest.0, rest.1)

-- the front of a cut lacks the mark
front_lacks : (c : ℕ) (t : List ℕ) → list_all (λ b. not (b == c)) (cut c t).0 ≡ true
unfolding cut
front_lacks c [] = refl
front_lacks c (b ∷ t) = by (b == c) refl (front_lacks c t)
  where
    by : (is : Bool) → (b == c) ≡ is → list_all (λ b. not (b == c)) (cut c t).0 ≡ true
        → list_all (λ b. not (b == c)) (cond {A = Cut} is ([], Some t) (b ∷ (cut c t).0, (cut c t).1)).0 ≡ true
    by true e rest = refl
    by false e rest = and_from (not (b == c)) (list_all (λ b. not (b == c)) (cut c t).0) (ap not e) rest

-- ---- a text without control characters

abbrev is_quiet : ℕ → Bool
is_quiet b = not (is_control b)

quiet_all : (t : List ℕ) → list_any is_control t ≡ false → list_all is_quiet t ≡ true
quiet_all [] e = refl
quiet_all (b ∷ t) e = by (is_control b) e (quiet_all t)
  where
    by : (x : Bool) → x || list_any is_control t ≡ false → (list_any is_control t ≡ false → list_all is_quiet t ≡ true) → not x && list_all is_quiet t ≡ true
    by true e rest = absurd (false≢true (sym e))
    by false e rest = rest e

front_received : (t : List ℕ) → list_all is_quiet t ≡ true → list_all is_received_byte (cut 59 t).0 ≡ true
unfolding cut
front_received [] all = refl
front_received (b ∷ t) all =
    let both = and_parts (is_quiet b) (list_all is_quiet t) all in
    by (b == 59) refl both.0 (front_received t both.1)
  where
    by : (is : Bool) → (b == 59) ≡ is → is_quiet b ≡ true → list_all is_received_byte (cut 59 t).0 ≡ true
        → list_all is_received_byte (cond {A = Cut} is ([], Some t) (b ∷ (cut 59 t).0, (cut 59 t).1)).0 ≡ true
    by true e quiet rest = refl
    by false e quiet rest =
        and_from (is_received_byte b) (list_all is_received_byte (cut 59 t).0) (and_from (is_quiet b) (not (b == 59)) quiet (ap not e)) rest

abbrev are_received : List (List ℕ) → Bool
are_received ps = list_all (list_all is_received_byte) ps

onto_received : (b : ℕ) → is_received_byte b ≡ true → (ps : List (List ℕ)) → are_received ps ≡ true → are_received (onto_first b ps) ≡ true
onto_received b h [] all = and_from (is_received_byte b && true) true (and_from (is_received_byte b) true h refl) refl
onto_received b h (p ∷ ps) all =
    let both = and_parts (list_all is_received_byte p) (are_received ps) all in
    and_from (is_received_byte b && list_all is_received_byte p) (are_received ps) (and_from (is_received_byte b) (list_all is_received_byte p) h both.0) both.1

pieces_received : (t : List ℕ) → list_all is_quiet t ≡ true → are_received (pieces t) ≡ true
pieces_received [] all = refl
pieces_received (b ∷ t) all =
    let both = and_parts (is_quiet b) (list_all is_quiet t) all in
    by (b == 59) refl both.0 (pieces_received t both.1)
  where
    by : (is : Bool) → (b == 59) ≡ is → is_quiet b ≡ true → are_received (pieces t) ≡ true
        → are_received (cond is ([] ∷ pieces t) (onto_first b (pieces t))) ≡ true
    by true e quiet rest = rest
    by false e quiet rest = onto_received b (and_from (is_quiet b) (not (b == 59)) quiet (ap not e)) (pieces t) rest

after_received : (rest : Option (List ℕ)) → AllAfter is_quiet rest → are_received (pieces_after rest) ≡ true
after_received None quiet = refl
after_received (Some t) quiet = pieces_received t quiet

-- ---- attributes

trimmed_received : (t : List ℕ) → list_all is_received_byte t ≡ true → is_received_text (trim_wsp t) ≡ true
trimmed_received t all =
    and_from (list_all is_received_byte (trim_wsp t)) (bytes_eq (trim_wsp (trim_wsp t)) (trim_wsp t)) (all-trim is_received_byte t all)
    ((bytes_eq-Decides (trim_wsp (trim_wsp t)) (trim_wsp t)).1 (trim_twice t))

nothing_received : is_received_text [] ≡ true
nothing_received = (bytes_eq-Decides (trim_wsp []) []).1 trim_nil

value_received : (piece : List ℕ) → list_all is_received_byte piece ≡ true → is_received_text (attribute_value piece) ≡ true
value_received piece all = by (cut 61 piece).1 (all-cut is_received_byte 61 piece all).1
  where
    by : (o : Option (List ℕ)) → AllAfter is_received_byte o → is_received_text (value_after o) ≡ true
    by None h = nothing_received
    by (Some value) h = trimmed_received value h

record AreReceived (a : AttributesView) : Type 0 where
  domain : is_attribute_length (length a.domain) ≡ true
  path : is_received_text a.path ≡ true
  short : is_attribute_length (length a.path) ≡ true
  age : IfSome a.max_age (λ n. n ≤ age_limit)

age_limited : (o : Option ℕ) → IfSome (option_map (λ seconds. min seconds age_limit) o) (λ n. n ≤ age_limit)
age_limited None = tt
age_limited (Some n) = min-le_right n age_limit

or_age : (o a : Option ℕ) → IfSome o (λ n. n ≤ age_limit) → IfSome a (λ n. n ≤ age_limit) → IfSome (option_or o a) (λ n. n ≤ age_limit)
or_age None a first second = second
or_age (Some n) a first second = first

choice : (b : Bool) (x y : AttributesView) → AreReceived x → AreReceived y → AreReceived (cond b x y)
choice true x y first second = first
choice false x y first second = second

with_received : (a : AttributesView) (name value : List ℕ) → AreReceived a → is_received_text value ≡ true → is_attribute_length (length value) ≡ true
    → AreReceived (with_attribute a name value)
unfolding with_attribute
with_received a name value h text short =
    choice (spells name (codes "expires")) _ _ (record { domain = h.domain; path = h.path; short = h.short; age = h.age })
    (choice (spells name (codes "max-age")) _ _ (record { domain = h.domain; path = h.path; short = h.short; age = or_age (age_of value) a.max_age (age_limited (max_age_seconds value)) h.age })
    (choice (spells name (codes "domain")) _ _ (record { domain = short; path = h.path; short = h.short; age = h.age })
    (choice (spells name (codes "path")) _ _ (record { domain = h.domain; path = text; short = short; age = h.age })
    (choice (spells name (codes "secure")) _ _ (record { domain = h.domain; path = h.path; short = h.short; age = h.age })
    (choice (spells name (codes "httponly")) _ _ (record { domain = h.domain; path = h.path; short = h.short; age = h.age })
    (choice (spells name (codes "samesite")) _ _ (record { domain = h.domain; path = h.path; short = h.short; age = h.age }) h))))))

fits : (n : ℕ) → nat_lt 1024 n ≡ false → is_attribute_length n ≡ true
fits n e = grind (arith, nat_tests, e)

piece_received : (a : AttributesView) (piece : List ℕ) → AreReceived a → list_all is_received_byte piece ≡ true → AreReceived (with_piece a piece)
unfolding with_piece
piece_received a piece h all = by (nat_lt 1024 (length (attribute_value piece))) refl
  where
    by : (b : Bool) → nat_lt 1024 (length (attribute_value piece)) ≡ b → AreReceived (cond b a (with_attribute a (attribute_name piece) (attribute_value piece)))
    by true e = h
    by false e = with_received a (attribute_name piece) (attribute_value piece) h (value_received piece all) (fits (length (attribute_value piece)) e)

all_received : (ps : List (List ℕ)) (a : AttributesView) → AreReceived a → are_received ps ≡ true → AreReceived (fold with_piece a ps)
all_received [] a h all = h
all_received (p ∷ ps) a h all =
    let both = and_parts (list_all is_received_byte p) (are_received ps) all in
    all_received ps (with_piece a p) (piece_received a p h both.0) both.1

attributes_received : (rest : Option (List ℕ)) → AllAfter is_quiet rest → AreReceived (attributes_of rest)
attributes_received rest quiet =
    all_received (pieces_after rest) without_attributes (record { domain = refl; path = nothing_received; short = refl; age = tt }) (after_received rest quiet)

-- ---- a received cookie

record IsPair (name value : List ℕ) : Type 0 where
  name_text : is_received_text name ≡ true
  value_text : is_received_text value ≡ true
  whole : lacks_equals_sign name ≡ true

pair_received : (text : List ℕ) (after : Option (List ℕ)) → list_all is_received_byte text ≡ true → lacks_equals_sign text ≡ true → AllAfter is_received_byte after
    → IsPair (received_name_value (text, after)).0 (received_name_value (text, after)).1
pair_received text None all whole later = record { name_text = nothing_received; value_text = trimmed_received text all; whole = refl }
pair_received text (Some value) all whole later =
    record { name_text = trimmed_received text all; value_text = trimmed_received value later; whole = all-trim (λ b. not (b == 61)) text whole }

record IsReceived (v : ReceivedView) : Type 0 where
  pair : IsPair v.name v.value
  short : nat_le (length v.name + length v.value) most_bytes ≡ true
  attributes : AreReceived v.attributes

within_most : (n : ℕ) → nat_lt most_bytes n ≡ false → nat_le n most_bytes ≡ true
within_most n e = grind (arith, nat_tests, e)

received_so : (text : List ℕ) (v : ReceivedView) → received text ≡ Ok v → IsReceived v
unfolding received
received_so text v e = by (list_any is_control text) refl e
  where
    front : List ℕ
    front = (cut 59 text).0

    pair : List ℕ × List ℕ
    pair = received_name_value (cut 61 front)

    long : list_all is_quiet text ≡ true → (b : Bool) → nat_lt most_bytes (length pair.0 + length pair.1) ≡ b
        → cond b (Err refusal.TooLong) (Ok (record { name = pair.0; value = pair.1; attributes = attributes_of (cut 59 text).1 })) ≡ Ok v → IsReceived v
    long quiet true over e = cc
    long quiet false over e =
        let bytes = front_received text quiet in
        let both = all-cut is_received_byte 61 front bytes in
        let is = pair_received (cut 61 front).0 (cut 61 front).1 both.0 (front_lacks 61 front) both.1 in
        let made : ReceivedView = record { name = pair.0; value = pair.1; attributes = attributes_of (cut 59 text).1 } in
        let same : made ≡ v = cc in
        subst IsReceived same (record {
          pair = is;
          short = within_most (length pair.0 + length pair.1) over;
          attributes = attributes_received (cut 59 text).1 (all-cut is_quiet 59 text quiet).1;
        })

    by : (b : Bool) → list_any is_control text ≡ b → cond b (Err refusal.ControlCharacter) (received_pair pair (cut 59 text).1) ≡ Ok v → IsReceived v
    by true loud e = cc
    by false loud e = long (quiet_all text loud) (nat_lt most_bytes (length pair.0 + length pair.1)) refl e

-- ---- the domain

named_ending : (due : Bool) (host domain : List ℕ) → is_name_rest due host ≡ true → follows_dot host domain ≡ true → is_name_rest true domain ≡ true
named_ending due [] domain all below = absurd (false≢true below)
named_ending due (b ∷ bs) domain all below =
    let both = and_parts (can_follow due b) (is_name_rest (b == 46) bs) all in
    by both.1 (named_ending (b == 46) bs domain both.1) (or_cases (b == 46 && bytes_eq bs domain) (follows_dot bs domain) below)
  where
    by : is_name_rest (b == 46) bs ≡ true → (follows_dot bs domain ≡ true → is_name_rest true domain ≡ true)
        → (b == 46 && bytes_eq bs domain ≡ true) ⊎ (follows_dot bs domain ≡ true) → is_name_rest true domain ≡ true
    by all on (inl here) =
        let h = and_parts (b == 46) (bytes_eq bs domain) here in
        subst (λ t. is_name_rest true t ≡ true) ((bytes_eq-Decides bs domain).0 h.1) (ap (λ x. is_name_rest x bs) (sym h.0) ∙ all)
    by all on (inr later) = on later

some_length : (b : ℕ) (bs : List ℕ) → nat_lt 0 (length (b ∷ bs)) ≡ true
some_length b bs = grind (arith, nat_tests)

named_inside : (host : List ℕ) (b : ℕ) (bs : List ℕ) → is_host_name host ≡ true → is_in_domain host false (b ∷ bs) ≡ true → is_host_name (b ∷ bs) ≡ true
named_inside host b bs named inside = by (or_cases (bytes_eq host (b ∷ bs)) (follows_dot host (b ∷ bs)) (sym (in_domain-follows host (b ∷ bs)) ∙ inside))
  where
    by : (bytes_eq host (b ∷ bs) ≡ true) ⊎ (follows_dot host (b ∷ bs) ≡ true) → is_host_name (b ∷ bs) ≡ true
    by (inl same) = subst (λ t. is_host_name t ≡ true) ((bytes_eq-Decides host (b ∷ bs)).0 same) named
    by (inr below) =
        and_from (nat_lt 0 (length (b ∷ bs))) (is_name_rest true (b ∷ bs)) (some_length b bs)
        (named_ending true host (b ∷ bs) (and_parts (nat_lt 0 (length host)) (is_name_rest true host) named).1 below)

at_address : (host domain : List ℕ) → not (is_in_domain host true domain) ≡ false → host ≡ domain
at_address host domain e = by (bytes_eq host domain) refl e
  where
    by : (b : Bool) → bytes_eq host domain ≡ b → not (b || false) ≡ false → host ≡ domain
    by true same e = (bytes_eq-Decides host domain).0 same
    by false other e = absurd (false≢true (sym e))

stored_domain : (rules : List Rule) (s : RequestView) → IsOfUrl s → (asked : List ℕ) → is_foreign s asked ≡ false
    → is_domain (cond (is_host_only rules s asked) s.host asked) ≡ true
stored_domain rules s url [] e = url.host
stored_domain rules s url (b ∷ bs) e = by (is_suffix_at rules s (b ∷ bs))
  where
    named : (x : Bool) → is_host_name s.host ≡ x → is_domain (b ∷ bs) ≡ true
    named true is = ap (λ x. x || is_six (b ∷ bs)) (named_inside s.host b bs is (loosened s.host s.is_address (b ∷ bs) e))
    named false is =
        subst (λ t. is_domain t ≡ true) (at_address s.host (b ∷ bs) (ap (λ a. not (is_in_domain s.host a (b ∷ bs))) (sym (url.address is)) ∙ e)) url.host

    by : (x : Bool) → is_domain (cond x s.host (b ∷ bs)) ≡ true
    by true = url.host
    by false = named (is_host_name s.host) refl

lower_length : (t : List ℕ) → length (str_to_ascii_lowercase t) ≡ length t
lower_length [] = refl
lower_length (b ∷ t) = let rest = lower_length t in omega (arith, rest)

undotted_length : (t : List ℕ) → length (without_leading_dot t) ≤ length t
undotted_length [] = omega arith
undotted_length (b ∷ t) = by (b == 46)
  where
    by : (x : Bool) → length (cond x t (b ∷ t)) ≤ length (b ∷ t)
    by true = omega arith
    by false = omega arith

shorter_fits : (n m : ℕ) → n ≤ m → is_attribute_length m ≡ true → is_attribute_length n ≡ true
shorter_fits n m le e = grind (arith, nat_tests, e, le)

stored_length : (only : Bool) (host : List ℕ) (a : AttributesView) → is_attribute_length (length a.domain) ≡ true
    → only || is_attribute_length (length (cond only host (asked_domain a))) ≡ true
stored_length true host a h = refl
stored_length false host a h =
    let lower = lower_length (without_leading_dot a.domain) in
    let undotted = undotted_length a.domain in
    shorter_fits (length (asked_domain a)) (length a.domain) (omega (arith, lower, undotted)) h

-- ---- the path

same_47 : (b : ℕ) (rest : Bool) → ((47 == b) && rest) ≡ true → b ≡ 47
same_47 b rest h = let k = (and_parts (47 == b) rest h).0 in grind (arith, nat_tests, k)

rooted : (n : ℕ) (path : List ℕ) → starts_with eqb path (codes "/") ≡ true → list_all is_request_byte path ≡ true → is_request_path (or_root (take n path)) ≡ true
rooted n [] begins all = absurd (false≢true begins)
rooted zero (c ∷ cs) begins all = refl
rooted (suc n) (c ∷ cs) begins all =
    let first : c ≡ 47 = same_47 c _ begins in
    and_from (starts_with eqb (c ∷ take n cs) (codes "/")) (list_all is_request_byte (c ∷ take n cs))
    (ap (λ x. starts_with eqb (x ∷ take n cs) (codes "/")) first) (all-take is_request_byte (suc n) (c ∷ cs) all)

folder_requested : (path : List ℕ) → is_request_path path ≡ true → is_request_path (folder_of path) ≡ true
folder_requested path h =
    let both = and_parts (starts_with eqb path (codes "/")) (list_all is_request_byte path) h in
    ap (λ b. is_request_path (cond b (or_root (take (length path - suffix_len (λ x. not (x == 47)) path - 1) path)) (codes "/"))) both.0
    ∙ rooted (length path - suffix_len (λ x. not (x == 47)) path - 1) path both.0 both.1

stored_path : (request : List ℕ) (a : AttributesView) → is_request_path request ≡ true → AreReceived a → is_path (path_or_folder request a.path) ≡ true
stored_path request a requested h = by (starts_with eqb a.path (codes "/")) refl
  where
    or_second : (x y : Bool) → y ≡ true → x || y ≡ true
    or_second true y e = refl
    or_second false y e = e

    by : (b : Bool) → starts_with eqb a.path (codes "/") ≡ b → is_path (cond b a.path (folder_of request)) ≡ true
    by true e =
        ap (λ x. x || is_request_path a.path)
        (and_from (starts_with eqb a.path (codes "/")) (is_received_text a.path && is_attribute_length (length a.path)) e
        (and_from (is_received_text a.path) (is_attribute_length (length a.path)) h.path h.short))
    by false e = or_second (is_path_value (folder_of request)) (is_request_path (folder_of request)) (folder_requested request requested)

-- ---- the name

filled : (name value : List ℕ) → bytes_eq name [] && bytes_eq value [] ≡ false → nat_lt 0 (length name + length value) ≡ true
filled [] [] e = absurd (false≢true (sym e))
filled [] (b ∷ bs) e = grind (arith, nat_tests)
filled (b ∷ bs) value e = grind (arith, nat_tests)

nameless : (name value : List ℕ) → bytes_eq name [] && has_any_prefix value ≡ false → not (length name == 0) || not (has_any_prefix value) ≡ true
nameless [] value e = ap not e
nameless (b ∷ bs) value e =
    let some : not (length (b ∷ bs) == 0) ≡ true = grind (arith, nat_tests) in
    ap (λ x. x || not (has_any_prefix value)) some

find-none : (p q : EnforcedPrefix → Bool) → ((x : EnforcedPrefix) → q x ≡ true → p x ≡ true) → (xs : List EnforcedPrefix) → find p xs ≡ None → find q xs ≡ None
find-none p q more [] e = refl
find-none p q more (x ∷ xs) e = by (p x) refl (q x) refl e (find-none p q more xs)
  where
    by : (a : Bool) → p x ≡ a → (b : Bool) → q x ≡ b → cond a (Some x) (find p xs) ≡ None → (find p xs ≡ None → find q xs ≡ None) → cond b (Some x) (find q xs) ≡ None
    by true is b so e rest = cc
    by false is true so e rest = absurd (false≢true (sym is ∙ more x so))
    by false is false so e rest = rest e

-- guards with one more cover what they covered
covers_more : (g : Guards) (bound : Bool) → (g.is_host_bound ≡ true → bound ≡ true) → (r : Guards) → covers g r ≡ true → covers (record g { is_host_bound = bound }) r ≡ true
covers_more g bound more r h =
    let one = and_parts (g.is_secure || not r.is_secure) _ h in
    let two = and_parts (g.is_http_only || not r.is_http_only) (g.is_host_bound || not r.is_host_bound) one.1 in
    and_from (g.is_secure || not r.is_secure) _ one.0
    (and_from (g.is_http_only || not r.is_http_only) (bound || not r.is_host_bound) two.0 (by g.is_host_bound refl bound refl two.1))
  where
    by : (a : Bool) → g.is_host_bound ≡ a → (b : Bool) → bound ≡ b → a || not r.is_host_bound ≡ true → b || not r.is_host_bound ≡ true
    by a is true so e = refl
    by true is false so e = absurd (false≢true (sym so ∙ more is))
    by false is false so e = e

prefixes_more : (name : List ℕ) (g : Guards) (bound : Bool) → (g.is_host_bound ≡ true → bound ≡ true) → unmet_prefix name g ≡ None
    → meets_prefixes name (record g { is_host_bound = bound }) ≡ true
prefixes_more name g bound more none =
    let wide : Guards = record g { is_host_bound = bound } in
    ap (λ (o : Option EnforcedPrefix). not (is_some o))
    (find-none (λ p. has_prefix p name && not (covers g (required p))) (λ p. has_prefix p name && not (covers wide (required p))) each enforced_prefixes none)
  where
    each : (p : EnforcedPrefix) → has_prefix p name && not (covers (record g { is_host_bound = bound }) (required p)) ≡ true
        → has_prefix p name && not (covers g (required p)) ≡ true
    each p h =
        let both = and_parts (has_prefix p name) (not (covers (record g { is_host_bound = bound }) (required p))) h in
        and_from (has_prefix p name) (not (covers g (required p))) both.0 (by (covers g (required p)) refl both.1)
      where
        by : (b : Bool) → covers g (required p) ≡ b → not (covers (record g { is_host_bound = bound }) (required p)) ≡ true → not b ≡ true
        by true is e = absurd (false≢true (ap not (sym (covers_more g bound more (required p) is)) ∙ e))
        by false is e = refl

-- ---- the times

in_order : (now age : ℤ) → age ≡ age → (n m : ℕ) → n ≤ m → int_le (now +ℤ pos n *ℤ pos 1000000000) (now +ℤ pos m *ℤ pos 1000000000) ≡ true
in_order now age same n m le = grind (arith, signed_arith, le)

stored_expiry : (now : DateTime) (age : Option ℕ) (expires : Option DateTime) → IfSome age (λ n. n ≤ age_limit) → is_limited now (kept_until now age expires) ≡ true
stored_expiry now (Some n) expires h = in_order (civil_nanos now) (civil_nanos now) refl n age_limit h
stored_expiry now None (Some moment) h = int_le-earlier (civil_nanos moment) (seconds_after now age_limit)
stored_expiry now None None h = refl

-- ---- the cookie

none_secure : (bound secure : Bool) → not bound && not secure ≡ false → bound || secure ≡ true
none_secure true secure e = refl
none_secure false true e = refl
none_secure false false e = absurd (false≢true (sym e))

meets_connection : (s : RequestView) (store : CookieStore) (new : KeptView) → refusal_by_connection s store new ≡ None → meets_same_site new ≡ true
unfolding refusal_by_connection
meets_connection s store new e =
    let one = not_refused (new.is_secure_only && not s.is_secure) _ _ e in
    let two = not_refused (overlays s store new) _ _ one.1 in
    let three = not_refused (crosses s new) _ _ two.1 in
    let four = not_refused (not (is_site_bound new.same_site) && not new.is_secure_only) _ _ three.1 in
    none_secure (is_site_bound new.same_site) new.is_secure_only four.0

-- no empty pair, and no foreign domain
meets_domain : (rules : List Rule) (s : RequestView) (v : ReceivedView) → refusal_by_domain rules s v ≡ None
    → (is_empty_pair v ≡ false) × (is_foreign s (asked_domain v.attributes) ≡ false)
unfolding refusal_by_domain
meets_domain rules s v e =
    let asked = asked_domain v.attributes in
    let one = not_refused (is_empty_pair v) _ _ e in
    let two = not_refused (not (is_ascii asked)) _ _ one.1 in
    let three = not_refused (is_suffix_of_others rules s asked) _ _ two.1 in
    let four = not_refused (is_foreign s asked) _ _ three.1 in
    (one.0, four.0)

accepted_storable : (rules : List Rule) (s : RequestView) (now : DateTime) (store : CookieStore) (v : ReceivedView) (kept : KeptView) → IsOfUrl s → IsReceived v
    → IsStoredBy rules s now store v kept → is_storable_by now (kept_as rules s now v) ≡ true
accepted_storable rules s now store v kept url h is =
    let new : KeptView = kept_as rules s now v in
    let asked = asked_domain v.attributes in
    let only = is_host_only rules s asked in
    let first = both_none (refusal_by_domain rules s v) (or_next_refusal (refusal_by_connection s store new) (refusal_by_prefix v new)) is.accepted in
    let second = both_none (refusal_by_connection s store new) (refusal_by_prefix v new) first.1 in
    let domains = meets_domain rules s v first.0 in
    let prefixes = prefixes_met v new second.1 in
    let pair : is_received_pair v.name v.value ≡ true =
    and_from (is_received_text v.name) _ h.pair.name_text
    (and_from (is_received_text v.value) _ h.pair.value_text
    (and_from (lacks_equals_sign v.name) (is_received_length (length v.name + length v.value)) h.pair.whole
    (and_from (nat_lt 0 (length v.name + length v.value)) (nat_le (length v.name + length v.value) most_bytes) (filled v.name v.value domains.0) h.short))) in
    let names : meets_name_prefix new ≡ true =
    and_from (meets_prefixes v.name (guards_of new)) (meets_nameless_prefix new)
    (prefixes_more v.name (received_guards v new) (guards_of new).is_host_bound (bound new.is_host_only v.attributes.has_path (bytes_eq new.path (codes "/"))) prefixes.0)
    (nameless v.name v.value prefixes.1) in
    let storable : is_storable new ≡ true =
    and_from (is_received_pair v.name v.value) _ pair
    (and_from (is_domain new.domain) _ (stored_domain rules s url asked domains.1)
    (and_from (can_be_set new) _ (stored_length only s.host v.attributes h.attributes.domain)
    (and_from (is_path new.path) _ (stored_path s.path v.attributes url.path h.attributes)
    (and_from (meets_name_prefix new) (meets_same_site new) names (meets_connection s store new second.0))))) in
    and_from (is_storable new) (is_limited now new.expiry && int_le new.last_access (civil_nanos now)) storable
    (and_from (is_limited now new.expiry) (int_le new.last_access (civil_nanos now)) (stored_expiry now v.attributes.max_age v.attributes.expires h.attributes.age)
    (int_le-same (civil_nanos now)))
  where
    bound : (only has_path root : Bool) → only && (has_path && root) ≡ true → only && root ≡ true
    bound true true root e = e
    bound true false root e = absurd (false≢true e)
    bound false has_path root e = e

verdict_storable : (rules : List Rule) (s : RequestView) (now : DateTime) (store : CookieStore) (text : List ℕ) (kept : KeptView) → IsOfUrl s
    → verdict rules s now store text ≡ Ok kept → is_storable_by now kept ≡ true
verdict_storable rules s now store text kept url e = by (received text) refl e
  where
    by : (o : Result ReceivedView Refusal) → received text ≡ o → verdict_on rules s now store o ≡ Ok kept → is_storable_by now kept ≡ true
    by (Err why) is h = cc
    by (Ok v) is h =
        let stored = stored_by rules s now store v kept h in
        subst (λ (k : KeptView). is_storable_by now k ≡ true) stored.same (accepted_storable rules s now store v kept url (received_so text v is) stored)

-- what is stored after a text, if what was stored could have been
pub text_storable : (rules : List Rule) (s : RequestView) (now : DateTime) (text : List ℕ) (store : CookieStore) → IsOfUrl s
    → All (λ c. is_storable_by now c ≡ true) store → All (λ c. is_storable_by now c ≡ true) (kept_after_text rules s now text store)
text_storable rules s now text store url all = by (verdict rules s now (lasting now store) text) refl
  where
    P : KeptView → Type 0
    P c = is_storable_by now c ≡ true

    fresh : All P (lasting now store)
    fresh = All-filter (λ c. lasts c.expiry now) P store all

    by : (v : Result KeptView Refusal) → verdict rules s now (lasting now store) text ≡ v → All P (kept_after_verdict now v (lasting now store))
    by (Err why) is = fresh
    by (Ok x) is =
        All-filter (λ c. lasts c.expiry now) P (kept_with x (lasting now store))
        (All-put P x (verdict_storable rules s now (lasting now store) text x url is) (lasting now store) fresh)
