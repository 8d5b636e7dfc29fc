-- The name and the value that a user agent stores are cut out of a text, and trimmed.
use Rattle.std.proofs.Common.{◌≡◌, ℕ, ◌+◌, ◌-◌, ◌<◌, ◌==◌, Bool, true, false, cond, List, [], ◌∷◌, length, get_or, take, drop, reverse, Option, Some, None, Ok, Err, refl, sym, ap, subst, ◌∙◌, arith, length-take, length-drop}
use Rattle.std.proofs.lemmas.Bool.{false≢true}
use Rattle.std.proofs.lemmas.Bool.Decides.{Decides-eqb}
use Rattle.std.proofs.lemmas.List.{get_or-drop, get_or-reverse, get_or-take, length-reverse, length-take-le}
use Rattle.std.proofs.lemmas.List.Sums.{prefix_len_stops}
use Rattle.std.specs.List.{list_any, prefix_len, suffix_len}
use Rattle.std.specs.Prelude.{Result, nat_lt}
use Rattle.jiff.specs.Types.{DateTime}
use Rattle.cookie.specs.Pieces.{Lacks}
use Rattle.cookie.specs.Wsp.{is_wsp, trim_wsp, trim_wsp_start}
use Rattle.cookie.proofs.ByteLemmas.{Lacks-nil}
use Rattle.cookie.proofs.ReadingLemmas.{Lacks-more, Lacks-tail}
use Rattle.cookie.proofs.WspLemmas.{trim_wsp-dark}
use Rattle.cookie_browser.specs.Bytes.{cut}
use Rattle.cookie_browser.specs.Received.{ReceivedView, attributes_of, is_control, received, received_name_value, received_pair}
use Rattle.cookie_browser.specs.Request.{RequestView}
use Rattle.cookie_browser.specs.Storage.{CookieStore, KeptView, has_host_prefix, verdict, verdict_on}
use Rattle.cookie_browser.specs.Suffixes.{Rule}
use Rattle.cookie_browser.specs.declared.refusal.Refusal.{Refusal}
use Rattle.cookie_browser.specs.declared.refusal.Refusal.TheVariants as refusal
use Rattle.cookie_agent.proofs.HostSetLemmas.{no_hidden_prefix}
use Rattle.cookie_agent.proofs.SentFieldLemmas.{IsCutOutOf}
use Rattle.cookie_agent.proofs.VerdictLemmas.{stored_by}

-- ---- a text that is trimmed

Lacks-take : (c n : ℕ) (t : List ℕ) → Lacks c t → Lacks c (take n t)
Lacks-take c n t lacks k lt same =
    let short = length-take n t in
    lacks k (omega (arith, short, lt)) (sym (get_or-take n t k 0 (omega (arith, short, lt))) ∙ same)

Lacks-drop : (c n : ℕ) (t : List ℕ) → Lacks c t → Lacks c (drop n t)
Lacks-drop c n t lacks k lt same =
    let short = length-drop n t in
    lacks (n + k) (omega (arith, short, lt)) (sym (get_or-drop n t k 0) ∙ same)

trim_lacks : (c : ℕ) (t : List ℕ) → Lacks c t → Lacks c (trim_wsp t)
unfolding trim_wsp
trim_lacks c t lacks =
    let s = trim_wsp_start t in
    Lacks-take c (length s - suffix_len is_wsp s) s (Lacks-drop c (prefix_len is_wsp t) t lacks)

-- it begins with no space or tab, and ends with none
begins_dark : (n : ℕ) (t : List ℕ) → (byte : ℕ) (rest : List ℕ) → take n (trim_wsp_start t) ≡ byte ∷ rest → is_wsp byte ≡ false
begins_dark n t byte rest is =
    let k = prefix_len is_wsp t in
    let s = trim_wsp_start t in
    let some = ap length is in
    let whole = length-take n s in
    let left = length-drop k t in
    let first : get_or t (k + 0) 0 ≡ byte = sym (get_or-drop k t 0 0) ∙ sym (get_or-take n s 0 0 (omega (arith, some, whole))) ∙ ap (λ l. get_or l 0 0) is in
    let start : get_or t k 0 ≡ get_or t (k + 0) 0 = let same : k ≡ k + 0 = omega arith in ap (λ i. get_or t i 0) same in
    ap is_wsp (sym first ∙ sym start) ∙ prefix_len_stops is_wsp t 0 (omega (arith, some, whole, left))

trim_begins : (t : List ℕ) (byte : ℕ) (rest : List ℕ) → trim_wsp t ≡ byte ∷ rest → is_wsp byte ≡ false
unfolding trim_wsp
trim_begins t byte rest is =
    let s = trim_wsp_start t in
    begins_dark (length s - suffix_len is_wsp s) t byte rest is

ends_dark : (s : List ℕ) → 0 < length s - suffix_len is_wsp s
    → is_wsp (get_or (take (length s - suffix_len is_wsp s) s) (length (take (length s - suffix_len is_wsp s) s) - 1) 0) ≡ false
ends_dark s some =
    let m = suffix_len is_wsp s in
    let n = length s - m in
    let long : length (take n s) ≡ n = length-take-le n s (omega arith) in
    let turned = length-reverse s in
    let at : get_or (take n s) (length (take n s) - 1) 0 ≡ get_or s (n - 1) 0
    = ap (λ i. get_or (take n s) (i - 1) 0) long ∙ get_or-take n s (n - 1) 0 (omega (arith, some)) in
    let back : get_or (reverse s) m 0 ≡ get_or s (length s - 1 - m) 0 = get_or-reverse s m 0 (omega (arith, some)) in
    let place : n - 1 ≡ length s - 1 - m = omega (arith, some) in
    ap is_wsp (at ∙ ap (λ i. get_or s i 0) place ∙ sym back) ∙ prefix_len_stops is_wsp (reverse s) 0 (omega (arith, some, turned))

trim_ends : (t : List ℕ) → 0 < length (trim_wsp t) → is_wsp (get_or (trim_wsp t) (length (trim_wsp t) - 1) 0) ≡ false
unfolding trim_wsp
trim_ends t some =
    let s = trim_wsp_start t in
    let n = length s - suffix_len is_wsp s in
    ends_dark s (omega (arith, some, length-take n s))

pub trim_nil : trim_wsp [] ≡ []
unfolding trim_wsp
trim_nil = refl

pub trim_twice : (t : List ℕ) → trim_wsp (trim_wsp t) ≡ trim_wsp t
trim_twice t = by (trim_wsp t) refl
  where
    by : (u : List ℕ) → trim_wsp t ≡ u → trim_wsp u ≡ u
    by [] is = trim_nil
    by (b ∷ rest) is =
        let some : 0 < length (trim_wsp t) = omega (arith, ap length is) in
        trim_wsp-dark (b ∷ rest) (omega arith) (trim_begins t b rest is)
        (subst (λ l. is_wsp (get_or l (length l - 1) 0) ≡ false) is (trim_ends t some))

-- ---- a text that is cut

abbrev LacksAfter : ℕ → Option (List ℕ) → Type 0
LacksAfter c None = Unit {0}
LacksAfter c (Some t) = Lacks c t

abbrev Cut : Type 0
Cut = List ℕ × Option (List ℕ)

cut_front : (c : ℕ) (t : List ℕ) → Lacks c (cut c t).0
unfolding cut
cut_front c [] = Lacks-nil c
cut_front c (b ∷ t) = by (b == c) refl (cut_front c t)
  where
    by : (is : Bool) → (b == c) ≡ is → Lacks c (cut c t).0 → Lacks c (cond {A = Cut} is ([], Some t) (b ∷ (cut c t).0, (cut c t).1)).0
    by true e rest = Lacks-nil c
    by false e rest = Lacks-more c b (cut c t).0 (λ same. false≢true (sym e ∙ (Decides-eqb b c).1 same)) rest

cut_lacks : (d c : ℕ) (t : List ℕ) → Lacks d t → Lacks d (cut c t).0 × LacksAfter d (cut c t).1
unfolding cut
cut_lacks d c [] lacks = (lacks, tt)
cut_lacks d c (b ∷ t) lacks = by (b == c) (cut_lacks d c t (Lacks-tail d b t lacks))
  where
    by : (is : Bool) → Lacks d (cut c t).0 × LacksAfter d (cut c t).1
        → Lacks d (cond {A = Cut} is ([], Some t) (b ∷ (cut c t).0, (cut c t).1)).0 × LacksAfter d (cond {A = Cut} is ([], Some t) (b ∷ (cut c t).0, (cut c t).1)).1
    by true rest = (Lacks-nil d, Lacks-tail d b t lacks)
    by false rest = (Lacks-more d b (cut c t).0 (lacks 0 (omega arith)) rest.0, rest.1)

-- ---- what is received

record IsPart (name value : List ℕ) : Type 0 where
  name_apart : Lacks 59 name
  value_apart : Lacks 59 value
  name_whole : Lacks 61 name
  name_trimmed : trim_wsp name ≡ name
  value_begins : (byte : ℕ) (rest : List ℕ) → value ≡ byte ∷ rest → is_wsp byte ≡ false

part_of : (text : List ℕ) (after : Option (List ℕ)) → Lacks 59 text → Lacks 61 text → LacksAfter 59 after
    → IsPart (received_name_value (text, after)).0 (received_name_value (text, after)).1
part_of text None apart whole later =
    record { name_apart = Lacks-nil 59; value_apart = trim_lacks 59 text apart; name_whole = Lacks-nil 61; name_trimmed = trim_nil; value_begins = trim_begins text }
part_of text (Some value) apart whole later =
    record { name_apart = trim_lacks 59 text apart; value_apart = trim_lacks 59 value later; name_whole = trim_lacks 61 text whole; name_trimmed = trim_twice text; value_begins = trim_begins value }

received_part : (text : List ℕ) (v : ReceivedView) → received text ≡ Ok v → IsPart v.name v.value
unfolding received
received_part text v e = by (list_any is_control text) e
  where
    front : List ℕ
    front = (cut 59 text).0

    pair : List ℕ × List ℕ
    pair = received_name_value (cut 61 front)

    part : IsPart pair.0 pair.1
    part = part_of (cut 61 front).0 (cut 61 front).1 (cut_lacks 59 61 front (cut_front 59 text)).0 (cut_front 61 front) (cut_lacks 59 61 front (cut_front 59 text)).1

    long : (b : Bool) → cond b (Err refusal.TooLong) (Ok (record { name = pair.0; value = pair.1; attributes = attributes_of (cut 59 text).1 })) ≡ Ok v → IsPart v.name v.value
    long true e = cc
    long false e =
        let name : pair.0 ≡ v.name = cc in
        let value : pair.1 ≡ v.value = cc in
        subst (λ n. IsPart n v.value) name (subst (λ u. IsPart pair.0 u) value part)

    by : (b : Bool) → cond b (Err refusal.ControlCharacter) (received_pair pair (cut 59 text).1) ≡ Ok v → IsPart v.name v.value
    by true e = cc
    by false e = long (nat_lt 4096 (length pair.0 + length pair.1)) e

-- what a verdict stores
pub stored_cut_out : (rules : List Rule) (site : RequestView) (now : DateTime) (store : CookieStore) (text : List ℕ) (kept : KeptView)
    → verdict rules site now store text ≡ Ok kept → IsCutOutOf kept
stored_cut_out rules site now store text kept e = by (received text) refl e
  where
    by : (o : Result ReceivedView Refusal) → received text ≡ o → verdict_on rules site now store o ≡ Ok kept → IsCutOutOf kept
    by (Err f) is h = cc
    by (Ok v) is h =
        let stored = stored_by rules site now store v kept h in
        let name : v.name ≡ kept.name = ap (λ (k : KeptView). k.name) stored.same in
        let value : v.value ≡ kept.value = ap (λ (k : KeptView). k.value) stored.same in
        let part = subst (λ n. IsPart n kept.value) name (subst (λ u. IsPart v.name u) value (received_part text v is)) in
        record {
          name_apart = part.name_apart;
          value_apart = part.value_apart;
          name_whole = part.name_whole;
          name_trimmed = part.name_trimmed;
          value_begins = part.value_begins;
          nameless = λ empty. subst (λ u. has_host_prefix u ≡ false) value (no_hidden_prefix rules site now store v kept stored (name ∙ empty));
        }
