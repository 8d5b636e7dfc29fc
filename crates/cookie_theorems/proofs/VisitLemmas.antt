-- What a request keeps, and what its header is read as.
use Rattle.std.proofs.Common.{◌≡◌, ℕ, ◌≤◌, Bool, true, false, cond, List, [], ◌∷◌, length, map, refl, sym, ap, subst, ◌∙◌, All, Option, Some, None, option_map, arith}
use Rattle.std.proofs.lemmas.Bool.{false≢true}
use Rattle.std.proofs.lemmas.List.Elements.{All-nil, All-head, All-tail, All-filter, All-weaker, All-map}
use Rattle.std.proofs.lemmas.List.Sorted.{All-permutation}
use Rattle.std.proofs.lemmas.Slice.Eq.{bytes_eq-Decides}
use Rattle.std.specs.FinMap.{get, get-empty}
use Rattle.std.specs.List.{filter}
use Rattle.std.specs.Option.{option_or, option_to_list}
use Rattle.std.specs.Str.{bytes_eq}
use Rattle.jiff.specs.Types.{DateTime}
use Rattle.cookie.specs.Escapes.{escape, unescape}
use Rattle.cookie.specs.Jar.{Name, name_cmp, Marked, JarState, empty_jar}
use Rattle.cookie.specs.Record.{Record}
use Rattle.cookie.specs.Text.{cookie_text}
use Rattle.cookie.proofs.OriginalLemmas.{has_first}
use Rattle.cookie.specs.Originals.{field_cookies, first_of_name, jar_for}
use Rattle.cookie.specs.DeltaTexts.{IsDeltaText, AreDeltaTexts}
use Rattle.cookie_client.specs.Agreement.{value_of}
use Rattle.cookie_theorems.specs.Agreement.{IsOurs, IsOurStore, IsKnownView, Mirrors, values_of, IsPlannedEntry, IsPlannedDelta, SiteAgrees, PlanView}
use Rattle.cookie_browser.specs.Request.{RequestView}
use Rattle.cookie_agent.specs.Sent.{seen, visible, IsHeader}
use Rattle.cookie_browser.specs.Storage.{KeptView, CookieStore, is_same_cookie, kept_after_text, kept_with, lasts, lasting, is_sent}
use Rattle.cookie_browser.specs.Suffixes.{Rule}
use Rattle.cookie_theorems.specs.Reading.{kept_after_texts}
use Rattle.cookie_theorems.proofs.FollowLemmas.{alone_one, is_ours, text_stored, x, followed}
use Rattle.cookie_agent.proofs.KeyLemmas.{turned_test}
use Rattle.cookie_agent.proofs.PutLemmas.{All-put}
use Rattle.cookie_theorems.proofs.SeenLemmas.{put_other, put_own}
use Rattle.cookie_theorems.proofs.AgentHeaderLemmas.{plain_of, back, read_as, values_read, any_order, sent}

-- ---- no two cookies of one name

abbrev under : List ℕ → CookieStore → CookieStore
under name store = filter (λ c. bytes_eq c.name name) store

abbrev Once : CookieStore → Type 0
Once store = (name : List ℕ) → length (under name store) ≤ 1

grown : (b : Bool) (c : KeptView) (s t : CookieStore) → length s ≤ length t → length (cond b (c ∷ s) s) ≤ length (cond b (c ∷ t) t)
grown true c s t h = omega arith
grown false c s t h = h

kept_below : (b : Bool) (c : KeptView) (s t : CookieStore) → length s ≤ length t → length s ≤ length (cond b (c ∷ t) t)
kept_below true c s t h = omega arith
kept_below false c s t h = h

fewer : (p q : KeptView → Bool) (xs : CookieStore) → length (filter q (filter p xs)) ≤ length (filter q xs)
fewer p q [] = omega arith
fewer p q (c ∷ xs) = by (fewer p q xs) (p c)
  where
    by : length (filter q (filter p xs)) ≤ length (filter q xs) → (a : Bool)
        → length (filter q (cond a (c ∷ filter p xs) (filter p xs))) ≤ length (cond (q c) (c ∷ filter q xs) (filter q xs))
    by h true = grown (q c) c (filter q (filter p xs)) (filter q xs) h
    by h false = kept_below (q c) c (filter q (filter p xs)) (filter q xs) h

Once-lasting : (now : DateTime) (store : CookieStore) → Once store → Once (lasting now store)
Once-lasting now store once name =
    let h = fewer (λ c. lasts c.expiry now) (λ c. bytes_eq c.name name) store in
    let k = once name in
    omega arith

length-values : (zs : CookieStore) → length (map (λ (c : KeptView). c.value) zs) ≡ length zs
length-values [] = refl
length-values (c ∷ zs) = let h = length-values zs in omega arith

-- every cookie, as if all were visible
abbrev all : KeptView → Bool
all c = true

Once-put : (plans : Name → PlanView) (y : KeptView) → ((d : KeptView) → IsOurs plans d → d.name ≡ y.name → is_same_cookie d y ≡ true)
    → (store : CookieStore) → All (IsOurs plans) store → Once store → Once (kept_with y store)
Once-put plans y alone store ours once name = by (bytes_eq y.name name) refl
  where
    own : map (λ (c : KeptView). c.value) (under y.name (kept_with y store)) ≡ map (λ (c : KeptView). c.value) (under y.name (y ∷ []))
    own = put_own all y store (All-weaker (IsOurs plans) (λ d. all d ≡ true → d.name ≡ y.name → is_same_cookie d y ≡ true) (λ d o _ e. alone d o e) store ours)

    by : (b : Bool) → bytes_eq y.name name ≡ b → length (under name (kept_with y store)) ≤ 1
    by true e =
        let at : y.name ≡ name = (bytes_eq-Decides y.name name).0 e in
        let one : length (under y.name (y ∷ [])) ≡ 1 = ap (λ b. length (cond b (y ∷ []) [])) ((bytes_eq-Decides y.name y.name).1 refl) in
        let level : length (under y.name (kept_with y store)) ≡ length (under y.name (y ∷ []))
        = sym (length-values (under y.name (kept_with y store))) ∙ ap length own ∙ length-values (under y.name (y ∷ [])) in
        subst (λ n. length (under n (kept_with y store)) ≤ 1) at (omega arith)
    by false e =
        let level : length (under name (kept_with y store)) ≡ length (under name store)
        = sym (length-values (under name (kept_with y store))) ∙ ap length (put_other all y name (λ f. false≢true (sym e ∙ (bytes_eq-Decides y.name name).1 f)) store) ∙ length-values (under name store) in
        let k = once name in
        omega arith

-- ---- a text of the delta keeps the store ours

module _ (rules : List Rule) (site : RequestView) (now : DateTime) (plans : Name → PlanView) where
  ours_after : (name : Name) (entry : Marked) (is : IsPlannedEntry rules site now plans name entry) (store : CookieStore) → IsOurStore plans store
      → IsOurStore plans (kept_after_text rules site now (cookie_text true false entry.cookie) store)
  ours_after name entry is store ours =
      let y : KeptView = x rules site now plans name entry is in
      let fresh : All (IsOurs plans) (lasting now store) = All-filter (λ d. lasts d.expiry now) (IsOurs plans) store ours.each in
      let put_in : All (IsOurs plans) (kept_with y (lasting now store)) = All-put (IsOurs plans) y (is_ours rules site now plans name entry is) (lasting now store) fresh in
      subst (IsOurStore plans) (sym (text_stored rules site now plans name entry is store ours.each))
      (record {
        each = All-filter (λ d. lasts d.expiry now) (IsOurs plans) (kept_with y (lasting now store)) put_in;
        once = Once-lasting now (kept_with y (lasting now store)) (Once-put plans y (alone_one rules site now plans name entry is) (lasting now store) fresh (Once-lasting now store ours.once));
      })

  all_after : (jar : JarState) → IsPlannedDelta rules site now plans jar.delta → (texts : List (List ℕ)) → All (IsDeltaText jar.delta) texts → (store : CookieStore) → IsOurStore plans store
      → IsOurStore plans (kept_after_texts rules site now texts store)
  all_after jar planned [] are store ours = ours
  all_after jar planned (text ∷ texts) are store ours =
      let is = All-head (IsDeltaText jar.delta) text texts are in
      all_after jar planned texts (All-tail (IsDeltaText jar.delta) text texts are) (kept_after_text rules site now text store)
      (subst (λ t. IsOurStore plans (kept_after_text rules site now t store)) (sym is.is) (ours_after is.name is.entry (planned is.name is.entry is.stands) store ours))

-- ---- the jar's originals are what the site sees

-- the first cookie of a name has the name's value, if there is one value
first_value : (name : Name) (cs : List Record) (w : Option (List ℕ)) → values_of name cs ≡ option_to_list w → value_of (first_of_name name cs) ≡ w
first_value name [] None e = refl
first_value name [] (Some v) e = cc
first_value name (c ∷ cs) w e = by (first_value name cs) (bytes_eq c.name name) refl w e
  where
    by : ((w : Option (List ℕ)) → values_of name cs ≡ option_to_list w → value_of (first_of_name name cs) ≡ w)
        → (r : Bool) → bytes_eq c.name name ≡ r → (w : Option (List ℕ))
        → map (λ (d : Record). d.value) (cond r (c ∷ filter (λ d. bytes_eq d.name name) cs) (filter (λ d. bytes_eq d.name name) cs)) ≡ option_to_list w
        → value_of (cond (bytes_eq name c.name) (Some c) (first_of_name name cs)) ≡ w
    by more true f None g = cc
    by more true f (Some v) g =
        let first : c.value ≡ v = cc in
        ap (λ b. value_of (cond b (Some c) (first_of_name name cs))) (turned_test name c.name ∙ f) ∙ ap Some first
    by more false f w g = ap (λ b. value_of (cond b (Some c) (first_of_name name cs))) (turned_test name c.name ∙ f) ∙ more w g

at_most_one : (l : List (List ℕ)) → length l ≤ 1 → (o : Option (List ℕ)) × (l ≡ option_to_list o)
at_most_one [] h = (None, refl)
at_most_one (v ∷ []) h = (Some v, refl)
at_most_one (v ∷ w ∷ l) h = absurd (omega arith)

unescape_list : (o : Option (List ℕ)) → map unescape (option_to_list o) ≡ option_to_list (option_map unescape o)
unescape_list None = refl
unescape_list (Some v) = refl

escaped_again : (o : Option (List ℕ)) → All (λ v. escape (unescape v) ≡ v) (option_to_list o) → option_to_list o ≡ option_to_list (option_map escape (option_map unescape o))
escaped_again None all = refl
escaped_again (Some v) all = ap (λ w. w ∷ []) (sym (All-head (λ w. escape (unescape w) ≡ w) v [] all))

values_all : (P : List ℕ → Type 0) (cs : CookieStore) → All (λ c. P c.value) cs → All P (map (λ c. c.value) cs)
values_all P cs h = All-map P (λ (c : KeptView). c.value) cs h

-- a request: its header, and its jar, whose originals are the header's cookies and whose delta is planned
pub record IsFollowable (rules : List Rule) (plans : Name → PlanView) (before : CookieStore) (site : RequestView) (now : DateTime) (header : List ℕ) (jar : JarState) : Type 0 where
  pub sent : IsHeader site now before header
  pub originals : jar.originals ≡ (jar_for header).originals
  pub planned : IsPlannedDelta rules site now plans jar.delta
  pub known : IsKnownView jar

module _ (rules : List Rule) (plans : Name → PlanView) (before : CookieStore) (ours : IsOurStore plans before) (site : RequestView) (now : DateTime)
    (header : List ℕ) (jar : JarState) (is : IsFollowable rules plans before site now header jar) where
  cookies_read : field_cookies header ≡ map plain_of is.sent.cookies
  cookies_read =
      let every : All (IsOurs plans) is.sent.cookies
      = All-permutation (IsOurs plans) (visible site now before) is.sent.cookies is.sent.sent (All-filter (is_sent site now) (IsOurs plans) before ours.each) in
      read_as plans header is.sent.cookies every is.sent.text

  originals_known : Mirrors site now before (λ name. value_of (get jar.originals name))
  originals_known name u =
      let every : All (IsOurs plans) (visible site now before) = All-filter (is_sent site now) (IsOurs plans) before ours.each in
      let sent_all : All (IsOurs plans) is.sent.cookies
      = All-permutation (IsOurs plans) (visible site now before) is.sent.cookies is.sent.sent every in
      let few = fewer (is_sent site now) (λ c. bytes_eq c.name (escape name)) before in
      let once = ours.once (escape name) in
      let size = length-values (under (escape name) (visible site now before)) in
      let small : length (seen site now before (escape name)) ≤ 1 = omega arith in
      let (o, e) = at_most_one (seen site now before (escape name)) small in
      let moved = any_order (λ c. bytes_eq c.name (escape name)) (visible site now before) is.sent.cookies is.sent.sent o e in
      let read : values_of name (field_cookies header) ≡ option_to_list (option_map unescape o)
      = ap (values_of name) cookies_read ∙ values_read plans name u is.sent.cookies sent_all ∙ ap (map unescape) moved ∙ unescape_list o in
      let value : value_of (get jar.originals name) ≡ option_map unescape o
      = ap (λ m. value_of (get m name)) is.originals
      ∙ ap value_of ((has_first (field_cookies header) empty_jar).originals name ∙ ap (λ p. option_or p (first_of_name name (field_cookies header))) (get-empty name_cmp name))
      ∙ first_value name (field_cookies header) (option_map unescape o) read in
      let escapes : All (λ v. escape (unescape v) ≡ v) (option_to_list o)
      = subst (All (λ v. escape (unescape v) ≡ v)) e
      (values_all (λ v. escape (unescape v) ≡ v) (under (escape name) (visible site now before))
      (All-weaker (IsOurs plans) (λ c. escape (unescape c.value) ≡ c.value) escaped_value (under (escape name) (visible site now before))
      (All-filter (λ c. bytes_eq c.name (escape name)) (IsOurs plans) (visible site now before) every))) in
      e ∙ escaped_again o escapes ∙ ap (λ w. option_to_list (option_map escape w)) (sym value)
    where
      escaped_value : (c : KeptView) → IsOurs plans c → escape (unescape c.value) ≡ c.value
      escaped_value c o = ap escape (back o.value c.value o.named.cookie.value o.values) ∙ sym o.values

  pub agreed : (texts : List (List ℕ)) → AreDeltaTexts jar.delta texts → (next : List ℕ) → IsHeader site now (kept_after_texts rules site now texts before) next → SiteAgrees jar next
  agreed texts are next h =
      let (kept, mirrors) = followed rules site now plans before jar texts ours.each is.planned originals_known are in
      sent site now plans (kept_after_texts rules site now texts before) jar next is.known kept mirrors h

  pub stays : (texts : List (List ℕ)) → AreDeltaTexts jar.delta texts → IsOurStore plans (kept_after_texts rules site now texts before)
  stays texts are = all_after rules site now plans jar is.planned texts are.only before ours

pub none_stored : (plans : Name → PlanView) → IsOurStore plans []
none_stored plans = record { each = All-nil (IsOurs plans); once = λ name. omega arith }
