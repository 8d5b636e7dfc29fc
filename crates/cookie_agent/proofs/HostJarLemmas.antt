-- What a site's server has in its jar under names with the prefix `__Host-`.
use Rattle.std.proofs.Common.{◌≡◌, ℕ, ◌≤ℤ◌, ◌&&◌, not, Bool, true, false, cond, pos, List, [], ◌∷◌, ◌++◌, map, length, codes, Option, Some, None, Ok, Err, refl, sym, ap, subst, ◌∙◌, arith}
use Rattle.std.proofs.lemmas.Bool.{and_parts, false≢true}
use Rattle.std.proofs.lemmas.List.{append-nil}
use Rattle.std.proofs.lemmas.List.Elements.{All-append, All-cons, All-filter, All-head, All-map, All-nil, All-tail, All-weaker, filter-append, filter_passes}
use Rattle.std.proofs.lemmas.List.Folds.{flat_map-map}
use Rattle.std.proofs.lemmas.List.Sorted.{All-permutation}
use Rattle.std.proofs.lemmas.Slice.Eq.{bytes_eq-Decides}
use Rattle.std.specs.FinMap.{get, get-empty}
use Rattle.std.specs.List.{filter, find, flat_map, list_all, list_any}
use Rattle.std.specs.List.Sorted.{ties}
use Rattle.std.specs.Option.{option_map, option_or, option_to_list}
use Rattle.std.specs.Prelude.{All, IsPermutation, Result}
use Rattle.std.specs.Str.{bytes_eq, trim}
use Rattle.jiff.specs.Types.{DateTime}
use Rattle.jiff.specs.Words.{civil_nanos}
use Rattle.cookie.specs.CookieOf.{cookie_of}
use Rattle.cookie.specs.Escapes.{is_escaped}
use Rattle.cookie.specs.FieldPieces.{cookies_of_piece}
use Rattle.cookie.specs.Header.{joined_texts}
use Rattle.cookie.specs.Jar.{Name, empty_jar, name_cmp}
use Rattle.cookie.specs.Originals.{field_cookies, first_of_name, is_readable, jar_for}
use Rattle.cookie.specs.Pieces.{Lacks}
use Rattle.cookie.specs.Record.{Record}
use Rattle.cookie.proofs.OriginalLemmas.{has_first}
use Rattle.cookie_browser.specs.Request.{RequestView, is_in_domain, is_under_path}
use Rattle.cookie_browser.specs.Storage.{CookieStore, KeptView, has_host_prefix, is_meant_for, is_same_cookie, is_sent, kept_after_text, kept_after_verdict, kept_with, lasting, lasts, suits, verdict}
use Rattle.cookie_browser.specs.Suffixes.{is_public_suffix}
use Rattle.cookie_browser.specs.declared.enforcement.Enforcement.TheVariants as enforcement
use Rattle.cookie_browser.specs.declared.refusal.Refusal.{Refusal}
use Rattle.cookie_agent.specs.Histories.{Begins, Clears, Evicts, History, IsInOrder, Loading, Loads, Reads, Removes, Requests, Response, Trims, kept_after}
use Rattle.cookie_agent.specs.HostJars.{AreOwnOriginals, AreOwnSet, IsLastOwn, IsOwnSet, if_loaded, if_named, if_passing, original_of, own_left, own_named}
use Rattle.cookie_agent.specs.Hosts.{host_cookies, is_own, own_events}
use Rattle.cookie_agent.specs.Limits.{trimmed}
use Rattle.cookie_agent.specs.Saved.{is_for_suffix, is_name, is_persistent}
use Rattle.cookie_agent.specs.SavedForms.{as_carried, carries, read_again}
use Rattle.cookie_agent.specs.Sent.{IsOrderedHeader, accessed, name_part, sent_pair, visible}
use Rattle.cookie_agent.specs.Stored.{is_named_in, is_of_domain, kept_with_each}
use Rattle.cookie_agent.proofs.HistoryLemmas.{IsLike, IsStoredSo, all_stored, apart_stored, like_accessed, like_carried, read_in, set_so}
use Rattle.cookie_agent.proofs.HostLemmas.{only_own}
use Rattle.cookie_agent.proofs.HostSetLemmas.{agree_all, and_turned, filter-both, filter-turned, filter_mapped, lasting-later, lasts_accessed, narrowed, put_in, put_out, secure_verdict, verdict_host_set}
use Rattle.cookie_agent.proofs.KeptLemmas.{trimmed_as, put_over}
use Rattle.cookie_agent.proofs.KeyLemmas.{alike, same_settled}
use Rattle.cookie_agent.proofs.OrderLemmas.{longer}
use Rattle.cookie_agent.proofs.PassingLemmas.{passed, passing, same_length}
use Rattle.cookie_agent.proofs.PutLemmas.{lasting-twice}
use Rattle.cookie_agent.proofs.SentFieldLemmas.{IsCutOut, IsCutOutOf, field_cookies-joined, field_cookies-text, host_named, pair_apart, plain_named, read_one}

-- ---- what a server reads of a header

-- what it reads of one cookie
abbrev read : KeptView → List Record
read c = cookies_of_piece (sent_pair c)

pairs_apart : (cs : CookieStore) → All IsCutOutOf cs → All (Lacks 59) (map sent_pair cs)
pairs_apart cs all =
    All-map (Lacks 59) sent_pair cs
    (All-weaker IsCutOutOf (λ c. Lacks 59 (sent_pair c)) (λ c so. pair_apart c.name c.value so.name_apart so.value_apart) cs all)

read_all : (header : List ℕ) (cs : CookieStore) → All IsCutOutOf cs → header ≡ joined_texts (map sent_pair cs) → field_cookies header ≡ flat_map read cs
read_all header cs all is =
    ap field_cookies is ∙ field_cookies-joined (map sent_pair cs) (pairs_apart cs all) ∙ flat_map-map cookies_of_piece sent_pair cs

-- of the cookies whose stored names pass a test, if the names that are read pass it alike
read_passing : (p : List ℕ → Bool) → ((c : KeptView) → IsCutOutOf c → filter (λ r. p r.name) (read c) ≡ cond (p c.name) (read c) [])
    → (cs : CookieStore) → All IsCutOutOf cs → filter (λ r. p r.name) (flat_map read cs) ≡ flat_map read (filter (λ c. p c.name) cs)
read_passing p one [] all = refl
read_passing p one (c ∷ cs) all =
    filter-append (λ (r : Record). p r.name) (read c) (flat_map read cs)
    ∙ (λ i. one c (All-head IsCutOutOf c cs all) i ++ read_passing p one cs (All-tail IsCutOutOf c cs all) i)
    ∙ by (p c.name)
  where
    by : (b : Bool) → cond b (read c) [] ++ flat_map read (filter (λ d. p d.name) cs) ≡ flat_map read (cond b (c ∷ filter (λ d. p d.name) cs) (filter (λ d. p d.name) cs))
    by true = refl
    by false = refl

-- ---- an original

find-filter : {X : Type 0} (p q : X → Bool) → ((x : X) → p x ≡ true → q x ≡ true) → (xs : List X) → find p (filter q xs) ≡ find p xs
find-filter p q passes [] = refl
find-filter {X} p q passes (x ∷ xs) = by (find-filter p q passes xs) (p x) refl (q x) refl
  where
    by : find p (filter q xs) ≡ find p xs → (a : Bool) → p x ≡ a → (b : Bool) → q x ≡ b → find p (cond b (x ∷ filter q xs) (filter q xs)) ≡ find p (x ∷ xs)
    by rest a e true f = ap (λ o. cond (p x) (Some x) o) rest
    by rest true e false f = absurd (false≢true (sym f ∙ passes x e))
    by rest false e false f = rest ∙ sym (ap (λ b. cond b (Some x) (find p xs)) e)

original : (header : List ℕ) (name : Name) → get (jar_for header).originals name ≡ first_of_name name (field_cookies header)
original header name =
    (has_first (field_cookies header) empty_jar).originals name
    ∙ ap (λ o. option_or o (first_of_name name (field_cookies header))) (get-empty name_cmp name)

-- that of a name which passes the test is among the cookies that do
original_passing : (p : List ℕ → Bool) (name : Name) → p name ≡ true → (cookies : List Record) → first_of_name name cookies ≡ first_of_name name (filter (λ r. p r.name) cookies)
original_passing p name passes cookies =
    sym (find-filter (λ (r : Record). bytes_eq name r.name) (λ r. p r.name)
    (λ r e. ap p (sym ((bytes_eq-Decides name r.name).0 e)) ∙ passes) cookies)

-- of a list with one at most, the first that passes is what passes
one_found : {X : Type 0} (p : X → Bool) (b : Bool) (o : Option X) → option_to_list (find p (cond b (option_to_list o) [])) ≡ filter p (cond b (option_to_list o) [])
one_found p false o = refl
one_found p true None = refl
one_found {X} p true (Some x) = by (p x)
  where
    by : (b : Bool) → option_to_list (cond b (Some x) None) ≡ cond b (x ∷ []) []
    by true = refl
    by false = refl

-- what passes, if it is one at most, is the first that passes
found : {X : Type 0} (p : X → Bool) (xs : List X) (o : Option X) → filter p xs ≡ option_to_list o → find p xs ≡ o
found {X} p xs o e = sym (find-filter p p (λ x f. f) xs) ∙ ap (find p) e ∙ by o (subst (All (λ x. p x ≡ true)) e (filter_passes p xs))
  where
    by : (q : Option X) → All (λ x. p x ≡ true) (option_to_list q) → find p (option_to_list q) ≡ q
    by None all = refl
    by (Some x) all = ap (λ b. cond b (Some x) None) (All-head (λ y. p y ≡ true) x [] all)

-- ---- cookies with the path `/` keep their order

root : KeptView
root = record { name = []; value = []; domain = []; is_host_only = true; path = codes "/"; is_secure_only = true; is_http_only = true; same_site = enforcement.Default; expiry = None; last_access = pos 0 }

ties_root : (c : KeptView) → c.path ≡ codes "/" → ties longer root c ≡ true
unfolding root
ties_root c e = ap (λ (t : List ℕ). ties longer root (record root { path = t })) e

host_order : (site : RequestView) (now : DateTime) (store : CookieStore) (header : List ℕ) → (read_so : Response → Type 0) → All (IsStoredSo read_so) store → (h : IsOrderedHeader site now store header)
    → filter (λ c. has_host_prefix c.name) h.is.cookies ≡ host_cookies site now store
host_order site now store header read_so all h =
    level h.is.cookies (All-permutation (IsStoredSo read_so) (visible site now store) h.is.cookies h.is.sent sent)
    ∙ ap (filter host) (h.earlier_first root)
    ∙ sym (level (visible site now store) sent)
  where
    host : KeptView → Bool
    host c = has_host_prefix c.name

    sent : All (IsStoredSo read_so) (visible site now store)
    sent = All-filter (is_sent site now) (IsStoredSo read_so) store all

    both : (c : KeptView) → IsStoredSo read_so c → (b : Bool) → has_host_prefix c.name ≡ b → b ≡ ties longer root c && b
    both c so true e = sym (ap (λ t. t && true) (ties_root c ((so.set e).path)))
    both c so false e = none (ties longer root c)
      where
        none : (t : Bool) → false ≡ t && false
        none true = refl
        none false = refl

    level : (cs : CookieStore) → All (IsStoredSo read_so) cs → filter (λ c. has_host_prefix c.name) cs ≡ filter (λ c. has_host_prefix c.name) (filter (ties longer root) cs)
    level cs all =
        agree_all (λ c. has_host_prefix c.name) (λ c. ties longer root c && has_host_prefix c.name) cs
        (All-weaker (IsStoredSo read_so) (λ c. has_host_prefix c.name ≡ ties longer root c && has_host_prefix c.name) (λ c so. both c so (has_host_prefix c.name) refl) cs all)
        ∙ sym (filter-both (λ c. has_host_prefix c.name) (ties longer root) cs)

-- ---- the first law

all_cut_out : (read_so : Response → Type 0) (cs : CookieStore) → All (IsStoredSo read_so) cs → All IsCutOutOf cs
all_cut_out read_so cs all = All-weaker (IsStoredSo read_so) IsCutOutOf (λ c so. so.cut_out) cs all

pub own_originals : AreOwnOriginals
own_originals history uncut site now order header own first second name prefixed =
    side history header first
    ∙ ap (λ cs. first_of_name name (flat_map read cs)) (only_own history uncut site now order)
    ∙ sym (side (own_events site history) own second)
  where
    side : (h : History) (text : List ℕ) → (o : IsOrderedHeader site now (kept_after h) text)
        → get (jar_for text).originals name ≡ first_of_name name (flat_map read (host_cookies site now (kept_after h)))
    side h text o =
        let store = kept_after h in
        let sent : All IsCutOutOf o.is.cookies
        = all_cut_out (read_in h) o.is.cookies (All-permutation (IsStoredSo (read_in h)) (visible site now store) o.is.cookies o.is.sent (All-filter (is_sent site now) (IsStoredSo (read_in h)) store (all_stored h))) in
        original text name
        ∙ original_passing has_host_prefix name prefixed (field_cookies text)
        ∙ ap (λ cs. first_of_name name (filter (λ r. has_host_prefix r.name) cs)) (read_all text o.is.cookies sent o.is.text)
        ∙ ap (first_of_name name) (read_passing has_host_prefix (λ c so. read_one has_host_prefix c.name c.value so (host_named c.name c.value so)) o.is.cookies sent
        ∙ ap (flat_map read) (host_order site now store text (read_in h) (all_stored h) o))

-- ---- what was set, whatever happened

-- of a list with one at most, each that passes is the only one
one_passes : {X : Type 0} (p : X → Bool) (b : Bool) (o : Option X) (q : Bool) → filter p (cond b (option_to_list o) []) ≡ cond q (cond b (option_to_list o) []) []
    → All (λ x. p x ≡ true → (q ≡ true) × (cond b (option_to_list o) [] ≡ x ∷ [])) (cond b (option_to_list o) [])
one_passes {X} p false o q e = let none : List X = [] in All-nil (λ x. p x ≡ true → (q ≡ true) × (none ≡ x ∷ []))
one_passes {X} p true None q e = let none : List X = [] in All-nil (λ x. p x ≡ true → (q ≡ true) × (none ≡ x ∷ []))
one_passes {X} p true (Some x) q e = All-cons P x [] (λ f. (by q (p x) f e, refl)) (All-nil P)
  where
    P : X → Type 0
    P y = p y ≡ true → (q ≡ true) × (x ∷ [] ≡ y ∷ [])

    by : (q b : Bool) → b ≡ true → cond b (x ∷ []) [] ≡ cond q (x ∷ []) [] → q ≡ true
    by true b f e = refl
    by false b f e = absurd (none (ap (λ c. cond c (x ∷ []) []) (sym f) ∙ e))
      where
        none : x ∷ [] ≡ [] → ⊥
        none e = cc

All-flat_map : {X Y : Type 0} (P : Y → Type 0) (f : X → List Y) (xs : List X) → All (λ x. All P (f x)) xs → All P (flat_map f xs)
All-flat_map P f [] all = All-nil P
All-flat_map P f (x ∷ xs) all =
    All-append P (f x) (flat_map f xs) (All-head (λ y. All P (f y)) x xs all) (All-flat_map P f xs (All-tail (λ y. All P (f y)) x xs all))

find_all : {X : Type 0} (p : X → Bool) (P : X → Type 0) (xs : List X) → All P xs → (y : X) → find p xs ≡ Some y → P y × (p y ≡ true)
find_all p P [] all y e = cc
find_all {X} p P (x ∷ xs) all y e = by (find_all p P xs (All-tail P x xs all) y) (p x) refl e
  where
    by : (find p xs ≡ Some y → P y × (p y ≡ true)) → (b : Bool) → p x ≡ b → cond b (Some x) (find p xs) ≡ Some y → P y × (p y ≡ true)
    by rest true f h = let same : x ≡ y = cc in (subst P same (All-head P x xs all), ap p (sym same) ∙ f)
    by rest false f h = rest h

module _ (history : History) (site : RequestView) (now : DateTime) where
  So : KeptView → Type 0
  So = IsStoredSo (read_in history)

  abbrev IsSet : Record → Type 0
  IsSet r = has_host_prefix r.name ≡ true → IsOwnSet site history r

  -- a host-only cookie that is sent is of the site's host
  sent_host : (c : KeptView) → is_sent site now c ≡ true → c.is_host_only ≡ true → bytes_eq site.host c.domain ≡ true
  sent_host c e host_only =
      let lives = and_parts (lasts c.expiry now) (suits site c) e in
      let meant = and_parts (is_meant_for site c) _ lives.1 in
      (and_parts (bytes_eq site.host c.domain) (is_under_path site.path c.path)
      (ap (λ b. cond b (bytes_eq site.host c.domain) (is_in_domain site.host site.is_address c.domain) && is_under_path site.path c.path) (sym host_only) ∙ meant.0)).0

  one_set : (c : KeptView) → IsStoredSo (read_in history) c → is_sent site now c ≡ true → All IsSet (read c)
  one_set c so e =
      All-weaker (λ r. has_host_prefix r.name ≡ true → (has_host_prefix c.name ≡ true) × (read c ≡ r ∷ [])) IsSet (λ r one prefixed. set r (one prefixed)) (read c)
      (one_passes (λ r. has_host_prefix r.name) (is_readable (sent_pair c)) (cookie_of true (trim (sent_pair c))) (has_host_prefix c.name)
      (read_one has_host_prefix c.name c.value so.cut_out (host_named c.name c.value so.cut_out)))
    where
      set : (r : Record) → (has_host_prefix c.name ≡ true) × (read c ≡ r ∷ []) → IsOwnSet site history r
      set r (prefixed, only) =
          let s = so.set prefixed in
          record {
            response = s.response;
            read = s.is_read;
            own = ap (λ b. b && bytes_eq site.host s.response.site.host) s.secure ∙ ap (bytes_eq site.host) (sym s.domain) ∙ sent_host c e s.host_only;
            kept = s.kept;
            stored = s.stored;
            shown =
                ap (λ n. field_cookies (name_part n ++ s.kept.value)) s.name
                ∙ ap (λ v. field_cookies (name_part c.name ++ v)) s.value
                ∙ field_cookies-text (sent_pair c) (pair_apart c.name c.value so.cut_out.name_apart so.cut_out.value_apart)
                ∙ only;
          }

pub own_set : AreOwnSet
own_set history site now header h = record { cookies = cookies; originals = originals }
  where
    store : CookieStore
    store = kept_after history

    Both : KeptView → Type 0
    Both c = IsStoredSo (read_in history) c × (is_sent site now c ≡ true)

    both : All Both h.cookies
    both =
        All-permutation Both (visible site now store) h.cookies h.sent
        (passing (is_sent site now) Both store (All-weaker (IsStoredSo (read_in history)) (λ c. is_sent site now c ≡ true → Both c) (λ c so e. (so, e)) store (all_stored history)))

    cookies : All (IsSet history site now) (field_cookies header)
    cookies =
        subst (All (IsSet history site now)) (sym (read_all header h.cookies (All-weaker Both IsCutOutOf (λ c so. so.0.cut_out) h.cookies both) h.text))
        (All-flat_map (IsSet history site now) read h.cookies (All-weaker Both (λ c. All (IsSet history site now) (read c)) (λ c so. one_set history site now c so.0 so.1) h.cookies both))

    originals : (name : Name) → has_host_prefix name ≡ true → (cookie : Record) → get (jar_for header).originals name ≡ Some cookie → IsOwnSet site history cookie
    originals name prefixed cookie e =
        let found = find_all (λ (r : Record). bytes_eq name r.name) (IsSet history site now) (field_cookies header) cookies cookie (sym (original header name) ∙ e) in
        found.0 (ap has_host_prefix (sym ((bytes_eq-Decides name cookie.name).0 found.1)) ∙ prefixed)

-- ---- the cookies of one name that a site's own secure responses store

-- at most one passes, as a list
one_passing : (p : KeptView → Bool) (o : Option KeptView) → filter p (option_to_list o) ≡ option_to_list (if_passing p o)
one_passing p None = refl
one_passing p (Some c) = by (p c)
  where
    by : (b : Bool) → cond b (c ∷ []) [] ≡ option_to_list (cond b (Some c) None)
    by true = refl
    by false = refl

one_mapped : (f : KeptView → KeptView) (o : Option KeptView) → map f (option_to_list o) ≡ option_to_list (option_map f o)
one_mapped f None = refl
one_mapped f (Some c) = refl

module _ (site : RequestView) (name : Name) (prefixed : has_host_prefix name ≡ true) where
  abbrev IsAt : KeptView → Bool
  IsAt c = c.is_host_only && bytes_eq site.host c.domain

  abbrev Here : KeptView → Bool
  Here c = bytes_eq name c.name && (c.is_host_only && bytes_eq site.host c.domain)

  respects : (a b : KeptView) → is_same_cookie a b ≡ true → Here a ≡ Here b
  respects a b e =
      let h = alike a b e in
      ap (λ n. bytes_eq name n && (a.is_host_only && bytes_eq site.host a.domain)) h.name
      ∙ ap (λ f. bytes_eq name b.name && (f && bytes_eq site.host a.domain)) h.flag
      ∙ ap (λ d. bytes_eq name b.name && (b.is_host_only && bytes_eq site.host d)) h.domain

  like_here : (c d : KeptView) → IsLike c d → Here d ≡ Here c
  like_here c d like =
      ap (λ n. bytes_eq name n && (d.is_host_only && bytes_eq site.host d.domain)) like.name
      ∙ ap (λ f. bytes_eq name c.name && (f && bytes_eq site.host d.domain)) like.flag
      ∙ ap (λ t. bytes_eq name c.name && (c.is_host_only && bytes_eq site.host t)) like.domain

  -- such a cookie is for the whole host of the site
  record IsHere (c : KeptView) : Type 0 where
    named : name ≡ c.name
    host_only : c.is_host_only ≡ true
    domain : c.domain ≡ site.host
    path : c.path ≡ codes "/"
    cut_out : IsCutOutOf c

  here_same : (a b : KeptView) → IsHere a → IsHere b → is_same_cookie a b ≡ true
  here_same a b h k =
      same_settled a b (sym h.named ∙ k.named)
      (λ i. record {
        domain = (h.domain ∙ sym k.domain) i;
        is_host_only = (h.host_only ∙ sym k.host_only) i;
        path = (h.path ∙ sym k.path) i;
      })

  here_of : (read_so : Response → Type 0) (c : KeptView) → IsStoredSo read_so c → Here c ≡ true → IsHere c
  here_of read_so c so e =
      let one = and_parts (bytes_eq name c.name) (c.is_host_only && bytes_eq site.host c.domain) e in
      let two = and_parts c.is_host_only (bytes_eq site.host c.domain) one.1 in
      let named : name ≡ c.name = (bytes_eq-Decides name c.name).0 one.0 in
      record {
        named = named;
        host_only = two.0;
        domain = sym ((bytes_eq-Decides site.host c.domain).0 two.1);
        path = (so.set (ap has_host_prefix (sym named) ∙ prefixed)).path;
        cut_out = so.cut_out;
      }

  -- one of the site's own responses stores it there
  own_here : (r : Response) → is_own site r ≡ true → (x : KeptView) → verdict r.rules r.site r.now [] r.text ≡ Ok x → bytes_eq name x.name ≡ true → Here x ≡ true
  own_here r own x e named =
      let set = verdict_host_set r.rules r.site r.now [] r.text x e (ap has_host_prefix (sym ((bytes_eq-Decides name x.name).0 named)) ∙ prefixed) in
      ap (λ b. b && (x.is_host_only && bytes_eq site.host x.domain)) named
      ∙ ap (λ b. b && bytes_eq site.host x.domain) set.host_only
      ∙ ap (bytes_eq site.host) set.domain
      ∙ (and_parts r.site.is_secure (bytes_eq site.host r.site.host) own).1

  -- no other response does
  other_away : (r : Response) → is_own site r ≡ false → (store : CookieStore) (x : KeptView) → verdict r.rules r.site r.now store r.text ≡ Ok x → Here x ≡ false
  other_away r other store x e = by (Here x) refl
    where
      by : (b : Bool) → Here x ≡ b → b ≡ false
      by false f = refl
      by true f =
          let one = and_parts (bytes_eq name x.name) (x.is_host_only && bytes_eq site.host x.domain) f in
          let two = and_parts x.is_host_only (bytes_eq site.host x.domain) one.1 in
          let set = verdict_host_set r.rules r.site r.now store r.text x e (ap has_host_prefix (sym ((bytes_eq-Decides name x.name).0 one.0)) ∙ prefixed) in
          let host : bytes_eq site.host r.site.host ≡ true = ap (bytes_eq site.host) (sym set.domain) ∙ two.1 in
          absurd (false≢true (sym other ∙ (ap (λ b. b && bytes_eq site.host r.site.host) set.secure ∙ host)))

  -- ---- what is left is there

  abbrev AllHere : Option KeptView → Type 0
  AllHere None = Unit {0}
  AllHere (Some c) = IsHere c

  passing_here : (p : KeptView → Bool) (o : Option KeptView) → AllHere o → AllHere (if_passing p o)
  passing_here p None all = tt
  passing_here p (Some c) all = by (p c)
    where
      by : (b : Bool) → AllHere (cond b (Some c) None)
      by true = all
      by false = tt

  mapped_here : (f : KeptView → KeptView) → ((c : KeptView) → IsLike c (f c)) → (o : Option KeptView) → AllHere o → AllHere (option_map f o)
  mapped_here f like None all = tt
  mapped_here f like (Some c) all =
      let same = like c in
      record {
        named = all.named ∙ sym same.name;
        host_only = same.flag ∙ all.host_only;
        domain = same.domain ∙ all.domain;
        path = same.path ∙ all.path;
        cut_out = subst (λ n. IsCutOut n (f c).value) (sym same.name) (subst (IsCutOut c.name) (sym same.value) all.cut_out);
      }

  or_here : (first second : Option KeptView) → AllHere first → AllHere second → AllHere (option_or first second)
  or_here None second one two = two
  or_here (Some c) second one two = one

  named_here : (r : Response) → is_own site r ≡ true → AllHere (if_named name (verdict r.rules r.site r.now [] r.text))
  named_here r own = by (verdict r.rules r.site r.now [] r.text) refl
    where
      one : (x : KeptView) → verdict r.rules r.site r.now [] r.text ≡ Ok x → (b : Bool) → bytes_eq name x.name ≡ b → AllHere (cond b (Some x) None)
      one x e true f = here_of (λ _. Unit {0}) x (set_so r (λ _. Unit {0}) tt x e) (own_here r own x e f)
      one x e false f = tt

      by : (v : Result KeptView Refusal) → verdict r.rules r.site r.now [] r.text ≡ v → AllHere (if_named name v)
      by (Err f) e = tt
      by (Ok x) e = one x e (bytes_eq name x.name) refl

  loaded_here : (l : Loading) (o : Option KeptView) → AllHere o → AllHere (if_loaded l o)
  loaded_here l o all =
      let test : KeptView → Bool = λ c. is_persistent l.written c && carries l.form c in
      passing_here (λ c. lasts c.expiry l.now) (option_map (as_carried l.form l.now) (if_passing test o))
      (mapped_here (as_carried l.form l.now) (like_carried l.form l.now) (if_passing test o) (passing_here test o all))

  left_here : (history : History) → AllHere (own_left site name history)
  left_here Begins = tt
  left_here (Reads r before) = or_here (own_named site name r) (own_left site name before) (by (is_own site r) refl) (left_here before)
    where
      by : (b : Bool) → is_own site r ≡ b → AllHere (cond b (if_named name (verdict r.rules r.site r.now [] r.text)) None)
      by true own = named_here r own
      by false own = tt
  left_here (Requests other now before) = mapped_here (accessed other now) (like_accessed other now) (own_left site name before) (left_here before)
  left_here (Evicts now before) = left_here before
  left_here (Removes removed scope before) = passing_here (λ c. not (is_named_in removed scope c)) (own_left site name before) (left_here before)
  left_here (Clears domain before) = passing_here (λ c. not (is_of_domain domain c)) (own_left site name before) (left_here before)
  left_here (Trims rules limits now before) =
      passing_here (λ c. list_any (λ left. is_same_cookie left c) (trimmed rules limits now (kept_after before))) (own_left site name before) (left_here before)
  left_here (Loads l saved_in before) =
      or_here (if_loaded l (own_left site name saved_in)) (own_left site name before) (loaded_here l (own_left site name saved_in) (left_here saved_in)) (left_here before)

  -- ---- what is stored there is what is left

  -- the store has these there, but for what is expired
  abbrev Holds : DateTime → CookieStore → Option KeptView → Type 0
  Holds t store o = lasting t (filter Here store) ≡ lasting t (option_to_list o)

  later_holds : (t u : DateTime) → civil_nanos t ≤ℤ civil_nanos u → (store : CookieStore) (o : Option KeptView) → Holds t store o → Holds u store o
  later_holds t u order store o holds = sym (lasting-later t u order (filter Here store)) ∙ ap (lasting u) holds ∙ lasting-later t u order (option_to_list o)

  module _ (t : DateTime) where
    turned : (store : CookieStore) → filter Here (lasting t store) ≡ lasting t (filter Here store)
    turned store = filter-turned Here (λ c. lasts c.expiry t) store

    evicted_holds : (store : CookieStore) (o : Option KeptView) → Holds t store o → Holds t (lasting t store) o
    evicted_holds store o holds = ap (lasting t) (turned store) ∙ lasting-twice t (filter Here store) ∙ holds

    passing_holds : (p : KeptView → Bool) (store : CookieStore) (o : Option KeptView) → Holds t store o → Holds t (filter p store) (if_passing p o)
    passing_holds p store o holds =
        ap (lasting t) (filter-turned Here p store)
        ∙ filter-turned (λ c. lasts c.expiry t) p (filter Here store)
        ∙ ap (filter p) holds
        ∙ filter-turned p (λ c. lasts c.expiry t) (option_to_list o)
        ∙ ap (lasting t) (one_passing p o)

    accessed_holds : (other : RequestView) (store : CookieStore) (o : Option KeptView) → Holds t store o → Holds t (map (accessed other t) store) (option_map (accessed other t) o)
    accessed_holds other store o holds =
        ap (lasting t) (filter_mapped Here (accessed other t) (λ c. like_here c (accessed other t c) (like_accessed other t c)) store)
        ∙ filter_mapped (λ c. lasts c.expiry t) (accessed other t) (lasts_accessed other t t) (filter Here store)
        ∙ ap (map (accessed other t)) holds
        ∙ sym (filter_mapped (λ c. lasts c.expiry t) (accessed other t) (lasts_accessed other t t) (option_to_list o))
        ∙ ap (lasting t) (one_mapped (accessed other t) o)

    -- a new one takes the place of the old one
    replaced : (x : KeptView) → IsHere x → (o : Option KeptView) → AllHere o → lasting t (kept_with x (lasting t (option_to_list o))) ≡ lasting t (x ∷ [])
    replaced x here None all = refl
    replaced x here (Some y) all = by (lasts y.expiry t)
      where
        by : (b : Bool) → lasting t (kept_with x (cond b (y ∷ []) [])) ≡ lasting t (x ∷ [])
        by true = ap (λ b. lasting t (cond b (x ∷ []) (y ∷ x ∷ []))) (here_same y x all here)
        by false = refl

    -- what is put elsewhere leaves it
    away : (x : KeptView) → Here x ≡ false → (store : CookieStore) (o : Option KeptView) → Holds t store o → Holds t (lasting t (kept_with x (lasting t store))) o
    away x e store o holds =
        evicted_holds (kept_with x (lasting t store)) o
        (ap (lasting t) (put_out Here respects x e (lasting t store)) ∙ evicted_holds store o holds)

    other_holds : (v : Result KeptView Refusal) (store : CookieStore) (o : Option KeptView) → ((x : KeptView) → v ≡ Ok x → Here x ≡ false) → Holds t store o
        → Holds t (kept_after_verdict t v (lasting t store)) o
    other_holds (Err f) store o none holds = evicted_holds store o holds
    other_holds (Ok x) store o none holds = away x (none x refl) store o holds

    own_holds : (v : Result KeptView Refusal) (store : CookieStore) (o : Option KeptView) → ((x : KeptView) → v ≡ Ok x → bytes_eq name x.name ≡ true → Here x ≡ true)
        → AllHere (if_named name v) → AllHere o → Holds t store o → Holds t (kept_after_verdict t v (lasting t store)) (option_or (if_named name v) o)
    own_holds (Err f) store o each new all holds = evicted_holds store o holds
    own_holds (Ok x) store o each new all holds = by (bytes_eq name x.name) refl new
      where
        by : (b : Bool) → bytes_eq name x.name ≡ b → AllHere (cond b (Some x) None) → Holds t (lasting t (kept_with x (lasting t store))) (option_or (cond b (Some x) None) o)
        by true e here =
            evicted_holds (kept_with x (lasting t store)) (Some x)
            (ap (lasting t) (put_in Here respects x (each x refl e) (lasting t store) ∙ ap (kept_with x) (turned store ∙ holds)) ∙ replaced x here o all)
        by false e here = away x (ap (λ b. b && (x.is_host_only && bytes_eq site.host x.domain)) e) store o holds

  response_holds : (r : Response) (store : CookieStore) (o : Option KeptView) → AllHere o → Holds r.now store o
      → Holds r.now (kept_after_text r.rules r.site r.now r.text store) (option_or (own_named site name r) o)
  response_holds r store o all holds = by (is_own site r) refl
    where
      by : (b : Bool) → is_own site r ≡ b
          → Holds r.now (kept_after_text r.rules r.site r.now r.text store) (option_or (cond b (if_named name (verdict r.rules r.site r.now [] r.text)) None) o)
      by true own =
          let secure = (and_parts r.site.is_secure (bytes_eq site.host r.site.host) own).0 in
          ap (λ v. lasting r.now (filter Here (kept_after_verdict r.now v (lasting r.now store)))) (secure_verdict r.rules r.site r.now (lasting r.now store) r.text secure)
          ∙ own_holds r.now (verdict r.rules r.site r.now [] r.text) store o (own_here r own) (named_here r own) all holds
      by false other = other_holds r.now (verdict r.rules r.site r.now (lasting r.now store) r.text) store o (other_away r other (lasting r.now store)) holds

  -- ---- a load

  -- what is stored in turn, there
  each_in : (xs store : CookieStore) → filter Here (kept_with_each xs store) ≡ kept_with_each (filter Here xs) (filter Here store)
  each_in [] store = refl
  each_in (x ∷ xs) store = each_in xs (kept_with x store) ∙ by (Here x) refl
    where
      by : (b : Bool) → Here x ≡ b → kept_with_each (filter Here xs) (filter Here (kept_with x store)) ≡ kept_with_each (cond b (x ∷ filter Here xs) (filter Here xs)) (filter Here store)
      by true e = ap (kept_with_each (filter Here xs)) (put_in Here respects x e store)
      by false e = ap (kept_with_each (filter Here xs)) (put_out Here respects x e store)

  module _ (l : Loading) where
    abbrev pc : KeptView → Bool
    pc c = is_persistent l.written c && carries l.form c

    abbrev fit : KeptView → Bool
    fit c = not (is_for_suffix l.rules c)

    abbrev carried : KeptView → KeptView
    carried = as_carried l.form l.now

    all_fit : (o : Option KeptView) → AllHere o → filter fit (option_to_list o) ≡ option_to_list o
    all_fit None all = refl
    all_fit (Some c) all = ap (λ b. cond (not (not b && (is_name c.domain && is_public_suffix l.rules c.domain))) (c ∷ []) []) all.host_only

    wider : (c : KeptView) → pc c ≡ true → lasts c.expiry l.written ≡ true
    wider c e = (and_parts _ (lasts c.expiry l.written) (and_parts (is_persistent l.written c) (carries l.form c) e).0).1

    loaded_there : (saved_store : CookieStore) (o : Option KeptView) → AllHere o → Holds l.written saved_store o
        → filter Here (lasting l.now (read_again l.form l.rules l.written l.now saved_store)) ≡ option_to_list (if_loaded l o)
    loaded_there store o all holds =
        turned l.now (map carried (filter fit (filter pc store)))
        ∙ ap (lasting l.now) (filter_mapped Here carried (λ c. like_here c (carried c) (like_carried l.form l.now c)) (filter fit (filter pc store))
        ∙ ap (map carried) (filter-turned Here fit (filter pc store)
        ∙ ap (filter fit) (filter-turned Here pc store
        ∙ sym (narrowed pc (λ c. lasts c.expiry l.written) wider (filter Here store))
        ∙ ap (filter pc) holds
        ∙ narrowed pc (λ c. lasts c.expiry l.written) wider (option_to_list o)
        ∙ one_passing pc o)
        ∙ all_fit (if_passing pc o) (passing_here pc o all))
        ∙ one_mapped carried (if_passing pc o))
        ∙ one_passing (λ c. lasts c.expiry l.now) (option_map carried (if_passing pc o))

  -- one that is loaded takes the place of what is there
  loaded_holds : (t : DateTime) (loaded there : Option KeptView) (xs store : CookieStore) → filter Here xs ≡ option_to_list loaded → AllHere loaded → All IsHere (filter Here store)
      → Holds t store there → Holds t (kept_with_each xs store) (option_or loaded there)
  loaded_holds t None there xs store e all here holds = ap (lasting t) (each_in xs store ∙ ap (λ l. kept_with_each l (filter Here store)) e) ∙ holds
  loaded_holds t (Some x) there xs store e all here holds =
      ap (lasting t) (each_in xs store ∙ ap (λ l. kept_with_each l (filter Here store)) e ∙ put_over x (filter Here store) (All-weaker IsHere (λ c. is_same_cookie c x ≡ true) (λ c h. here_same c x h all) (filter Here store) here))

  all_there : (history : History) → All IsHere (filter Here (kept_after history))
  all_there history =
      passing Here IsHere (kept_after history) (All-weaker (IsStoredSo (read_in history)) (λ c. Here c ≡ true → IsHere c) (here_of (read_in history)) (kept_after history) (all_stored history))

  holds_after : (history : History) (t : DateTime) → IsInOrder history t → Holds t (kept_after history) (own_left site name history)
  holds_after Begins t order = refl
  holds_after (Reads r before) t order =
      later_holds r.now t order.0 (kept_after (Reads r before)) (own_left site name (Reads r before))
      (response_holds r (kept_after before) (own_left site name before) (left_here before) (holds_after before r.now order.1))
  holds_after (Requests other now before) t order =
      later_holds now t order.0 (map (accessed other now) (kept_after before)) (option_map (accessed other now) (own_left site name before))
      (accessed_holds now other (kept_after before) (own_left site name before) (holds_after before now order.1))
  holds_after (Evicts now before) t order =
      later_holds now t order.0 (lasting now (kept_after before)) (own_left site name before)
      (evicted_holds now (kept_after before) (own_left site name before) (holds_after before now order.1))
  holds_after (Removes removed scope before) t order =
      passing_holds t (λ c. not (is_named_in removed scope c)) (kept_after before) (own_left site name before) (holds_after before t order)
  holds_after (Clears domain before) t order = passing_holds t (λ c. not (is_of_domain domain c)) (kept_after before) (own_left site name before) (holds_after before t order)
  holds_after (Trims rules limits now before) t order =
      let stays : KeptView → Bool = λ c. list_any (λ left. is_same_cookie left c) (trimmed rules limits now (kept_after before)) in
      let o = own_left site name before in
      later_holds now t order.0 (trimmed rules limits now (kept_after before)) (if_passing stays o)
      (subst (λ xs. Holds now xs (if_passing stays o)) (trimmed_as rules limits now (kept_after before) (apart_stored before))
      (passing_holds now stays (lasting now (kept_after before)) o (evicted_holds now (kept_after before) o (holds_after before now order.1))))
  holds_after (Loads l saved_in before) t order =
      let o = own_left site name saved_in in
      later_holds l.now t order.0 (kept_after (Loads l saved_in before)) (own_left site name (Loads l saved_in before))
      (loaded_holds l.now (if_loaded l o) (own_left site name before) (lasting l.now (read_again l.form l.rules l.written l.now (kept_after saved_in))) (kept_after before)
      (loaded_there l (kept_after saved_in) o (left_here saved_in) (holds_after saved_in l.written order.2))
      (loaded_here l o (left_here saved_in)) (all_there before) (holds_after before l.now order.3))

-- ---- the last law

-- one at most has the name, so the order doesn't matter
one_named : (p : KeptView → Bool) (xs ys : CookieStore) → IsPermutation xs ys → (o : Option KeptView) → filter p xs ≡ option_to_list o → filter p ys ≡ option_to_list o
one_named p xs ys moved None e = none (filter p ys) (same_length p xs ys moved ∙ ap length e)
  where
    none : (zs : CookieStore) → length zs ≡ 0 → zs ≡ []
    none [] e = refl
    none (z ∷ zs) e = absurd (omega arith)
one_named p xs ys moved (Some x) e =
    one (filter p ys) (same_length p xs ys moved ∙ ap length e)
    (passing p (λ c. c ≡ x) ys (All-permutation (λ c. p c ≡ true → c ≡ x) xs ys moved (passed p (λ c. c ≡ x) xs (subst (All (λ c. c ≡ x)) (sym e) (All-cons (λ c. c ≡ x) x [] refl (All-nil (λ c. c ≡ x)))))))
  where
    one : (zs : CookieStore) → length zs ≡ 1 → All (λ c. c ≡ x) zs → zs ≡ x ∷ []
    one [] e all = absurd (omega arith)
    one (z ∷ []) e all = ap (λ c. c ∷ []) (All-head (λ c. c ≡ x) z [] all)
    one (y ∷ z ∷ zs) e all = absurd (omega arith)

module _ (site : RequestView) (now : DateTime) (name : Name) (prefixed : has_host_prefix name ≡ true) where
  -- the cookie, if it is sent
  abbrev sent_of : Option KeptView → Option KeptView
  sent_of o = if_passing (is_sent site now) o

  lives : (c : KeptView) → is_sent site now c ≡ true → lasts c.expiry now ≡ true
  lives c e = (and_parts (lasts c.expiry now) (suits site c) e).0

  one_seen : (read_so : Response → Type 0) (c : KeptView) → IsStoredSo read_so c → is_sent site now c && bytes_eq name c.name ≡ Here site name prefixed c && is_sent site now c
  one_seen read_so c so = by (is_sent site now c) (bytes_eq name c.name) refl refl
    where
      by : (s p : Bool) → is_sent site now c ≡ s → bytes_eq name c.name ≡ p → s && p ≡ (p && (c.is_host_only && bytes_eq site.host c.domain)) && s
      by false p e f = and_turned false (p && (c.is_host_only && bytes_eq site.host c.domain))
      by true false e f = refl
      by true true e f =
          let host_only = (so.set (ap has_host_prefix (sym ((bytes_eq-Decides name c.name).0 f)) ∙ prefixed)).host_only in
          sym (ap (λ b. (b && bytes_eq site.host c.domain) && true) host_only ∙ ap (λ b. b && true) (sent_host Begins site now c e host_only))

  -- of all that is sent, only the one that the site's own responses left has the name
  seen : (history : History) → IsInOrder history now
      → filter (λ c. bytes_eq name c.name) (visible site now (kept_after history)) ≡ option_to_list (sent_of (own_left site name history))
  seen history order =
      let store = kept_after history in
      let left = own_left site name history in
      filter-both (λ c. bytes_eq name c.name) (is_sent site now) store
      ∙ agree_all (λ c. is_sent site now c && bytes_eq name c.name) (λ c. Here site name prefixed c && is_sent site now c) store
      (All-weaker (IsStoredSo (read_in history)) (λ c. is_sent site now c && bytes_eq name c.name ≡ Here site name prefixed c && is_sent site now c) (one_seen (read_in history)) store (all_stored history))
      ∙ sym (filter-both (is_sent site now) (Here site name prefixed) store)
      ∙ sym (narrowed (is_sent site now) (λ c. lasts c.expiry now) lives (filter (Here site name prefixed) store))
      ∙ ap (filter (is_sent site now)) (holds_after site name prefixed history now order)
      ∙ narrowed (is_sent site now) (λ c. lasts c.expiry now) lives (option_to_list left)
      ∙ one_passing (is_sent site now) left

  module _ (plain : list_all (λ byte. not (is_escaped byte)) name ≡ true) where
    named_alike : (c : KeptView) → IsCutOutOf c → filter (λ r. bytes_eq name r.name) (read c) ≡ cond (bytes_eq name c.name) (read c) []
    named_alike c so = read_one (bytes_eq name) c.name c.value so (plain_named name prefixed plain c.name c.value so)

    shown : (o : Option KeptView) → AllHere site name prefixed o → flat_map read (option_to_list (sent_of o)) ≡ option_to_list (original_of site now o)
    shown None is = refl
    shown (Some c) is = by (is_sent site now c)
      where
        text : field_cookies (sent_pair c) ≡ read c
        text = field_cookies-text (sent_pair c) (pair_apart c.name c.value is.cut_out.name_apart is.cut_out.value_apart)

        named : bytes_eq name c.name ≡ true
        named = (bytes_eq-Decides name c.name).1 is.named

        by : (b : Bool) → flat_map read (option_to_list (cond b (Some c) None)) ≡ option_to_list (cond b (first_of_name c.name (field_cookies (sent_pair c))) None)
        by true =
            append-nil (read c)
            ∙ sym (named_alike c is.cut_out ∙ ap (λ b. cond b (read c) []) named)
            ∙ sym (one_found (λ r. bytes_eq name r.name) (is_readable (sent_pair c)) (cookie_of true (trim (sent_pair c))))
            ∙ ap (λ n. option_to_list (first_of_name n (read c))) is.named
            ∙ ap (λ cs. option_to_list (first_of_name c.name cs)) (sym text)
        by false = refl

pub last_own : IsLastOwn
last_own history site now order header h name is =
    record { cookies = cookies; original = original header name ∙ found (λ r. bytes_eq name r.name) (field_cookies header) (original_of site now last) cookies }
  where
    store : CookieStore
    store = kept_after history

    last : Option KeptView
    last = own_left site name history

    sent : All IsCutOutOf h.cookies
    sent =
        all_cut_out (read_in history) h.cookies
        (All-permutation (IsStoredSo (read_in history)) (visible site now store) h.cookies h.sent (All-filter (is_sent site now) (IsStoredSo (read_in history)) store (all_stored history)))

    cookies : filter (λ r. bytes_eq name r.name) (field_cookies header) ≡ option_to_list (original_of site now last)
    cookies =
        ap (filter (λ r. bytes_eq name r.name)) (read_all header h.cookies sent h.text)
        ∙ read_passing (bytes_eq name) (named_alike site now name is.prefixed is.plain) h.cookies sent
        ∙ ap (flat_map read) (one_named (λ c. bytes_eq name c.name) (visible site now store) h.cookies h.sent (sent_of site now name is.prefixed last) (seen site now name is.prefixed history order))
        ∙ shown site now name is.prefixed is.plain last (left_here site name is.prefixed history)
