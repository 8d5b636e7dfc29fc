-- Nobody but a site over a secure connection sets what it has under names with the prefix `__Host-`.
use Rattle.std.proofs.Common.{◌≡◌, ◌≤ℤ◌, ◌&&◌, not, Bool, true, false, cond, map, Ok, Err, refl, sym, ap, ◌∙◌, All}
use Rattle.std.proofs.lemmas.Bool.{and_parts, false≢true}
use Rattle.std.proofs.lemmas.List.Elements.{All-weaker}
use Rattle.std.specs.List.{filter}
use Rattle.std.specs.Prelude.{Result}
use Rattle.std.specs.Str.{bytes_eq}
use Rattle.jiff.specs.Types.{DateTime}
use Rattle.jiff.specs.Words.{civil_nanos}
use Rattle.cookie_browser.specs.Request.{RequestView, is_in_domain, is_under_path}
use Rattle.cookie_browser.specs.Storage.{CookieStore, KeptView, has_host_prefix, is_meant_for, is_same_cookie, is_sent, kept_after_text, kept_after_verdict, kept_with, lasting, lasts, suits, verdict}
use Rattle.cookie_browser.specs.declared.refusal.Refusal.{Refusal}
use Rattle.cookie_agent.specs.Histories.{Begins, Clears, Evicts, History, IsInOrder, Loads, Reads, Removes, Requests, Response, Trims, kept_after}
use Rattle.cookie_agent.specs.Hosts.{AreOnlyOwn, IsUncut, host_cookies, is_own, own_events}
use Rattle.cookie_agent.specs.Sent.{accessed}
use Rattle.cookie_agent.specs.Stored.{is_named_in, is_of_domain}
use Rattle.cookie_agent.proofs.HistoryLemmas.{IsStoredSo, all_stored, like_accessed, read_in}
use Rattle.cookie_agent.proofs.HostSetLemmas.{agree_all, and_turned, filter-both, filter-turned, filter_mapped, lasting-later, lasts_accessed, put_in, put_out, secure_verdict, verdict_host_set}
use Rattle.cookie_agent.proofs.KeyLemmas.{alike}
use Rattle.cookie_agent.proofs.PutLemmas.{lasting-twice}

module _ (site : RequestView) where
  -- a cookie of the host's own, under such a name
  abbrev IsOwn : KeptView → Bool
  IsOwn c = has_host_prefix c.name && (c.is_host_only && bytes_eq site.host c.domain)

  respects : (a b : KeptView) → is_same_cookie a b ≡ true → IsOwn a ≡ IsOwn b
  respects a b e =
      let h = alike a b e in
      ap (λ n. has_host_prefix n && (a.is_host_only && bytes_eq site.host a.domain)) h.name
      ∙ ap (λ f. has_host_prefix b.name && (f && bytes_eq site.host a.domain)) h.flag
      ∙ ap (λ d. has_host_prefix b.name && (b.is_host_only && bytes_eq site.host d)) h.domain

  -- each stored cookie of such a name is for one host only
  abbrev IsBound : KeptView → Type 0
  IsBound c = has_host_prefix c.name ≡ true → c.is_host_only ≡ true

  -- of both stores the same of the host's own last
  abbrev AreLike : DateTime → CookieStore → CookieStore → Type 0
  AreLike t a b = lasting t (filter IsOwn a) ≡ lasting t (filter IsOwn b)

  module _ (t : DateTime) where
    turned_lasting : (a : CookieStore) → filter IsOwn (lasting t a) ≡ lasting t (filter IsOwn a)
    turned_lasting a = filter-turned IsOwn (λ c. lasts c.expiry t) a

    own_kept : (x : KeptView) → IsOwn x ≡ true → (a : CookieStore) → filter IsOwn (lasting t (kept_with x (lasting t a))) ≡ lasting t (kept_with x (lasting t (filter IsOwn a)))
    own_kept x e a =
        turned_lasting (kept_with x (lasting t a))
        ∙ ap (lasting t) (put_in IsOwn respects x e (lasting t a) ∙ ap (kept_with x) (turned_lasting a))

    other_kept : (x : KeptView) → IsOwn x ≡ false → (a : CookieStore) → filter IsOwn (lasting t (kept_with x (lasting t a))) ≡ lasting t (filter IsOwn a)
    other_kept x e a =
        turned_lasting (kept_with x (lasting t a))
        ∙ ap (lasting t) (put_out IsOwn respects x e (lasting t a) ∙ turned_lasting a)
        ∙ lasting-twice t (filter IsOwn a)

    own_step : (r : Result KeptView Refusal) (a b : CookieStore) → AreLike t a b → AreLike t (kept_after_verdict t r (lasting t a)) (kept_after_verdict t r (lasting t b))
    own_step (Err f) a b like = ap (lasting t) (turned_lasting a) ∙ ap (lasting t) like ∙ sym (ap (lasting t) (turned_lasting b))
    own_step (Ok x) a b like = by (IsOwn x) refl
      where
        by : (o : Bool) → IsOwn x ≡ o → AreLike t (lasting t (kept_with x (lasting t a))) (lasting t (kept_with x (lasting t b)))
        by true e = ap (lasting t) (own_kept x e a ∙ ap (λ l. lasting t (kept_with x l)) like ∙ sym (own_kept x e b))
        by false e = ap (lasting t) (other_kept x e a ∙ like ∙ sym (other_kept x e b))

    other_step : (r : Result KeptView Refusal) (a b : CookieStore) → ((x : KeptView) → r ≡ Ok x → IsOwn x ≡ false) → AreLike t a b → AreLike t (kept_after_verdict t r (lasting t a)) b
    other_step (Err f) a b none like = ap (lasting t) (turned_lasting a) ∙ lasting-twice t (filter IsOwn a) ∙ like
    other_step (Ok x) a b none like = ap (lasting t) (other_kept x (none x refl) a) ∙ lasting-twice t (filter IsOwn a) ∙ like

  -- what a response of another site stores isn't the host's own
  not_own : (r : Response) → is_own site r ≡ false → (store : CookieStore) (x : KeptView) → verdict r.rules r.site r.now store r.text ≡ Ok x → IsOwn x ≡ false
  not_own r other store x e = by (IsOwn x) refl
    where
      by : (b : Bool) → IsOwn x ≡ b → b ≡ false
      by false f = refl
      by true f =
          let one = and_parts (has_host_prefix x.name) (x.is_host_only && bytes_eq site.host x.domain) f in
          let two = and_parts x.is_host_only (bytes_eq site.host x.domain) one.1 in
          let set = verdict_host_set r.rules r.site r.now store r.text x e one.0 in
          let host : bytes_eq site.host r.site.host ≡ true = ap (bytes_eq site.host) (sym set.domain) ∙ two.1 in
          absurd (false≢true (sym other ∙ (ap (λ b. b && bytes_eq site.host r.site.host) set.secure ∙ host)))

  own_after : (r : Response) → is_own site r ≡ true → (a b : CookieStore) → AreLike r.now a b
      → AreLike r.now (kept_after_text r.rules r.site r.now r.text a) (kept_after_text r.rules r.site r.now r.text b)
  own_after r own a b like =
      let secure = (and_parts r.site.is_secure (bytes_eq site.host r.site.host) own).0 in
      let level : verdict r.rules r.site r.now (lasting r.now b) r.text ≡ verdict r.rules r.site r.now (lasting r.now a) r.text
      = secure_verdict r.rules r.site r.now (lasting r.now b) r.text secure ∙ sym (secure_verdict r.rules r.site r.now (lasting r.now a) r.text secure) in
      own_step r.now (verdict r.rules r.site r.now (lasting r.now a) r.text) a b like
      ∙ sym (ap (λ v. lasting r.now (filter IsOwn (kept_after_verdict r.now v (lasting r.now b)))) level)

  -- ---- the look

  one_shown : (now : DateTime) (c : KeptView) → IsBound c → is_sent site now c && has_host_prefix c.name ≡ (IsOwn c && lasts c.expiry now) && is_sent site now c
  one_shown now c bound = by (is_sent site now c) (has_host_prefix c.name) refl refl
    where
      by : (s p : Bool) → is_sent site now c ≡ s → has_host_prefix c.name ≡ p → s && p ≡ ((p && (c.is_host_only && bytes_eq site.host c.domain)) && lasts c.expiry now) && s
      by false p e f = and_turned false ((p && (c.is_host_only && bytes_eq site.host c.domain)) && lasts c.expiry now)
      by true false e f = refl
      by true true e f =
          let lives = and_parts (lasts c.expiry now) (suits site c) e in
          let meant = and_parts (is_meant_for site c) _ lives.1 in
          let host_only = bound f in
          let host : bytes_eq site.host c.domain ≡ true
          = (and_parts (bytes_eq site.host c.domain) (is_under_path site.path c.path)
          (ap (λ b. cond b (bytes_eq site.host c.domain) (is_in_domain site.host site.is_address c.domain) && is_under_path site.path c.path) (sym host_only) ∙ meant.0)).0 in
          sym (ap (λ b. ((b && bytes_eq site.host c.domain) && lasts c.expiry now) && true) host_only
          ∙ ap (λ b. (b && lasts c.expiry now) && true) host
          ∙ ap (λ b. b && true) lives.0)

  shown : (now : DateTime) (a : CookieStore) → All IsBound a → host_cookies site now a ≡ filter (is_sent site now) (lasting now (filter IsOwn a))
  shown now a all =
      filter-both (λ c. has_host_prefix c.name) (is_sent site now) a
      ∙ agree_all (λ c. is_sent site now c && has_host_prefix c.name) (λ c. (IsOwn c && lasts c.expiry now) && is_sent site now c) a
      (All-weaker IsBound (λ c. is_sent site now c && has_host_prefix c.name ≡ (IsOwn c && lasts c.expiry now) && is_sent site now c) (one_shown now) a all)
      ∙ sym (ap (filter (is_sent site now)) (filter-both (λ c. lasts c.expiry now) IsOwn a)
      ∙ filter-both (is_sent site now) (λ c. IsOwn c && lasts c.expiry now) a)

  -- ---- events

  later_like : (t u : DateTime) → civil_nanos t ≤ℤ civil_nanos u → (a b : CookieStore) → AreLike t a b → AreLike u a b
  later_like t u order a b like = sym (lasting-later t u order (filter IsOwn a)) ∙ ap (lasting u) like ∙ lasting-later t u order (filter IsOwn b)

  own_accessed : (other : RequestView) (now : DateTime) (c : KeptView) → IsOwn (accessed other now c) ≡ IsOwn c
  own_accessed other now c =
      let like = like_accessed other now c in
      ap (λ n. has_host_prefix n && ((accessed other now c).is_host_only && bytes_eq site.host (accessed other now c).domain)) like.name
      ∙ ap (λ f. has_host_prefix c.name && (f && bytes_eq site.host (accessed other now c).domain)) like.flag
      ∙ ap (λ d. has_host_prefix c.name && (c.is_host_only && bytes_eq site.host d)) like.domain

  accessed_like : (other : RequestView) (t : DateTime) (a b : CookieStore) → AreLike t a b → AreLike t (map (accessed other t) a) (map (accessed other t) b)
  accessed_like other t a b like = side a ∙ ap (map (accessed other t)) like ∙ sym (side b)
    where
      side : (xs : CookieStore) → lasting t (filter IsOwn (map (accessed other t) xs)) ≡ map (accessed other t) (lasting t (filter IsOwn xs))
      side xs =
          ap (lasting t) (filter_mapped IsOwn (accessed other t) (own_accessed other t) xs)
          ∙ filter_mapped (λ c. lasts c.expiry t) (accessed other t) (lasts_accessed other t t) (filter IsOwn xs)

  evicted_like : (t : DateTime) (a b : CookieStore) → AreLike t a b → AreLike t (lasting t a) (lasting t b)
  evicted_like t a b like = side a ∙ like ∙ sym (side b)
    where
      side : (xs : CookieStore) → lasting t (filter IsOwn (lasting t xs)) ≡ lasting t (filter IsOwn xs)
      side xs = ap (lasting t) (turned_lasting t xs) ∙ lasting-twice t (filter IsOwn xs)

  filtered_like : (p : KeptView → Bool) (t : DateTime) (a b : CookieStore) → AreLike t a b → AreLike t (filter p a) (filter p b)
  filtered_like p t a b like = side a ∙ ap (filter p) like ∙ sym (side b)
    where
      side : (xs : CookieStore) → lasting t (filter IsOwn (filter p xs)) ≡ filter p (lasting t (filter IsOwn xs))
      side xs = ap (lasting t) (filter-turned IsOwn p xs) ∙ filter-turned (λ c. lasts c.expiry t) p (filter IsOwn xs)

  response_like : (r : Response) (before : History) → AreLike r.now (kept_after before) (kept_after (own_events site before))
      → AreLike r.now (kept_after (Reads r before)) (kept_after (own_events site (Reads r before)))
  response_like r before like = by (is_own site r) refl
    where
      by : (o : Bool) → is_own site r ≡ o
          → AreLike r.now (kept_after (Reads r before)) (kept_after (cond o (Reads r (own_events site before)) (own_events site before)))
      by true own = own_after r own (kept_after before) (kept_after (own_events site before)) like
      by false other =
          other_step r.now (verdict r.rules r.site r.now (lasting r.now (kept_after before)) r.text) (kept_after before) (kept_after (own_events site before))
          (not_own r other (lasting r.now (kept_after before))) like

  like_after : (history : History) → IsUncut history → (t : DateTime) → IsInOrder history t → AreLike t (kept_after history) (kept_after (own_events site history))
  like_after Begins uncut t order = refl
  like_after (Reads r before) uncut t order =
      later_like r.now t order.0 (kept_after (Reads r before)) (kept_after (own_events site (Reads r before))) (response_like r before (like_after before uncut r.now order.1))
  like_after (Requests other now before) uncut t order =
      later_like now t order.0 (map (accessed other now) (kept_after before)) (map (accessed other now) (kept_after (own_events site before)))
      (accessed_like other now (kept_after before) (kept_after (own_events site before)) (like_after before uncut now order.1))
  like_after (Evicts now before) uncut t order =
      later_like now t order.0 (lasting now (kept_after before)) (lasting now (kept_after (own_events site before)))
      (evicted_like now (kept_after before) (kept_after (own_events site before)) (like_after before uncut now order.1))
  like_after (Removes name scope before) uncut t order =
      filtered_like (λ c. not (is_named_in name scope c)) t (kept_after before) (kept_after (own_events site before)) (like_after before uncut t order)
  like_after (Clears domain before) uncut t order =
      filtered_like (λ c. not (is_of_domain domain c)) t (kept_after before) (kept_after (own_events site before)) (like_after before uncut t order)
  like_after (Trims rules limits now before) uncut t order = absurd uncut
  like_after (Loads loading saved before) uncut t order = absurd uncut

  all_bound : (history : History) → All IsBound (kept_after history)
  all_bound history = All-weaker (IsStoredSo (read_in history)) IsBound (λ c so prefixed. (so.set prefixed).host_only) (kept_after history) (all_stored history)

pub only_own : AreOnlyOwn
only_own history uncut site now order =
    shown site now (kept_after history) (all_bound site history)
    ∙ ap (filter (is_sent site now)) (like_after site history uncut now order)
    ∙ sym (shown site now (kept_after (own_events site history)) (all_bound site (own_events site history)))
