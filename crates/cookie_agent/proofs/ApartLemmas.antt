-- What is trimmed, and that of each site what is left doesn't depend on other sites.
use Rattle.std.proofs.Common.{◌≡◌, ℕ, ◌+◌, ◌≤◌, ◌&&◌, ◌||◌, not, Bool, true, false, cond, List, [], ◌∷◌, ◌++◌, length, Option, Some, None, Result, Ok, Err, refl, sym, ap, subst, ◌∙◌, arith, append-nil}
use Rattle.std.proofs.lemmas.Bool.{and_parts, false≢true, not-false}
use Rattle.std.proofs.lemmas.Slice.Eq.{bytes_eq-Decides}
use Rattle.std.specs.List.{count_by, filter}
use Rattle.std.specs.Prelude.{nat_lt}
use Rattle.std.specs.Str.{bytes_eq}
use Rattle.jiff.specs.Types.{DateTime}
use Rattle.jiff.proofs.SpanFacts.{signed_arith}
use Rattle.cookie_browser.specs.Received.{ReceivedView, received}
use Rattle.cookie_browser.specs.Request.{RequestView, is_in_domain}
use Rattle.cookie_browser.specs.Storage.{CookieStore, KeptView, asked_domain, is_ascii, is_empty_pair, is_foreign, is_host_only, is_same_cookie, is_suffix_at, is_suffix_of_others, kept_after_text, kept_after_verdict, kept_as, kept_with, lasting, lasts, or_next_refusal, refusal_by_connection, refusal_by_domain, refusal_by_prefix, verdict, verdict_on}
use Rattle.cookie_browser.specs.Suffixes.{Rule, site_domain}
use Rattle.cookie_browser.specs.declared.refusal.Refusal.{Refusal}
use Rattle.cookie_browser.proofs.DomainLemmas.{follows_dot, in_domain-follows}
use Rattle.cookie_browser.proofs.EndingLemmas.{in_domain-on, in_itself, in_site}
use Rattle.cookie_agent.specs.Limits.{IsWithin, counts, goes_first, is_of_site, outlasting, staying, trimmed, trimmed_sites, within_domains, within_sites, within_total}
use Rattle.cookie_agent.specs.Sites.{LeavesRoom}
use Rattle.cookie_agent.specs.Stored.{IsApart}
use Rattle.cookie_agent.specs.declared.limits.Limits.{Limits}
use Rattle.cookie_agent.proofs.HostSetLemmas.{both_none, filter-turned, lasting-later, not_refused, put_out}
use Rattle.cookie_agent.proofs.LimitLemmas.{apart-staying, few_in_all, few_of_each, of_all, of_text, staying-all}
use Rattle.cookie_agent.proofs.PutLemmas.{apart-filter}
use Rattle.cookie_agent.proofs.RankLemmas.{counted-cons}
use Rattle.cookie_agent.proofs.VerdictLemmas.{stored_by}

-- ---- what is trimmed

pub apart-trimmed : (rules : List Rule) (limits : Limits) (now : DateTime) (store : CookieStore) → IsApart store → IsApart (trimmed rules limits now store)
apart-trimmed rules limits now store apart =
    apart-staying None limits.total [] (trimmed_sites rules limits now store)
    (apart-staying (Some (λ cookie. site_domain rules cookie.domain)) limits.per_site [] (within_domains limits.per_domain (lasting now store))
    (apart-staying (Some (λ cookie. cookie.domain)) limits.per_domain [] (lasting now store) (apart-filter (λ c. lasts c.expiry now) store apart)))

total-all : (limit : ℕ) (xs : CookieStore) → length xs ≤ limit → within_total limit xs ≡ xs
total-all limit xs fits = staying-all None of_all limit xs (few_of_each None limit xs (few_in_all limit xs fits))

-- if no limit is exceeded, all that lasts stays
pub trimmed-all : (rules : List Rule) (limits : Limits) (now : DateTime) (store : CookieStore) → IsWithin rules limits (lasting now store)
    → trimmed rules limits now store ≡ lasting now store
trimmed-all rules limits now store within =
    let fresh = lasting now store in
    let site : KeptView → List ℕ = λ cookie. site_domain rules cookie.domain in
    let domains : within_domains limits.per_domain fresh ≡ fresh
    = staying-all (Some (λ c. c.domain)) (of_text (λ c. c.domain)) limits.per_domain fresh (few_of_each (Some (λ c. c.domain)) limits.per_domain fresh (λ c. within.domains c.domain)) in
    let sites : within_sites rules limits.per_site fresh ≡ fresh
    = staying-all (Some site) (of_text site) limits.per_site fresh (few_of_each (Some site) limits.per_site fresh (λ c. within.sites c.domain)) in
    ap (λ l. within_total limits.total (within_sites rules limits.per_site l)) domains
    ∙ ap (within_total limits.total) sites
    ∙ total-all limits.total fresh within.total

-- ---- lists

counted-filtered : (p q : KeptView → Bool) → ((c : KeptView) → q c ≡ true → p c ≡ true) → (xs : CookieStore) → count_by q (filter p xs) ≡ count_by q xs
counted-filtered p q within [] = refl
counted-filtered p q within (c ∷ xs) = by (p c) refl (q c) refl (counted-filtered p q within xs)
  where
    by : (a : Bool) → p c ≡ a → (b : Bool) → q c ≡ b → count_by q (filter p xs) ≡ count_by q xs → count_by q (cond a (c ∷ filter p xs) (filter p xs)) ≡ count_by q (c ∷ xs)
    by true e b f rest = counted-cons q c (filter p xs) ∙ ap (λ n. cond (q c) 1 0 + n) rest ∙ sym (counted-cons q c xs)
    by false e true f rest = absurd (false≢true (sym e ∙ within c f))
    by false e false f rest =
        let none : 0 + count_by q xs ≡ count_by q xs = omega arith in
        rest ∙ sym (counted-cons q c xs ∙ ap (λ b. cond b 1 0 + count_by q xs) f ∙ none)

filter-append : (p : KeptView → Bool) (xs : CookieStore) (c : KeptView) → filter p (xs ++ c ∷ []) ≡ filter p xs ++ cond (p c) (c ∷ []) []
filter-append p [] c = refl
filter-append p (x ∷ xs) c = by (p x) (filter-append p xs c)
  where
    by : (b : Bool) → filter p (xs ++ c ∷ []) ≡ filter p xs ++ cond (p c) (c ∷ []) []
        → cond b (x ∷ filter p (xs ++ c ∷ [])) (filter p (xs ++ c ∷ [])) ≡ cond b (x ∷ filter p xs) (filter p xs) ++ cond (p c) (c ∷ []) []
    by true e = ap (λ l. x ∷ l) e
    by false e = e

shorter : (p : KeptView → Bool) (xs : CookieStore) → length (filter p xs) ≤ length xs
shorter p [] = omega arith
shorter p (x ∷ xs) = by (p x) (shorter p xs)
  where
    by : (b : Bool) → length (filter p xs) ≤ length xs → length (cond b (x ∷ filter p xs) (filter p xs)) ≤ length (x ∷ xs)
    by true rest = omega (arith, rest)
    by false rest = omega (arith, rest)

-- ---- a part of the cookies whose texts are its own

module _ (text : Option (KeptView → List ℕ)) (limit : ℕ) (p : KeptView → Bool) (steady : (c o : KeptView) → counts text c o ≡ true → p o ≡ p c) where
  outlasting-part : (before : CookieStore) (c : KeptView) (xs : CookieStore) → p c ≡ true → outlasting text (filter p before) c (filter p xs) ≡ outlasting text before c xs
  outlasting-part before c xs here =
      let earlier : KeptView → Bool = λ o. counts text c o && goes_first text c o in
      let later : KeptView → Bool = λ o. counts text c o && not (goes_first text o c) in
      let one = counted-filtered p earlier (λ o e. steady c o ((and_parts (counts text c o) (goes_first text c o) e).0) ∙ here) before in
      let two = counted-filtered p later (λ o e. steady c o ((and_parts (counts text c o) (not (goes_first text o c)) e).0) ∙ here) xs in
      (λ i. one i + two i)

  part-staying : (before xs : CookieStore) → filter p (staying text limit before xs) ≡ staying text limit (filter p before) (filter p xs)
  part-staying before [] = refl
  part-staying before (c ∷ xs) = by (p c) refl (part-staying (before ++ c ∷ []) xs)
    where
      rest : CookieStore
      rest = staying text limit (before ++ c ∷ []) xs

      dropped : p c ≡ false → (b : Bool) → filter p (cond b (c ∷ rest) rest) ≡ filter p rest
      dropped e true = ap (λ b. cond b (c ∷ filter p rest) (filter p rest)) e
      dropped e false = refl

      kept : (tail : CookieStore) → p c ≡ true → filter p rest ≡ tail → (b : Bool) → filter p (cond b (c ∷ rest) rest) ≡ cond b (c ∷ tail) tail
      kept tail e same true = ap (λ b. cond b (c ∷ filter p rest) (filter p rest)) e ∙ ap (λ l. c ∷ l) same
      kept tail e same false = same

      by : (b : Bool) → p c ≡ b → filter p rest ≡ staying text limit (filter p (before ++ c ∷ [])) (filter p xs)
          → filter p (staying text limit before (c ∷ xs)) ≡ staying text limit (filter p before) (cond b (c ∷ filter p xs) (filter p xs))
      by true e same =
          let grown : filter p (before ++ c ∷ []) ≡ filter p before ++ c ∷ [] = filter-append p before c ∙ ap (λ b. filter p before ++ cond b (c ∷ []) []) e in
          let tail = staying text limit (filter p before ++ c ∷ []) (filter p xs) in
          kept tail e (same ∙ ap (λ l. staying text limit l (filter p xs)) grown) (nat_lt (outlasting text before c xs) limit)
          ∙ ap (λ n. cond (nat_lt n limit) (c ∷ tail) tail) (sym (outlasting-part before c xs e))
      by false e same =
          let grown : filter p (before ++ c ∷ []) ≡ filter p before = filter-append p before c ∙ ap (λ b. filter p before ++ cond b (c ∷ []) []) e ∙ append-nil (filter p before) in
          dropped e (nat_lt (outlasting text before c xs) limit) ∙ same ∙ ap (λ l. staying text limit l (filter p xs)) grown

-- ---- the host is in the domain of a cookie that it sets

pub loosened : (host : List ℕ) (is_address : Bool) (domain : List ℕ) → not (is_in_domain host is_address domain) ≡ false → is_in_domain host false domain ≡ true
loosened host true domain e = by (bytes_eq host domain) refl e
  where
    by : (b : Bool) → bytes_eq host domain ≡ b → not (b || false) ≡ false → is_in_domain host false domain ≡ true
    by true same e = in_domain-follows host domain ∙ ap (λ c. c || follows_dot host domain) same
    by false other e = absurd (false≢true (sym e))
loosened host false domain e = not-false (is_in_domain host false domain) e

asked_inside : (rules : List Rule) (s : RequestView) (asked : List ℕ) → is_foreign s asked ≡ false
    → is_in_domain s.host false (cond (is_host_only rules s asked) s.host asked) ≡ true
asked_inside rules s [] e = in_itself s.host
asked_inside rules s (byte ∷ bytes) e = by (is_suffix_at rules s (byte ∷ bytes))
  where
    by : (b : Bool) → is_in_domain s.host false (cond b s.host (byte ∷ bytes)) ≡ true
    by true = in_itself s.host
    by false = loosened s.host s.is_address (byte ∷ bytes) e

accepted_inside : (rules : List Rule) (s : RequestView) (now : DateTime) (v : ReceivedView) → refusal_by_domain rules s v ≡ None
    → is_in_domain s.host false (kept_as rules s now v).domain ≡ true
unfolding refusal_by_domain
accepted_inside rules s now v e =
    let asked = asked_domain v.attributes in
    let one = not_refused (is_empty_pair v) _ _ e in
    let two = not_refused (not (is_ascii asked)) _ _ one.1 in
    let three = not_refused (is_suffix_of_others rules s asked) _ _ two.1 in
    let four = not_refused (is_foreign s asked) _ _ three.1 in
    asked_inside rules s asked four.0

stored_inside : (rules : List Rule) (s : RequestView) (now : DateTime) (store : CookieStore) (text : List ℕ) (x : KeptView) → verdict rules s now store text ≡ Ok x
    → is_in_domain s.host false x.domain ≡ true
stored_inside rules s now store text x e = by (received text) e
  where
    by : (o : Result ReceivedView Refusal) → verdict_on rules s now store o ≡ Ok x → is_in_domain s.host false x.domain ≡ true
    by (Err why) h = cc
    by (Ok v) h =
        let is = stored_by rules s now store v x h in
        let new : KeptView = kept_as rules s now v in
        let first = both_none (refusal_by_domain rules s v) (or_next_refusal (refusal_by_connection s store new) (refusal_by_prefix v new)) is.accepted in
        subst (λ (k : KeptView). is_in_domain s.host false k.domain ≡ true) is.same (accepted_inside rules s now v first.0)

-- ---- sites

module _ (rules : List Rule) (domain : List ℕ) where
  same_bytes : (a b : List ℕ) → bytes_eq a b ≡ true → a ≡ b
  same_bytes a b e = (bytes_eq-Decides a b).0 e

  by_domain : (c o : KeptView) → bytes_eq o.domain c.domain ≡ true → is_of_site rules domain o ≡ is_of_site rules domain c
  by_domain c o e = ap (λ d. bytes_eq (site_domain rules d) (site_domain rules domain)) (same_bytes o.domain c.domain e)

  by_site : (c o : KeptView) → bytes_eq (site_domain rules o.domain) (site_domain rules c.domain) ≡ true → is_of_site rules domain o ≡ is_of_site rules domain c
  by_site c o e = ap (λ s. bytes_eq s (site_domain rules domain)) (same_bytes (site_domain rules o.domain) (site_domain rules c.domain) e)

  sites-part : (limits : Limits) (now : DateTime) (store : CookieStore)
      → filter (is_of_site rules domain) (trimmed_sites rules limits now store) ≡ trimmed_sites rules limits now (filter (is_of_site rules domain) store)
  sites-part limits now store =
      let fresh = lasting now store in
      part-staying (Some (λ c. site_domain rules c.domain)) limits.per_site (is_of_site rules domain) by_site [] (within_domains limits.per_domain fresh)
      ∙ ap (within_sites rules limits.per_site) (part-staying (Some (λ c. c.domain)) limits.per_domain (is_of_site rules domain) by_domain [] fresh)
      ∙ ap (λ l. within_sites rules limits.per_site (within_domains limits.per_domain l)) (filter-turned (is_of_site rules domain) (λ c. lasts c.expiry now) store)

  -- if all sites leave room, each is as if there were no other
  pub trimmed-part : (limits : Limits) (now : DateTime) (store : CookieStore) → LeavesRoom rules limits now store
      → filter (is_of_site rules domain) (trimmed rules limits now store) ≡ trimmed rules limits now (filter (is_of_site rules domain) store)
  trimmed-part limits now store room =
      let mine = sites-part limits now store in
      let fewer = shorter (is_of_site rules domain) (trimmed_sites rules limits now store) in
      let fits : length (trimmed_sites rules limits now (filter (is_of_site rules domain) store)) ≤ limits.total
      = subst (λ l. length l ≤ limits.total) mine (omega (arith, fewer, room)) in
      ap (filter (is_of_site rules domain)) (total-all limits.total (trimmed_sites rules limits now store) room)
      ∙ mine
      ∙ sym (total-all limits.total (trimmed_sites rules limits now (filter (is_of_site rules domain) store)) fits)

  -- ---- a response

  same_site : (c d : KeptView) → is_same_cookie c d ≡ true → is_of_site rules domain c ≡ is_of_site rules domain d
  same_site c d same =
      let domains = and_parts (bytes_eq c.domain d.domain) _ (and_parts (bytes_eq c.name d.name) _ same).1 in
      by_domain d c domains.0

  -- a cookie of a host that isn't in the site is of another
  of_another : (host : List ℕ) (x : KeptView) → is_in_domain host false x.domain ≡ true → is_in_domain host false (site_domain rules domain) ≡ false
      → is_of_site rules domain x ≡ false
  of_another host x inside outside = by (is_of_site rules domain x) refl
    where
      by : (b : Bool) → is_of_site rules domain x ≡ b → b ≡ false
      by true e =
          let same : site_domain rules x.domain ≡ site_domain rules domain = same_bytes (site_domain rules x.domain) (site_domain rules domain) e in
          let within = in_domain-on host x.domain (site_domain rules x.domain) inside (in_site rules x.domain) in
          absurd (false≢true (sym outside ∙ ap (is_in_domain host false) (sym same) ∙ within))
      by false e = refl

  kept-part : (host : List ℕ) (now : DateTime) (v : Result KeptView Refusal) (store : CookieStore)
      → ((x : KeptView) → v ≡ Ok x → is_in_domain host false x.domain ≡ true) → is_in_domain host false (site_domain rules domain) ≡ false
      → filter (is_of_site rules domain) (kept_after_verdict now v (lasting now store)) ≡ filter (is_of_site rules domain) (lasting now store)
  kept-part host now (Err why) store inside outside = refl
  kept-part host now (Ok x) store inside outside =
      let p = is_of_site rules domain in
      filter-turned p (λ c. lasts c.expiry now) (kept_with x (lasting now store))
      ∙ ap (lasting now) (put_out p same_site x (of_another host x (inside x refl) outside) (lasting now store))
      ∙ filter-turned (λ c. lasts c.expiry now) p (lasting now store)
      ∙ ap (filter p) (lasting-later now now (omega (arith, signed_arith)) store)

  -- a response of another host leaves the cookies of the site
  pub read-part : (s : RequestView) (now : DateTime) (text : List ℕ) (store : CookieStore) → is_in_domain s.host false (site_domain rules domain) ≡ false
      → filter (is_of_site rules domain) (kept_after_text rules s now text store) ≡ filter (is_of_site rules domain) (lasting now store)
  read-part s now text store outside =
      kept-part s.host now (verdict rules s now (lasting now store) text) store (λ x e. stored_inside rules s now (lasting now store) text x e) outside
