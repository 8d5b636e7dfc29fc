-- What is stored under a name with the prefix `__Host-`, and what is left of stored cookies later.
use Rattle.std.proofs.Common.{◌≡◌, ℕ, ℤ, ◌≤ℤ◌, ◌&&◌, not, Bool, true, false, cond, List, [], ◌∷◌, codes, map, Option, Some, None, Ok, Err, option_map, refl, sym, ap, ◌∙◌, All, inl, arith}
use Rattle.std.proofs.lemmas.Bool.{and_parts, false≢true}
use Rattle.std.proofs.lemmas.List.Elements.{All-head, All-tail, filter_agree}
use Rattle.std.proofs.lemmas.Slice.Eq.{bytes_eq-Decides}
use Rattle.std.specs.List.{filter}
use Rattle.std.specs.Prelude.{Result, int_lt}
use Rattle.std.specs.Str.{bytes_eq}
use Rattle.jiff.specs.Types.{DateTime}
use Rattle.jiff.specs.Words.{civil_nanos}
use Rattle.jiff.proofs.SpanFacts.{signed_arith}
use Rattle.cookie_core.specs.NamePrefixes.{has_any_prefix, unmet_prefix}
use Rattle.cookie_core.proofs.NamePrefixLemmas.{host_absent, host_met}
use Rattle.cookie_browser.specs.Received.{ReceivedView, received}
use Rattle.cookie_browser.specs.Request.{RequestView}
use Rattle.cookie_browser.specs.Storage.{CookieStore, KeptView, asked_domain, guards_of, has_host_prefix, is_same_cookie, is_sent, kept_as, kept_with, lasting, lasts, or_next_refusal, prefix_refusal, refusal_by_connection, refusal_by_domain, refusal_by_prefix, refused_if, unless_refused, verdict, verdict_on}
use Rattle.cookie_browser.specs.Suffixes.{Rule}
use Rattle.cookie_browser.specs.declared.refusal.Refusal.{Refusal}
use Rattle.cookie_browser.specs.declared.refusal.Refusal.TheVariants as refusal
use Rattle.cookie_browser.proofs.AcceptLemmas.{refusal_anywhere}
use Rattle.cookie_agent.specs.Sent.{accessed}
use Rattle.cookie_agent.proofs.OrderLemmas.{filter-map}
use Rattle.cookie_agent.proofs.VerdictLemmas.{IsStoredBy, stored_by}

-- ---- lists

pub filter-both : {X : Type 0} (p q : X → Bool) (xs : List X) → filter p (filter q xs) ≡ filter (λ x. q x && p x) xs
filter-both p q [] = refl
filter-both {X} p q (x ∷ xs) = by (q x) (filter-both p q xs)
  where
    by : (b : Bool) → filter p (filter q xs) ≡ filter (λ y. q y && p y) xs
        → filter p (cond b (x ∷ filter q xs) (filter q xs)) ≡ cond (b && p x) (x ∷ filter (λ y. q y && p y) xs) (filter (λ y. q y && p y) xs)
    by true e = ap (λ l. cond (p x) (x ∷ l) l) e
    by false e = e

pub and_turned : (a b : Bool) → a && b ≡ b && a
and_turned true true = refl
and_turned true false = refl
and_turned false true = refl
and_turned false false = refl

pub filter-turned : {X : Type 0} (p q : X → Bool) (xs : List X) → filter p (filter q xs) ≡ filter q (filter p xs)
filter-turned p q xs = filter-both p q xs ∙ filter_agree (λ x. q x && p x) (λ x. p x && q x) (λ x. and_turned (q x) (p x)) xs ∙ sym (filter-both q p xs)

pub agree_all : {X : Type 0} (p q : X → Bool) (xs : List X) → All (λ x. p x ≡ q x) xs → filter p xs ≡ filter q xs
agree_all p q [] all = refl
agree_all p q (x ∷ xs) all =
    ap (λ b. cond b (x ∷ filter p xs) (filter p xs)) (All-head (λ y. p y ≡ q y) x xs all)
    ∙ ap (λ l. cond (q x) (x ∷ l) l) (agree_all p q xs (All-tail (λ y. p y ≡ q y) x xs all))

-- a test that a change leaves alone
pub filter_mapped : {X : Type 0} (p : X → Bool) (f : X → X) → ((x : X) → p (f x) ≡ p x) → (xs : List X) → filter p (map f xs) ≡ map f (filter p xs)
filter_mapped p f same xs = sym (filter-map p f xs) ∙ ap (map f) (filter_agree (λ x. p (f x)) p same xs)

-- a narrower test sees no difference
pub narrowed : {X : Type 0} (p q : X → Bool) → ((x : X) → p x ≡ true → q x ≡ true) → (xs : List X) → filter p (filter q xs) ≡ filter p xs
narrowed p q wider xs = filter-both p q xs ∙ filter_agree (λ x. q x && p x) p (λ x. one (p x) (q x) (wider x)) xs
  where
    one : (a b : Bool) → (a ≡ true → b ≡ true) → b && a ≡ a
    one true b w = ap (λ c. c && true) (w refl)
    one false true w = refl
    one false false w = refl

-- ---- what passes a test that the same cookies pass

module _ (P : KeptView → Bool) (respects : (a b : KeptView) → is_same_cookie a b ≡ true → P a ≡ P b) (x : KeptView) where
  abbrev others : CookieStore → CookieStore
  others store = filter (λ c. not (is_same_cookie c x)) store

  pub put_in : P x ≡ true → (store : CookieStore) → filter P (kept_with x store) ≡ kept_with x (filter P store)
  put_in e [] = ap (λ b. cond b (x ∷ []) []) e
  put_in e (c ∷ store) = by (put_in e store) (is_same_cookie c x) refl
    where
      apart : is_same_cookie c x ≡ false → filter P (kept_with x store) ≡ kept_with x (filter P store) → (a : Bool)
          → cond a (c ∷ filter P (kept_with x store)) (filter P (kept_with x store)) ≡ kept_with x (cond a (c ∷ filter P store) (filter P store))
      apart s rest true = ap (λ l. c ∷ l) rest ∙ sym (ap (λ b. cond b (x ∷ others (filter P store)) (c ∷ kept_with x (filter P store))) s)
      apart s rest false = rest

      by : filter P (kept_with x store) ≡ kept_with x (filter P store) → (b : Bool) → is_same_cookie c x ≡ b
          → filter P (cond b (x ∷ others store) (c ∷ kept_with x store)) ≡ kept_with x (filter P (c ∷ store))
      by rest true s =
          ap (λ b. cond b (x ∷ filter P (others store)) (filter P (others store))) e
          ∙ ap (λ l. x ∷ l) (filter-turned P (λ d. not (is_same_cookie d x)) store)
          ∙ sym (ap (λ b. kept_with x (cond b (c ∷ filter P store) (filter P store))) (respects c x s ∙ e)
          ∙ ap (λ b. cond b (x ∷ others (filter P store)) (c ∷ kept_with x (filter P store))) s)
      by rest false s = apart s rest (P c)

  module _ (e : P x ≡ false) where
    one_lost : (c : KeptView) (b : Bool) → is_same_cookie c x ≡ b → not b && P c ≡ P c
    one_lost c true s = sym (respects c x s ∙ e)
    one_lost c false s = refl

    lost : (store : CookieStore) → filter P (others store) ≡ filter P store
    lost store =
        filter-both P (λ d. not (is_same_cookie d x)) store
        ∙ filter_agree (λ c. not (is_same_cookie c x) && P c) P (λ c. one_lost c (is_same_cookie c x) refl) store

    pub put_out : (store : CookieStore) → filter P (kept_with x store) ≡ filter P store
    put_out [] = ap (λ b. cond b (x ∷ []) []) e
    put_out (c ∷ store) = by (put_out store) (is_same_cookie c x) refl
      where
        by : filter P (kept_with x store) ≡ filter P store → (b : Bool) → is_same_cookie c x ≡ b
            → filter P (cond b (x ∷ others store) (c ∷ kept_with x store)) ≡ filter P (c ∷ store)
        by rest true s =
            ap (λ b. cond b (x ∷ filter P (others store)) (filter P (others store))) e
            ∙ lost store
            ∙ sym (ap (λ b. cond b (c ∷ filter P store) (filter P store)) (respects c x s ∙ e))
        by rest false s = ap (λ l. cond (P c) (c ∷ l) l) rest

-- ---- what is stored under such a name

pub both_none : (a b : Option Refusal) → or_next_refusal a b ≡ None → (a ≡ None) × (b ≡ None)
both_none None b e = (refl, e)
both_none (Some f) b e = cc

pub not_refused : (t : Bool) (f : Refusal) (l : Option Refusal) → refused_if t f l ≡ None → (t ≡ false) × (l ≡ None)
not_refused true f l e = cc
not_refused false f l e = (refl, e)

second_holds : (a b : Bool) → a ≡ true → a && not b ≡ false → b ≡ true
second_holds true true e f = refl
second_holds true false e f = absurd (false≢true (sym f))
second_holds false b e f = absurd (false≢true e)

not_mapped : {X : Type 0} (f : X → Refusal) (o : Option X) → option_map f o ≡ None → o ≡ None
not_mapped f None e = refl
not_mapped f (Some x) e = cc

-- the steps on prefixes refuse nothing
pub prefixes_met : (v : ReceivedView) (new : KeptView) → refusal_by_prefix v new ≡ None
    → (unmet_prefix v.name (guards_of v new) ≡ None) × (bytes_eq v.name [] && has_any_prefix v.value ≡ false)
unfolding refusal_by_prefix
prefixes_met v new e =
    let both = both_none (option_map prefix_refusal (unmet_prefix v.name (guards_of v new))) _ e in
    (not_mapped prefix_refusal (unmet_prefix v.name (guards_of v new)) both.0, (not_refused (bytes_eq v.name [] && has_any_prefix v.value) refusal.NamelessPrefix _ both.1).0)

pub record IsHostSet (s : RequestView) (k : KeptView) : Type 0 where
  pub secure : s.is_secure ≡ true
  pub host_only : k.is_host_only ≡ true
  pub domain : k.domain ≡ s.host
  pub path : k.path ≡ codes "/"

host_set : (rules : List Rule) (s : RequestView) (t : DateTime) (store : CookieStore) (v : ReceivedView) (k : KeptView) → IsStoredBy rules s t store v k → has_host_prefix k.name ≡ true → IsHostSet s k
unfolding refusal_by_connection
host_set rules s t store v k is prefixed =
    let new : KeptView = kept_as rules s t v in
    let first = both_none (refusal_by_domain rules s v) (or_next_refusal (refusal_by_connection s store new) (refusal_by_prefix v new)) is.accepted in
    let second = both_none (refusal_by_connection s store new) (refusal_by_prefix v new) first.1 in
    let insecure = (not_refused (new.is_secure_only && not s.is_secure) _ _ second.0).0 in
    let named : has_host_prefix v.name ≡ true = ap (λ (c : KeptView). has_host_prefix c.name) is.same ∙ prefixed in
    let one = host_met v.name (guards_of v new) (prefixes_met v new second.1).0 named in
    let two = and_parts new.is_host_only _ one.1 in
    let three = and_parts v.attributes.has_path (bytes_eq new.path (codes "/")) two.1 in
    record {
      secure = second_holds new.is_secure_only s.is_secure one.0 insecure;
      host_only = sym (ap (λ (c : KeptView). c.is_host_only) is.same) ∙ two.0;
      domain = sym (ap (λ (c : KeptView). c.domain) is.same) ∙ ap (λ b. cond b s.host (asked_domain v.attributes)) two.0;
      path = sym (ap (λ (c : KeptView). c.path) is.same) ∙ (bytes_eq-Decides new.path (codes "/")).0 three.1;
    }

-- without a name its value has no such prefix
pub no_hidden_prefix : (rules : List Rule) (s : RequestView) (t : DateTime) (store : CookieStore) (v : ReceivedView) (k : KeptView) → IsStoredBy rules s t store v k → v.name ≡ [] → has_host_prefix v.value ≡ false
no_hidden_prefix rules s t store v k is nameless =
    let new : KeptView = kept_as rules s t v in
    let first = both_none (refusal_by_domain rules s v) (or_next_refusal (refusal_by_connection s store new) (refusal_by_prefix v new)) is.accepted in
    let second = both_none (refusal_by_connection s store new) (refusal_by_prefix v new) first.1 in
    host_absent v.value
    (sym (ap (λ b. b && has_any_prefix v.value) ((bytes_eq-Decides v.name []).1 nameless)) ∙ (prefixes_met v new second.1).1)

pub verdict_host_set : (rules : List Rule) (s : RequestView) (t : DateTime) (store : CookieStore) (text : List ℕ) (k : KeptView) → verdict rules s t store text ≡ Ok k → has_host_prefix k.name ≡ true → IsHostSet s k
verdict_host_set rules s t store text k e prefixed = by (received text) e
  where
    by : (o : Result ReceivedView Refusal) → verdict_on rules s t store o ≡ Ok k → IsHostSet s k
    by (Err f) h = cc
    by (Ok v) h = host_set rules s t store v k (stored_by rules s t store v k h) prefixed

-- over a secure connection what is stored doesn't change the verdict
pub secure_verdict : (rules : List Rule) (s : RequestView) (t : DateTime) (store : CookieStore) (text : List ℕ) → s.is_secure ≡ true → verdict rules s t store text ≡ verdict rules s t [] text
secure_verdict rules s t store text secure = by (received text)
  where
    by : (o : Result ReceivedView Refusal) → verdict_on rules s t store o ≡ verdict_on rules s t [] o
    by (Err f) = refl
    by (Ok v) = ap (λ o. unless_refused o (kept_as rules s t v)) (refusal_anywhere rules s store v (kept_as rules s t v) (inl secure))

-- ---- time

before : (a b c : ℤ) → a ≤ℤ b → int_lt b c ≡ true → int_lt a c ≡ true
before a b c le lt = grind (arith, signed_arith)

lasts_longer : (e : Option ℤ) (t u : DateTime) → civil_nanos t ≤ℤ civil_nanos u → lasts e t && lasts e u ≡ lasts e u
lasts_longer None t u order = refl
lasts_longer (Some e) t u order = by (int_lt (civil_nanos u) e) (int_lt (civil_nanos t) e) refl refl
  where
    by : (b a : Bool) → int_lt (civil_nanos u) e ≡ b → int_lt (civil_nanos t) e ≡ a → a && b ≡ b
    by true true f g = refl
    by true false f g = absurd (false≢true (sym g ∙ before (civil_nanos t) (civil_nanos u) e order f))
    by false true f g = refl
    by false false f g = refl

pub lasting-later : (t u : DateTime) → civil_nanos t ≤ℤ civil_nanos u → (xs : CookieStore) → lasting u (lasting t xs) ≡ lasting u xs
lasting-later t u order xs =
    filter-both (λ c. lasts c.expiry u) (λ c. lasts c.expiry t) xs
    ∙ filter_agree (λ c. lasts c.expiry t && lasts c.expiry u) (λ c. lasts c.expiry u) (λ c. lasts_longer c.expiry t u order) xs

-- an access leaves the expiry
pub lasts_accessed : (site : RequestView) (now t : DateTime) (c : KeptView) → lasts (accessed site now c).expiry t ≡ lasts c.expiry t
lasts_accessed site now t c = by (is_sent site now c)
  where
    by : (b : Bool) → lasts (cond b (record c { last_access = civil_nanos now }) c).expiry t ≡ lasts c.expiry t
    by true = refl
    by false = refl

pub earlier : (a b c : ℤ) → a ≤ℤ b → b ≤ℤ c → a ≤ℤ c
earlier a b c first second = omega (arith, signed_arith)
