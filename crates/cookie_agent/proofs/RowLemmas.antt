-- Stored cookies and their numbers: what each change leaves.
use Rattle.std.proofs.Common.{◌≡◌, ℕ, zero, suc, pos, ◌<◌, ◌&&◌, ◌||◌, not, take, drop, bytes_eq, Option, None, Some, Bool, true, false, cond, List, [], ◌∷◌, length, get_or, refl, sym, ap, ◌∙◌, All, ⊎_elim, arith}
use Rattle.std.proofs.lemmas.Bool.{and_parts, cases_order, false≢true, or_cases}
use Rattle.std.proofs.lemmas.List.Elements.{All-append, All-drop, All-get_or, All-head, All-tail, All-take}
use Rattle.std.specs.List.{filter, remove}
use Rattle.std.specs.Option.{MatchOption}
use Rattle.jiff.specs.Types.{DateTime}
use Rattle.cookie_browser.specs.Request.{RequestView, is_in_domain, is_under_path}
use Rattle.cookie_browser.specs.Storage.{KeptView, CookieStore, allows, is_meant_for, is_same_cookie, is_sent, lasts}
use Rattle.cookie_browser.specs.declared.enforcement.Enforcement.TheVariants as enforcement
use Rattle.cookie_agent.specs.LimitsCode.{blank}
use Rattle.cookie_agent.specs.Scopes.{ScopeView}
use Rattle.cookie_agent.specs.Stored.{IsApart, is_named_in}
use Rattle.cookie_agent.specs.StoredCode.{gives_place}
use Rattle.cookie_agent.proofs.KeyLemmas.{same_key}
use Rattle.cookie_agent.proofs.PutLemmas.{kept_all}

-- ---- a value or none

pub MatchOption-weaker : {X : Type 0} (o : Option X) (P R : Type 0) (Q S : X → Type 0) → (P → R) → ((x : X) → Q x → S x) → MatchOption o P Q → MatchOption o R S
MatchOption-weaker None P R Q S none some h = none h
MatchOption-weaker (Some x) P R Q S none some h = some x h

-- ---- the only one of its key

pub only-one : (x d : KeptView) (xs : CookieStore) → IsApart xs → (i k : ℕ) → i < length xs → k < length xs → is_same_cookie (get_or xs i d) x ≡ true → (k ≡ i → ⊥) → is_same_cookie (get_or xs k d) x ≡ false
only-one x d [] apart i k li lk same other = absurd (omega (arith, li))
only-one x d (c ∷ xs) apart zero zero li lk same other = absurd (other refl)
only-one x d (c ∷ xs) apart zero (suc k) li lk same other =
    sym (same_key c x (get_or xs k d) same) ∙ All-get_or (λ y. is_same_cookie y c ≡ false) xs k d (omega (arith, lk)) apart.0
only-one x d (c ∷ xs) apart (suc i) zero li lk same other = by (is_same_cookie c x) refl
  where
    by : (b : Bool) → is_same_cookie c x ≡ b → b ≡ false
    by false e = refl
    by true e = absurd (false≢true (sym (All-get_or (λ y. is_same_cookie y c ≡ false) xs i d (omega (arith, li)) apart.0) ∙ same_key c x (get_or xs i d) e ∙ same))
only-one x d (c ∷ xs) apart (suc i) (suc k) li lk same other = only-one x d xs apart.1 i k (omega (arith, li)) (omega (arith, lk)) same (λ e. other (ap (λ n. suc n) e))

never : (b : Bool) → b && false ≡ false
never true = refl
never false = refl

-- it gives place first, if it is not expired
pub first-gives : (x d : KeptView) (now : DateTime) (xs : CookieStore) → IsApart xs → (i : ℕ) → i < length xs → is_same_cookie (get_or xs i d) x ≡ true → (k : ℕ) → k < i → gives_place x now (get_or xs k d) ≡ false
first-gives x d now xs apart i li same k lt =
    ap (λ b. lasts (get_or xs k d).expiry now && b) (only-one x d xs apart i k li (omega (arith, lt, li)) same (λ e. omega (arith, e, lt))) ∙ never (lasts (get_or xs k d).expiry now)

-- else none does
pub none-gives : (x d : KeptView) (now : DateTime) (xs : CookieStore) → IsApart xs → (i : ℕ) → i < length xs → is_same_cookie (get_or xs i d) x ≡ true → lasts (get_or xs i d).expiry now ≡ false
    → (k : ℕ) → k < length xs → gives_place x now (get_or xs k d) ≡ false
none-gives x d now xs apart i li same past k lk =
    ⊎_elim (λ is. ap (λ j. gives_place x now (get_or xs j d)) is ∙ ap (λ b. b && is_same_cookie (get_or xs i d) x) past)
    (λ h. let other : k ≡ i → ⊥ = ⊎_elim (λ less e. omega (arith, e, less)) (λ more e. omega (arith, e, more)) h in
    ap (λ b. lasts (get_or xs k d).expiry now && b) (only-one x d xs apart i k li lk same other) ∙ never (lasts (get_or xs k d).expiry now))
    (cases_order k i)

-- without the others of its key, it alone goes
pub filter-remove : (x d : KeptView) (xs : CookieStore) → IsApart xs → (i : ℕ) → i < length xs → is_same_cookie (get_or xs i d) x ≡ true
    → filter (λ c. not (is_same_cookie c x)) xs ≡ remove xs i
filter-remove x d [] apart i li same = absurd (omega (arith, li))
filter-remove x d (c ∷ xs) apart zero li same =
    ap (λ b. cond (not b) (c ∷ filter (λ y. not (is_same_cookie y x)) xs) (filter (λ y. not (is_same_cookie y x)) xs)) same ∙ kept_all c x same xs apart.0
filter-remove x d (c ∷ xs) apart (suc i) li same =
    ap (λ b. cond (not b) (c ∷ filter (λ y. not (is_same_cookie y x)) xs) (filter (λ y. not (is_same_cookie y x)) xs)) (only-one x d (c ∷ xs) apart (suc i) 0 li (omega arith) same (λ e. omega (arith, e)))
    ∙ ap (λ l. c ∷ l) (filter-remove x d xs apart.1 i (omega (arith, li)) same)

pub filter-none : (x : KeptView) (xs : CookieStore) → All (λ c. is_same_cookie c x ≡ false) xs → filter (λ c. not (is_same_cookie c x)) xs ≡ xs
filter-none x [] all = refl
filter-none x (c ∷ xs) all =
    ap (λ b. cond (not b) (c ∷ filter (λ y. not (is_same_cookie y x)) xs) (filter (λ y. not (is_same_cookie y x)) xs)) (All-head (λ y. is_same_cookie y x ≡ false) c xs all)
    ∙ ap (λ l. c ∷ l) (filter-none x xs (All-tail (λ y. is_same_cookie y x ≡ false) c xs all))

-- ---- the cookie of a name and a scope

abbrev pub named : List ℕ → ScopeView → KeptView
named name scope =
    record {
      name = name;
      value = [];
      domain = scope.domain;
      is_host_only = scope.is_host_only;
      path = scope.path;
      is_secure_only = false;
      is_http_only = false;
      same_site = enforcement.None;
      expiry = None;
      last_access = pos 0;
    }

pub named-removed : (name : List ℕ) (scope : ScopeView) (xs : CookieStore) → IsApart xs → (i : ℕ) → i < length xs → is_named_in name scope (get_or xs i blank) ≡ true
    → filter (λ c. not (is_named_in name scope c)) xs ≡ remove xs i
named-removed name scope xs apart i lt is = filter-remove (named name scope) blank xs apart i lt is

pub named-none : (name : List ℕ) (scope : ScopeView) (xs : CookieStore) → All (λ c. is_named_in name scope c ≡ false) xs → filter (λ c. not (is_named_in name scope c)) xs ≡ xs
named-none name scope xs all = filter-none (named name scope) xs all

pub All-remove : {X : Type 0} (P : X → Type 0) (xs : List X) (i : ℕ) → All P xs → All P (remove xs i)
All-remove P xs i all = All-append P (take i xs) (drop (suc i) xs) (All-take P i xs all) (All-drop P (suc i) xs all)

pub apart-remove : (xs : CookieStore) (i : ℕ) → IsApart xs → IsApart (remove xs i)
apart-remove [] zero apart = tt
apart-remove [] (suc i) apart = tt
apart-remove (c ∷ xs) zero apart = apart.1
apart-remove (c ∷ xs) (suc i) apart = (All-remove (λ d. is_same_cookie d c ≡ false) xs i apart.0, apart-remove xs i apart.1)

-- ---- a cookie that is sent is of the host's domain, or of one above it

pub sent-domain : (site : RequestView) (now : DateTime) (c : KeptView) → is_sent site now c ≡ true → is_in_domain site.host false c.domain ≡ true
sent-domain site now c sent =
    let suits = (and_parts (lasts c.expiry now) (is_meant_for site c && ((site.is_secure || not c.is_secure_only) && allows site c.same_site)) sent).1 in
    let meant = (and_parts (is_meant_for site c) ((site.is_secure || not c.is_secure_only) && allows site c.same_site) suits).0 in
    let host = (and_parts (cond c.is_host_only (bytes_eq site.host c.domain) (is_in_domain site.host site.is_address c.domain)) (is_under_path site.path c.path) meant).0 in
    by c.is_host_only site.is_address host
  where
    or_first : (a b : Bool) → a ≡ true → a || b ≡ true
    or_first a b e = ap (λ x. x || b) e

    by : (h a : Bool) → cond h (bytes_eq site.host c.domain) (is_in_domain site.host a c.domain) ≡ true → is_in_domain site.host false c.domain ≡ true
    by true a e = or_first (bytes_eq site.host c.domain) _ e
    by false false e = e
    by false true e = ⊎_elim (λ same. or_first (bytes_eq site.host c.domain) _ same) (λ none. absurd (false≢true none)) (or_cases (bytes_eq site.host c.domain) false e)
