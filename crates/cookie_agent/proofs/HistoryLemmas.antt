-- What is known of each cookie that an agent stores, whatever happened to it.
use Rattle.std.proofs.Common.{◌≡◌, ◌&&◌, not, Bool, true, false, cond, [], ◌∷◌, map, codes, Some, None, Ok, Err, refl, sym, ap, subst, ◌∙◌, All, inl, inr}
use Rattle.std.proofs.lemmas.List.Elements.{All-filter, All-head, All-map, All-nil, All-tail, All-weaker}
use Rattle.std.specs.List.{filter}
use Rattle.std.specs.Prelude.{Result, List}
use Rattle.jiff.specs.Types.{DateTime}
use Rattle.jiff.specs.Words.{civil_nanos}
use Rattle.cookie_browser.specs.Request.{RequestView}
use Rattle.cookie_browser.specs.Storage.{CookieStore, KeptView, has_host_prefix, is_sent, kept_after_text, kept_after_verdict, kept_with, lasting, lasts, verdict}
use Rattle.cookie_browser.specs.declared.refusal.Refusal.{Refusal}
use Rattle.cookie_browser.specs.Suffixes.{Rule, site_domain}
use Rattle.cookie_agent.specs.Histories.{Begins, Clears, Evicts, History, Loading, Loads, Reads, Removes, Requests, Response, Trims, WasRead, kept_after}
use Rattle.cookie_agent.specs.Limits.{trimmed, trimmed_sites, within_domains}
use Rattle.cookie_agent.specs.Saved.{is_for_suffix, is_persistent, saved}
use Rattle.cookie_agent.specs.SavedForms.{as_carried, carries, read_again}
use Rattle.cookie_agent.specs.Sent.{accessed}
use Rattle.cookie_agent.specs.Stored.{IsApart, is_named_in, is_of_domain, kept_with_each}
use Rattle.cookie_agent.specs.declared.limits.Limits.{Limits}
use Rattle.cookie_agent.specs.declared.saved.form.SavedForm.{SavedForm}
use Rattle.cookie_agent.specs.declared.saved.form.SavedForm.TheVariants as form
use Rattle.cookie_agent.proofs.ApartLemmas.{apart-trimmed}
use Rattle.cookie_agent.proofs.CutOutLemmas.{stored_cut_out}
use Rattle.cookie_agent.proofs.HostSetLemmas.{secure_verdict, verdict_host_set}
use Rattle.cookie_agent.proofs.LimitLemmas.{All-staying}
use Rattle.cookie_agent.proofs.PutLemmas.{All-put, apart-accessed, apart-filter, apart-put, apart-stored}
use Rattle.cookie_agent.proofs.SentFieldLemmas.{IsCutOut, IsCutOutOf}

-- ---- what an event leaves of a cookie

-- the texts and the scope of a cookie stay
pub record IsLike (c d : KeptView) : Type 0 where
  pub name : d.name ≡ c.name
  pub value : d.value ≡ c.value
  pub domain : d.domain ≡ c.domain
  pub flag : d.is_host_only ≡ c.is_host_only
  pub path : d.path ≡ c.path

pub like_accessed : (site : RequestView) (now : DateTime) (c : KeptView) → IsLike c (accessed site now c)
like_accessed site now c = by (is_sent site now c)
  where
    by : (b : Bool) → IsLike c (cond b (record c { last_access = civil_nanos now }) c)
    by true = record { name = refl; value = refl; domain = refl; flag = refl; path = refl }
    by false = record { name = refl; value = refl; domain = refl; flag = refl; path = refl }

pub like_carried : (form : SavedForm) (now : DateTime) (c : KeptView) → IsLike c (as_carried form now c)
like_carried form.CookiesTxt now c = record { name = refl; value = refl; domain = refl; flag = refl; path = refl }
like_carried form.JsonLines now c = record { name = refl; value = refl; domain = refl; flag = refl; path = refl }

-- ---- where a stored cookie comes from

-- one of the responses set it, over a secure connection, for the whole host and no other
pub record IsSetBy (read : Response → Type 0) (c : KeptView) : Type 0 where
  pub response : Response
  pub is_read : read response
  pub kept : KeptView
  pub stored : verdict response.rules response.site response.now [] response.text ≡ Ok kept
  pub name : kept.name ≡ c.name
  pub value : kept.value ≡ c.value
  pub secure : response.site.is_secure ≡ true
  pub domain : c.domain ≡ response.site.host
  pub host_only : c.is_host_only ≡ true
  pub path : c.path ≡ codes "/"

pub record IsStoredSo (read : Response → Type 0) (c : KeptView) : Type 0 where
  pub cut_out : IsCutOutOf c
  pub set : has_host_prefix c.name ≡ true → IsSetBy read c

module _ (read also : Response → Type 0) (still : (r : Response) → read r → also r) where
  so_alike : (c d : KeptView) → IsLike c d → IsStoredSo read c → IsStoredSo also d
  so_alike c d like so =
      record {
        cut_out = subst (λ n. IsCutOut n d.value) (sym like.name) (subst (IsCutOut c.name) (sym like.value) so.cut_out);
        set = λ prefixed.
            (let s = so.set (sym (ap has_host_prefix like.name) ∙ prefixed) in
            record {
              response = s.response;
              is_read = still s.response s.is_read;
              kept = s.kept;
              stored = s.stored;
              name = s.name ∙ sym like.name;
              value = s.value ∙ sym like.value;
              secure = s.secure;
              domain = like.domain ∙ s.domain;
              host_only = like.flag ∙ s.host_only;
              path = like.path ∙ s.path;
            });
      }

  later : (c : KeptView) → IsStoredSo read c → IsStoredSo also c
  later c so = so_alike c c (record { name = refl; value = refl; domain = refl; flag = refl; path = refl }) so

  all_later : (store : CookieStore) → All (IsStoredSo read) store → All (IsStoredSo also) store
  all_later store all = All-weaker (IsStoredSo read) (IsStoredSo also) later store all

  all_alike : (f : KeptView → KeptView) → ((c : KeptView) → IsLike c (f c)) → (store : CookieStore) → All (IsStoredSo read) store → All (IsStoredSo also) (map f store)
  all_alike f like store all =
      All-map (IsStoredSo also) f store (All-weaker (IsStoredSo read) (λ c. IsStoredSo also (f c)) (λ c so. so_alike c (f c) (like c) so) store all)

-- what the text of a response is stored as
stored_so : (r : Response) (read : Response → Type 0) → read r → (store : CookieStore) (kept : KeptView)
    → verdict r.rules r.site r.now store r.text ≡ Ok kept → IsStoredSo read kept
stored_so r read is_read store kept e =
    record {
      cut_out = stored_cut_out r.rules r.site r.now store r.text kept e;
      set = λ prefixed.
          (let set = verdict_host_set r.rules r.site r.now store r.text kept e prefixed in
          record {
            response = r;
            is_read = is_read;
            kept = kept;
            stored = sym (secure_verdict r.rules r.site r.now store r.text set.secure) ∙ e;
            name = refl;
            value = refl;
            secure = set.secure;
            domain = set.domain;
            host_only = set.host_only;
            path = set.path;
          });
    }

-- so it is of what it is stored as whatever is stored
pub set_so : (r : Response) (read : Response → Type 0) → read r → (kept : KeptView) → verdict r.rules r.site r.now [] r.text ≡ Ok kept → IsStoredSo read kept
set_so r read is_read kept e = stored_so r read is_read [] kept e

-- ---- lists

module _ (P : KeptView → Type 0) where
  All-kept_with_each : (xs store : CookieStore) → All P xs → All P store → All P (kept_with_each xs store)
  All-kept_with_each [] store each all = all
  All-kept_with_each (x ∷ xs) store each all = All-kept_with_each xs (kept_with x store) (All-tail P x xs each) (All-put P x (All-head P x xs each) store all)

  All-trimmed : (rules : List Rule) (limits : Limits) (now : DateTime) (store : CookieStore) → All P store → All P (trimmed rules limits now store)
  All-trimmed rules limits now store all =
      All-staying None limits.total P [] (trimmed_sites rules limits now store)
      (All-staying (Some (λ cookie. site_domain rules cookie.domain)) limits.per_site P [] (within_domains limits.per_domain (lasting now store))
      (All-staying (Some (λ cookie. cookie.domain)) limits.per_domain P [] (lasting now store) (All-filter (λ c. lasts c.expiry now) P store all)))

apart-kept_with_each : (xs store : CookieStore) → IsApart store → IsApart (kept_with_each xs store)
apart-kept_with_each [] store apart = apart
apart-kept_with_each (x ∷ xs) store apart = apart-kept_with_each xs (kept_with x store) (apart-put x store apart)

-- ---- whatever happened

abbrev pub read_in : History → Response → Type 0
read_in history = λ response. WasRead response history

abbrev loaded : Loading → CookieStore → CookieStore
loaded l store = lasting l.now (read_again l.form l.rules l.written l.now store)

abbrev AreStoredSo : History → CookieStore → Type 0
AreStoredSo history store = All (IsStoredSo (read_in history)) store

after_response : (r : Response) (before : History) (store : CookieStore) → AreStoredSo before store → AreStoredSo (Reads r before) (kept_after_text r.rules r.site r.now r.text store)
after_response r before store all = by (verdict r.rules r.site r.now (lasting r.now store) r.text) (stored_so r (read_in (Reads r before)) (inl refl) (lasting r.now store))
  where
    left : AreStoredSo (Reads r before) (lasting r.now store)
    left = All-filter (λ c. lasts c.expiry r.now) (IsStoredSo (read_in (Reads r before))) store (all_later (read_in before) (read_in (Reads r before)) (λ s h. inr h) store all)

    by : (v : Result KeptView Refusal) → ((x : KeptView) → v ≡ Ok x → IsStoredSo (read_in (Reads r before)) x) → AreStoredSo (Reads r before) (kept_after_verdict r.now v (lasting r.now store))
    by (Err f) each = left
    by (Ok x) each =
        All-filter (λ c. lasts c.expiry r.now) (IsStoredSo (read_in (Reads r before))) (kept_with x (lasting r.now store))
        (All-put (IsStoredSo (read_in (Reads r before))) x (each x refl) (lasting r.now store) left)

after_load : (l : Loading) (saved_in before : History) (saved_store store : CookieStore) → AreStoredSo saved_in saved_store → AreStoredSo before store
    → AreStoredSo (Loads l saved_in before) (kept_with_each (loaded l saved_store) store)
after_load l saved_in before saved_store store first second =
    All-kept_with_each So (loaded l saved_store) store
    (All-filter (λ c. lasts c.expiry l.now) So (map (as_carried l.form l.now) fit) (all_alike (read_in saved_in) (read_in (Loads l saved_in before)) (λ s h. inl h) (as_carried l.form l.now) (like_carried l.form l.now) fit
    (All-filter (λ c. not (is_for_suffix l.rules c)) (IsStoredSo (read_in saved_in)) (saved l.written (carries l.form) saved_store)
    (All-filter (λ c. is_persistent l.written c && carries l.form c) (IsStoredSo (read_in saved_in)) saved_store first))))
    (all_later (read_in before) (read_in (Loads l saved_in before)) (λ s h. inr h) store second)
  where
    So : KeptView → Type 0
    So = IsStoredSo (read_in (Loads l saved_in before))

    fit : CookieStore
    fit = filter (λ c. not (is_for_suffix l.rules c)) (saved l.written (carries l.form) saved_store)

pub all_stored : (history : History) → AreStoredSo history (kept_after history)
all_stored Begins = All-nil (IsStoredSo (read_in Begins))
all_stored (Reads r before) = after_response r before (kept_after before) (all_stored before)
all_stored (Requests site now before) = all_alike (read_in before) (read_in before) (λ s h. h) (accessed site now) (like_accessed site now) (kept_after before) (all_stored before)
all_stored (Evicts now before) = All-filter (λ c. lasts c.expiry now) (IsStoredSo (read_in before)) (kept_after before) (all_stored before)
all_stored (Removes name scope before) = All-filter (λ c. not (is_named_in name scope c)) (IsStoredSo (read_in before)) (kept_after before) (all_stored before)
all_stored (Clears domain before) = All-filter (λ c. not (is_of_domain domain c)) (IsStoredSo (read_in before)) (kept_after before) (all_stored before)
all_stored (Trims rules limits now before) = All-trimmed (IsStoredSo (read_in before)) rules limits now (kept_after before) (all_stored before)
all_stored (Loads l saved_in before) = after_load l saved_in before (kept_after saved_in) (kept_after before) (all_stored saved_in) (all_stored before)

-- no two are the same cookie
pub apart_stored : (history : History) → IsApart (kept_after history)
apart_stored Begins = tt
apart_stored (Reads r before) = by (verdict r.rules r.site r.now (lasting r.now (kept_after before)) r.text) (apart_stored before)
  where
    by : (v : Result KeptView Refusal) → IsApart (kept_after before) → IsApart (kept_after_verdict r.now v (lasting r.now (kept_after before)))
    by (Err f) apart = apart-filter (λ c. lasts c.expiry r.now) (kept_after before) apart
    by (Ok x) apart = apart-stored r.now x (kept_after before) apart
apart_stored (Requests site now before) = apart-accessed site now (kept_after before) (apart_stored before)
apart_stored (Evicts now before) = apart-filter (λ c. lasts c.expiry now) (kept_after before) (apart_stored before)
apart_stored (Removes name scope before) = apart-filter (λ c. not (is_named_in name scope c)) (kept_after before) (apart_stored before)
apart_stored (Clears domain before) = apart-filter (λ c. not (is_of_domain domain c)) (kept_after before) (apart_stored before)
apart_stored (Trims rules limits now before) = apart-trimmed rules limits now (kept_after before) (apart_stored before)
apart_stored (Loads l saved_in before) = apart-kept_with_each (loaded l (kept_after saved_in)) (kept_after before) (apart_stored before)
