-- Which session opens, if the site's own secure responses decide which cookie a server reads.
use Rattle.std.proofs.Common.{◌≡◌, ◌↔◌, ℕ, zero, suc, Bool, true, false, cond, List, [], ◌∷◌, ◌++◌, Option, None, Some, refl, sym, ap, subst, ◌∙◌, arith}
use Rattle.std.proofs.lemmas.Bool.{false≢true}
use Rattle.std.proofs.lemmas.List.{append-nil}
use Rattle.std.proofs.lemmas.List.Elements.{All-cons, All-filter, All-head, All-nil, All-tail, filter_passes}
use Rattle.std.proofs.lemmas.Slice.Eq.{bytes_eq-Decides}
use Rattle.std.specs.Option.{option_to_list}
use Rattle.std.specs.List.{filter}
use Rattle.std.specs.Prelude.{All, Result, Ok, Err, IfOk}
use Rattle.std.specs.Str.{bytes_eq}
use mathlib.Core.Logic.{◌≢◌}
use Rattle.jiff.specs.Types.{DateTime}
use Rattle.cookie.specs.Escapes.{escape}
use Rattle.cookie.specs.Memory.{Gives}
use Rattle.cookie.specs.Originals.{field_cookies, first_of_name}
use Rattle.cookie.specs.Record.{IsCookie, Record, plain}
use Rattle.cookie_theorems.specs.Agreement.{IsOurs, PlanView}
use Rattle.cookie_agent.specs.Histories.{History, Response}
use Rattle.cookie_agent.specs.HostJars.{IsHostName, IsOwnSet, ReadsOnly, original_of}
use Rattle.cookie_agent.specs.Scopes.{scope_of}
use Rattle.cookie_agent.specs.Sent.{IsHeader, IsOrderedHeader, sent_pair}
use Rattle.cookie_agent.specs.Store.{AgentView}
use Rattle.cookie_theorems.proofs.AgentHeaderLemmas.{back, read_as}
use Rattle.cookie_agent.proofs.HostJarLemmas.{last_own, own_set}
use Rattle.cookie_agent.proofs.SentFieldLemmas.{plain_kept}
use Rattle.cookie_agent.proofs.VerdictLemmas.{StoresPair, stores_pair}
use Rattle.cookie_browser.specs.Request.{RequestView}
use Rattle.cookie_browser.specs.Storage.{KeptView, has_host_prefix, is_sent, verdict}
use Rattle.cookie_session.specs.Seconds.{second_of}
use Rattle.cookie_session.specs.Revocations.{none_revoked}
use Rattle.cookie_session.specs.Session.{SessionState, seen_at, session_text}
use Rattle.cookie_session.specs.Sessions.{HoldsOne, IsClosed, IsOpen, LivesAt, OpensFirst, saved_cookie, site_cookies}
use Rattle.cookie_session.specs.declared.opened.Opened.{Opened}
use Rattle.cookie_session.specs.declared.sessions.Sessions.{Sessions}
use Rattle.cookie_theorems.specs.OwnSessions.{IsGuarded, IsLastSave, IsRequestOpened, KeepsLastSave, OpensOnlyOwn, OpensOwnSet, own_cookie}

All-both : (P Q : Record → Type 0) (xs : List Record) → All P xs → All Q xs → All (λ x. P x × Q x) xs
All-both P Q [] one two = All-nil (λ x. P x × Q x)
All-both P Q (x ∷ xs) one two = All-cons (λ y. P y × Q y) x xs (All-head P x xs one, All-head Q x xs two) (All-both P Q xs (All-tail P x xs one) (All-tail Q x xs two))

abbrev pub answer_of : ℕ → SessionState → Opened
answer_of place session = record { session = session; place = place }

split_none : (earlier later : List Record) (c : Record) → [] ≡ earlier ++ c ∷ later → ⊥
split_none [] later c e = cc
split_none (d ∷ earlier) later c e = cc

split_one : (earlier later : List Record) (c d : Record) → d ∷ [] ≡ earlier ++ c ∷ later → d ≡ c
split_one [] later c d e = cc
split_one (f ∷ earlier) later c d e = absurd (split_none earlier later c (let rest : [] ≡ earlier ++ c ∷ later = cc in rest))

-- ---- one cookie of the site's name at most

module _ (sessions : Sessions) (now : DateTime) (cookies : List Record) where
  -- the first that opens is that one
  first_cookie : (c : Record) → site_cookies sessions cookies ≡ c ∷ [] → (place : ℕ) (s : SessionState) (first : OpensFirst sessions cookies now place s) → c ≡ first.cookie
  first_cookie c e place s first = split_one first.earlier first.later first.cookie c (sym e ∙ first.split)

  pub only_first : (o : Option Record) → site_cookies sessions cookies ≡ option_to_list o → (place : ℕ) (s : SessionState)
      → OpensFirst sessions cookies now place s ↔ IsOpen sessions o now place s
  only_first None e place s = (
    λ first. absurd (split_none first.earlier first.later first.cookie (sym e ∙ first.split)),
    λ is. absurd is.sealed,
  )
  only_first (Some c) e place s = (
    λ first. subst (λ d. IsOpen sessions (Some d) now place s) (sym (first_cookie c e place s first)) first.opens,
    λ is. record { earlier = []; cookie = c; later = []; split = e; closed = All-nil (IsClosed none_revoked sessions now); opens = is; unrevoked = λ never. never },
  )

-- ---- what the agent stored of a saved session

-- what a server reads of the stored text of a cookie with this name and this value
module _ (name value : List ℕ) (cookie : IsCookie (plain name value)) (is : IsHostName name) (kept : KeptView) (names : kept.name ≡ escape name) (values : kept.value ≡ escape value) where
  some_name : name ≢ []
  some_name e = false≢true (ap has_host_prefix (sym e) ∙ is.prefixed)

  plans : List ℕ → PlanView
  plans _ = record { scope = scope_of kept; is_secure = true }

  ours : IsOurs plans kept
  unfolding plans
  ours = record { name = name; value = value; named = record { cookie = cookie; name = some_name }; names = names; values = values; scope = refl; secure = λ _. refl }

  pub kept_name : kept.name ≡ name
  kept_name = names ∙ (plain_kept name is.plain).0

  read_back : field_cookies (sent_pair kept) ≡ plain name value ∷ []
  read_back =
      read_as plans (sent_pair kept) (kept ∷ []) (All-cons (IsOurs plans) kept [] ours (All-nil (IsOurs plans))) (sym (append-nil (sent_pair kept)))
      ∙ (λ i. plain (back name kept.name cookie.name names i) (back value kept.value cookie.value values i) ∷ [])

  pub original-kept : (site : RequestView) (now : DateTime) → original_of site now (Some kept) ≡ cond (is_sent site now kept) (Some (plain name value)) None
  original-kept site now =
      ap (λ o. cond (is_sent site now kept) o None)
      (ap (first_of_name kept.name) read_back
      ∙ ap (λ b. cond b (Some (plain name value)) None) ((bytes_eq-Decides kept.name name).1 kept_name))

-- ---- the last save

module _ (sessions : Sessions) (site : RequestView) (now : DateTime) (history : History) (session : SessionState) (save : Response) (kept : KeptView)
    (last : IsLastSave sessions site history session save kept) (is : IsHostName sessions.cookie.now.fields.name) where
  abbrev saved : Record
  saved = saved_cookie sessions last.nonce save.now session

  abbrev pub state : SessionState
  state = seen_at (second_of save.now) session

  abbrev pub shown : Record
  shown = plain saved.name saved.value

  pair : StoresPair save.rules save.site save.now saved last.set
  pair = stores_pair save.rules save.site save.now [] saved last.set (ap (verdict save.rules save.site save.now []) (sym last.text) ∙ last.stored)

  texts : IsCookie shown
  texts = record { name = last.cookie.name; value = last.cookie.value; path = tt; domain = tt; max_age = tt }

  -- a server reads it, if it is sent
  pub own_cookie-saved : own_cookie sessions site now history ≡ cond (is_sent site now kept) (Some shown) None
  own_cookie-saved =
      ap (original_of site now) last.left
      ∙ original-kept saved.name saved.value texts is kept (last.same.0 ∙ pair.name) (last.same.1 ∙ pair.value) site now

  -- it opens then, and at each time at which it lives
  opens_at : (time : DateTime) → LivesAt sessions time state → IsOpen sessions (Some shown) time 0 state
  opens_at time lives = last.holds shown refl time lives

  no_newer : (place : ℕ) (s : SessionState) → IsOpen sessions (Some shown) now place s → place ≡ 0
  no_newer zero s found = refl
  no_newer (suc n) s found = absurd (found.sealed.first 0 (session_text state) (omega arith) (opens_at save.now last.lives).sealed.opens)

  pub saved_opens : (place : ℕ) (s : SessionState) → (IsOpen sessions (own_cookie sessions site now history) now place s → HoldsOne sessions (own_cookie sessions site now history))
      → IsOpen sessions (own_cookie sessions site now history) now place s
      ↔ ((s ≡ state) × (place ≡ 0) × (is_sent site now kept ≡ true) × LivesAt sessions now s)
  saved_opens place s once = (
    λ found. by (is_sent site now kept) refl (subst (λ o. IsOpen sessions o now place s) own_cookie-saved found) (subst (HoldsOne sessions) own_cookie-saved (once found)),
    λ (same, first, sent, lives).
        subst (λ o. IsOpen sessions o now place s) (sym (own_cookie-saved ∙ ap (λ b. cond b (Some shown) None) sent))
        (subst (λ n. IsOpen sessions (Some shown) now n s) (sym first)
        (subst (λ t. IsOpen sessions (Some shown) now 0 t) (sym same) (opens_at now (subst (LivesAt sessions now) same lives)))),
  )
    where
      by : (b : Bool) → is_sent site now kept ≡ b → IsOpen sessions (cond b (Some shown) None) now place s → HoldsOne sessions (cond b (Some shown) None)
          → ((s ≡ state) × (place ≡ 0) × (is_sent site now kept ≡ true) × LivesAt sessions now s)
      by true e found one = (one now save.now place 0 s state found (opens_at save.now last.lives), no_newer place s found, e, found.lives)
      by false e found one = absurd found.sealed

-- ---- the request

module _ (sessions : Sessions) (agent : AgentView) (site : RequestView) (now : DateTime) where
  -- what opens of a header
  abbrev Answers : List ℕ → Option Opened → Type 0
  Answers header answer = (place : ℕ) (s : SessionState) → (answer ≡ Some (answer_of place s)) ↔ OpensFirst sessions (field_cookies header) now place s

  -- the cookie in which it is open holds no other session
  abbrev Once : List ℕ → Type 0
  Once header = (place : ℕ) (s : SessionState) (first : OpensFirst sessions (field_cookies header) now place s) → HoldsOne sessions (Some first.cookie)

  one_holds : (cookies : List Record) → ((place : ℕ) (s : SessionState) (first : OpensFirst sessions cookies now place s) → HoldsOne sessions (Some first.cookie))
      → (o : Option Record) → site_cookies sessions cookies ≡ option_to_list o → (place : ℕ) (s : SessionState) → IsOpen sessions o now place s → HoldsOne sessions o
  one_holds cookies once None e place s found = absurd found.sealed
  one_holds cookies once (Some c) e place s found =
      let first = (only_first sessions now cookies (Some c) e place s).1 found in
      subst (λ d. HoldsOne sessions (Some d)) (sym (first_cookie sessions now cookies c e place s first)) (once place s first)

  module _ (header : List ℕ) (sent : IsOrderedHeader site now agent.cookies header) (answer : Option Opened) (answers : Answers header answer) (history : History) (guarded : IsGuarded sessions agent now history) where
    reads : ReadsOnly header sessions.cookie.now.fields.name (own_cookie sessions site now history)
    reads = last_own history site now guarded.order header (subst (λ cs. IsHeader site now cs header) guarded.came sent.is) sessions.cookie.now.fields.name guarded.named

    opens_own : (place : ℕ) (s : SessionState) → (answer ≡ Some (answer_of place s)) ↔ IsOpen sessions (own_cookie sessions site now history) now place s
    opens_own place s =
        let first = only_first sessions now (field_cookies header) (own_cookie sessions site now history) reads.cookies place s in
        (λ e. first.0 ((answers place s).0 e), λ found. (answers place s).1 (first.1 found))

    opens_saved : Once header → (session : SessionState) (save : Response) (kept : KeptView) → IsLastSave sessions site history session save kept
        → (place : ℕ) (s : SessionState) → (answer ≡ Some (answer_of place s))
        ↔ ((s ≡ seen_at (second_of save.now) session) × (place ≡ 0) × (is_sent site now kept ≡ true) × LivesAt sessions now s)
    opens_saved once session save kept last place s =
        let own = opens_own place s in
        let saved = saved_opens sessions site now history session save kept last guarded.named place s
        (one_holds (field_cookies header) once (own_cookie sessions site now history) reads.cookies place s) in
        (λ e. saved.0 (own.0 e), λ all. own.1 (saved.1 all))

  -- ---- whatever happened to the agent

  All-split : (P : Record → Type 0) (earlier later : List Record) (c : Record) → All P (earlier ++ c ∷ later) → P c
  All-split P [] later c all = All-head P c later all
  All-split P (d ∷ earlier) later c all = All-split P earlier later c (All-tail P d (earlier ++ c ∷ later) all)

  opens_set : (header : List ℕ) → IsOrderedHeader site now agent.cookies header → (answer : Option Opened) → Answers header answer → OpensOwnSet sessions agent site now answer
  opens_set header sent answer answers history came prefixed place s e =
      let first = (answers place s).0 e in
      let set = own_set history site now header (subst (λ cs. IsHeader site now cs header) came sent.is) in
      let named : Record → Bool = λ c. bytes_eq sessions.cookie.now.fields.name c.name in
      let here : All (λ c. (has_host_prefix c.name ≡ true → IsOwnSet site history c) × (named c ≡ true)) (site_cookies sessions (field_cookies header))
      = All-both (λ c. has_host_prefix c.name ≡ true → IsOwnSet site history c) (λ c. named c ≡ true) (filter named (field_cookies header))
      (All-filter named (λ c. has_host_prefix c.name ≡ true → IsOwnSet site history c) (field_cookies header) set.cookies)
      (filter_passes named (field_cookies header)) in
      let one = All-split (λ c. (has_host_prefix c.name ≡ true → IsOwnSet site history c) × (named c ≡ true)) first.earlier first.later first.cookie
      (subst (All (λ c. (has_host_prefix c.name ≡ true → IsOwnSet site history c) × (named c ≡ true))) first.split here) in
      (first.cookie, one.0 (ap has_host_prefix (sym ((bytes_eq-Decides sessions.cookie.now.fields.name first.cookie.name).0 one.1)) ∙ prefixed), first.opens)

  -- what the call that opens the header's session promises
  pub request_opened : {E : Type 0} (refusal : E) (header : List ℕ) → IsOrderedHeader site now agent.cookies header → (result : Result (Option Opened) E)
      → Gives refusal result (Answers header) → Gives refusal result (IsRequestOpened sessions agent site now)
  request_opened refusal header sent (Ok answer) answers = record { header = header; sent = sent; opened = answers }
  request_opened refusal header sent (Err error) is = is

  pub request_own : {E : Type 0} (refusal : E) (header : List ℕ) → IsOrderedHeader site now agent.cookies header → (result : Result (Option Opened) E)
      → Gives refusal result (Answers header) → IfOk result (OpensOnlyOwn sessions agent site now)
  request_own refusal header sent (Ok answer) answers = opens_own header sent answer answers
  request_own refusal header sent (Err error) is = tt

  pub request_set : {E : Type 0} (refusal : E) (header : List ℕ) → IsOrderedHeader site now agent.cookies header → (result : Result (Option Opened) E)
      → Gives refusal result (Answers header) → IfOk result (OpensOwnSet sessions agent site now)
  request_set refusal header sent (Ok answer) answers = opens_set header sent answer answers
  request_set refusal header sent (Err error) is = tt

  pub request_saved : {E : Type 0} (refusal : E) (header : List ℕ) → IsOrderedHeader site now agent.cookies header → (result : Result (Option Opened) E)
      → Gives refusal result (Answers header) → IfOk result (λ _. Once header) → IfOk result (KeepsLastSave sessions agent site now)
  request_saved refusal header sent (Ok answer) answers once =
      λ history guarded session save kept last. opens_saved header sent answer answers history guarded once session save kept last
  request_saved refusal header sent (Err error) is once = tt
