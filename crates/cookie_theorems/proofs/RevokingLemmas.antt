-- Requests after a session was revoked, one after the other.
use Rattle.std.proofs.Common.{◌≡◌, ◌⊎◌, ◌≤◌, ◌<◌, ◌+◌, inl, inr, ℕ, All, List, [], ◌∷◌, ◌++◌, drop, drop_of_length-le, get_or, length, take, Option, None, Some, Result, Ok, Err, OnErr, OnOk, refl, sym, ap, subst, ◌∙◌, arith}
use Rattle.std.proofs.lemmas.Bool.Decides.{leb_tells}
use Rattle.std.proofs.lemmas.List.{append-nil, append_assoc, drop_more, take_all, take_more}
use Rattle.std.proofs.lemmas.List.Elements.{All-cons, All-head, All-nil, All-tail, All-take}
use Rattle.std.proofs.lemmas.Slice.Zip.{all_zipped_more}
use Rattle.std.specs.List.{AllZip}
use Rattle.jiff.specs.Types.{DateTime}
use Rattle.cookie.specs.Record.{Record}
use Rattle.cookie_session.specs.Revocations.{AreForgotten, AreSame, IsRevoked, IsRevokedToo}
use Rattle.cookie_session.specs.Seconds.{second_of}
use Rattle.cookie_session.specs.Session.{SessionState}
use Rattle.cookie_session.specs.Sessions.{IsClosed, OpensUnrevoked}
use Rattle.cookie_session.specs.declared.opened.Opened.{Opened}
use Rattle.cookie_session.specs.declared.sessions.Sessions.{Sessions}
use Rattle.cookie_theorems.specs.Revoking.{AreAnswers, AreBefore, AreInOrder, AreLeft, IsAmong, IsAnswer, IsOther, IsRevokedToEnd, OpensOther, left_after, left_at, revoked_too}
use Rattle.cookie_theorems.specs.declared.site_request.SiteRequest.{SiteRequest}

-- ---- what is revoked alike

abbrev Set : Type 1
Set = List ℕ → ℕ → Type 0

pub same_back : (old new : Set) → AreSame old new → AreSame new old
same_back old new same id second = ((same id second).1, (same id second).0)

pub same_then : (a b c : Set) → AreSame a b → AreSame b c → AreSame a c
same_then a b c first second id until = (
  λ is. (first id until).0 ((second id until).0 is),
  λ is. (second id until).1 ((first id until).1 is),
)

left_alike : (now : ℕ) (a b : Set) → AreSame a b → AreSame (left_at now a) (left_at now b)
left_alike now a b same id second = (
  λ is. ((same id (now + 1)).0 is.0, (same id second).0 is.1),
  λ is. ((same id (now + 1)).1 is.0, (same id second).1 is.1),
)

all_left_alike : (requests : List SiteRequest) (a b : Set) → AreSame a b → AreSame (left_after requests a) (left_after requests b)
all_left_alike [] a b same = same
all_left_alike (request ∷ requests) a b same =
    all_left_alike requests (left_at (second_of request.time) a) (left_at (second_of request.time) b) (left_alike (second_of request.time) a b same)

-- it opens alike
module _ (old new : Set) (same : AreSame old new) (site : Sessions) (now : DateTime) where
  closed_alike : (cookie : Record) → IsClosed (IsRevoked old) site now cookie → IsClosed (IsRevoked new) site now cookie
  closed_alike cookie closed place s is = closed place s (is.0, λ gone. is.1 ((same s.id 0).1 gone))

  pub first_alike : (cookies : List Record) (place : ℕ) (s : SessionState)
      → OpensUnrevoked (IsRevoked old) site cookies now place s → OpensUnrevoked (IsRevoked new) site cookies now place s
  first_alike cookies place s first = record {
    earlier = first.earlier;
    cookie = first.cookie;
    later = first.later;
    split = first.split;
    closed = λ k d below. closed_alike (get_or first.earlier k d) (first.closed k d below);
    opens = first.opens;
    unrevoked = λ gone. first.unrevoked ((same s.id 0).0 gone);
  }

pub answer_alike : (old new : Set) → AreSame old new → (request : SiteRequest) (answer : Option Opened) → IsAnswer old request answer → IsAnswer new request answer
answer_alike old new same request answer is place s = (
  λ e. first_alike old new same request.sessions request.time _ place s ((is place s).0 e),
  λ first. (is place s).1 (first_alike new old (same_back old new same) request.sessions request.time _ place s first),
)

pub answers_alike : (requests : List SiteRequest) (answers : List (Option Opened)) (old new : Set) → AreSame old new
    → AreAnswers old requests answers → AreAnswers new requests answers
answers_alike [] [] old new same are = tt
answers_alike [] (answer ∷ answers) old new same are = absurd are
answers_alike (request ∷ requests) [] old new same are = absurd are
answers_alike (request ∷ requests) (answer ∷ answers) old new same are =
    let left = left_alike (second_of request.time) old new same in
    let a = left_at (second_of request.time) old in
    let b = left_at (second_of request.time) new in
    (answer_alike a b left request answer are.0, answers_alike requests answers a b left are.1)

-- ---- what is left

-- nothing more is revoked
fewer_left : (now : ℕ) (start set : Set) → ((id : List ℕ) (second : ℕ) → set id second → start id second)
    → (id : List ℕ) (second : ℕ) → left_at now set id second → start id second
fewer_left now start set fewer id second is = fewer id second is.1

-- before its end a session stays revoked
stays_at : (gone : SessionState) (now : ℕ) (set : Set) → now < gone.end → IsRevokedToEnd set gone → IsRevokedToEnd (left_at now set) gone
stays_at gone now set early revoked second within = (revoked (now + 1) (omega (arith, early)), revoked second within)

pub stays_after : (gone : SessionState) (requests : List SiteRequest) (set : Set) → AreBefore gone.end requests
    → IsRevokedToEnd set gone → IsRevokedToEnd (left_after requests set) gone
stays_after gone [] set before revoked = revoked
stays_after gone (request ∷ requests) set before revoked =
    let Early : SiteRequest → Type 0 = λ r. second_of r.time < gone.end in
    stays_after gone requests (left_at (second_of request.time) set) (All-tail Early request requests before)
    (stays_at gone (second_of request.time) set (All-head Early request requests before) revoked)

pub still_revoked : (gone : SessionState) (old new : Set) → AreSame old new → IsRevokedToEnd old gone → IsRevokedToEnd new gone
still_revoked gone old new same revoked second within = (same gone.id second).1 (revoked second within)

pub stays_left : (gone : SessionState) (requests : List SiteRequest) (old new : Set) → AreLeft requests old new → AreBefore gone.end requests
    → IsRevokedToEnd old gone → IsRevokedToEnd new gone
stays_left gone requests old new left before revoked =
    still_revoked gone (left_after (take left.0 requests) old) new left.1
    (stays_after gone (take left.0 requests) old (All-take (λ r. second_of r.time < gone.end) left.0 requests before) revoked)

-- after a request more
left_more : (requests : List SiteRequest) (request : SiteRequest) (set : Set)
    → left_after (requests ++ request ∷ []) set ≡ left_at (second_of request.time) (left_after requests set)
left_more [] request set = refl
left_more (first ∷ requests) request set = left_more requests request (left_at (second_of first.time) set)

-- ---- what the answers say

-- each that isn't revoked opens, if fewer are revoked now
other_opens : (old new : Set) → ((id : List ℕ) (second : ℕ) → new id second → old id second) → (request : SiteRequest) (answer : Option Opened)
    → IsAnswer new request answer → OpensOther (IsRevoked old) request answer
other_opens old new fewer request answer answers place s first stays = (answers place s).1 (record {
  earlier = first.earlier;
  cookie = first.cookie;
  later = first.later;
  split = first.split;
  closed = λ k d below place' s' is. first.closed k d below place' s' (is.0, λ never. never);
  opens = first.opens;
  unrevoked = λ gone. stays (fewer s.id 0 gone);
})

others_from : (start : Set) (requests : List SiteRequest) (answers : List (Option Opened)) (set : Set) → ((id : List ℕ) (second : ℕ) → set id second → start id second)
    → AreAnswers set requests answers → AllZip (OpensOther (IsRevoked start)) requests answers
others_from start [] [] set fewer are = tt
others_from start [] (answer ∷ answers) set fewer are = absurd are
others_from start (request ∷ requests) [] set fewer are = absurd are
others_from start (request ∷ requests) (answer ∷ answers) set fewer are =
    let left = left_at (second_of request.time) set in
    let less = fewer_left (second_of request.time) start set fewer in
    (other_opens start left less request answer are.0, others_from start requests answers left less are.1)

pub others_open : (requests : List SiteRequest) (answers : List (Option Opened)) (set : Set) → AreAnswers set requests answers
    → AllZip (OpensOther (IsRevoked set)) requests answers
others_open requests answers set are = others_from set requests answers set (λ id second is. is) are

module _ (gone : SessionState) where
  -- revoked to its end, or over since this second
  abbrev IsGone : Set → ℕ → Type 0
  IsGone set last = IsRevokedToEnd set gone ⊎ (gone.end ≤ last)

  -- so it goes on
  goes_on : (set : Set) (last now : ℕ) → last ≤ now → IsGone set last → IsGone (left_at now set) now
  goes_on set last now later (inr past) = inr (omega (arith, past, later))
  goes_on set last now later (inl revoked) = elim (leb_tells gone.end now) [
    | inl past ↦ inr past.1
    | inr early ↦ inl (stays_at gone now set early.1 revoked)
  ]

  -- no copy of it opens
  no_copy : (set : Set) (request : SiteRequest) (answer : Option Opened) → IsAnswer set request answer → IsGone set (second_of request.time) → IsOther gone answer
  no_copy set request None is state = tt
  no_copy set request (Some o) is state = λ copies.
      let first = (is o.place o.session).0 refl in
      elim state [
        | inl revoked ↦ first.unrevoked (subst (λ id. set id 0) (sym copies.0) (revoked 0 (omega arith)))
        | inr past ↦ let lives = first.opens.lives.own in omega (arith, past, lives, copies.1)
      ]

  refused_from : (requests : List SiteRequest) (answers : List (Option Opened)) (set : Set) (last : ℕ) → AreInOrder last requests
      → IsGone set last → AreAnswers set requests answers → All (IsOther gone) answers
  refused_from [] [] set last order state are = All-nil (IsOther gone)
  refused_from [] (answer ∷ answers) set last order state are = absurd are
  refused_from (request ∷ requests) [] set last order state are = absurd are
  refused_from (request ∷ requests) (answer ∷ answers) set last order state are =
      let now = second_of request.time in
      let then = goes_on set last now order.0 state in
      All-cons (IsOther gone) answer answers (no_copy (left_at now set) request answer are.0 then)
      (refused_from requests answers (left_at now set) now order.1 then are.1)

  pub none_opens : (requests : List SiteRequest) (answers : List (Option Opened)) (set : Set) → AreInOrder 0 requests
      → IsRevokedToEnd set gone → AreAnswers set requests answers → All (IsOther gone) answers
  none_opens requests answers set order revoked are = refused_from requests answers set 0 order (inl revoked) are

-- ---- what is opened is among the cookies

module _ (requests : List SiteRequest) (i : ℕ) (answers : List (Option Opened)) (are : AllZip IsAmong (take i requests) answers) where
  pub among_more : (request : SiteRequest) (answer : Option Opened) → i < length requests → request ≡ get_or requests i request → IsAmong request answer
      → AllZip IsAmong (take (i + 1) requests) (answers ++ answer ∷ [])
  among_more request answer below is among =
      subst (λ rs. AllZip IsAmong rs (answers ++ answer ∷ [])) (sym (take_more requests i request below ∙ ap (λ r. take i requests ++ r ∷ []) (sym is)))
      (all_zipped_more IsAmong (take i requests) answers request answer are among)

  pub among_all : length requests ≤ i → AllZip IsAmong requests answers
  among_all past = subst (λ rs. AllZip IsAmong rs answers) (take_all i requests past) are

-- ---- a list of requests

module _ (start : Set) (requests : List SiteRequest) where
  -- what holds after some requests: what is left, and that answers to the others complete the answers
  pub record Stands (done : ℕ) (now : Set) (answers : List (Option Opened)) : Type 0 where
    pub left : AreSame (left_after (take done requests) start) now
    pub more : (rest : List (Option Opened)) → AreAnswers now (drop done requests) rest → AreAnswers start requests (answers ++ rest)

  module _ (i : ℕ) (old new : Set) (answers : List (Option Opened)) (before : Stands i old answers) (request : SiteRequest)
      (below : i < length requests) (is : request ≡ get_or requests i request) (forgotten : AreForgotten (second_of request.time) old new) where
    taken : take (i + 1) requests ≡ take i requests ++ request ∷ []
    taken = take_more requests i request below ∙ ap (λ r. take i requests ++ r ∷ []) (sym is)

    to_come : drop i requests ≡ request ∷ drop (i + 1) requests
    to_come = drop_more requests i request below ∙ ap (λ r. r ∷ drop (i + 1) requests) (sym is)

    left_now : AreSame (left_after (take (i + 1) requests) start) new
    left_now = subst (λ (s : Set). AreSame s new) (sym (ap (λ rs. left_after rs start) taken ∙ left_more (take i requests) request start))
        (same_then (left_at (second_of request.time) (left_after (take i requests) start)) (left_at (second_of request.time) old) new
        (left_alike (second_of request.time) (left_after (take i requests) start) old before.left) forgotten)

    -- also if the list of answers has no room for the next
    pub left_so_far : AreLeft requests start new
    left_so_far = (i + 1, left_now)

    pub after_one : (answer : Option Opened) → IsAnswer new request answer → Stands (i + 1) new (answers ++ answer ∷ [])
    after_one answer answered = record {
      left = left_now;
      more = λ rest are.
          let now = second_of request.time in
          let back = same_back (left_at now old) new forgotten in
          subst (AreAnswers start requests) (sym (append_assoc answers (answer ∷ []) rest))
          (before.more (answer ∷ rest) (subst (λ rs. AreAnswers old rs (answer ∷ rest)) (sym to_come)
          (answer_alike new (left_at now old) back request answer answered, answers_alike (drop (i + 1) requests) rest new (left_at now old) back are)));
    }

  -- after an error
  pub left_by_error : (i : ℕ) (old new : Set) (answers : List (Option Opened)) → Stands i old answers → (request : SiteRequest) → i < length requests → request ≡ get_or requests i request
      → AreSame old new ⊎ AreForgotten (second_of request.time) old new → AreLeft requests start new
  left_by_error i old new answers before request below is (inl same) = (i, same_then (left_after (take i requests) start) old new before.left same)
  left_by_error i old new answers before request below is (inr forgotten) = left_so_far i old new answers before request below is forgotten

  -- after all of them
  module _ (done : ℕ) (now : Set) (answers : List (Option Opened)) (stands : Stands done now answers) (past : length requests ≤ done) where
    pub answered_all : AreAnswers start requests answers
    answered_all = subst (AreAnswers start requests) (append-nil answers)
        (stands.more [] (subst (λ rs. AreAnswers now rs []) (sym (drop_of_length-le requests past)) tt))

    pub left_all : AreSame (left_after requests start) now
    left_all = subst (λ rs. AreSame (left_after rs start) now) (take_all done requests past) stands.left

-- ---- what holds of any result

pub on_ok : {T E P : Type 0} (result : Result T E) → P → OnOk result P
on_ok (Ok value) is = is
on_ok (Err error) is = tt

pub on_err : {T E P : Type 0} (result : Result T E) → P → OnErr result P
on_err (Ok value) is = tt
on_err (Err error) is = is

-- ---- once the session was revoked

module _ (gone : SessionState) (old new : Set) (too : IsRevokedToo gone.id gone.end old new) where
  pub revoked_to_end : IsRevokedToEnd new gone
  revoked_to_end second within = (too gone.id second).1 (inl (refl, within))

  -- what is revoked is that
  pub is_too : AreSame (revoked_too gone.id gone.end old) new
  is_too = too

  other_opens_too : (request : SiteRequest) (answer : Option Opened) → OpensOther (IsRevoked new) request answer
      → OpensOther (λ id. (id ≡ gone.id) ⊎ IsRevoked old id) request answer
  other_opens_too request answer opens place s first stays =
      opens place s first (λ there. elim ((too s.id 0).0 there) [ inl here ↦ stays (inl here.0) | inr before ↦ stays (inr before) ])

  -- what isn't revoked then wasn't before, and is another
  pub others_too : (requests : List SiteRequest) (answers : List (Option Opened)) → AllZip (OpensOther (IsRevoked new)) requests answers
      → AllZip (OpensOther (λ id. (id ≡ gone.id) ⊎ IsRevoked old id)) requests answers
  others_too [] [] all = tt
  others_too [] (answer ∷ answers) all = absurd all
  others_too (request ∷ requests) [] all = absurd all
  others_too (request ∷ requests) (answer ∷ answers) all = (other_opens_too request answer all.0, others_too requests answers all.1)

  -- what is left of what is revoked then
  pub left_too : (requests : List SiteRequest) (now : Set) → AreSame (left_after requests new) now → AreSame (left_after requests (revoked_too gone.id gone.end old)) now
  left_too requests now same = same_then (left_after requests (revoked_too gone.id gone.end old)) (left_after requests new) now
      (all_left_alike requests (revoked_too gone.id gone.end old) new is_too) same

  pub left_too_far : (requests : List SiteRequest) (now : Set) → AreLeft requests new now → AreLeft requests (revoked_too gone.id gone.end old) now
  left_too_far requests now left = (left.0, left_too (take left.0 requests) now left.1)
