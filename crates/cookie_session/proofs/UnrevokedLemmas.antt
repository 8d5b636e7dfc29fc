-- The session that opens, of those that are open, by what the store says of their ids.
use Rattle.std.proofs.Common.{◌≡◌, ◌↔◌, ℕ, zero, suc, List, [], ◌∷◌, ◌++◌, All, drop, map, take, Option, None, Some, option_map, Result, Ok, Err, IfOk, refl, sym, ap, subst, ◌∙◌}
use Rattle.std.proofs.lemmas.List.{take-map}
use Rattle.std.proofs.lemmas.List.Elements.{All-cons, All-head, All-nil, All-tail}
use Rattle.std.proofs.lemmas.Option.{none-some, same_Some, slice_get-map}
use Rattle.std.specs.List.{slice_get}
use Rattle.jiff.specs.Types.{DateTime}
use Rattle.cookie.specs.Record.{Record}
use Rattle.cookie_session.specs.Revocations.{AreSame, IsRevoked}
use Rattle.cookie_session.specs.Session.{SessionState}
use Rattle.cookie_session.specs.Sessions.{AreFound, IsFirstLeft, IsOneOf, OpensOne, OpensUnrevoked, site_cookies}
use Rattle.cookie_session.specs.declared.opened.Opened.{Opened}
use Rattle.cookie_session.specs.declared.sessions.Sessions.{Sessions}
use Rattle.cookie_session.proofs.FirstLemmas.{all_closed, found_first, found_in, found_none}
use Rattle.cookie_session.proofs.SessionLemmas.{opened}

-- what is the same as the same is the same
pub same_again : (a b c : List ℕ → ℕ → Type 0) → AreSame a b → AreSame b c → AreSame a c
same_again a b c first second id until = (
  λ is. (first id until).0 ((second id until).0 is),
  λ is. (second id until).1 ((first id until).1 is),
)

-- what holds anyway holds if it is fine
pub always : {T E : Type 0} {P : Type 0} (r : Result T E) → P → IfOk r (λ _. P)
always (Ok x) holds = holds
always (Err e) holds = tt

-- the id of a session that was opened
abbrev pub id_of : Opened → List ℕ
id_of found = found.session.id

split_at : (all : List Opened) (n : ℕ) (found : Opened) → slice_get all n ≡ Some found → all ≡ take n all ++ found ∷ drop (suc n) all
split_at [] n found is = absurd (none-some found is)
split_at (one ∷ all) zero found is = ap (λ o. o ∷ all) (same_Some one found is)
split_at (one ∷ all) (suc n) found is = ap (λ os. one ∷ os) (split_at all n found is)

all_of_ids : (Gone : List ℕ → Type 0) (all : List Opened) → All Gone (map id_of all) → All (λ (o : Opened). Gone o.session.id) all
all_of_ids Gone [] are = All-nil (λ (o : Opened). Gone o.session.id)
all_of_ids Gone (one ∷ all) are = All-cons (λ (o : Opened). Gone o.session.id) one all (All-head Gone one.session.id (map id_of all) are)
    (all_of_ids Gone all (All-tail Gone one.session.id (map id_of all) are))

module _ (site : Sessions) (now : DateTime) (cookies : List Record) (all : List Opened) (are : AreFound site now (site_cookies site cookies) all) where
  -- what is opened is open in one of the cookies, whatever the place is
  pub one_opens : (answer : Option Opened) → IsOneOf all answer → (key : ℕ) (s : SessionState) → answer ≡ Some (opened s key) → OpensOne site cookies now key s
  one_opens answer (None, is) key s e = absurd (none-some (opened s key) (sym is ∙ e))
  one_opens answer (Some n, is) key s e =
      let split = split_at all n (opened s key) (sym is ∙ e) in
      let (earlier, later, cookie, whole, finds, closed) = found_in (λ id. ⊥) site now (site_cookies site cookies) all (take n all) (drop (suc n) all) (opened s key) are split in
      (earlier, later, cookie, whole, (finds key s).0 refl)

  module _ (set : List ℕ → ℕ → Type 0) where
    -- and at the first place whose session isn't revoked it is the session that opens
    pub first_opens : (answer : Option Opened) → IsFirstLeft set all answer → (key : ℕ) (s : SessionState)
        → (answer ≡ Some (opened s key)) ↔ OpensUnrevoked (IsRevoked set) site cookies now key s
    first_opens answer (None, is, gone) key s =
        let none = found_none (IsRevoked set) site now cookies (all_closed (IsRevoked set) site now (site_cookies site cookies) all are (all_of_ids (IsRevoked set) all gone)) key s in
        (λ e. none.0 (sym is ∙ e), λ first. is ∙ none.1 first)
    first_opens answer (Some n, is, (gone, (id, at, stays))) key s = by (slice_get all n) refl
      where
        by : (o : Option Opened) → slice_get all n ≡ o → (answer ≡ Some (opened s key)) ↔ OpensUnrevoked (IsRevoked set) site cookies now key s
        by None none = absurd (none-some id (sym (slice_get-map id_of all n ∙ ap (option_map id_of) none) ∙ at))
        by (Some found) there =
            let same : found.session.id ≡ id = same_Some found.session.id id (sym (slice_get-map id_of all n ∙ ap (option_map id_of) there) ∙ at) in
            let before = all_of_ids (IsRevoked set) (take n all) (subst (All (IsRevoked set)) (take-map id_of n all) gone) in
            let right = found_first (IsRevoked set) site now cookies all (take n all) (drop (suc n) all) found are (split_at all n found there) before
            (λ revoked. stays (subst (IsRevoked set) same revoked)) key s in
            (λ e. right.0 (sym there ∙ sym is ∙ e), λ first. is ∙ there ∙ right.1 first)
