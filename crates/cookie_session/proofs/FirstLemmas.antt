-- The first cookie of the site's name in which a session is open that isn't revoked.
use Rattle.std.proofs.Common.{◌≡◌, ◌↔◌, ℕ, ◌+◌, ◌<◌, Bool, true, false, cond, List, [], ◌∷◌, ◌++◌, All, append-nil, length, take, get_or, Option, None, Some, Result, Ok, Err, inl, inr, refl, sym, ap, subst, ◌∙◌}
use Rattle.std.proofs.lemmas.List.Elements.{All-append, All-cons, All-head, All-nil, All-tail, filter_more}
use Rattle.std.proofs.lemmas.Option.{none-some, same_Some}
use Rattle.std.specs.FinMap.{get, get-empty}
use Rattle.std.specs.Option.{option_or}
use Rattle.std.specs.Str.{bytes_eq}
use Rattle.jiff.specs.Types.{DateTime}
use Rattle.cookie.specs.Jar.{Name, empty_jar, name_cmp, overlay, view}
use Rattle.cookie.specs.Memory.{Gives}
use Rattle.cookie.specs.Originals.{first_of_name, with_originals}
use Rattle.cookie.specs.Record.{Record}
use Rattle.cookie.proofs.OriginalLemmas.{has_first, same_delta}
use Rattle.cookie_session.specs.Revocations.{none_revoked}
use Rattle.cookie_session.specs.Session.{SessionState}
use Rattle.cookie_session.specs.Sessions.{AreFound, EachHoldsOne, HoldsOne, IsClosed, IsFound, IsOpen, IsOpenUnrevoked, OpensFirst, OpensNone, OpensUnrevoked, site_cookies}
use Rattle.cookie_session.specs.declared.opened.Opened.{Opened}
use Rattle.cookie_session.specs.declared.sessions.Sessions.{Sessions}
use Rattle.cookie_session.proofs.SessionLemmas.{opened}

same_heads : {X : Type 0} (a b : X) (xs ys : List X) → a ∷ xs ≡ b ∷ ys → (a ≡ b) × (xs ≡ ys)
same_heads a b xs ys e = (cc, cc)

module _ (IsRevoked : List ℕ → Type 0) (site : Sessions) (now : DateTime) where
  abbrev pub Closed : List Record → Type 0
  Closed cookies = All (IsClosed IsRevoked site now) cookies

  -- the first that isn't closed is the same, however the list is split there
  same_first : (xs ys : List Record) (c d : Record) (cs ds : List Record) → xs ++ c ∷ cs ≡ ys ++ d ∷ ds → Closed xs → Closed ys
      → ¬ (IsClosed IsRevoked site now c) → ¬ (IsClosed IsRevoked site now d) → c ≡ d
  same_first [] [] c d cs ds e left right here there = (same_heads c d cs ds e).0
  same_first [] (y ∷ ys) c d cs ds e left right here there =
      absurd (here (subst (IsClosed IsRevoked site now) (sym (same_heads c y cs (ys ++ d ∷ ds) e).0) (All-head (IsClosed IsRevoked site now) y ys right)))
  same_first (x ∷ xs) [] c d cs ds e left right here there =
      absurd (there (subst (IsClosed IsRevoked site now) (same_heads x d (xs ++ c ∷ cs) ds e).0 (All-head (IsClosed IsRevoked site now) x xs left)))
  same_first (x ∷ xs) (y ∷ ys) c d cs ds e left right here there =
      same_first xs ys c d cs ds (same_heads x y (xs ++ c ∷ cs) (ys ++ d ∷ ds) e).1 (All-tail (IsClosed IsRevoked site now) x xs left)
      (All-tail (IsClosed IsRevoked site now) y ys right) here there

  is_not_closed : (cookie : Record) (place : ℕ) (s : SessionState) → IsOpenUnrevoked IsRevoked site (Some cookie) now place s
      → ¬ (IsClosed IsRevoked site now cookie)
  is_not_closed cookie place s is closed = closed place s is

  -- where no session is found, none is open
  none_closed : (cookie : Record) → IsFound site now cookie None → IsClosed IsRevoked site now cookie
  none_closed cookie none place s is = none-some (opened s place) ((none place s).1 is.0)

  -- where the one that is found is revoked, none is open but a revoked one
  revoked_closed : (cookie : Record) (found : Opened) → IsFound site now cookie (Some found) → IsRevoked found.session.id → IsClosed IsRevoked site now cookie
  revoked_closed cookie found finds gone place s is =
      is.1 (subst IsRevoked (ap (λ (o : Opened). o.session.id) (same_Some found (opened s place) ((finds place s).1 is.0))) gone)

  -- ---- what is found in cookies

  -- each session that is found is open in a cookie; if those before it are revoked, the cookies before that one are closed
  pub found_in : (cookies : List Record) (all before after : List Opened) (found : Opened) → AreFound site now cookies all → all ≡ before ++ found ∷ after
      → (earlier later : List Record) × (cookie : Record) × (cookies ≡ earlier ++ cookie ∷ later) × IsFound site now cookie (Some found)
      × (All (λ (o : Opened). IsRevoked o.session.id) before → Closed earlier)
  found_in [] all before after found none e = absurd (nowhere before (sym none ∙ e))
    where
      nowhere : (xs : List Opened) → [] ≡ xs ++ found ∷ after → ⊥
      nowhere [] e = cc
      nowhere (x ∷ xs) e = cc
  found_in (cookie ∷ cookies) all before after found (inl (none, rest)) e =
      let (earlier, later, other, split, finds, closed) = found_in cookies all before after found rest e in (
        cookie ∷ earlier,
        later,
        other,
        ap (λ cs. cookie ∷ cs) split,
        finds,
        λ gone. All-cons (IsClosed IsRevoked site now) cookie earlier (none_closed cookie none) (closed gone),
      )
  found_in (cookie ∷ cookies) all [] after found (inr (first, rest, is, finds, later)) e =
      let same = same_heads first found rest after (sym is ∙ e) in
      ([], cookies, cookie, refl, subst (λ o. IsFound site now cookie (Some o)) same.0 finds, λ gone. All-nil (IsClosed IsRevoked site now))
  found_in (cookie ∷ cookies) all (one ∷ before) after found (inr (first, rest, is, finds, more)) e =
      let same = same_heads first one rest (before ++ found ∷ after) (sym is ∙ e) in
      let (earlier, later, other, split, there, closed) = found_in cookies rest before after found more same.1 in (
        cookie ∷ earlier,
        later,
        other,
        ap (λ cs. cookie ∷ cs) split,
        there,
        λ gone. All-cons (IsClosed IsRevoked site now) cookie earlier
            (revoked_closed cookie one (subst (λ o. IsFound site now cookie (Some o)) same.0 finds) (All-head (λ (o : Opened). IsRevoked o.session.id) one before gone))
            (closed (All-tail (λ (o : Opened). IsRevoked o.session.id) one before gone)),
      )

  -- if each that is found is revoked, each cookie is closed
  pub all_closed : (cookies : List Record) (all : List Opened) → AreFound site now cookies all → All (λ (o : Opened). IsRevoked o.session.id) all → Closed cookies
  all_closed [] all none gone = All-nil (IsClosed IsRevoked site now)
  all_closed (cookie ∷ cookies) all (inl (none, rest)) gone =
      All-cons (IsClosed IsRevoked site now) cookie cookies (none_closed cookie none) (all_closed cookies all rest gone)
  all_closed (cookie ∷ cookies) all (inr (first, rest, is, finds, more)) gone =
      let Gone : Opened → Type 0 = λ o. IsRevoked o.session.id in
      let are = subst (All Gone) is gone in
      All-cons (IsClosed IsRevoked site now) cookie cookies (revoked_closed cookie first finds (All-head Gone first rest are)) (all_closed cookies rest more (All-tail Gone first rest are))

  module _ (cookies : List Record) where
    -- if each of them is closed, no session is found
    pub found_none : Closed (site_cookies site cookies) → (place : ℕ) (s : SessionState)
        → (◌≡◌ {A = Option Opened} None (Some (opened s place))) ↔ OpensUnrevoked IsRevoked site cookies now place s
    found_none closed place s = (
      λ e. absurd (none-some (opened s place) e),
      λ first.
          let rest = back_closed first.earlier (first.cookie ∷ first.later) (subst Closed first.split closed) in
          absurd (is_not_closed first.cookie place s (first.opens, first.unrevoked) (All-head (IsClosed IsRevoked site now) first.cookie first.later rest)),
    )
      where
        back_closed : (xs ys : List Record) → Closed (xs ++ ys) → Closed ys
        back_closed [] ys are = are
        back_closed (x ∷ xs) ys are = back_closed xs ys (All-tail (IsClosed IsRevoked site now) x (xs ++ ys) are)

    -- the first that is found and isn't revoked is the session that opens
    pub found_first : (all before after : List Opened) (found : Opened) → AreFound site now (site_cookies site cookies) all → all ≡ before ++ found ∷ after
        → All (λ (o : Opened). IsRevoked o.session.id) before → ¬ (IsRevoked found.session.id)
        → (place : ℕ) (s : SessionState) → (Some found ≡ Some (opened s place)) ↔ OpensUnrevoked IsRevoked site cookies now place s
    found_first all before after found are e gone stays place s =
        let (earlier, later, cookie, split, finds, closed) = found_in (site_cookies site cookies) all before after found are e in
        let same_id : Some found ≡ Some (opened s place) → found.session.id ≡ s.id = λ is. ap (λ (o : Opened). o.session.id) (same_Some found (opened s place) is) in
        let open_here : IsOpenUnrevoked IsRevoked site (Some cookie) now found.place found.session = ((finds found.place found.session).0 refl, stays) in (
          λ is. record {
            earlier = earlier;
            cookie = cookie;
            later = later;
            split = split;
            closed = closed gone;
            opens = (finds place s).0 is;
            unrevoked = λ revoked. stays (subst IsRevoked (sym (same_id is)) revoked);
          },
          λ first.
              let at = same_first first.earlier earlier first.cookie cookie first.later later (sym first.split ∙ split) first.closed (closed gone)
              (is_not_closed first.cookie place s (first.opens, first.unrevoked)) (is_not_closed cookie found.place found.session open_here) in
              (finds place s).1 (subst (λ c. IsOpen site (Some c) now place s) at first.opens),
        )

module _ (site : Sessions) (now : DateTime) where
  -- ---- one cookie more

  abbrev Holds : Record → Type 0
  Holds cookie = HoldsOne site (Some cookie)

  found_more : (cookies : List Record) (all : List Opened) (cookie : Record) → AreFound site now cookies all → IsFound site now cookie None → AreFound site now (cookies ++ cookie ∷ []) all
  found_more [] all cookie are none = inl (none, are)
  found_more (c ∷ cookies) all cookie (inl (is, rest)) none = inl (is, found_more cookies all cookie rest none)
  found_more (c ∷ cookies) all cookie (inr (first, later, e, finds, rest)) none = inr (first, later, e, finds, found_more cookies later cookie rest none)

  found_too : (cookies : List Record) (all : List Opened) (cookie : Record) (found : Opened) → AreFound site now cookies all → IsFound site now cookie (Some found)
      → AreFound site now (cookies ++ cookie ∷ []) (all ++ found ∷ [])
  found_too [] all cookie found are finds = inr (found, [], ap (λ os. os ++ found ∷ []) are, finds, refl)
  found_too (c ∷ cookies) all cookie found (inl (is, rest)) finds = inl (is, found_too cookies all cookie found rest finds)
  found_too (c ∷ cookies) all cookie found (inr (first, later, e, is, rest)) finds =
      inr (first, later ++ found ∷ [], ap (λ os. os ++ found ∷ []) e, is, found_too cookies later cookie found rest finds)

  module _ (cookies : List Record) (i : ℕ) (cookie : Record) (below : i < length cookies) (is : cookie ≡ get_or cookies i cookie) where
    -- those of the name among the first of them
    abbrev pub so_far : ℕ → List Record
    so_far n = site_cookies site (take n cookies)

    module _ (named : bytes_eq site.cookie.now.fields.name cookie.name ≡ true) where
      -- those of the name, with this one
      one_more : so_far (i + 1) ≡ so_far i ++ cookie ∷ []
      one_more =
          filter_more (λ c. bytes_eq site.cookie.now.fields.name c.name) cookies i cookie below
          ∙ ap (λ c. so_far i ++ cond (bytes_eq site.cookie.now.fields.name c.name) (c ∷ []) []) (sym is)
          ∙ ap (λ b. so_far i ++ cond b (cookie ∷ []) []) named

      pub none_more : (all : List Opened) → AreFound site now (so_far i) all → IsFound site now cookie None → AreFound site now (so_far (i + 1)) all
      none_more all are none = subst (λ cs. AreFound site now cs all) (sym one_more) (found_more (so_far i) all cookie are none)

      pub some_more : (all : List Opened) (found : Opened) → AreFound site now (so_far i) all → IsFound site now cookie (Some found)
          → AreFound site now (so_far (i + 1)) (all ++ found ∷ [])
      some_more all found are finds = subst (λ cs. AreFound site now cs (all ++ found ∷ [])) (sym one_more) (found_too (so_far i) all cookie found are finds)

      pub holds_more : EachHoldsOne site (so_far i) → HoldsOne site (Some cookie) → EachHoldsOne site (so_far (i + 1))
      holds_more before this = subst (EachHoldsOne site) (sym one_more) (All-append Holds (so_far i) (cookie ∷ []) before (All-cons Holds cookie [] this (All-nil Holds)))

    -- one of another name changes nothing
    pub other_more : bytes_eq site.cookie.now.fields.name cookie.name ≡ false → so_far (i + 1) ≡ so_far i
    other_more other =
        filter_more (λ c. bytes_eq site.cookie.now.fields.name c.name) cookies i cookie below
        ∙ ap (λ c. so_far i ++ cond (bytes_eq site.cookie.now.fields.name c.name) (c ∷ []) []) (sym is)
        ∙ ap (λ b. so_far i ++ cond b (cookie ∷ []) []) other ∙ append-nil (so_far i)

  -- ---- what each of them holds

  -- so the cookie that opens holds one session
  pub once_first : (IsRevoked : List ℕ → Type 0) (cookies : List Record) → EachHoldsOne site (site_cookies site cookies) → (place : ℕ) (s : SessionState)
      → (first : OpensUnrevoked IsRevoked site cookies now place s) → HoldsOne site (Some first.cookie)
  once_first IsRevoked cookies each place s first = head first.earlier (subst (EachHoldsOne site) first.split each)
    where
      head : (xs : List Record) → EachHoldsOne site (xs ++ first.cookie ∷ first.later) → HoldsOne site (Some first.cookie)
      head [] are = All-head Holds first.cookie first.later are
      head (x ∷ xs) are = head xs (All-tail Holds x (xs ++ first.cookie ∷ first.later) are)

  -- of no cookie the first holds no session
  one_of_none : HoldsOne site (first_of_name site.cookie.now.fields.name [])
  one_of_none time later place other_place session other is also = absurd is.sealed

  -- and so does the first of the name
  pub holds_first : (cookies : List Record) → EachHoldsOne site (site_cookies site cookies) → HoldsOne site (first_of_name site.cookie.now.fields.name cookies)
  holds_first [] each = one_of_none
  holds_first (cookie ∷ cookies) each = by (bytes_eq site.cookie.now.fields.name cookie.name) each (holds_first cookies)
    where
      by : (b : Bool) → EachHoldsOne site (cond b (cookie ∷ site_cookies site cookies) (site_cookies site cookies))
          → (EachHoldsOne site (site_cookies site cookies) → HoldsOne site (first_of_name site.cookie.now.fields.name cookies))
          → HoldsOne site (cond b (Some cookie) (first_of_name site.cookie.now.fields.name cookies))
      by true are rest = All-head Holds cookie (site_cookies site cookies) are
      by false are rest = rest are

  -- where no session is open in any of them, none is found
  pub none_found : (cookies : List Record) (all : List Opened) → AreFound site now (site_cookies site cookies) all → OpensNone site cookies now → all ≡ []
  none_found cookies [] are none = refl
  none_found cookies (found ∷ all) are none =
      let (earlier, later, cookie, split, finds, closed) = found_in none_revoked site now (site_cookies site cookies) (found ∷ all) [] all found are refl in
      absurd (none found.place found.session (earlier, later, cookie, split, (finds found.place found.session).0 refl))

  -- where none is found, no session is open in any of them
  pub empty_none : (cookies : List Record) (all : List Opened) → AreFound site now (site_cookies site cookies) all → all ≡ [] → OpensNone site cookies now
  empty_none cookies all are empty place s (earlier, later, cookie, split, opens) = closed_at earlier (subst Shut split shut) place s (opens, λ gone. gone)
    where
      Shut : List Record → Type 0
      Shut = Closed none_revoked site now

      shut : Shut (site_cookies site cookies)
      shut = all_closed none_revoked site now (site_cookies site cookies) all are (subst (All (λ (o : Opened). ⊥)) (sym empty) (All-nil (λ (o : Opened). ⊥)))

      closed_at : (xs : List Record) → Shut (xs ++ cookie ∷ later) → IsClosed none_revoked site now cookie
      closed_at [] are = All-head (IsClosed none_revoked site now) cookie later are
      closed_at (x ∷ xs) are = closed_at xs (All-tail (IsClosed none_revoked site now) x (xs ++ cookie ∷ later) are)

  -- ---- the first cookie of the name

  -- if it opens, it is the first that does
  first_opens : (cookies : List Record) (place : ℕ) (s : SessionState) → IsOpen site (first_of_name site.cookie.now.fields.name cookies) now place s
      → OpensFirst site cookies now place s
  first_opens [] place s is = absurd is.sealed
  first_opens (cookie ∷ cookies) place s is = by (bytes_eq site.cookie.now.fields.name cookie.name) refl is (first_opens cookies place s)
    where
      name : List ℕ
      name = site.cookie.now.fields.name

      by : (b : Bool) → bytes_eq name cookie.name ≡ b → IsOpen site (cond b (Some cookie) (first_of_name name cookies)) now place s
          → (IsOpen site (first_of_name name cookies) now place s → OpensFirst site cookies now place s)
          → OpensFirst site (cookie ∷ cookies) now place s
      by true same opens later = record {
        earlier = [];
        cookie = cookie;
        later = site_cookies site cookies;
        split = ap (λ b. cond b (cookie ∷ site_cookies site cookies) (site_cookies site cookies)) same;
        closed = All-nil (IsClosed none_revoked site now);
        opens = opens;
        unrevoked = λ never. never;
      }
      by false other opens later =
          let first = later opens in
          record {
            earlier = first.earlier;
            cookie = first.cookie;
            later = first.later;
            split = ap (λ b. cond b (cookie ∷ site_cookies site cookies) (site_cookies site cookies)) other ∙ first.split;
            closed = first.closed;
            opens = first.opens;
            unrevoked = first.unrevoked;
          }

  -- what the jar of these cookies has under a name is the first that has the name
  shown_first : (cookies : List Record) (name : Name) → view (with_originals cookies empty_jar) name ≡ first_of_name name cookies
  shown_first cookies name =
      let jar = with_originals cookies empty_jar in
      ap (λ d. overlay (get d name) (get jar.originals name)) (same_delta cookies empty_jar)
      ∙ ap (λ e. overlay e (get jar.originals name)) (get-empty name_cmp name)
      ∙ (has_first cookies empty_jar).originals name
      ∙ ap (λ o. option_or o (first_of_name name cookies)) (get-empty name_cmp name)

  -- so a session that is open in their jar is open in the first cookie that opens
  jar_opens : (cookies : List Record) (place : ℕ) (s : SessionState) → IsOpen site (view (with_originals cookies empty_jar) site.cookie.now.fields.name) now place s
      → OpensFirst site cookies now place s
  jar_opens cookies place s is =
      first_opens cookies place s (subst (λ o. IsOpen site o now place s) (shown_first cookies site.cookie.now.fields.name) is)

  -- and is the one that is found
  pub jar_found : {E : Type 0} (refusal : E) (result : Result (Option Opened) E) (cookies : List Record)
      → Gives refusal result (λ answer. (place : ℕ) (s : SessionState) → (answer ≡ Some (opened s place)) ↔ OpensFirst site cookies now place s)
      → Gives refusal result (λ answer. (place : ℕ) (s : SessionState)
      → IsOpen site (view (with_originals cookies empty_jar) site.cookie.now.fields.name) now place s
      → answer ≡ Some (opened s place))
  jar_found refusal (Ok answer) cookies answers = λ place s is. (answers place s).1 (jar_opens cookies place s is)
  jar_found refusal (Err error) cookies answers = answers
