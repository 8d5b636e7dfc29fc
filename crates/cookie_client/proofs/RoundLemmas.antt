-- The client of a request agrees with its jar.
use Rattle.std.proofs.Common.{◌≡◌, Bool, true, false, ◌||◌, cond, T, List, [], ◌∷◌, map, All, Option, Some, None, option_map, refl, sym, ap, subst, ◌∙◌, length, ℕ, suc}
use Rattle.std.proofs.lemmas.List.Elements.{All-head, All-tail, All-weaker}
use Rattle.std.proofs.lemmas.Slice.Eq.{bytes_eq-Decides}
use Rattle.std.specs.Cmp.Lexicographic.{nat_list_cmp_total, texts_ties}
use Rattle.std.specs.FinMap.{empty, get, insert, entries, find, get-entries, get-empty, same_map}
use Rattle.std.specs.List.{list_any}
use Rattle.std.specs.Option.{option_or}
use Rattle.std.specs.Str.{bytes_eq}
use Rattle.jiff.specs.Types.{DateTime}
use Rattle.cookie.specs.CookieOf.{header_cookies}
use Rattle.cookie.specs.History.{after_all}
use Rattle.cookie.specs.Jar.{Name, name_cmp, JarState, Change, empty_jar, AddOriginal, Add, Remove, ForceRemove, ResetDelta, after, overlay, view}
use Rattle.cookie.specs.Record.{Record, plain}
use Rattle.cookie.proofs.NameLemmas.{get_inserted, names_apart}
use Rattle.cookie.proofs.OriginalLemmas.{has_first, same_delta}
use Rattle.cookie_client.specs.Agreement.{HoldsOriginal, alters_original, value_of}
use Rattle.cookie_client.specs.Calls.{change_of, is_change, IsFitCall}
use Rattle.cookie_client.specs.Client.{Values, header_text}
use Rattle.cookie_client.specs.Exchange.{IsExchange, accepted_calls, changes_by}
use Rattle.cookie.specs.Originals.{field_cookies, first_of_name, jar_for, with_originals}
use Rattle.cookie_client.specs.Originals.{client_for, client_of_line, holding, holding_first, jar_of_line}
use Rattle.cookie_client.specs.Rounds.{IsFitChange, IsRound, AreRounds}
use Rattle.cookie_client.specs.ExchangeCode.{IsHeaderOf}
use Rattle.cookie_client.specs.declared.call.JarCall.{JarCall}
use Rattle.cookie_client.specs.declared.exchange.Played.{Played}
use Rattle.cookie_client.specs.declared.request.ClientRequest.{ClientRequest}
use Rattle.cookie_client.proofs.AgreementLemmas.{kept_originals, some_value}
use Rattle.cookie_client.proofs.HeaderLemmas.{Pair, plain_of}

-- ---- the cookies of a client's header

-- the cookies of a client's header are its names and values
header-cookies : (client : Values) (header : List ℕ) → IsHeaderOf client header → field_cookies (header_text client) ≡ map plain_of (entries client)
header-cookies client header is = ap field_cookies (sym is.text) ∙ is.read

-- ---- the originals of a new jar

-- the first pair of the name is what the client has there
first_plain : (name : Name) (es : List Pair) → first_of_name name (map plain_of es) ≡ option_map (plain name) (find name_cmp name es)
first_plain name [] = refl
first_plain name (e ∷ es) =
    ap (cond (bytes_eq name e.0) (Some (plain_of e))) (first_plain name es)
    ∙ by (bytes_eq name e.0) refl (find name_cmp name es)
    ∙ ap (λ b. option_map (plain name) (cond b (Some e.1) (find name_cmp name es))) (texts_ties name e.0)
  where
    by : (b : Bool) → bytes_eq name e.0 ≡ b → (o : Option (List ℕ))
        → cond b (Some (plain e.0 e.1)) (option_map (plain name) o) ≡ option_map (plain name) (cond b (Some e.1) o)
    by true same o = ap (λ n. Some (plain n e.1)) (sym ((bytes_eq-Decides name e.0).0 same))
    by false other o = refl

pub or_none : {X : Type 0} (o : Option X) → option_or o None ≡ o
or_none None = refl
or_none (Some c) = refl

-- a new jar has the first cookie of each name
first_only : (cookies : List Record) (name : Name) → get (with_originals cookies empty_jar).originals name ≡ first_of_name name cookies
first_only cookies name =
    (has_first cookies empty_jar).originals name ∙ ap (λ o. option_or o (first_of_name name cookies)) (get-empty name_cmp name)

-- the jar for a client has each name with its value
original_of : (client : Values) (name : Name) → get (with_originals (map plain_of (entries client)) empty_jar).originals name ≡ option_map (plain name) (get client name)
original_of client name =
    first_only (map plain_of (entries client)) name ∙ first_plain name (entries client) ∙ ap (option_map (plain name)) (sym (get-entries client name))

-- ---- the client that holds the cookies of its header

-- it has the values of the first cookies
held_first : (cookies : List Record) (name : Name) → get (holding_first cookies) name ≡ value_of (first_of_name name cookies)
held_first [] name = get-empty name_cmp name
held_first (cookie ∷ cookies) name =
    get_inserted (holding_first cookies) cookie.name cookie.value name
    ∙ ap (cond (bytes_eq name cookie.name) (Some cookie.value)) (held_first cookies name)
    ∙ some_value (bytes_eq name cookie.name) cookie (first_of_name name cookies)

value_of-plain : (name : Name) (o : Option (List ℕ)) → value_of (option_map (plain name) o) ≡ o
value_of-plain name None = refl
value_of-plain name (Some value) = refl

-- a client that holds the header's cookies holds its originals
pub holds_header : (header : List ℕ) (name : Name) → HoldsOriginal (client_for header) (jar_for header) name
holds_header header name = held_first (field_cookies header) name ∙ sym (ap value_of (first_only (field_cookies header) name))

-- a new client that holds what a header tells is the client of that header
pub held_again : (client : Values) (header : List ℕ) → IsHeaderOf client header → client_for header ≡ client
held_again client header is =
    ap holding_first is.read
    ∙ same_map nat_list_cmp_total names_apart _ _ (λ name.
    held_first (map plain_of (entries client)) name
    ∙ sym (ap value_of (first_only (map plain_of (entries client)) name))
    ∙ ap value_of (original_of client name)
    ∙ value_of-plain name (get client name))

-- ---- the client of the program's first line

held_values : (cookies : List Record) (values : Values) (jar : JarState) (name : Name) → get values name ≡ value_of (get jar.originals name)
    → get (holding cookies values) name ≡ value_of (get (after_all (map AddOriginal cookies) jar).originals name)
held_values [] values jar name same = same
held_values (cookie ∷ cookies) values jar name same =
    held_values cookies (insert values cookie.name cookie.value) (after (AddOriginal cookie) jar) name
    (get_inserted values cookie.name cookie.value name
    ∙ ap (cond (bytes_eq name cookie.name) (Some cookie.value)) same
    ∙ some_value (bytes_eq name cookie.name) cookie (get jar.originals name)
    ∙ ap value_of (sym (get_inserted jar.originals cookie.name cookie name)))

-- it holds the originals of the line
pub holds_line : (line : List ℕ) (name : Name) → HoldsOriginal (client_of_line line) (jar_of_line line) name
holds_line line name = held_values (header_cookies true line) empty empty_jar name (get-empty name_cmp name ∙ sym (ap value_of (get-empty name_cmp name)))

added_fresh : (cookies : List Record) (jar : JarState) → (after_all (map AddOriginal cookies) jar).delta ≡ jar.delta
added_fresh [] jar = refl
added_fresh (cookie ∷ cookies) jar = added_fresh cookies (after (AddOriginal cookie) jar)

-- whose jar is fresh
pub fresh_line : (line : List ℕ) → (jar_of_line line).delta ≡ empty
fresh_line line = added_fresh (header_cookies true line) empty_jar

-- ---- the changes of a request

-- a change alters no original
no_original : (name : Name) (change : Change) → is_change change ≡ true → alters_original name change ≡ false
no_original name (AddOriginal cookie) is = absurd (subst T (sym is) tt)
no_original name (Add cookie) is = refl
no_original name (Remove cookie moment) is = refl
no_original name (ForceRemove forced) is = absurd (subst T (sym is) tt)
no_original name ResetDelta is = absurd (subst T (sym is) tt)

no_originals : (name : Name) (cs : List JarCall) → All (λ call. is_change (change_of call) ≡ true) cs → list_any (alters_original name) (map change_of cs) ≡ false
no_originals name [] are = refl
no_originals name (call ∷ cs) are =
    ap (λ b. b || list_any (alters_original name) (map change_of cs))
    (no_original name (change_of call) (All-head (λ call. is_change (change_of call) ≡ true) call cs are))
    ∙ no_originals name cs (All-tail (λ call. is_change (change_of call) ≡ true) call cs are)

-- ---- the theorem

-- the new jar for a header is fresh
pub fresh : (header : List ℕ) → (jar_for header).delta ≡ empty
fresh header = same_delta (field_cookies header) empty_jar

-- what a jar with no changes shows is its originals
shown_original : (jar : JarState) (name : Name) → jar.delta ≡ empty → view jar name ≡ get jar.originals name
shown_original jar name none = ap (λ d. overlay (get d name) (get jar.originals name)) none ∙ ap (λ e. overlay e (get jar.originals name)) (get-empty name_cmp name)

-- the jar for a client's header shows what the client holds
pub shows_held : (client : Values) (header : List ℕ) → IsHeaderOf client header → (name : Name) → view (jar_for header) name ≡ option_map (plain name) (get client name)
shows_held client header is name =
    shown_original (jar_for header) name (fresh header) ∙ ap (λ cookies. get (with_originals cookies empty_jar).originals name) is.read
    ∙ original_of client name

-- a client that holds what a fresh jar shows is one that holds its originals
pub client_shown : (start : JarState) (before : Values) → start.delta ≡ empty → ((name : Name) → HoldsOriginal before start name)
    → (client : Values) → ((name : Name) → get client name ≡ value_of (view start name)) → client ≡ before
client_shown start before none held client holds = same_map nat_list_cmp_total names_apart _ _ (λ name.
    holds name ∙ ap value_of (shown_original start name none) ∙ sym (held name))

-- it holds the original of each name whose original no change alters
pub holds_kept : (start : JarState) (before : Values) → ((name : Name) → HoldsOriginal before start name)
    → (changes : List Change) (jar : JarState) → jar ≡ after_all changes start → (name : Name)
    → list_any (alters_original name) changes ≡ false → HoldsOriginal before jar name
holds_kept start before held changes jar made name kept =
    held name ∙ sym (ap value_of (kept_originals name changes start kept))
    ∙ sym (ap (λ (j : JarState). value_of (get j.originals name)) made)

-- a visit by the header of a client is a round of that client
pub round_of : (now : DateTime) (before : Values) (header : List ℕ) (cs : List JarCall) (played : Played) → IsHeaderOf before header
    → IsExchange now (jar_for header) (client_for header) cs played → IsRound now before cs played
round_of now before header cs played is visit =
    let changes = changes_by cs played in
    let made = accepted_calls cs played in
    let held : client_for header ≡ before = held_again before header is in
    let exchange : IsExchange now (jar_for (header_text before)) before cs played =
    subst (λ h. IsExchange now (jar_for h) before cs played) is.text (subst (λ v. IsExchange now (jar_for header) v cs played) held visit) in
    let originals : (name : Name) → list_any (alters_original name) changes ≡ false → HoldsOriginal before played.jar name =
    λ name e. subst (λ v. HoldsOriginal v played.jar name) held (holds_kept (jar_for header) (client_for header) (holds_header header) changes played.jar visit.jar name e) in
    record {
      exchange = exchange;
      originals = λ name. ap (λ cookies. get (with_originals cookies empty_jar).originals name) (header-cookies before header is) ∙ original_of before name;
      held = originals;
      agrees = λ fits name.
          exchange.agreement.agrees (visit.fit (All-weaker (IsFitChange now) (IsFitCall now) (λ call f. f.0) made fits)) name (λ _.
          originals name (no_originals name made (All-weaker (IsFitChange now) (λ call. is_change (change_of call) ≡ true) (λ call f. f.1) made fits)));
      named = exchange.agreement.named is.named;
    }

-- ---- many requests

pub rounds-length : (now : DateTime) (client : Values) (requests : List ClientRequest) (played : List Played) → AreRounds now client requests played → length played ≡ length requests
rounds-length now client [] [] are = refl
rounds-length now client [] (one ∷ played) are = absurd are
rounds-length now client (request ∷ requests) [] are = absurd are
rounds-length now client (request ∷ requests) (one ∷ played) are = ap suc (rounds-length now one.client requests played are.1)

-- a header that reads back, of a client that holds nothing under the empty name
pub told : (client : Values) (header : List ℕ) → get client [] ≡ None → header ≡ header_text client
    → (get client [] ≡ None → field_cookies header ≡ map (λ pair. plain pair.0 pair.1) (entries client)) → IsHeaderOf client header
told client header named text read = record { text = text; named = named; read = read named }
