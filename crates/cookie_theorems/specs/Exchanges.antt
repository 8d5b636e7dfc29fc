-- The agreement of a client and a jar, carried over header maps.
use Rattle.std.specs.Prelude.{◌≡◌, ◌∷◌, [], ℕ, false, List, All, Contains, codes}
use Rattle.std.specs.FinMap.{get}
use Rattle.jiff.specs.Types.{DateTime}
use Rattle.http_header.specs.FieldValue.{plain_value}
use Rattle.cookie.specs.AttributeValues.{AllFitFields}
use Rattle.cookie.specs.History.{is_forced}
use Rattle.cookie.specs.Jar.{Name, empty_jar, view}
use Rattle.cookie_client.specs.Agreement.{value_of}
use Rattle.cookie_client.specs.Calls.{IsFitCall}
use Rattle.cookie_client.specs.Client.{after_texts, header_text}
use Rattle.cookie_client.specs.Exchange.{IsExchange, accepted_calls, changes_by}
use Rattle.cookie_client.specs.Originals.{holds_originals}
use Rattle.cookie_client.specs.declared.call.JarCall.{JarCall}
use Rattle.cookie_client.specs.declared.exchange.Played.{Played}
use Rattle.cookie_http.specs.Fields.{request_jar, set_cookie_texts}
use Rattle.cookie_http.specs.Response.{AddsDelta}
use Rattle.cookie_theorems.specs.declared.exchanged.Exchanged.{Exchanged}

-- the same texts, in any order and with any repetition
abbrev pub AreSameTexts : List (List ℕ) → List (List ℕ) → Type 0
AreSameTexts texts others = All (Contains others) texts × All (Contains texts) others

-- What came of calls over header maps.
pub record IsCarried (now : DateTime) (calls : List JarCall) (e : Exchanged) : Type 0 where
  -- the jar and the client are those of `mirror`: the client held each name's last original
  pub exchange : IsExchange now empty_jar (holds_originals (changes_by calls e.played))
      calls e.played
  -- the response has one `Set-Cookie` field for each cookie of the jar's delta, and no other field
  pub response : AddsDelta e.played.jar.delta [] e.response
  -- the client is the one before that read these fields, in any order and with any repetition
  pub reads : (texts : List (List ℕ)) → AreSameTexts (set_cookie_texts e.response) texts
      → e.played.client ≡ after_texts now texts (holds_originals (changes_by calls e.played))
  -- so where the accepted calls are fit, it has what the jar shows at each name that none of them removes by force
  pub agrees : All (IsFitCall now) (accepted_calls calls e.played) → (name : Name)
      → is_forced name (changes_by calls e.played) ≡ false
      → get e.played.client name ≡ value_of (view e.played.jar name)
  -- its next request has the one field `Cookie`
  pub request : e.request ≡ (codes "cookie", plain_value (header_text e.played.client) ∷ []) ∷ []
  -- the jar of that request is that of its fields, whether the calls are fit or not
  pub arrived : e.next ≡ request_jar e.request
  -- and where they are fit, the jar of that request shows at each name what the client holds
  pub next : All (IsFitCall now) (accepted_calls calls e.played) → (name : Name)
      → value_of (view e.next name) ≡ get e.played.client name

-- in the jar that comes of the calls a cookie of the delta doesn't fit a field
abbrev pub HasUnfitDelta : DateTime → List JarCall → Type 0
HasUnfitDelta now calls =
    (played : Played)
    × IsExchange now empty_jar (holds_originals (changes_by calls played)) calls played
    × ¬ (AllFitFields played.jar.delta)
