-- Many requests and one client: what a request knows of the client stands in its header (RFC 6265 5.4).
use Rattle.std.specs.Prelude.{◌≡◌, true, false, List, [], ◌∷◌, option_map, None, All}
use Rattle.std.specs.FinMap.{get}
use Rattle.std.specs.List.{list_any}
use Rattle.jiff.specs.Types.{DateTime}
use Rattle.cookie.specs.Jar.{Name, view}
use Rattle.cookie.specs.Record.{plain}
use Rattle.cookie_client.specs.Agreement.{HoldsOriginal, alters_original, value_of}
use Rattle.cookie_client.specs.Calls.{IsFitCall, change_of, is_change}
use Rattle.cookie_client.specs.Client.{Values, header_text}
use Rattle.cookie_client.specs.Exchange.{IsExchange, accepted_calls, changes_by}
use Rattle.cookie.specs.Originals.{jar_for}
use Rattle.cookie_client.specs.declared.call.JarCall.{JarCall}
use Rattle.cookie_client.specs.declared.exchange.Played.{Played}
use Rattle.cookie_client.specs.declared.request.ClientRequest.{ClientRequest}

-- a call that a client can follow, and that is an addition but no original, or a removal
abbrev pub IsFitChange : DateTime → JarCall → Type 0
IsFitChange now call = IsFitCall now call × (is_change (change_of call) ≡ true)

-- What a request's calls came to, for the client before it.
pub record IsRound (now : DateTime) (before : Values) (calls : List JarCall)
    (played : Played) : Type 0 where
  -- its jar is one for the client's header, and its client is the one before, which read the delta
  pub exchange : IsExchange now (jar_for (header_text before)) before calls played
  -- the jar had these originals at first: each name's value as the client held it, with nothing else set
  pub originals : (name : Name)
      → get (jar_for (header_text before)).originals name
      ≡ option_map (plain name) (get before name)
  -- the client before held the jar's original of each name that no accepted call adds as an original
  -- or removes by force
  pub held : (name : Name) → list_any (alters_original name) (changes_by calls played) ≡ false
      → HoldsOriginal before played.jar name
  -- so where each accepted call is fit and a change, its client has at every name the value that its
  -- jar shows there
  pub agrees : All (IsFitChange now) (accepted_calls calls played) → (name : Name)
      → get played.client name ≡ value_of (view played.jar name)
  -- whether the calls are fit or not, it holds nothing under the empty name, so that its header reads
  -- back as its map (`Client::header`)
  pub named : get played.client [] ≡ None

-- Requests came to this, one after the other. The client of each goes on to the next.
abbrev pub AreRounds : DateTime → Values → List ClientRequest → List Played → Type 0
AreRounds now client [] [] = Unit {0}
AreRounds now client [] (one ∷ played) = ⊥
AreRounds now client (request ∷ requests) [] = ⊥
AreRounds now client (request ∷ requests) (one ∷ played) =
    IsRound now client request.calls.now one × AreRounds now one.client requests played
