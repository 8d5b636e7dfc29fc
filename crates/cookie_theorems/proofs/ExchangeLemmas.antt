-- The agreement of a client and a jar, carried over header maps.
use Rattle.std.proofs.Common.{◌≡◌, ℕ, true, false, List, [], map, Contains, Option, Some, None, option_map, refl, sym, ap, subst, ◌∙◌}
use Rattle.std.proofs.lemmas.List.Elements.{All-contains, All-weaker}
use Rattle.std.proofs.lemmas.List.Sorted.{IsPermutation-refl}
use Rattle.std.specs.FinMap.{FinMap, get}
use Rattle.jiff.specs.Types.{DateTime}
use Rattle.http_header.specs.FieldValue.{FieldValue}
use Rattle.http_header.specs.HeaderMap.{Entries}
use Rattle.cookie.specs.DeltaTexts.{AreDeltaTexts, IsDeltaText}
use Rattle.cookie.specs.Jar.{Marked, Name, empty_jar, name_cmp, view}
use Rattle.cookie.specs.Record.{plain}
use Rattle.cookie.specs.Text.{cookie_text}
use Rattle.cookie.proofs.DeltaTextLemmas.{AreDeltaTexts-once}
use Rattle.cookie_client.specs.Agreement.{value_of}
use Rattle.cookie_client.specs.Exchange.{IsExchange, changes_by}
use Rattle.cookie_client.specs.Originals.{holds_originals}
use Rattle.cookie_client.specs.declared.call.JarCall.{JarCall}
use Rattle.cookie_client.proofs.AgreementLemmas.{holds_each}
use Rattle.cookie_http.specs.Fields.{set_cookie_texts}
use Rattle.cookie_http.specs.Response.{AddsDelta}
use Rattle.cookie_theorems.specs.Carrying.{CarriesDelta}
use Rattle.cookie_theorems.specs.Exchanges.{AreSameTexts, IsCarried}
use Rattle.cookie_theorems.specs.declared.exchanged.Exchanged.{Exchanged}

-- texts that are the same are those of one delta
AreDeltaTexts-same : (delta : FinMap name_cmp Marked) (texts others : List (List ℕ)) → AreSameTexts texts others → AreDeltaTexts delta texts → AreDeltaTexts delta others
AreDeltaTexts-same delta texts others same are =
    record {
      each = λ name entry e. All-contains (Contains others) texts (cookie_text true false entry.cookie) same.0 (are.each name entry e);
      only = All-weaker (Contains texts) (IsDeltaText delta) (λ text inside. All-contains (IsDeltaText delta) texts text are.only inside) others same.1;
    }

-- the fields of a response are texts of the delta
pub are_carried : (delta : FinMap name_cmp Marked) (response : Entries FieldValue) → AddsDelta delta [] response → AreDeltaTexts delta (set_cookie_texts response)
are_carried delta response adds =
    subst (AreDeltaTexts delta) (sym adds.read)
    (AreDeltaTexts-once delta (map (cookie_text true false) adds.cookies)
    (record { cookies = adds.cookies; are = adds.are; written = IsPermutation-refl (map (cookie_text true false) adds.cookies) }))

-- the value of a cookie without attributes
value_of_plain : (name : Name) (value : Option (List ℕ)) → value_of (option_map (plain name) value) ≡ value
value_of_plain name (Some value) = refl
value_of_plain name None = refl

module _ (now : DateTime) (calls : List JarCall) (e : Exchanged) where
  pub carried : IsExchange now empty_jar (holds_originals (changes_by calls e.played)) calls e.played
      → CarriesDelta now e.played.jar.delta (holds_originals (changes_by calls e.played)) e.played.client (record { response = e.response; request = e.request; next = e.next })
      → (get e.played.client [] ≡ None → (name : Name) → view e.next name ≡ option_map (plain name) (get e.played.client name))
      → IsCarried now calls e
  carried exchange carries shows =
      let delta = e.played.jar.delta in
      let held = holds_each now (changes_by calls e.played) e.played.jar exchange.jar in
      let are : AreDeltaTexts delta (set_cookie_texts e.response) = are_carried delta e.response carries.response in
      record {
        exchange = exchange;
        response = carries.response;
        reads = λ texts same. exchange.agreement.in_any_order texts (AreDeltaTexts-same delta (set_cookie_texts e.response) texts same are);
        agrees = λ fits name unforced. exchange.agreement.agrees (exchange.fit fits) name (λ _. held.unforced name unforced);
        request = carries.request;
        arrived = carries.arrived;
        next = λ fits name.
            let unnamed : get e.played.client [] ≡ None = exchange.agreement.named (held.named (exchange.fit fits)) in
            ap value_of (shows unnamed name) ∙ value_of_plain name (get e.played.client name);
      }
