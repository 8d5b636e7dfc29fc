-- A browser that receives a printed text receives the name and the value, whatever the attributes hold.
use Rattle.std.proofs.Common.{◌≡◌, ℕ, Bool, true, false, cond, List, ◌∷◌, ◌++◌, length, nat_lt, Option, Some, None, Ok, Err, refl, sym, ap, ◌∙◌, ◌+◌}
use Rattle.std.specs.List.{list_any}
use Rattle.cookie_core.specs.Escapes.{escape}
use Rattle.cookie_core.specs.Pieces.{Lacks}
use Rattle.cookie_core.specs.Record.{Record}
use Rattle.cookie_core.specs.Text.{ShownAttribute, Flag, Valued, shown_text, shown_texts, scope_attributes, place_attributes, lifetime_attributes, attribute_text, attributes_text, cookie_text, flag_text}
use Rattle.cookie_core.specs.Walk.{behind}
use Rattle.cookie_core.proofs.ByteLemmas.{is_other, all-weaker, Lacks-from_test}
use Rattle.cookie_core.proofs.EscapeTextLemmas.{is_token, escape_is_tokens, token_is_other_61}
use Rattle.cookie_core.proofs.NormalFormLemmas.{escaped_pair, escaped_pair-apart, cookie_text-pair}
use Rattle.cookie_core.proofs.ShownLemmas.{shown_texts-all}
use Rattle.cookie_browser.specs.Bytes.{cut}
use Rattle.cookie_browser.specs.Received.{ReceivedView, attributes_of, is_control, received, received_name_value, received_pair}
use Rattle.cookie_browser.specs.declared.refusal.Refusal.TheVariants as refusal
use Rattle.cookie_core.proofs.WspLemmas.{trim_wsp-tokens}
use Rattle.cookie_browser.proofs.TrimLemmas.{cut-at, cut-rest}

-- the text is empty, or begins with a `;`
abbrev IsRest : List ℕ → Type 0
IsRest t = (o : Option (List ℕ)) × (t ≡ behind o)

rest-append : (a b : List ℕ) → IsRest a → IsRest b → IsRest (a ++ b)
rest-append a b (None, e) (o, f) = (o, ap (λ t. t ++ b) e ∙ f)
rest-append a b (Some t, e) (o, f) = (Some (t ++ b), ap (λ u. u ++ b) e)

rest_flag : (word : List ℕ) (b : Bool) → IsRest (flag_text (59 ∷ word) b)
rest_flag word true = (Some word, refl)
rest_flag word false = (None, refl)

rest_attribute : (label : List ℕ) (o : Option (List ℕ)) → IsRest (attribute_text (59 ∷ label) o)
rest_attribute label (Some value) = (Some (label ++ value), refl)
rest_attribute label None = (None, refl)

rest_shown : (attributes : List ShownAttribute) → IsRest (shown_texts attributes)
rest_shown = shown_texts-all IsRest (None, refl) rest-append by
  where
    by : (attribute : ShownAttribute) → IsRest (shown_text attribute)
    by (Flag word is_shown) = rest_flag word is_shown
    by (Valued label value) = rest_attribute label value

rest_attributes : (r : Record) → IsRest (attributes_text r)
rest_attributes r = rest-append _ _ (rest_shown (scope_attributes r)) (rest-append _ _ (rest_shown (place_attributes r)) (rest_shown (lifetime_attributes r)))

escape_lacks_equals : (t : List ℕ) → Lacks 61 (escape t)
escape_lacks_equals t = Lacks-from_test 61 (escape t) (all-weaker is_token (is_other 61) token_is_other_61 (escape t) (escape_is_tokens t))

-- the name and the value of what is received
pub record HasPair (r : Record) (v : ReceivedView) : Type 0 where
  pub name : v.name ≡ escape r.name
  pub value : v.value ≡ escape r.value

pub pair_received : (r : Record) (v : ReceivedView) → received (cookie_text true false r) ≡ Ok v → HasPair r v
unfolding received
pair_received r v e =
    let rest = rest_attributes r in
    let text : cookie_text true false r ≡ escaped_pair r ++ behind rest.0 = sym (cookie_text-pair r) ∙ ap (λ t. escaped_pair r ++ t) rest.1 in
    let cuts : cut 59 (cookie_text true false r) ≡ (escaped_pair r, rest.0) = ap (cut 59) text ∙ cut-rest (escaped_pair r) rest.0 (escaped_pair-apart r) in
    let pair : received_name_value (cut 61 (escaped_pair r)) ≡ (escape r.name, escape r.value) =
    ap received_name_value (cut-at 61 (escape r.name) (escape r.value) (escape_lacks_equals r.name))
    ∙ (λ i. (trim_wsp-tokens (escape r.name) (escape_is_tokens r.name) i, trim_wsp-tokens (escape r.value) (escape_is_tokens r.value) i)) in
    let form : received_pair (received_name_value (cut 61 (cut 59 (cookie_text true false r)).0)) (cut 59 (cookie_text true false r)).1 ≡ received_pair (escape r.name, escape r.value) rest.0 =
    ap (λ c. received_pair (received_name_value (cut 61 c.0)) c.1) cuts ∙ ap (λ p. received_pair p rest.0) pair in
    by rest.0 (list_any is_control (cookie_text true false r)) (nat_lt 4096 (length (escape r.name) + length (escape r.value)))
    (ap (λ p. cond (list_any is_control (cookie_text true false r)) (Err refusal.ControlCharacter) p) (sym form) ∙ e)
  where
    by : (o : Option (List ℕ)) (a b : Bool)
        → cond a (Err refusal.ControlCharacter) (cond b (Err refusal.TooLong) (Ok (record { name = escape r.name; value = escape r.value; attributes = attributes_of o }))) ≡ Ok v
        → HasPair r v
    by o true b e = cc
    by o false true e = cc
    by o false false e =
        let same : record { name = escape r.name; value = escape r.value; attributes = attributes_of o } ≡ v = cc in
        record { name = sym (ap (λ (w : ReceivedView). w.name) same); value = sym (ap (λ (w : ReceivedView). w.value) same) }
