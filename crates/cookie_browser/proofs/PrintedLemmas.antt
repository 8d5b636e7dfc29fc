-- A browser receives a printed cookie with its name, value and attributes.
use Rattle.std.proofs.Common.{◌≡◌, ℕ, ◌+◌, ◌||◌, Bool, true, false, List, [], ◌∷◌, ◌++◌, length, Option, Some, None, Ok, option_map, nat_lt, refl, sym, ap, ◌∙◌, arith}
use Rattle.std.proofs.lemmas.Bool.{cond-false, and_parts}
use Rattle.std.proofs.lemmas.Bool.Decides.{nat_tests}
use Rattle.std.proofs.lemmas.List.Elements.{All-head, All-tail}
use Rattle.std.specs.List.{All, list_all, list_any}
use Rattle.std.specs.Option.{option_or}
use Rattle.std.specs.Prelude.{fold, is_some, unwrap_or}
use Rattle.cookie_core.specs.Escapes.{escape}
use Rattle.cookie_core.specs.Pieces.{Lacks}
use Rattle.cookie_core.specs.Record.{Record}
use Rattle.cookie_core.specs.Text.{is_true, prints_secure, attributes_text, cookie_text}
use Rattle.cookie_core.specs.Walk.{behind, before_rest}
use Rattle.cookie_core.specs.declared.same_site.SameSite.{SameSite}
use Rattle.cookie_core.proofs.ByteLemmas.{is_other, all-append, all-weaker, Lacks-from_test, false_from_not}
use Rattle.cookie_core.proofs.EscapeTextLemmas.{is_token, escape_is_tokens, token_is_other_61}
use Rattle.cookie_core.proofs.NormalFormLemmas.{escaped_pair, escaped_pair-apart, cookie_text-pair}
use Rattle.cookie_core.proofs.PieceLemmas.{pieces-cut, pieces_left}
use Rattle.cookie_core.proofs.PieceWalkLemmas.{tails}
use Rattle.cookie_browser.specs.Bytes.{cut}
use Rattle.cookie_browser.specs.Printed.{IsReceivable, is_quiet, printed_age, printed_as, printed_enforcement, printed_moment}
use Rattle.cookie_browser.specs.Received.{AttributesView, attributes_of, is_control, without_attributes, received_name_value, pieces_after, received, received_pair, with_piece}
use Rattle.cookie_browser.specs.declared.enforcement.Enforcement.TheVariants as enforcement
use Rattle.cookie_browser.proofs.PartLemmas.{IsPart, IsPart-append, domain_part, expires_part, http_only_part, max_age_part, or_printed, or_text, partitioned_part, path_part, same_site_part, secure_part, tokens_are_quiet}
use Rattle.cookie_core.proofs.WspLemmas.{trim_wsp-tokens}
use Rattle.cookie_browser.proofs.TrimLemmas.{cut-at, cut-rest}

or_none : {X : Type 0} (o : Option X) → option_or o None ≡ o
or_none None = refl
or_none (Some x) = refl

or_nothing : (o : Option (List ℕ)) → or_text o [] ≡ unwrap_or o []
or_nothing None = refl
or_nothing (Some t) = refl

or_false : (b : Bool) → b || false ≡ b
or_false true = refl
or_false false = refl

or_default : (o : Option SameSite) → or_printed o enforcement.Default ≡ printed_enforcement o
or_default None = refl
or_default (Some s) = refl

-- what all parts make of no attributes
abbrev all_parts : Record → AttributesView → AttributesView
all_parts r a =
    record {
      max_age = option_or (option_map printed_age r.max_age) a.max_age;
      expires = option_or (printed_moment r.expires) a.expires;
      domain = or_text r.domain a.domain;
      path = or_text r.path a.path;
      has_path = is_some r.path || a.has_path;
      secure = prints_secure r || a.secure;
      http_only = is_true r.http_only || a.http_only;
      same_site = or_printed r.same_site a.same_site;
    }

attributes_part : (r : Record) → IsReceivable r → IsPart (all_parts r) (attributes_text r)
attributes_part r h =
    let flags = IsPart-append _ _ _ _ (partitioned_part (is_true r.partitioned)) (secure_part (prints_secure r)) in
    let scope = IsPart-append _ _ _ _ (http_only_part (is_true r.http_only)) (IsPart-append _ _ _ _ (same_site_part r.same_site) flags) in
    let place = IsPart-append _ _ _ _ (path_part r.path h.path) (domain_part r.domain h.domain) in
    let lifetime = IsPart-append _ _ _ _ (max_age_part r.max_age h.named.cookie.max_age) (expires_part r.expires) in
    IsPart-append _ _ _ _ scope (IsPart-append _ _ _ _ place lifetime)

settled : (r : Record) → all_parts r without_attributes ≡ (printed_as r).attributes
settled r = λ i. record {
  max_age = or_none (option_map printed_age r.max_age) i;
  expires = or_none (printed_moment r.expires) i;
  domain = or_nothing r.domain i;
  path = or_nothing r.path i;
  has_path = or_false (is_some r.path) i;
  secure = or_false (prints_secure r) i;
  http_only = or_false (is_true r.http_only) i;
  same_site = or_default r.same_site i;
}

-- ---- the text

calm : (t : List ℕ) → list_all is_quiet t ≡ true → list_any is_control t ≡ false
calm [] h = refl
calm (b ∷ t) h =
    let k = and_parts (is_quiet b) (list_all is_quiet t) h in
    rw (false_from_not (is_control b) k.0, calm t k.1) refl

tails_quiet : (ps : List (List ℕ)) → list_all (list_all is_quiet) ps ≡ true → list_all is_quiet (tails ps) ≡ true
tails_quiet [] h = refl
tails_quiet (p ∷ ps) h =
    let k = and_parts (list_all is_quiet p) (list_all (list_all is_quiet) ps) h in
    all-append is_quiet p (tails ps) k.0 (tails_quiet ps k.1)

pieces_after-is : (ps : List (List ℕ)) → All (Lacks 59) ps → pieces_after (before_rest ps None) ≡ ps
pieces_after-is [] h = refl
pieces_after-is (p ∷ ps) h =
    pieces-cut (p ++ tails ps) p (before_rest ps None) refl (All-head (Lacks 59) p ps h)
    ∙ ap (λ qs. p ∷ qs) (left ps ∙ pieces_after-is ps (All-tail (Lacks 59) p ps h))
  where
    left : (qs : List (List ℕ)) → pieces_left (before_rest qs None) ≡ pieces_after (before_rest qs None)
    left [] = refl
    left (q ∷ qs) = refl

escape_lacks_equals : (t : List ℕ) → Lacks 61 (escape t)
escape_lacks_equals t = Lacks-from_test 61 (escape t) (all-weaker is_token (is_other 61) token_is_other_61 (escape t) (escape_is_tokens t))

pair_quiet : (r : Record) → list_all is_quiet (escaped_pair r) ≡ true
pair_quiet r =
    all-append is_quiet (escape r.name) (61 ∷ escape r.value) (tokens_are_quiet (escape r.name) (escape_is_tokens r.name)) (tokens_are_quiet (escape r.value) (escape_is_tokens r.value))

pub received_printed : (r : Record) → IsReceivable r → received (cookie_text true false r) ≡ Ok (printed_as r)
unfolding received
received_printed r h =
    let w : IsPart (all_parts r) (attributes_text r) = attributes_part r h in
    let rest : Option (List ℕ) = before_rest w.pieces None in
    let text : cookie_text true false r ≡ escaped_pair r ++ behind rest = sym (cookie_text-pair r) ∙ ap (λ t. escaped_pair r ++ t) w.text in
    let quiet : list_all is_quiet (cookie_text true false r) ≡ true = ap (list_all is_quiet) text ∙ all-append is_quiet (escaped_pair r) (tails w.pieces) (pair_quiet r) (tails_quiet w.pieces w.holds.quiet) in
    let cuts : cut 59 (cookie_text true false r) ≡ (escaped_pair r, rest) = ap (cut 59) text ∙ cut-rest (escaped_pair r) rest (escaped_pair-apart r) in
    let pair : received_name_value (cut 61 (escaped_pair r)) ≡ (escape r.name, escape r.value) =
    ap received_name_value (cut-at 61 (escape r.name) (escape r.value) (escape_lacks_equals r.name))
    ∙ (λ i. (trim_wsp-tokens (escape r.name) (escape_is_tokens r.name) i, trim_wsp-tokens (escape r.value) (escape_is_tokens r.value) i)) in
    let attributes : attributes_of rest ≡ (printed_as r).attributes = ap (fold with_piece without_attributes) (pieces_after-is w.pieces w.apart) ∙ w.holds.gives without_attributes ∙ settled r in
    let fits = h.size in
    let size : nat_lt 4096 (length (escape r.name) + length (escape r.value)) ≡ false = grind (arith, nat_tests) in
    cond-false _ _ _ (calm (cookie_text true false r) quiet)
    ∙ ap (λ c. received_pair (received_name_value (cut 61 c.0)) c.1) cuts
    ∙ ap (λ p. received_pair p rest) pair
    ∙ cond-false _ _ _ size
    ∙ ap (λ a. Ok (record { name = escape r.name; value = escape r.value; attributes = a })) attributes
