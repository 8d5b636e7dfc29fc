-- Bare names are read as they are sent.
use Rattle.std.proofs.Common.{◌≡◌, ℕ, true, not, ◌==◌, ◌&&◌, List, [], ◌∷◌, refl, sym, ap, ◌∙◌, arith}
use Rattle.std.proofs.lemmas.Bool.{and_parts}
use Rattle.std.proofs.lemmas.Bool.Decides.{nat_tests}
use Rattle.std.proofs.lemmas.Slice.Eq.{bytes_eq-Decides}
use Rattle.std.specs.List.{before_first, list_all}
use Rattle.std.specs.Str.{trim}
use mathlib.Core.Logic.{◌≢◌}
use Rattle.cookie_core.specs.Graphic.{is_graphic}
use Rattle.cookie_core.specs.BareNames.{IsSettledName, is_bare_byte}
use Rattle.cookie_core.specs.CookieOf.{key_text}
use Rattle.cookie_core.specs.SentNames.{has_printed_escapes, is_named_as_sent, sent_name}
use Rattle.cookie_core.specs.Wsp.{trim_wsp}
use Rattle.cookie_core.proofs.ByteLemmas.{all-weaker}
use Rattle.cookie_core.proofs.GraphicLemmas.{trim-graphic, trim-space_graphic}
use Rattle.cookie_core.proofs.SentNameLemmas.{printed-past}
use Rattle.cookie_core.proofs.WspLemmas.{trim_wsp-graphic, trim_wsp-space}

bare_is_graphic : (b : ℕ) → is_bare_byte b ≡ true → is_graphic b ≡ true
bare_is_graphic b h = (and_parts (is_graphic b) (not (b == 37)) h).0

bare_is_other : (b : ℕ) → is_bare_byte b ≡ true → b ≢ 37
bare_is_other b h same = grind (arith, nat_tests)

bare_printed : (t : List ℕ) → list_all is_bare_byte t ≡ true → has_printed_escapes t ≡ true
bare_printed [] h = refl
bare_printed (b ∷ t) h =
    let at = and_parts (is_bare_byte b) (list_all is_bare_byte t) h in
    printed-past b t (bare_is_other b at.0) ∙ bare_printed t at.1

pub bare_settled : (t : List ℕ) → list_all is_bare_byte t ≡ true → IsSettledName t
bare_settled t h =
    let graphic = all-weaker is_bare_byte is_graphic bare_is_graphic t h in
    let sent : trim_wsp t ≡ t = trim_wsp-graphic t graphic in
    (trim-graphic t graphic ∙ sym sent, ap has_printed_escapes sent ∙ bare_printed t h)

-- and after a space
pub bare_settled-space : (t : List ℕ) → list_all is_bare_byte t ≡ true → IsSettledName (32 ∷ t)
bare_settled-space t h =
    let graphic = all-weaker is_bare_byte is_graphic bare_is_graphic t h in
    let sent : trim_wsp (32 ∷ t) ≡ t = trim_wsp-space t ∙ trim_wsp-graphic t graphic in
    (trim-space_graphic t graphic ∙ sym sent, ap has_printed_escapes sent ∙ bare_printed t h)

-- a piece with such a name before its `=`
pub settled_named : (piece name : List ℕ) → name ≡ before_first (λ byte. byte == 61) piece → IsSettledName name → true ≡ is_named_as_sent piece
settled_named piece name is (same, printed) =
    let both : key_text piece ≡ sent_name piece = ap trim (sym is) ∙ same ∙ ap trim_wsp is in
    sym (ap (λ b. b && has_printed_escapes (sent_name piece)) ((bytes_eq-Decides (key_text piece) (sent_name piece)).1 both)
    ∙ ap has_printed_escapes (ap trim_wsp (sym is)) ∙ printed)
