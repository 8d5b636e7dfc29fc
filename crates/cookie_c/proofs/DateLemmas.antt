-- What a text is read as, by what is known of its bytes and its date.
use Rattle.std.proofs.Common.{◌≡◌, ℕ, List, cond, false, Option, ap, sym, ◌∙◌, IsUtf8}
use Rattle.std.proofs.lemmas.Bool.{false_from_ne_true}
use Rattle.std.proofs.lemmas.Str.{IsUtf8-from_is_utf8, is_utf8-from_IsUtf8}
use Rattle.std.specs.Str.{is_utf8}
use Rattle.jiff.specs.Types.{DateTime}
use Rattle.cookie.specs.Moments.{date_of}
use Rattle.cookie_c.specs.Dates.{moment_in, moment_or_refusal, refused_moment}
use Rattle.cookie_c.specs.declared.status.Status.TheVariants as status

is_utf8_not : (bytes : List ℕ) → ¬ (IsUtf8 bytes) → is_utf8 bytes ≡ false
is_utf8_not bytes bad = false_from_ne_true (is_utf8 bytes) (λ e. bad (IsUtf8-from_is_utf8 bytes e))

pub moment_in-bad : (text : List ℕ) → ¬ (IsUtf8 text) → moment_in text ≡ refused_moment status.NotUtf8
moment_in-bad text bad =
    ap (λ b. cond b (moment_or_refusal (date_of text)) (refused_moment status.NotUtf8)) (is_utf8_not text bad)

pub moment_in-text : (text other : List ℕ) (answer : Option DateTime) → other ≡ text → IsUtf8 text → answer ≡ date_of other
    → moment_or_refusal answer ≡ moment_in text
moment_in-text text other answer same good read =
    ap moment_or_refusal (read ∙ ap date_of same)
    ∙ sym (ap (λ b. cond b (moment_or_refusal (date_of text)) (refused_moment status.NotUtf8)) (is_utf8-from_IsUtf8 text good))
