-- Which cookies JSON lines carry, and what is written of them.
use Rattle.std.proofs.Common.{◌≡◌, ◌<◌, length, get_or, arith, ℕ, ℤ, ◌==◌, ◌&&◌, Bool, true, false, cond, List, [], ◌∷◌, Option, Some, None, refl, sym, ap, ◌∙◌, pos, negsuc}
use Rattle.std.specs.Prelude.{is_some, nat_lt, option_and_then, option_map, unwrap_or}
use Rattle.std.specs.List.{list_all}
use Rattle.std.specs.Str.{IsUtf8, is_utf8}
use Rattle.std.proofs.lemmas.Bool.{cond-false, cond-true, false≢true}
use Rattle.std.proofs.lemmas.Str.{IsUtf8-from_is_utf8, is_utf8-from_IsUtf8}
use Rattle.std.proofs.lemmas.Bool.Decides.{nat_tests}
use Rattle.std.proofs.lemmas.List.Sums.{AllPass-from_list_all}
use Rattle.jiff.specs.Types.{DateTime}
use Rattle.serde_json.specs.Data.{Data, number}
use Rattle.serde_json.specs.Find.{of_integer}
use Rattle.serde_json.specs.Read.{read}
use Rattle.serde_json.specs.Written.{has_float}
use Rattle.cookie_browser.specs.Storage.{KeptView}
use Rattle.cookie_agent.specs.JsonLines.{cookie_data, is_json_carried, is_json_expiry, is_json_time, json_line, json_line_at, json_line_read, line_of_data, times_with}
use Rattle.cookie_agent.specs.JsonLinesCode.{carried_times, json_time, line_at}
use Rattle.cookie_agent.specs.Storable.{is_storable}
use Rattle.cookie_agent.specs.declared.saved.json_lines.Times.{Times}
use Rattle.cookie_agent.specs.declared.saved.line.Line.{Line}
use Rattle.cookie_agent.specs.declared.saved.line.Line.TheVariants as line

-- ---- times

json_time-some : (time : ℤ) → is_some (json_time time) ≡ is_json_time time
json_time-some time = by (is_json_time time)
  where
    by : (b : Bool) → is_some (cond b (Some time) None) ≡ b
    by true = refl
    by false = refl

expiry-some : (expiry : Option ℤ) → is_some (option_and_then json_time expiry) ≡ is_json_expiry expiry
expiry-some None = refl
expiry-some (Some time) = json_time-some time

json_time-is : (time n : ℤ) → json_time time ≡ Some n → time ≡ n
json_time-is time n h = by (is_json_time time) h
  where
    by : (b : Bool) → cond b (Some time) None ≡ Some n → time ≡ n
    by true h = ap (λ o. unwrap_or o time) h
    by false h = absurd (false≢true (ap is_some h))

expiry-is : (expiry : Option ℤ) (n : ℤ) → option_and_then json_time expiry ≡ Some n → expiry ≡ Some n
expiry-is None n h = absurd (false≢true (ap is_some h))
expiry-is (Some time) n h = ap Some (json_time-is time n h)

times_with-some : (a b : Option ℤ) → is_some (times_with a b) ≡ (is_some a && is_some b)
times_with-some None b = refl
times_with-some (Some e) None = refl
times_with-some (Some e) (Some l) = refl

times_with-expiry : (a b : Option ℤ) (times : Times) → times_with a b ≡ Some times → a ≡ Some times.expiry
times_with-expiry None b times h = absurd (false≢true (ap is_some h))
times_with-expiry (Some e) None times h = absurd (false≢true (ap is_some h))
times_with-expiry (Some e) (Some l) times h = ap (λ o. option_map (λ (t : Times). t.expiry) o) h

times_with-access : (a b : Option ℤ) (times : Times) → times_with a b ≡ Some times → b ≡ Some times.last_access
times_with-access None b times h = absurd (false≢true (ap is_some h))
times_with-access (Some e) None times h = absurd (false≢true (ap is_some h))
times_with-access (Some e) (Some l) times h = ap (λ o. option_map (λ (t : Times). t.last_access) o) h

-- ---- a cookie

pub carried_times-some : (cookie : KeptView) → is_json_carried cookie ≡ is_some (carried_times cookie)
carried_times-some cookie = by (is_storable cookie)
  where
    by : (s : Bool) → (s && (is_json_expiry cookie.expiry && is_json_time cookie.last_access))
        ≡ is_some (cond s (times_with (option_and_then json_time cookie.expiry) (json_time cookie.last_access)) None)
    by true =
        ap (λ b. b && is_json_time cookie.last_access) (sym (expiry-some cookie.expiry))
        ∙ ap (λ b. is_some (option_and_then json_time cookie.expiry) && b) (sym (json_time-some cookie.last_access))
        ∙ sym (times_with-some (option_and_then json_time cookie.expiry) (json_time cookie.last_access))
    by false = refl

pub carried_line : (cookie : KeptView) (times : Times) → carried_times cookie ≡ Some times → line_at times cookie ≡ json_line cookie
carried_line cookie times h = by (is_storable cookie) h
  where
    by : (s : Bool) → cond s (times_with (option_and_then json_time cookie.expiry) (json_time cookie.last_access)) None ≡ Some times
        → line_at times cookie ≡ json_line cookie
    by false h = absurd (false≢true (ap is_some h))
    by true h =
        let expiry = expiry-is cookie.expiry times.expiry (times_with-expiry (option_and_then json_time cookie.expiry) (json_time cookie.last_access) times h) in
        let access = json_time-is cookie.last_access times.last_access (times_with-access (option_and_then json_time cookie.expiry) (json_time cookie.last_access) times h) in
        ap (λ t. json_line_at (record cookie { last_access = t }) (Some times.expiry)) (sym access)
        ∙ ap (json_line_at cookie) (sym expiry)

-- ---- the text

of_integer-no_float : (z : ℤ) → has_float (number (of_integer z)) ≡ false
of_integer-no_float (pos n) = refl
of_integer-no_float (negsuc n) = refl

pub cookie_data-no_float : (cookie : KeptView) (expiry : ℤ) → has_float (cookie_data cookie expiry) ≡ false
cookie_data-no_float cookie expiry = rw (of_integer-no_float expiry, of_integer-no_float cookie.last_access) refl

-- ---- bytes and letters

pub small_at : (letters : List ℕ) (i d : ℕ) → list_all (λ letter. nat_lt letter 256) letters ≡ true → i < length letters → get_or letters i d < 256
small_at letters i d h below = let k = AllPass-from_list_all (λ letter. nat_lt letter 256) letters h i d below in grind (arith, nat_tests, k)

-- ---- four texts that are the same

pub same_texts : (F : List ℕ → List ℕ → List ℕ → List ℕ → Line) (a b c d p q r s : List ℕ)
    → a ≡ p → b ≡ q → c ≡ r → d ≡ s → F a b c d ≡ F p q r s
same_texts F a b c d p q r s e f g h =
    ap (λ x. F x b c d) e ∙ ap (λ x. F p x c d) f ∙ ap (λ x. F p q x d) g ∙ ap (λ x. F p q r x) h

-- ---- a line that isn't empty

pub whole_line : (now : DateTime) (text : List ℕ) (found : Data) → (length text == 0) ≡ false → IsUtf8 text → read text ≡ Some found
    → json_line_read now text ≡ line_of_data now (Some found)
whole_line now [] found filled utf8 is = absurd (false≢true (sym filled))
whole_line now (b ∷ bs) found filled utf8 is =
    cond-true (is_utf8 (b ∷ bs)) (line_of_data now (read (b ∷ bs))) line.Bad (is_utf8-from_IsUtf8 (b ∷ bs) utf8) ∙ ap (line_of_data now) is

pub broken_line : (now : DateTime) (text : List ℕ) → (length text == 0) ≡ false → (IsUtf8 text → read text ≡ None) → json_line_read now text ≡ line.Bad
broken_line now [] filled none = absurd (false≢true (sym filled))
broken_line now (b ∷ bs) filled none = by (is_utf8 (b ∷ bs)) refl
  where
    by : (u : Bool) → is_utf8 (b ∷ bs) ≡ u → cond (is_utf8 (b ∷ bs)) (line_of_data now (read (b ∷ bs))) line.Bad ≡ line.Bad
    by true u = cond-true (is_utf8 (b ∷ bs)) (line_of_data now (read (b ∷ bs))) line.Bad u ∙ ap (line_of_data now) (none (IsUtf8-from_is_utf8 (b ∷ bs) u))
    by false u = cond-false (is_utf8 (b ∷ bs)) (line_of_data now (read (b ∷ bs))) line.Bad u
