-- A user agent's cookies in a saved text, for C: `old` is what its handle has at the call and `new` at the return. Of a
-- call that gives a text `before` and `after` are the buffer, and of one that gives the bad lines the array.
use Rattle.std.specs.Prelude.{◌≡◌, ◌==◌, ◌⊎◌, ◌++◌, ℕ, List, [], ◌∷◌, take, drop, length, Option, Some, None, if◌then◌else◌}
use Rattle.jiff.specs.Types.{DateTime}
use Rattle.cookie_browser.specs.Storage.{CookieStore, lasting}
use Rattle.cookie_browser.specs.Suffixes.{Rule}
use Rattle.cookie_agent.specs.Limits.{trimmed}
use Rattle.cookie_agent.specs.Saved.{left_out}
use Rattle.cookie_agent.specs.SavedForms.{bad_lines, carries, loaded_cookies, saved_text}
use Rattle.cookie_agent.specs.Stored.{kept_with_each}
use Rattle.cookie_agent.specs.declared.limits.Limits.{Limits}
use Rattle.cookie_agent.specs.declared.saved.form.SavedForm.{SavedForm}
use Rattle.cookie_agent.specs.declared.saved.form.SavedForm.TheVariants as forms
use Rattle.cookie_c.specs.Agents.{AtStore}
use Rattle.cookie_c.specs.Answers.{IsGiven}
use Rattle.cookie_c.specs.Codes.{code_of}
use Rattle.cookie_c.specs.Sites.{AtSecond}
use Rattle.cookie_c.specs.declared.agent.load.AgentLoading.{AgentLoading}
use Rattle.cookie_c.specs.declared.agent.save.AgentSaving.{AgentSaving}
use Rattle.cookie_c.specs.declared.answer.Answer.{Answer}
use Rattle.cookie_c.specs.declared.status.Status.{Status}
use Rattle.cookie_c.specs.declared.status.Status.TheVariants as status

-- ---- the forms of a saved text

-- the form of a number, if it is one's
abbrev pub form_of : ℕ → Option SavedForm
form_of number =
    if number == 0 then Some forms.CookiesTxt
    else if number == 1 then Some forms.JsonLines else None

-- this holds of the form, or there is none and the call is refused
abbrev pub InForm : Option SavedForm → (SavedForm → Type 0) → (Status → Type 0) → Type 0
InForm None Holds Refuses = Refuses status.BadAttribute
InForm (Some form) Holds Refuses = Holds form

-- decode the form, then the time: refuse `BadAttribute`, then `NoDate`
abbrev pub ForForm : ℕ → ℕ → (SavedForm → DateTime → Type 0) → (Status → Type 0) → Type 0
ForForm number second Holds Refuses =
    InForm (form_of number) (λ form. AtSecond second (Holds form) Refuses) Refuses

-- the first of the numbers, and 0 if there is none
abbrev pub first_of : List ℕ → ℕ
first_of [] = 0
first_of (number ∷ numbers) = number

-- ---- saving

-- the status and the length of the answer
abbrev pub answer_of : AgentSaving → Answer
answer_of answer = record { status = answer.status; length = answer.length }

-- the answer of a call that saves nothing
abbrev pub unsaved : Status → AgentSaving
unsaved why = record { status = code_of why; length = 0; left_out = 0; first_left_out = 0 }

-- nothing is saved, and nothing is written
abbrev pub IsUnsaved : Status → AgentSaving → List ℕ → List ℕ → Type 0
IsUnsaved why answer before after = (answer ≡ unsaved why) × (after ≡ before)

-- the text of the cookies is given, with the number of the persistent ones that it lacks, and the first of these
pub record GivesSaved (form : SavedForm) (now : DateTime) (store : CookieStore)
    (answer : AgentSaving) (before after : List ℕ) : Type 0 where
  pub given : IsGiven (saved_text form now store) (answer_of answer) before after
  pub lacks : answer.left_out ≡ length (left_out now (carries form) store)
  pub first : answer.first_left_out ≡ first_of (left_out now (carries form) store)

-- `GivesSaved` in the form of this number at that second; or nothing is saved
abbrev pub Saves : ℕ → ℕ → CookieStore → AgentSaving → List ℕ → List ℕ → Type 0
Saves number second store answer before after =
    ForForm number second
    (λ form now. GivesSaved form now store answer before after
    ⊎ IsUnsaved status.OutOfMemory answer before after)
    (λ why. IsUnsaved why answer before after)

-- `Saves` for the agent in the handle; `NoAgent` if it has none
abbrev pub SavesAt : ℕ → ℕ → Option CookieStore → AgentSaving → List ℕ → List ℕ → Type 0
SavesAt number second None answer before after = IsUnsaved status.NoAgent answer before after
SavesAt number second (Some store) answer before after =
    Saves number second store answer before after

-- ---- loading

-- the answer of a call that loads nothing
abbrev pub unloaded : Status → AgentLoading
unloaded why = record { status = code_of why; bad_lines = 0 }

-- the answer to a text with these bad lines
abbrev pub loaded_with : List ℕ → AgentLoading
loaded_with lines = record { status = code_of status.Done; bad_lines = length lines }

-- the array with the numbers at its head, as many of the first as have room
abbrev pub with_head : List ℕ → List ℕ → List ℕ
with_head numbers array = take (length array) numbers ++ drop (length numbers) array

-- Each cookie of the text that isn't expired is stored, in turn, and then what is above the limits is dropped. The answer
-- counts the bad lines, whose numbers are at the head of the array.
pub record LoadsText (rules : List Rule) (limits : Limits) (form : SavedForm) (now : DateTime)
    (text : List ℕ) (answer : AgentLoading) (before after : List ℕ) (old new : CookieStore)
    : Type 0 where
  pub left : new ≡ trimmed rules limits now
      (kept_with_each (lasting now (loaded_cookies form rules now text)) old)
  pub told : answer ≡ loaded_with (bad_lines form rules now text)
  pub listed : after ≡ with_head (bad_lines form rules now text) before

-- nothing is loaded, and the array is as it was
abbrev pub IsUnloaded : Status → AgentLoading → List ℕ → List ℕ → Type 0
IsUnloaded why answer before after = (answer ≡ unloaded why) × (after ≡ before)

-- `LoadsText` in the form of this number at that second; or nothing is loaded
abbrev pub Loads : List Rule → Limits → ℕ → ℕ → List ℕ → AgentLoading → List ℕ → List ℕ
    → CookieStore → CookieStore → Type 0
Loads rules limits number second text answer before after old new =
    ForForm number second
    (λ form now. LoadsText rules limits form now text answer before after old new
    ⊎ (IsUnloaded status.OutOfMemory answer before after × (new ≡ old)))
    (λ why. IsUnloaded why answer before after × (new ≡ old))

-- `Loads` for the agent in the handle; `NoAgent` if it has none
abbrev pub LoadsAt : List Rule → Limits → ℕ → ℕ → List ℕ → AgentLoading → List ℕ → List ℕ
    → Option CookieStore → Option CookieStore → Type 0
LoadsAt rules limits number second text answer before after old new =
    AtStore (λ had made. Loads rules limits number second text answer before after had made)
    (λ why. IsUnloaded why answer before after) old new

-- the same by the rules that a handle has, which a handle without them refuses first
abbrev pub LoadsBy : Option (List Rule) → Limits → ℕ → ℕ → List ℕ → AgentLoading → List ℕ
    → List ℕ → Option CookieStore → Option CookieStore → Type 0
LoadsBy None limits number second text answer before after old new =
    IsUnloaded status.NoSuffixes answer before after × (new ≡ old)
LoadsBy (Some rules) limits number second text answer before after old new =
    LoadsAt rules limits number second text answer before after old new
