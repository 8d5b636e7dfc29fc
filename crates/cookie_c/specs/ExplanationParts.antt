-- Mirrors private code: an answer and its texts, before they are given.
use Rattle.std.specs.Prelude.{◌≡◌, Result}
use Rattle.jiff.specs.Types.{DateTime}
use Rattle.cookie_browser.specs.Storage.{KeptView}
use Rattle.cookie_browser.specs.declared.refusal.Refusal.{Refusal}
use Rattle.cookie_c.specs.Explanations.{answer_to, texts_of}
use Rattle.cookie_c.specs.declared.explanation.draft.Draft.{Draft}

-- the draft has the verdict's answer and texts, at `now`
abbrev pub IsDraftOf : DateTime → Result KeptView Refusal → Draft → Type 0
IsDraftOf now verdict draft =
    (draft.answer ≡ answer_to now verdict) × (draft.texts.items ≡ texts_of verdict)
