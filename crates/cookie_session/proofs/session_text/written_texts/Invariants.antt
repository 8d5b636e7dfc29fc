use Rattle.std.proofs.Common.{◌≡◌, ℕ, List, length}
use denote.Text.{Utf8}
use denote.Shadow.{shadow}
use Rattle.std.specs.FinMap.{empty}
use Rattle.cookie.specs.TextMap.{AreTexts}
use Rattle.cookie_session.specs.Form.{filled}
use Rattle.cookie_session.specs.Reading.{pairs_text}
use Rattle.cookie_session.proofs.session_text.written_texts.Given as goal

-- what is read, filled with the pairs that are left, is the whole
abbrev pub invariant-loop-rest : goal.invariant-loop-rest
invariant-loop-rest l = shadow (Utf8 l.rest) × ((pairs : List (List ℕ × List ℕ)) → AreTexts pairs → l.fn.text ≡ pairs_text pairs
    → (left : List (List ℕ × List ℕ)) × AreTexts left × (l.rest ≡ pairs_text left) × (filled left l.texts ≡ filled pairs empty))

abbrev pub decreases-loop-rest : goal.decreases-loop-rest
decreases-loop-rest l = length l.rest
