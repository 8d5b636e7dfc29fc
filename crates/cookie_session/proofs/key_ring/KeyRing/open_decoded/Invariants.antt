use Rattle.std.proofs.Common.{ℕ, ◌<◌, List}
use Rattle.cookie_session.specs.KeyRing.{KeyOpensText}
use Rattle.cookie_session.specs.OpenedText.{purpose_of, text_of}
use Rattle.cookie_session.proofs.key_ring.KeyRing.open_decoded.Given as goal

-- no key so far opens the text
abbrev pub invariant-loop-place : goal.invariant-loop-place
invariant-loop-place l = (newer : ℕ) (w : List ℕ) → newer < l.place → ¬ (KeyOpensText (purpose_of l.sealed) l.self newer l.name (text_of l.sealed) w)
