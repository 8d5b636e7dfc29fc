use Rattle.cookie_session.proofs.SignedLemmas.{NoneBefore}
use Rattle.cookie_session.proofs.key_ring.KeyRing.verify_text.Given as goal

-- no key so far signed the text
abbrev pub invariant-loop-place : goal.invariant-loop-place
invariant-loop-place l = NoneBefore l.self l.name l.text l.place
