use Rattle.std.proofs.Common.{◌≡◌, fold, string_bytes}
use Rattle.cookie_session.specs.Form.{with_pair}
use Rattle.cookie_session.specs.Session.{seen_at, session_text}
use Rattle.cookie_session.proofs.session.Session.text_at.Given as goal

-- what is written, with the pairs that are left, is the whole
abbrev pub invariant-loop-name : goal.invariant-loop-name
invariant-loop-name l = fold with_pair (string_bytes l.text) l.name-iterator ≡ session_text (seen_at l.fn.seen l.self)
