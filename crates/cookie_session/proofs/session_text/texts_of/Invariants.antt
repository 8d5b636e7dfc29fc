use Rattle.std.proofs.Common.{◌≡◌}
use Rattle.std.specs.FinMap.{empty}
use Rattle.form_urlencoded.specs.Parse.{raw_pairs_left}
use Rattle.cookie_session.specs.Form.{decoded_pairs, filled}
use Rattle.cookie_session.proofs.session_text.texts_of.Given as goal

-- what is read, filled with the pairs that are left, is the whole
abbrev pub invariant-loop-name : goal.invariant-loop-name
invariant-loop-name l = filled (decoded_pairs (raw_pairs_left l.name-iterator)) l.texts ≡ filled (decoded_pairs (raw_pairs_left l.fn.pairs)) empty
