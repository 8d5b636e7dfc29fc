use Rattle.std.proofs.Common.{◌≡◌, []}
use Rattle.form_urlencoded.specs.Form.{extend_pairs}
use Rattle.cookie_session.specs.Form.{form_of_texts}
use Rattle.cookie_session.proofs.session.Session.to_form.Given as goal

-- what is written, with the pairs that are left, is the whole
abbrev pub invariant-loop-name : goal.invariant-loop-name
invariant-loop-name l = record {
  form : extend_pairs l.form.form l.name-iterator ≡ form_of_texts l.self.texts;
  prefix : l.form.prefix ≡ [];
}
