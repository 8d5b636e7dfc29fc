use Rattle.std.proofs.Common.{◌≡◌, ap, subst, string_bytes, rules, ◌∙◌}
use Rattle.std.specs.FinMap.{entries}
use Rattle.cookie.specs.TextMap.{AreTexts}
use Rattle.cookie_session.specs.Form.{form_of_texts, texts_of_form}
use Rattle.cookie_session.specs.Session.{SessionState}
use Rattle.cookie_session.proofs.ReadLemmas.{texts-form}
use Rattle.cookie_session.proofs.session.Session.to_form.Goals as goal

pub returns-clause-back : goal.returns-clause-back
returns-clause-back c =
    let pairs = c.pairs-name-items.ensures in
    let are = subst (λ (s : SessionState). AreTexts (entries s.texts)) c.self.view_is (subst AreTexts pairs.listed pairs.texts) in
    let written : string_bytes c.finish.result ≡ form_of_texts c.args.self.now.texts = search rules in
    ap texts_of_form written ∙ texts-form c.args.self.now.texts are
