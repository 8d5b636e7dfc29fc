use Rattle.std.proofs.Common.{List, ℕ, ap, codes, fold, rules, subst, ◌∙◌}
use Rattle.cookie.specs.TextMap.{AreTexts}
use Rattle.cookie_session.specs.Form.{with_pair}
use Rattle.cookie_session.specs.Session.{IsSession, SessionState, seen_at}
use Rattle.cookie_session.proofs.TextLemmas.{head_pairs}
use Rattle.cookie_session.proofs.session.Session.text_at.Goals as goal

pub loop-name-init : goal.loop-name-init
loop-name-init c =
    let head = head_pairs _ _ _ c.self.inside.id c.in_ok-text.ensures.bytes c.in_ok-push_str.ensures.bytes c.in_ok-encode_string.ensures.ok in
    let started = c.in_ok-push_pair.ensures ∙ (λ i. with_pair (head i) (codes "started", c.format.ensures.text i)) in
    let end = c.in_ok-push_pair-2.ensures ∙ (λ i. with_pair (started i) (codes "end", c.format-2.ensures.text i)) in
    let idle = c.in_ok-push_pair-3.ensures ∙ (λ i. with_pair (end i) (codes "idle", c.format-3.ensures.text i)) in
    let seen = c.in_ok-push_pair-4.ensures ∙ (λ i. with_pair (idle i) (codes "seen", c.format-4.ensures.text i)) in
    ap (λ (t : List ℕ). fold with_pair t c.into_iter-name-iterator.result) seen ∙ search rules

pub returns : goal.returns
returns c =
    let pairs = c.pairs-name-items.ensures in
    record {
      session = subst (λ (s : SessionState). IsSession (seen_at c.args.seen s)) c.self.view_is (
          record {
            id = c.self.invariant;
            started = search rules;
            end = search rules;
            idle = search rules;
            seen = search rules;
            texts = subst AreTexts pairs.listed pairs.texts;
          });
      written = search rules;
    }
