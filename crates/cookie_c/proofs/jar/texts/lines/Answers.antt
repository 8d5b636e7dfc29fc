use Rattle.std.proofs.Common.{◌++◌, true, false, codes, map, string_bytes, ap, sym, subst, ◌∙◌}
use Rattle.std.proofs.lemmas.List.{append-nil}
use Rattle.cookie.specs.Text.{cookie_text}
use Rattle.cookie_client.specs.Session.{set_cookie_lines}
use Rattle.cookie_client.proofs.SessionLemmas.{line-more}
use Rattle.cookie_c.specs.Jars.{HasLines}
use Rattle.cookie_c.proofs.jar.texts.lines.Goals as goal

pub loop-cookie-init : goal.loop-cookie-init
loop-cookie-init c = record {
  cookies = c.delta-cookie-items.result;
  are = c.delta-cookie-items.ensures.walks;
  lines = ap (λ b. b ++ set_cookie_lines (map (cookie_text true false) c.into_iter-cookie-iterator.result)) c.new-text.ensures.bytes
      ∙ ap (λ cookies. set_cookie_lines (map (cookie_text true false) cookies)) c.into_iter-cookie-iterator.ensures.into_iter_gives;
}

pub loop-cookie-preserved : goal.loop-cookie-preserved
loop-cookie-preserved c =
    let left = set_cookie_lines (map (cookie_text true false) c.next.new.self) in
    let moved = ap (λ b. b ++ left) c.in_ok-push_line.ensures
    ∙ line-more (string_bytes c.loop-cookie.text) (codes "Set-Cookie: ") (cookie_text true false c.in-Some.cookie.now.fields) (codes "\n") left
    ∙ ap (λ cookies. string_bytes c.loop-cookie.text ++ set_cookie_lines (map (cookie_text true false) cookies)) (sym c.in-Some.ensures.steps) in
    subst (HasLines c.args.jar.now.delta) (sym moved) c.loop-cookie.invariant

pub returns : goal.returns
returns c =
    let all = sym (append-nil (string_bytes c.loop-cookie.text))
    ∙ ap (λ cookies. string_bytes c.loop-cookie.text ++ set_cookie_lines (map (cookie_text true false) cookies)) (sym c.in-None.ensures.steps.0) in
    subst (HasLines c.args.jar.now.delta) (sym all) c.loop-cookie.invariant
