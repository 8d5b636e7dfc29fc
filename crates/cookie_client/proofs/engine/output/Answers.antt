use Rattle.std.proofs.Common.{◌≡◌, ◌++◌, [], true, false, map, None, Some, ap, subst, ◌∙◌}
use Rattle.std.specs.FinMap.{entries, get}
use Rattle.std.specs.Prelude.{codes}
use Rattle.std.specs.String.{string_bytes}
use Rattle.cookie.specs.CookieOf.{cookie_of}
use Rattle.cookie.specs.Header.{header_texts}
use Rattle.cookie.specs.Jar.{Marked, Name}
use Rattle.cookie.specs.Record.{plain}
use Rattle.cookie.specs.Text.{cookie_text}
use Rattle.cookie_client.specs.Client.{ReadsBack, after_texts}
use Rattle.cookie_client.specs.Session.{cookie_line, delta_texts, set_cookie_lines}
use Rattle.cookie_client.proofs.SessionLemmas.{map_map}
use Rattle.cookie_client.proofs.engine.output.Goals as goal

pub returns : goal.returns
returns c =
    let texts : map (λ e. e.1) (entries c.in_ok-texts.texts) ≡ delta_texts c.args.jar.now =
    ap (map (λ e. e.1)) c.in_ok-texts.ensures
    ∙ map_map (λ (e : Name × Marked). (e.0, cookie_text true false e.1.cookie)) (λ e. e.1) (entries c.args.jar.now.delta) in
    let told : c.tell.new.client ≡ after_texts c.args.now (delta_texts c.args.jar.now) c.args.client =
    c.in_ok-written.ensures.client ∙ ap (λ ts. after_texts c.args.now ts c.args.client) texts in
    let lines = c.in_ok-written.ensures.lines ∙ ap set_cookie_lines texts in
    let header = c.as_str.ensures.value ∙ c.in_ok-header.ensures.text in (
      c.in_ok-push_line.ensures
          ∙ ap (λ h. string_bytes c.in_ok-written.written ++ (codes "Cookie: " ++ (h ++ codes "\n"))) header
          ∙ ap (λ b. b ++ cookie_line c.tell.new.client) lines
          ∙ ap (λ v. set_cookie_lines (delta_texts c.args.jar.now) ++ cookie_line v) told,
      subst (λ v. get v [] ≡ None → ReadsBack v) told (λ unnamed.
          subst (λ h. map (cookie_of true) (header_texts h) ≡ map (λ pair. Some (plain pair.0 pair.1)) (entries c.tell.new.client))
          c.in_ok-header.ensures.text (c.in_ok-header.ensures.reads_back unnamed)),
    )
