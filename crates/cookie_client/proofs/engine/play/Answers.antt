use Rattle.std.proofs.Common.{sym, subst, ◌∙◌, string_bytes}
use Rattle.std.specs.Io.KnownBytes.{Appends}
use Rattle.std.proofs.KnownBytes.{Keeps-refl}
use Rattle.std.proofs.lemmas.Result.{err_from_is_err_and, on_ok_weaker}
use Rattle.cookie_client.proofs.RunLemmas.{refused}
use Rattle.cookie_client.proofs.engine.play.Goals as goal

pub returns-in_err-text-clause-played : goal.returns-in_err-text-clause-played
returns-in_err-text-clause-played g c =
    let p = err_from_is_err_and c.from_residual-in_err-text.result c.from_residual-in_err-text.ensures.1 in
    rw (p.1, p.2) (refused c.args.moment.now c.deref.result.now c.in-Some.now (sym c.moment_of.ensures ∙ c.in-Some.is) _
    (rw c.deref.ensures.value c.in_ok-bytes.ensures.bytes, c.in_ok-bytes.ensures.end) _ _ (Keeps-refl _) c.in_err-text.field-0.0 c.in_err-text.ensures.played)

pub returns-clause-agreement : goal.returns-clause-agreement
returns-clause-agreement g c =
    on_ok_weaker c.write_text.result (λ appended. (
      c.in-Some.now,
      sym c.moment_of.ensures ∙ c.in-Some.is,
      c.deref.result.now,
      (rw c.deref.ensures.value c.in_ok-bytes.ensures.bytes, c.in_ok-bytes.ensures.end),
      string_bytes c.in_ok-text.text,
      c.in_ok-text.ensures.agreement,
      subst (Appends (g.W.Write.contents c.args.output.now) (g.W.Write.contents c.write_text.new.output)) c.as_bytes.ensures.value appended,
    )) c.write_text.ensures.ok
