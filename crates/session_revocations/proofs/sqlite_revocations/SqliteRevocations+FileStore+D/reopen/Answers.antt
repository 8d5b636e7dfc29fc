use Rattle.std.proofs.Common.{◌≡◌, ap, ◌∙◌}
use Rattle.std.proofs.lemmas.Result.{IfOk-weaker}
use Rattle.sqlite.proofs.Callers.{finds_again}
use Rattle.sqlite.specs.Effect.{Database}
use Rattle.sqlite.specs.Files.{file_state}
use Rattle.sqlite.specs.Tree.{Trees}
use Rattle.session_revocations.specs.Held.{rows_of}
use Rattle.session_revocations.proofs.sqlite_revocations.SqliteRevocations+FileStore+D.reopen.Goals as goal

pub returns : goal.returns
returns g c =
    let old = c.into_connection.result in
    IfOk-weaker c.open_files.result _ _ (λ again is clean.
    let (found, opened) = is clean in
    let copied = c.in-Ok.ensures.copied found.honest in
    let kept = c.into_connection.ensures.kept copied.was_clean copied.was_open in
    let trees = finds_again old again c.in-Ok.files c.in-Ok.ensures.copied found ∙ ap (λ (d : Database). d.trees) kept.settled in
    ap (λ (d : Database). d.trees 0) opened.clean ∙ ap (λ (t : Trees). t 0) trees ∙ ap (λ h. rows_of (file_state h)) c.into_connection.ensures.value)
    c.open_files.ensures.found
