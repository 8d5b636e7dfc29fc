-- Mirrors private code: a verdict as the definitions have it.
use Rattle.std.specs.Prelude.{Result, Ok, Err}
use Rattle.cookie_browser.specs.Storage.{KeptView}
use Rattle.cookie_browser.specs.declared.refusal.Refusal.{Refusal}
use Rattle.cookie_agent.specs.declared.verdict.Verdict.{Verdict}
use Rattle.cookie_agent.specs.declared.verdict.Verdict.TheVariants.{Stored, Refused}

-- the cookie that is stored, or the refusal
abbrev pub verdict_result : Verdict → Result KeptView Refusal
verdict_result (Stored cookie) = Ok cookie
verdict_result (Refused refusal) = Err refusal
