-- The text of a refusal to return a session.
use Rattle.std.specs.Prelude.{ℕ, List}
use Rattle.cookie_http.specs.HttpError.{http_refusal_text}
use Rattle.cookie_session.specs.SessionError.{session_refusal_text}
use Rattle.cookie_theorems.specs.declared.return_error.ReturnError.{ReturnError}
use Rattle.cookie_theorems.specs.declared.return_error.ReturnError.TheVariants as failure

-- the text of what it holds
abbrev pub return_refusal_text : ReturnError → List ℕ
return_refusal_text (failure.Session error) = session_refusal_text error
return_refusal_text (failure.Http error) = http_refusal_text error
