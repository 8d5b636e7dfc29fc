use Rattle.std.proofs.Common.{◌≡◌, false, Result, Ok, Err, IsUtf8, refl, sym}
use Rattle.std.specs.Result.{MatchResult}
use Rattle.cookie_core.specs.Decoding.{are_decoded}
use Rattle.cookie_core.specs.DecodingCode.{IsDecodedOutcome}
use Rattle.cookie_core.specs.Record.{CookieView}
use Rattle.cookie_core.specs.declared.parse_error.ParseError.{ParseError}
use Rattle.cookie_core.proofs.DecodeLemmas.{Decodes-same}
use Rattle.cookie_core.proofs.cookie.parse.decode_read.Goals as goal

-- a cookie without an escape is the outcome, and so is a refusal
unchanged : (outcome : Result CookieView ParseError)
    → MatchResult outcome (λ cookie. (false ≡ are_decoded cookie.fields) × IsUtf8 cookie.fields.name × IsUtf8 cookie.fields.value) (λ _. false ≡ false)
    → IsDecodedOutcome outcome outcome
unchanged (Ok cookie) (none, name, value) = Decodes-same cookie (sym none) (name, value)
unchanged (Err error) _ = refl

pub returns-then-not-reads_escape : goal.returns-then-not-reads_escape
returns-then-not-reads_escape c = unchanged c.args.outcome (rw c.if-not-reads_escape.true at c.reads_escape.ensures)
