use Rattle.std.proofs.Common.{◌≡◌, ◌↔◌, ℕ, List, Some, alloc_error, subst}
use Rattle.std.specs.Option.{option_map}
use Rattle.std.specs.String.{string_bytes}
use Rattle.cookie_core.specs.Memory.{Gives}
use Rattle.cookie.specs.Purposes.{IsSealedFor}
use Rattle.cookie.proofs.PurposeLemmas.{apart}
use Rattle.cookie.proofs.secure.sealer.Sealer.open_for.Goals as goal

pub returns-clause-answers : goal.returns-clause-answers
returns-clause-answers c =
    subst (λ text. Gives alloc_error c.open_decoded_for.result (λ answer. (v : List ℕ)
    → (option_map string_bytes answer ≡ Some v) ↔ IsSealedFor c.args.self.now c.args.purpose.now c.args.name.now text v)) c.in_ok-sealed.ensures c.open_decoded_for.ensures.answers

pub returns-in_err-sealed-clause-apart : goal.returns-in_err-sealed-clause-apart
returns-in_err-sealed-clause-apart c = apart c.args.purpose.now c.args.name.now c.utf8.purpose
