use Rattle.std.proofs.Common.{◌≡◌, ◌↔◌, ℕ, List, Some, alloc_error, subst}
use Rattle.std.specs.Option.{option_map}
use Rattle.std.specs.String.{string_bytes}
use Rattle.cookie_core.specs.Memory.{Gives}
use Rattle.cookie.specs.Sealing.{IsSealed}
use Rattle.cookie.proofs.secure.sealer.Sealer.open.Goals as goal

pub returns : goal.returns
returns c =
    subst (λ text. Gives alloc_error c.open_decoded.result (λ answer. (v : List ℕ)
    → (option_map string_bytes answer ≡ Some v) ↔ IsSealed c.args.self.now c.args.name.now text v)) c.in_ok-sealed.ensures c.open_decoded.ensures
