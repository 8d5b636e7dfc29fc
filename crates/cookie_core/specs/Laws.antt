-- What printing and reading a cookie again changes (RFC 6265 4.1, 5.2).
use Rattle.std.specs.Prelude.{◌≡◌, ◌↔◌}
use Rattle.cookie_core.specs.Normal.{normal_form, GainsSecure}
use Rattle.cookie_core.specs.Record.{Record}

-- printing and reading a third time changes nothing
abbrev pub IsSettled : Type 0
IsSettled =
    (cookie : Record)
    → normal_form (normal_form (normal_form cookie)) ≡ normal_form (normal_form cookie)

-- the second time changes only a cookie that gains `Secure`
abbrev pub IsSettledAtOnce : Type 0
IsSettledAtOnce =
    (cookie : Record)
    → (normal_form (normal_form cookie) ≡ normal_form cookie) ↔ (¬ (GainsSecure cookie))
