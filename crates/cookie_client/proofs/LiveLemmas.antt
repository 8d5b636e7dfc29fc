-- Whether an expiry is later, told by whole seconds.
use Rattle.std.proofs.Common.{◌≡◌, ℕ, ◌<◌, Some, ap, ◌∙◌, arith, ℤ, pos, ◌+ℤ◌, ◌*ℤ◌}
use Rattle.std.specs.Prelude.{int_lt}
use Rattle.jiff.specs.Types.{DateTime}
use Rattle.jiff.specs.Words.{civil_nanos, civil_seconds}
use Rattle.jiff.proofs.Family.{civil_nanos-civil_seconds}
use Rattle.jiff.proofs.SpanFacts.{signed_arith}
use Rattle.cookie.specs.Expiration.{datetime_of, whole_second}
use Rattle.cookie.specs.Types.{Expiration}
use Rattle.cookie.specs.Types as expiration
use Rattle.cookie_client.specs.Live.{is_later}

lt_scaled : (s t : ℤ) (f : ℕ) → f < 1_000_000_000 → int_lt (s *ℤ pos 1_000_000_000 +ℤ pos f) (t *ℤ pos 1_000_000_000 +ℤ pos 0) ≡ int_lt s t
lt_scaled s t f small = grind (arith, signed_arith)

whole_seconds : (m : DateTime) → civil_nanos (whole_second m) ≡ civil_seconds m *ℤ pos 1_000_000_000 +ℤ pos 0
unfolding civil_seconds
whole_seconds m = civil_nanos-civil_seconds (whole_second m)

is_after-seconds : (m now : DateTime) → int_lt (civil_nanos now) (civil_nanos (whole_second m)) ≡ int_lt (civil_seconds now) (civil_seconds m)
is_after-seconds m now =
    ap (λ n. int_lt n (civil_nanos (whole_second m))) (civil_nanos-civil_seconds now)
    ∙ ap (int_lt (civil_seconds now *ℤ pos 1_000_000_000 +ℤ pos now.time.subsec_nanosecond)) (whole_seconds m)
    ∙ lt_scaled (civil_seconds now) (civil_seconds m) now.time.subsec_nanosecond now.time.subsec_in

pub is_later-seconds : (e : Expiration) (m now : DateTime) → datetime_of e ≡ Some m → is_later (Some e) now ≡ int_lt (civil_seconds now) (civil_seconds m)
is_later-seconds (expiration.AtDateTime m') m now e = let same : m' ≡ m = cc in ap (λ d. is_later (Some (expiration.AtDateTime d)) now) same ∙ is_after-seconds m now
is_later-seconds expiration.Session m now e = absurd cc
