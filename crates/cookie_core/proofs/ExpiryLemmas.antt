-- The last expiry is the one date-time of its parts.
use Rattle.std.proofs.Common.{◌≡◌, arith, pos}
use Rattle.std.proofs.lemmas.Int.{ints}
use Rattle.jiff.specs.Types.{DateTime}
use Rattle.jiff.specs.Words.{IsYmd, IsHms, epoch_day, time_nanos}
use Rattle.jiff.proofs.Family.{epoch_day_same, same_date, same_time}
use Rattle.cookie_date.specs.Moments.{last_moment}
use Rattle.cookie_core.specs.Expiration.{last_expiry}

pub last_expiry-is : (m : DateTime) → IsYmd (pos 9999) (pos 12) (pos 31) m.date → IsHms (pos 23) (pos 59) (pos 59) (pos 999_999_000) m.time → m ≡ last_expiry
unfolding last_expiry last_moment
last_expiry-is m date time =
    let day : epoch_day m.date ≡ epoch_day last_expiry.date = epoch_day_same m.date last_expiry.date date.0 (omega (arith, ints)) (omega (arith, ints)) in
    let nanos : time_nanos m.time ≡ time_nanos last_expiry.time = omega (arith, ints) in
    λ i. record { date = same_date m.date last_expiry.date day i; time = same_time m.time last_expiry.time nanos i }
