-- When the fields of a date stand for a date-time.
use Rattle.std.proofs.Common.{◌≡◌, ◌↔◌, ℤ, pos, arith}
use Rattle.jiff.proofs.SpanFacts.{signed_arith}
use Rattle.jiff.specs.Words.{IsDate, IsTime}
use Rattle.cookie_date.specs.declared.fields.Fields.{Fields}
use Rattle.cookie_date.specs.Fields.{Exists}
use Rattle.cookie_date.specs.Forms.{full_year}

pub exists_is : (f : Fields) (y m d h i s : ℤ) → y ≡ full_year f.year → m ≡ pos f.month → d ≡ pos f.day → h ≡ pos f.hour → i ≡ pos f.minute → s ≡ pos f.second
    → (IsDate y m d × IsTime h i s (pos 0)) ↔ Exists f
exists_is f y m d h i s ye me de he ie se =
    rw (ye, me, de, he, ie, se) (
      λ a. (a.0, omega (arith, signed_arith, a.1), omega (arith, signed_arith, a.1), omega (arith, signed_arith, a.1)),
      λ e. (e.0, omega (arith, signed_arith, e.1, e.2, e.3)),
    )
