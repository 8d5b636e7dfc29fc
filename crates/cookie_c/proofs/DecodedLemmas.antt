-- What decoding leaves of a cookie as it is.
use Rattle.std.proofs.Common.{◌≡◌, ℕ, List, true, false, Some, Ok, ap, sym, subst, ◌∙◌}
use Rattle.std.proofs.lemmas.Option.{same_Some}
use Rattle.cookie.specs.Attributes.{SetsAttributes}
use Rattle.cookie.specs.CookieOf.{cookie_of}
use Rattle.cookie.specs.Reads.{Reads}
use Rattle.cookie.specs.Record.{Record}
use Rattle.cookie.proofs.CookieOfLemmas.{cookie_of-Reads}
use Rattle.cookie.proofs.ReadingLemmas.{IsPieces-unique, SetsAttributes-named}
use Rattle.cookie_c.specs.Decoded.{AreGiven, GivesCookie}
use Rattle.cookie_c.specs.Numbers.{numbers_of}
use Rattle.cookie_c.specs.Spans.{IsOptionalAt}
use Rattle.cookie_c.specs.Readings.{ShowsCookie}
use Rattle.cookie_c.specs.declared.reading.Reading.{Reading}

-- decoding changes the name and the value alone
decoded_fields : (t : List ℕ) (r s : Record) → cookie_of false t ≡ Some s → cookie_of true t ≡ Some r
    → r ≡ record s { name = r.name; value = r.value }
decoded_fields t r s plain decoded =
    let (p, ps, is, (_, _, _, _, _, _, sets)) = (cookie_of-Reads false t s).0 plain in
    let (q, qs, are, (n, v, pair, some, name, value, _)) = (cookie_of-Reads true t r).0 decoded in
    let same = (IsPieces-unique t p ps q qs is are).1 in
    let made : Record = record s { name = r.name; value = r.value } in
    let reads : Reads true t (Ok made) = (q, qs, are, (n, v, pair, some, name, value, subst (λ xs. SetsAttributes xs made) same (SetsAttributes-named ps s r.name r.value sets))) in
    same_Some _ _ (sym decoded ∙ (cookie_of-Reads true t made).1 reads)

-- so the answer has the path, the domain and the attributes of the cookie as it stands
pub gives_cookie : (text name value old new : List ℕ) (r s : Record) (shown answer : Reading)
    → cookie_of false text ≡ Some s → cookie_of true text ≡ Some r → ShowsCookie text s shown
    → name ≡ r.name → value ≡ r.value → AreGiven name value answer.status answer.name answer.value old new
    → answer.path ≡ shown.path → answer.domain ≡ shown.domain → answer.attributes ≡ shown.attributes
    → GivesCookie text r answer old new
gives_cookie text name value old new r s shown answer plain decoded shows e f pair path domain attributes =
    let same = decoded_fields text r s plain decoded in
    record {
      pair = rw (sym e, sym f) pair;
      path = subst (IsOptionalAt text answer.path) (sym (ap (λ (x : Record). x.path) same)) (subst (λ p. IsOptionalAt text p s.path) (sym path) shows.path);
      domain = subst (IsOptionalAt text answer.domain) (sym (ap (λ (x : Record). x.domain) same)) (subst (λ p. IsOptionalAt text p s.domain) (sym domain) shows.domain);
      attributes = attributes ∙ shows.attributes ∙ sym (ap numbers_of same);
    }
