-- What is read of a token is what its production says, and nothing else.
use Rattle.std.proofs.Common.{◌≡◌, ℕ, ◌+◌, ◌<◌, ◌≤◌, ◌↔◌, true, List, [], ◌∷◌, ◌++◌, length, get_or, Option, Some, None, option_map, refl, ap, subst, arith, nat_le, length-append}
use Rattle.std.proofs.lemmas.Bool.Decides.{nat_tests}
use Rattle.std.proofs.lemmas.Option.{same_Some, none-some}
use Rattle.std.proofs.lemmas.Str.Parse.{digits_value_short, numerals_by_value, tells_digits}
use Rattle.std.specs.Char.{is_ascii_digit}
use Rattle.cookie_date.specs.Chains.{◌>>=◌}
use Rattle.cookie_date.specs.CookieDate.{read_run, time_in, day_in, year_in}
use Rattle.cookie_date.specs.Reader.{read_tag, read_digits}
use Rattle.cookie_date.specs.Productions.{IsRun, IsTime, IsDay, IsYearToken}
use Rattle.cookie_date.proofs.OptionLemmas.{through, passed, not_stopped}
use Rattle.cookie_date.proofs.ReaderLemmas.{through_tag}
use Rattle.cookie_date.proofs.YearLemmas.{read_digits-read, read_digits-front}

pub run-front : (least most : ℕ) (text : List ℕ) (r : ℕ × List ℕ) → read_run least most text ≡ Some r → IsRun least most text r.0 r.1
unfolding read_run
run-front least most text r e =
    let (ds, shown, all, short, value) = read_digits-front most 0 text in
    let (digit, e₁) = not_stopped (is_ascii_digit (get_or (read_digits most 0 text).1 0 0)) _ r e in
    let (long, e₂) = passed (nat_le (length (read_digits most 0 text).1 + least) (length text)) _ r e₁ in
    let fits : length (read_digits most 0 text).1 + least ≤ length text = grind (arith, nat_tests) in
    let enough : least ≤ length ds = omega (arith, ap length shown, length-append ds (read_digits most 0 text).1) in
    subst (λ (p : ℕ × List ℕ). IsRun least most text p.0 p.1) (same_Some _ _ e₂) (ds, shown, all, enough, short, value, digit)

pub run-read : (least most : ℕ) (text : List ℕ) (n : ℕ) (rest : List ℕ) → IsRun least most text n rest → read_run least most text ≡ Some (n, rest)
unfolding read_run
run-read least most text n rest (ds, shown, all, enough, short, value, digit) =
    let read = read_digits-read most 0 ds rest all short digit in
    let long : nat_le (length rest + least) (length (ds ++ rest)) ≡ true = let fits : length rest + least ≤ length (ds ++ rest) = omega (arith, length-append ds rest) in grind (arith, nat_tests) in
    rw (shown, value) (rw read (rw (digit, long) refl))

-- the number of a run of at most two digits
pub run-small : (least : ℕ) (text : List ℕ) (r : ℕ × List ℕ) → read_run least 2 text ≡ Some r → r.0 < 100
run-small least text r e =
    let (ds, shown, all, enough, short, value, digit) = run-front least 2 text r e in
    omega (arith, value, digits_value_short (numerals_by_value _ tells_digits) ds 2 all short)

pub time_in-is : (token : List ℕ) (t : ℕ × ℕ × ℕ) → (time_in token ≡ Some t) ↔ IsTime token t
unfolding time_in
time_in-is token t = (front, read)
  where
    front : time_in token ≡ Some t → IsTime token t
    front e₀ =
        let (h, hour, e₁) = through _ (read_run 1 2 token) t e₀ in
        let (m, minutes, e₂) = through _ (read_tag (58 ∷ []) h.1 >>= read_run 1 2) t e₁ in
        let (a, behind_hour, minute) = through_tag (58 ∷ []) h.1 (read_run 1 2) m minutes in
        let (s, seconds, e₃) = through _ (read_tag (58 ∷ []) m.1 >>= read_run 1 2) t e₂ in
        let (b, behind_minute, second) = through_tag (58 ∷ []) m.1 (read_run 1 2) s seconds in
        subst (IsTime token) (same_Some _ _ e₃)
        (a, b, s.1, subst (λ x. IsRun 1 2 token h.0 x) behind_hour (run-front 1 2 token h hour), subst (λ x. IsRun 1 2 a m.0 x) behind_minute (run-front 1 2 a m minute), run-front 1 2 b s second)

    read : IsTime token t → time_in token ≡ Some t
    read (a, b, c, hour, minute, second) =
        rw (run-read 1 2 token t.0 (58 ∷ a) hour)
        (rw (run-read 1 2 a t.1 (58 ∷ b) minute)
        (rw (run-read 1 2 b t.2 c second) refl))

pub day_in-is : (token : List ℕ) (day : ℕ) → (day_in token ≡ Some day) ↔ IsDay token day
unfolding day_in
day_in-is token day = (front (read_run 1 2 token) refl, λ h. ap (option_map (λ r. r.0)) (run-read 1 2 token day h.0 h.1))
  where
    front : (o : Option (ℕ × List ℕ)) → read_run 1 2 token ≡ o → option_map (λ r. r.0) o ≡ Some day → IsDay token day
    front None read e = absurd (none-some _ e)
    front (Some r) read e = (r.1, subst (λ n. IsRun 1 2 token n r.1) (same_Some _ _ e) (run-front 1 2 token r read))

pub year_in-is : (token : List ℕ) (year : ℕ) → (year_in token ≡ Some year) ↔ IsYearToken token year
unfolding year_in
year_in-is token year = (front (read_run 2 4 token) refl, λ h. ap (option_map (λ r. r.0)) (run-read 2 4 token year h.0 h.1))
  where
    front : (o : Option (ℕ × List ℕ)) → read_run 2 4 token ≡ o → option_map (λ r. r.0) o ≡ Some year → IsYearToken token year
    front None read e = absurd (none-some _ e)
    front (Some r) read e = (r.1, subst (λ n. IsRun 2 4 token n r.1) (same_Some _ _ e) (run-front 2 4 token r read))
