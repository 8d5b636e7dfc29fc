-- What the texts of a cookie consist of that could have been stored.
use Rattle.std.proofs.Common.{◌≡◌, ◌⊎◌, inl, inr, ℕ, ◌+◌, ◌-◌, ◌<◌, ◌==◌, ◌&&◌, Bool, true, false, cond, not, List, [], ◌∷◌, length, get_or, take, drop, length-take, length-drop, refl, sym, ap, ◌∙◌, arith, eqb}
use Rattle.std.specs.Prelude.{codes, nat_lt}
use Rattle.std.specs.Char.{to_ascii_lowercase}
use lib.Pointwise.{pointwise}
use Rattle.std.specs.List.{ends_with, list_all, starts_with}
use Rattle.std.proofs.lemmas.Bool.{and_from, and_parts, false≢true, or_cases}
use Rattle.std.proofs.lemmas.Bool.Decides.{nat_tests}
use Rattle.std.proofs.lemmas.Grind.{get_or_after_one}
use Rattle.std.proofs.lemmas.List.{drop_more, get_or-take}
use Rattle.std.proofs.lemmas.List.Sums.{AllPass-from_list_all, list_all-from_AllPass}
use Rattle.cookie_agent.specs.Storable.{can_follow, is_domain, is_host_name, is_label_byte, is_name_rest, is_six, is_six_byte}

-- ---- a step over a host name

pub name_step : (due : Bool) (text : List ℕ) (i d : ℕ) → i < length text
    → is_name_rest due (drop i text) ≡ (can_follow due (get_or text i d) && is_name_rest (get_or text i d == 46) (drop (i + 1) text))
name_step due text i d below = ap (is_name_rest due) (drop_more text i d below)

pub named : (t : List ℕ) → is_name_rest true t ≡ true → not (length t == 0) ≡ is_host_name t
named [] h = refl
named (b ∷ bs) h =
    let some : nat_lt 0 (length (b ∷ bs)) ≡ true = grind (arith, nat_tests) in
    let filled : not (length (b ∷ bs) == 0) ≡ true = grind (arith, nat_tests) in
    filled ∙ sym (and_from (nat_lt 0 (length (b ∷ bs))) (is_name_rest true (b ∷ bs)) some h)

-- ---- bytes of a domain: no control character, no space, and no upper case letter

abbrev pub is_domain_byte : ℕ → Bool
is_domain_byte byte = nat_lt 32 byte && (not (byte == 127) && byte == to_ascii_lowercase byte)

label_is_domain : (b : ℕ) → is_label_byte b ≡ true → is_domain_byte b ≡ true
label_is_domain b h = grind (arith, nat_tests)

six_is_domain : (b : ℕ) → is_six_byte b ≡ true → is_domain_byte b ≡ true
six_is_domain b h = grind (arith, nat_tests)

dot_is_domain : (b : ℕ) → (b == 46) ≡ true → is_domain_byte b ≡ true
dot_is_domain b h = grind (arith, nat_tests)

following_is_domain : (due : Bool) (b : ℕ) → can_follow due b ≡ true → is_domain_byte b ≡ true
following_is_domain due b h = by (b == 46) refl h
  where
    by : (dot : Bool) → (b == 46) ≡ dot → cond dot (not due) (is_label_byte b) ≡ true → is_domain_byte b ≡ true
    by true is given = dot_is_domain b is
    by false is given = label_is_domain b given

name_bytes : (due : Bool) (t : List ℕ) → is_name_rest due t ≡ true → list_all is_domain_byte t ≡ true
name_bytes due [] h = refl
name_bytes due (b ∷ bs) h =
    let k = and_parts (can_follow due b) (is_name_rest (b == 46) bs) h in
    ap (λ x. x && list_all is_domain_byte bs) (following_is_domain due b k.0) ∙ name_bytes (b == 46) bs k.1

-- ---- an address in brackets

record IsSix (t : List ℕ) : Type 0 where
  long : 2 < length t
  first : (d : ℕ) → get_or t 0 d ≡ 91
  last : (d : ℕ) → get_or t (length t - 1) d ≡ 93
  middle : list_all is_six_byte (drop 1 (take (length t - 1) t)) ≡ true

same_91 : (b : ℕ) (rest : Bool) → ((91 == b) && rest) ≡ true → b ≡ 91
same_91 b rest h = let k = (and_parts (91 == b) rest h).0 in grind (arith, nat_tests, k)

same_93 : (b : ℕ) (rest : Bool) → ((93 == b) && rest) ≡ true → b ≡ 93
same_93 b rest h = let k = (and_parts (93 == b) rest h).0 in grind (arith, nat_tests, k)

begins_so : (t : List ℕ) → starts_with eqb t (codes "[") ≡ true → (d : ℕ) → get_or t 0 d ≡ 91
begins_so [] h d = absurd (false≢true h)
begins_so (b ∷ bs) h d = same_91 b _ h

ends_so : (t : List ℕ) → 0 < length t → ends_with eqb t (codes "]") ≡ true → (d : ℕ) → get_or t (length t - 1) d ≡ 93
ends_so t some h d =
    let n = length t - 1 in
    same_93 (get_or t n d) _ (ap (pointwise eqb (codes "]")) (sym (drop_more t n d (omega (arith, some)))) ∙ h)

six_parts : (t : List ℕ) → is_six t ≡ true → IsSix t
six_parts t h =
    let p = and_parts (nat_lt 2 (length t)) _ h in
    let q = and_parts (starts_with eqb t (codes "[")) _ p.1 in
    let r = and_parts (ends_with eqb t (codes "]")) _ q.1 in
    let long : 2 < length t = grind (arith, nat_tests, p.0) in
    record {
      long = long;
      first = begins_so t q.0;
      last = ends_so t (omega (arith, long)) r.0;
      middle = r.1;
    }

six_at : (t : List ℕ) → IsSix t → (i d : ℕ) → i < length t → is_domain_byte (get_or t i d) ≡ true
six_at t h i d below = by (i == 0) refl (i == length t - 1) refl
  where
    long : 2 < length t
    long = h.long

    by : (a : Bool) → (i == 0) ≡ a → (b : Bool) → (i == length t - 1) ≡ b → is_domain_byte (get_or t i d) ≡ true
    by true is b e =
        let same : i ≡ 0 = grind (arith, nat_tests, is) in
        ap is_domain_byte (ap (λ k. get_or t k d) same ∙ h.first d)
    by false is true e =
        let same : i ≡ length t - 1 = grind (arith, nat_tests, e) in
        ap is_domain_byte (ap (λ k. get_or t k d) same ∙ h.last d)
    by false is false e =
        let n = length t - 1 in
        let some : 0 < i = grind (arith, nat_tests, is) in
        let inner : i < n = grind (arith, nat_tests, e, below) in
        let taken = length-take n t in
        let left = length-drop 1 (take n t) in
        let place : 1 + (i - 1) ≡ i = omega (arith, some) in
        let at : get_or (drop 1 (take n t)) (i - 1) d ≡ get_or t i d
        = get_or_after_one (take n t) (i - 1) d ∙ ap (λ k. get_or (take n t) k d) place ∙ get_or-take n t i d inner in
        let six = AllPass-from_list_all is_six_byte (drop 1 (take n t)) h.middle (i - 1) d (omega (arith, some, inner, taken, left, below)) in
        ap is_domain_byte (sym at) ∙ six_is_domain (get_or (drop 1 (take n t)) (i - 1) d) six

-- ---- a domain

pub domain_bytes : (t : List ℕ) → is_domain t ≡ true → list_all is_domain_byte t ≡ true
domain_bytes t h = by (or_cases (is_host_name t) (is_six t) h)
  where
    by : (is_host_name t ≡ true) ⊎ (is_six t ≡ true) → list_all is_domain_byte t ≡ true
    by (inl name) = name_bytes true t (and_parts (nat_lt 0 (length t)) _ name).1
    by (inr six) = list_all-from_AllPass is_domain_byte t (six_at t (six_parts t six))

-- it begins neither with a dot nor with `#`
pub record Begins (b : ℕ) : Type 0 where
  pub undotted : (b == 46) ≡ false
  pub unmarked : (b == 35) ≡ false

label_begins : (b : ℕ) → can_follow true b ≡ true → Begins b
label_begins b h = by (b == 46) refl h
  where
    by : (dot : Bool) → (b == 46) ≡ dot → cond dot false (is_label_byte b) ≡ true → Begins b
    by true is given = absurd (false≢true given)
    by false is given = record { undotted = is; unmarked = grind (arith, nat_tests, given) }

pub domain_begins : (b : ℕ) (bs : List ℕ) → is_domain (b ∷ bs) ≡ true → Begins b
domain_begins b bs h = by (or_cases (is_host_name (b ∷ bs)) (is_six (b ∷ bs)) h)
  where
    by : (is_host_name (b ∷ bs) ≡ true) ⊎ (is_six (b ∷ bs) ≡ true) → Begins b
    by (inl name) = label_begins b (and_parts (can_follow true b) _ (and_parts (nat_lt 0 (length (b ∷ bs))) _ name).1).0
    by (inr six) =
        let same : b ≡ 91 = (six_parts (b ∷ bs) six).first 0 in
        record { undotted = ap (λ x. x == 46) same; unmarked = ap (λ x. x == 35) same }
