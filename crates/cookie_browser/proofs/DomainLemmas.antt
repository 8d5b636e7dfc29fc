-- Which texts a domain is in: itself, and what follows each of its dots.
use Rattle.std.proofs.Common.{◌≡◌, ◌≢◌, ℕ, suc, ◌-◌, ◌<◌, ◌≤◌, ◌==◌, eqb, ◌&&◌, ◌||◌, Bool, true, false, cond, List, [], ◌∷◌, length, take, drop, Option, Some, None, codes, bytes_eq, refl, sym, ap, ◌∙◌, inl, inr, ◌⊎◌, arith}
use Rattle.std.specs.Cmp.Lexicographic.{pointwise, unequal}
use Rattle.std.specs.List.{ends_with}
use Rattle.std.proofs.lemmas.Bool.{cases_order}
use Rattle.std.proofs.lemmas.Cmp.{nat_list_eq_equiv, nat_eq_equiv}
use Rattle.cookie_browser.specs.Bytes.{cut}
use Rattle.cookie_browser.specs.Request.{is_in_domain}

-- the domain ends in a dot and the text
abbrev pub ends_below : List ℕ → List ℕ → Bool
ends_below domain text =
    ends_with eqb domain text && ends_with eqb (take (length domain - length text) domain) (codes ".")

-- the text follows one of the domain's dots
abbrev pub follows_dot : List ℕ → List ℕ → Bool
follows_dot [] text = false
follows_dot (byte ∷ bytes) text = byte == 46 && bytes_eq bytes text || follows_dot bytes text

and_false : (a : Bool) → a && false ≡ false
and_false true = refl
and_false false = refl

and_true : (a : Bool) → a && true ≡ a
and_true true = refl
and_true false = refl

and_swap : (a b : Bool) → (a && b) ≡ (b && a)
and_swap true true = refl
and_swap true false = refl
and_swap false true = refl
and_swap false false = refl

or_false : (a : Bool) → a ≡ (a || false)
or_false true = refl
or_false false = refl

-- a text that is longer than the domain
below-longer : (domain text : List ℕ) → length domain ≤ length text → ends_below domain text ≡ false
below-longer domain text longer =
    let none : length domain - length text ≡ 0 = omega arith in
    ap (λ n. ends_with eqb domain text && ends_with eqb (take n domain) (codes ".")) none
    ∙ and_false (ends_with eqb domain text)

last-dot : (byte next : ℕ) (bytes : List ℕ) → ends_with eqb (byte ∷ next ∷ bytes) (codes ".") ≡ ends_with eqb (next ∷ bytes) (codes ".")
last-dot byte next bytes =
    let left : length (byte ∷ next ∷ bytes) - 1 ≡ suc (length bytes) = omega arith in
    let right : length (next ∷ bytes) - 1 ≡ length bytes = omega arith in
    ap (λ n. pointwise eqb (codes ".") (drop n (byte ∷ next ∷ bytes))) left
    ∙ sym (ap (λ n. pointwise eqb (codes ".") (drop n (next ∷ bytes))) right)

one-dot : (byte : ℕ) → ends_with eqb (byte ∷ []) (codes ".") ≡ (byte == 46)
one-dot byte = and_true (46 == byte) ∙ nat_eq_equiv.symm 46 byte

below-same : (byte : ℕ) (domain text : List ℕ) → length text ≡ length domain → ends_below (byte ∷ domain) text ≡ (byte == 46 && bytes_eq domain text)
below-same byte domain text same =
    let one : length (byte ∷ domain) - length text ≡ 1 = omega arith in
    ap (λ n. ends_with eqb (byte ∷ domain) text && ends_with eqb (take n (byte ∷ domain)) (codes ".")) one
    ∙ ap (λ n. pointwise eqb text (drop n (byte ∷ domain)) && ends_with eqb (byte ∷ []) (codes ".")) one
    ∙ ap (λ b. pointwise eqb text domain && b) (one-dot byte)
    ∙ ap (λ b. b && byte == 46) (nat_list_eq_equiv.symm text domain)
    ∙ and_swap (bytes_eq domain text) (byte == 46)

below-shorter : (byte : ℕ) (domain text : List ℕ) → length text < length domain → ends_below (byte ∷ domain) text ≡ ends_below domain text
below-shorter byte [] text shorter = absurd (omega arith)
below-shorter byte (next ∷ bytes) text shorter =
    let left : length (byte ∷ next ∷ bytes) - length text ≡ suc (suc (length bytes - length text)) = omega arith in
    let right : length (next ∷ bytes) - length text ≡ suc (length bytes - length text) = omega arith in
    ap (λ n. pointwise eqb text (drop n (byte ∷ next ∷ bytes)) && ends_with eqb (take n (byte ∷ next ∷ bytes)) (codes ".")) left
    ∙ ap (λ b. pointwise eqb text (drop (length bytes - length text) bytes) && b) (last-dot byte next (take (length bytes - length text) bytes))
    ∙ sym (ap (λ n. pointwise eqb text (drop n (next ∷ bytes)) && ends_with eqb (take n (next ∷ bytes)) (codes ".")) right)

below-step : (byte : ℕ) (domain text : List ℕ) → ends_below (byte ∷ domain) text ≡ (byte == 46 && bytes_eq domain text || ends_below domain text)
below-step byte domain text = by (cases_order (length text) (length domain))
  where
    apart : length domain ≢ length text → (byte == 46 && bytes_eq domain text || ends_below domain text) ≡ ends_below domain text
    apart differ = ap (λ b. byte == 46 && b || ends_below domain text) (unequal eqb domain text differ) ∙ ap (λ b. b || ends_below domain text) (and_false (byte == 46))

    by : (length text ≡ length domain) ⊎ ((length text < length domain) ⊎ (length domain < length text))
        → ends_below (byte ∷ domain) text ≡ (byte == 46 && bytes_eq domain text || ends_below domain text)
    by (inl same) =
        below-same byte domain text same ∙ or_false (byte == 46 && bytes_eq domain text)
        ∙ sym (ap (λ b. byte == 46 && bytes_eq domain text || b) (below-longer domain text (omega arith)))
    by (inr (inl shorter)) = below-shorter byte domain text shorter ∙ sym (apart (λ e. omega arith))
    by (inr (inr longer)) =
        below-longer (byte ∷ domain) text (omega arith) ∙ sym (apart (λ e. omega arith) ∙ below-longer domain text (omega arith))

below-follows : (domain text : List ℕ) → ends_below domain text ≡ follows_dot domain text
below-follows [] text = below-longer [] text (omega arith)
below-follows (byte ∷ domain) text =
    below-step byte domain text ∙ ap (λ b. byte == 46 && bytes_eq domain text || b) (below-follows domain text)

-- the domain after its first dot, if there is one, is in the text
abbrev pub rest_in : Option (List ℕ) → List ℕ → Bool
rest_in None text = false
rest_in (Some rest) text = is_in_domain rest false text

-- a domain is in a text if it is the text, or the text follows one of its dots
pub in_domain-follows : (domain text : List ℕ) → is_in_domain domain false text ≡ (bytes_eq domain text || follows_dot domain text)
in_domain-follows domain text = ap (λ b. bytes_eq domain text || b) (below-follows domain text)

follows-cut : (domain text : List ℕ) → follows_dot domain text ≡ rest_in (cut 46 domain).1 text
unfolding cut
follows-cut [] text = refl
follows-cut (byte ∷ domain) text = by (byte == 46) (follows-cut domain text)
  where
    by : (b : Bool) → follows_dot domain text ≡ rest_in (cut 46 domain).1 text → (b && bytes_eq domain text || follows_dot domain text) ≡ rest_in (cond {A = List ℕ × Option (List ℕ)} b ([], Some domain) (byte ∷ (cut 46 domain).0, (cut 46 domain).1)).1 text
    by true e = ap (λ b. bytes_eq domain text || b) (sym (below-follows domain text))
    by false e = e

-- a domain is in a text if it is the text, or if it is in it after its first dot
pub is_in_domain-cut : (domain text : List ℕ) → is_in_domain domain false text ≡ (bytes_eq domain text || rest_in (cut 46 domain).1 text)
is_in_domain-cut domain text =
    ap (λ b. bytes_eq domain text || b) (below-follows domain text ∙ follows-cut domain text)
