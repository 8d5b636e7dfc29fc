-- What follows the dots of a domain, and the site that it is in.
use Rattle.std.proofs.Common.{◌≡◌, ℕ, ◌==◌, ◌&&◌, ◌||◌, Bool, true, false, cond, List, [], ◌∷◌, Option, Some, None, bytes_eq, find, unwrap_or, refl, sym, ap, subst, ◌∙◌, inl, inr, ◌⊎◌}
use Rattle.std.proofs.lemmas.Bool.{or_cases}
use Rattle.std.proofs.lemmas.Cmp.{nat_list_eq_equiv}
use Rattle.std.proofs.lemmas.Slice.Eq.{bytes_eq-Decides}
use Rattle.cookie_browser.specs.Bytes.{cut}
use Rattle.cookie_browser.specs.Request.{is_in_domain}
use Rattle.cookie_browser.specs.Suffixes.{Rule, after_dots, endings, is_address, is_public_suffix, is_registrable, site_domain}
use Rattle.cookie_browser.proofs.DomainLemmas.{follows_dot, in_domain-follows}

-- the text and what follows its dots, if there is a text
abbrev pub endings_left : Option (List ℕ) → List (List ℕ)
endings_left None = []
endings_left (Some text) = endings text

pub after_dots-cut : (domain : List ℕ) → after_dots domain ≡ endings_left (cut 46 domain).1
unfolding cut
after_dots-cut [] = refl
after_dots-cut (byte ∷ bytes) = by (byte == 46) (after_dots-cut bytes)
  where
    by : (b : Bool) → after_dots bytes ≡ endings_left (cut 46 bytes).1
        → cond b (bytes ∷ after_dots bytes) (after_dots bytes) ≡ endings_left (cond {A = List ℕ × Option (List ℕ)} b ([], Some bytes) (byte ∷ (cut 46 bytes).0, (cut 46 bytes).1)).1
    by true e = refl
    by false e = e

-- the first that passes, once it is known of the text
pub find-endings : (test : List ℕ → Bool) (text : List ℕ) {passes : Bool} → test text ≡ passes
    → find test (endings text) ≡ cond passes (Some text) (find test (endings_left (cut 46 text).1))
find-endings test text {passes} known =
    ap (λ b. cond b (Some text) (find test (after_dots text))) known
    ∙ ap (λ l. cond passes (Some text) (find test l)) (after_dots-cut text)

-- ---- the domain is in its site

and_left : (a b : Bool) → a && b ≡ true → a ≡ true
and_left true b e = refl
and_left false b e = e

and_right : (a b : Bool) → a && b ≡ true → b ≡ true
and_right true b e = e
and_right false b e = cc

or_left : (a b : Bool) → a ≡ true → a || b ≡ true
or_left true b e = refl
or_left false b e = cc

or_right : (a b : Bool) → b ≡ true → a || b ≡ true
or_right true b e = refl
or_right false b e = e

both : (a b : Bool) → a ≡ true → b ≡ true → a && b ≡ true
both true b e f = f
both false b e f = e

same_bytes : (a b : List ℕ) → bytes_eq a b ≡ true → a ≡ b
same_bytes a b e = (bytes_eq-Decides a b).0 e

-- what follows a dot of what follows a dot
follows_on : (domain middle last : List ℕ) → follows_dot domain middle ≡ true → follows_dot middle last ≡ true → follows_dot domain last ≡ true
follows_on [] middle last first second = first
follows_on (byte ∷ bytes) middle last first second =
    by (or_cases (byte == 46 && bytes_eq bytes middle) (follows_dot bytes middle) first) (follows_on bytes middle last)
  where
    by : (byte == 46 && bytes_eq bytes middle ≡ true) ⊎ (follows_dot bytes middle ≡ true)
        → (follows_dot bytes middle ≡ true → follows_dot middle last ≡ true → follows_dot bytes last ≡ true)
        → (byte == 46 && bytes_eq bytes last || follows_dot bytes last) ≡ true
    by (inl here) on =
        let same : bytes ≡ middle = same_bytes bytes middle (and_right (byte == 46) (bytes_eq bytes middle) here) in
        or_right (byte == 46 && bytes_eq bytes last) (follows_dot bytes last) (subst (λ m. follows_dot m last ≡ true) (sym same) second)
    by (inr later) on = or_right (byte == 46 && bytes_eq bytes last) (follows_dot bytes last) (on later second)

pub in_domain-on : (host domain site : List ℕ) → is_in_domain host false domain ≡ true → is_in_domain domain false site ≡ true → is_in_domain host false site ≡ true
in_domain-on host domain site first second =
    in_domain-follows host site
    ∙ by (or_cases (bytes_eq host domain) (follows_dot host domain) (sym (in_domain-follows host domain) ∙ first))
    (or_cases (bytes_eq domain site) (follows_dot domain site) (sym (in_domain-follows domain site) ∙ second))
  where
    by : (bytes_eq host domain ≡ true) ⊎ (follows_dot host domain ≡ true) → (bytes_eq domain site ≡ true) ⊎ (follows_dot domain site ≡ true)
        → (bytes_eq host site || follows_dot host site) ≡ true
    by (inl same) rest =
        subst (λ d. (bytes_eq d site || follows_dot d site) ≡ true) (sym (same_bytes host domain same))
        (sym (in_domain-follows domain site) ∙ second)
    by (inr below) (inl same) = or_right (bytes_eq host site) (follows_dot host site) (subst (λ s. follows_dot host s ≡ true) (same_bytes domain site same) below)
    by (inr below) (inr on) = or_right (bytes_eq host site) (follows_dot host site) (follows_on host domain site below on)

some_same : (a b : List ℕ) → Some a ≡ Some b → a ≡ b
some_same a b e = cc

-- each text that is found after a dot follows one
found-follows : (test : List ℕ → Bool) (domain found : List ℕ) → find test (after_dots domain) ≡ Some found → follows_dot domain found ≡ true
found-follows test [] found e = cc
found-follows test (byte ∷ bytes) found e = by (byte == 46) refl e (found-follows test bytes found)
  where
    rest : follows_dot bytes found ≡ true → (byte == 46 && bytes_eq bytes found || follows_dot bytes found) ≡ true
    rest is = or_right (byte == 46 && bytes_eq bytes found) (follows_dot bytes found) is

    here : (b : Bool) → byte == 46 ≡ true → cond b (Some bytes) (find test (after_dots bytes)) ≡ Some found
        → (find test (after_dots bytes) ≡ Some found → follows_dot bytes found ≡ true)
        → (byte == 46 && bytes_eq bytes found || follows_dot bytes found) ≡ true
    here true dot is on =
        let same : bytes ≡ found = some_same bytes found is in
        or_left (byte == 46 && bytes_eq bytes found) (follows_dot bytes found)
        (both (byte == 46) (bytes_eq bytes found) dot ((bytes_eq-Decides bytes found).1 same))
    here false dot is on = rest (on is)

    by : (b : Bool) → byte == 46 ≡ b → find test (cond b (bytes ∷ after_dots bytes) (after_dots bytes)) ≡ Some found
        → (find test (after_dots bytes) ≡ Some found → follows_dot bytes found ≡ true)
        → (byte == 46 && bytes_eq bytes found || follows_dot bytes found) ≡ true
    by true dot is on = here (test bytes) dot is on
    by false dot is on = rest (on is)

pub in_itself : (domain : List ℕ) → is_in_domain domain false domain ≡ true
in_itself domain = or_left (bytes_eq domain domain) _ (nat_list_eq_equiv.refl domain)

found-in : (test : List ℕ → Bool) (domain : List ℕ) (o : Option (List ℕ)) → find test (endings domain) ≡ o → is_in_domain domain false (unwrap_or o domain) ≡ true
found-in test domain None e = in_itself domain
found-in test domain (Some found) e = by (test domain) refl e
  where
    by : (b : Bool) → test domain ≡ b → cond b (Some domain) (find test (after_dots domain)) ≡ Some found → is_in_domain domain false found ≡ true
    by true passes is = subst (λ f. is_in_domain domain false f ≡ true) (some_same domain found is) (in_itself domain)
    by false fails is = in_domain-follows domain found ∙ or_right (bytes_eq domain found) (follows_dot domain found) (found-follows test domain found is)

pub in_site : (rules : List Rule) (domain : List ℕ) → is_in_domain domain false (site_domain rules domain) ≡ true
unfolding site_domain
in_site rules domain = by (is_address domain || is_public_suffix rules domain)
  where
    by : (b : Bool) → is_in_domain domain false (cond b domain (unwrap_or (find (is_registrable rules) (endings domain)) domain)) ≡ true
    by true = in_itself domain
    by false = found-in (is_registrable rules) domain (find (is_registrable rules) (endings domain)) refl
