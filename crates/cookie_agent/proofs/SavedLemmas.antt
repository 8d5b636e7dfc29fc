-- Stored cookies in a text of lines: a walk over cookies or lines, one after the other.
use Rattle.std.proofs.Common.{◌≡◌, ℕ, ◌+◌, ◌&&◌, Bool, true, false, not, cond, List, [], ◌∷◌, ◌++◌, map, refl, sym, ap, ◌∙◌, append_assoc}
use Rattle.std.proofs.lemmas.Bool.{and_from, and_right, or_parts}
use Rattle.std.proofs.lemmas.List.{append-nil, map-append}
use Rattle.std.proofs.lemmas.List.Elements.{filter-append}
use Rattle.std.proofs.lemmas.List.Folds.{concat-append}
use Rattle.std.specs.List.{concat, filter, list_any}
use Rattle.jiff.specs.Types.{DateTime}
use Rattle.cookie_browser.specs.Storage.{CookieStore, KeptView}
use Rattle.cookie_browser.specs.Suffixes.{Rule}
use Rattle.cookie_agent.specs.Saved.{cookies_of, is_bad, is_for_suffix, is_persistent, places_of, saved, taken}
use Rattle.cookie_agent.specs.declared.saved.line.Line.{Line}
use Rattle.cookie_agent.specs.declared.saved.line.Line.TheVariants as line

-- ---- a list that is the parts of its elements, each with its place

-- the parts of a list are those of its first element and those of the others
abbrev pub IsByPart : {X T : Type 0} → (ℕ → List X → List T) → Type 0
IsByPart {X} {T} parts =
    (place : ℕ) (x : X) (xs : List X) → parts place (x ∷ xs) ≡ parts place (x ∷ []) ++ parts (place + 1) xs

pub walk_next : {X T : Type 0} (parts : ℕ → List X → List T) → IsByPart parts
    → (place : ℕ) (x : X) (xs rest : List X) (old new whole : List T)
    → xs ≡ x ∷ rest
    → new ≡ old ++ parts place (x ∷ [])
    → old ++ parts place xs ≡ whole
    → new ++ parts (place + 1) rest ≡ whole
walk_next parts by_part place x xs rest old new whole left step before =
    ap (λ t. t ++ parts (place + 1) rest) step
    ∙ append_assoc old (parts place (x ∷ [])) (parts (place + 1) rest)
    ∙ ap (λ t. old ++ t) (sym (by_part place x rest) ∙ ap (parts place) (sym left))
    ∙ before

-- ---- places, cookies and saved texts are such

pub places_of_parts : {X : Type 0} (test : X → Bool) → IsByPart (places_of test)
places_of_parts test place x xs = by (test x)
  where
    by : (b : Bool) → cond b (place ∷ places_of test (place + 1) xs) (places_of test (place + 1) xs) ≡ cond b (place ∷ []) [] ++ places_of test (place + 1) xs
    by true = refl
    by false = refl

-- the texts of the saved cookies
pub saved_parts : (now : DateTime) (is_carried : KeptView → Bool) (text : KeptView → List ℕ)
    → IsByPart (λ place store. concat (map text (saved now is_carried store)))
saved_parts now is_carried text place cookie store =
    let one = saved now is_carried (cookie ∷ []) in
    let others = saved now is_carried store in
    ap (λ cookies. concat (map text cookies)) (filter-append (λ c. is_persistent now c && is_carried c) (cookie ∷ []) store)
    ∙ ap concat (map-append text one others)
    ∙ concat-append (map text one) (map text others)

-- ---- what is written of one persistent cookie: its text if the form carries it, and else its place

pub record Writes (now : DateTime) (is_carried : KeptView → Bool) (text : KeptView → List ℕ) (place : ℕ) (cookie : KeptView) (written left : List ℕ) : Type 0 where
  pub line : concat (map text (saved now is_carried (cookie ∷ []))) ≡ written
  pub places : places_of (λ c. is_persistent now c && not (is_carried c)) place (cookie ∷ []) ≡ left

pub writes : (now : DateTime) (is_carried : KeptView → Bool) (text : KeptView → List ℕ) (place : ℕ) (cookie : KeptView)
    → is_persistent now cookie ≡ true → is_carried cookie ≡ true → Writes now is_carried text place cookie (text cookie) []
writes now is_carried text place cookie lasts carries =
    record {
      line = ap (λ b. concat (map text (cond b (cookie ∷ []) []))) (and_from (is_persistent now cookie) (is_carried cookie) lasts carries) ∙ append-nil (text cookie);
      places = ap (λ b. cond b (place ∷ []) []) (and_right (is_persistent now cookie) (not (is_carried cookie)) (ap not carries));
    }

-- ---- the lines of saved cookies, as a form carries them, and the empty one after them

abbrev pub lines_for : (KeptView → KeptView) → CookieStore → List Line
lines_for carried [] = line.Other ∷ []
lines_for carried (cookie ∷ store) = line.Cookie (carried cookie) ∷ lines_for carried store

module _ (rules : List Rule) (carried : KeptView → KeptView) (same : (cookie : KeptView) → is_for_suffix rules (carried cookie) ≡ is_for_suffix rules cookie) where
  abbrev at : Bool → KeptView → Line
  at wide cookie = cond wide line.Bad (line.Cookie (carried cookie))

  abbrev fit : CookieStore → CookieStore
  fit store = filter (λ cookie. not (is_for_suffix rules cookie)) store

  pub taken_cookies : (store : CookieStore) → cookies_of (map (taken rules) (lines_for carried store)) ≡ map carried (fit store)
  taken_cookies [] = refl
  taken_cookies (cookie ∷ store) =
      let rest = map (taken rules) (lines_for carried store) in
      ap (λ b. cookies_of (at b cookie ∷ rest)) (same cookie) ∙ by (is_for_suffix rules cookie) (taken_cookies store)
    where
      by : (b : Bool) → cookies_of (map (taken rules) (lines_for carried store)) ≡ map carried (fit store)
          → cookies_of (at b cookie ∷ map (taken rules) (lines_for carried store)) ≡ map carried (cond (not b) (cookie ∷ fit store) (fit store))
      by true others = others
      by false others = ap (λ cookies. carried cookie ∷ cookies) others

  pub none_bad : (place : ℕ) (store : CookieStore) → list_any (is_for_suffix rules) store ≡ false → places_of is_bad place (map (taken rules) (lines_for carried store)) ≡ []
  none_bad place [] none = refl
  none_bad place (cookie ∷ store) none =
      let both = or_parts (is_for_suffix rules cookie) (list_any (is_for_suffix rules) store) none in
      ap (λ b. places_of is_bad place (at b cookie ∷ map (taken rules) (lines_for carried store))) (same cookie ∙ both.0)
      ∙ none_bad (place + 1) store both.1
