-- Names with a prefix, and without it.
use Rattle.std.proofs.Common.{◌≡◌, ℕ, ◌==◌, Bool, true, false, cond, Bor, List, [], ◌∷◌, ◌++◌, length, take, drop, Option, None, Some, MatchOption, refl, sym, ap, ◌∙◌, arith}
use Rattle.std.proofs.Math.Seq.{take-append_seam, drop-append_seam}
use Rattle.std.proofs.lemmas.Bool.{eqb-true}
use Rattle.std.proofs.lemmas.List.{take-append-drop, length-append}
use Rattle.std.proofs.lemmas.Slice.Eq.{bytes_eq-Decides}
use Rattle.std.specs.Option.{option_map}
use Rattle.std.specs.Str.{bytes_eq}
use Rattle.std.specs.Str.Pattern.{FindsTextPrefix, StripsPrefix}
use Rattle.cookie_core.specs.Record.{Record, CookieView}
use Rattle.cookie.specs.Clipped.{LeavesName}
use Rattle.cookie.specs.Jar.{Name, JarState, Add, after, view}
use Rattle.cookie.specs.Prefixes.{prefixed_cookie, clipped_name, clipped_cookie, renamed_raw, conforming_cookie, pair_of, prefixed_view, KeepsPair}
use Rattle.cookie.proofs.JarLemmas.{view-added}

bytes_eq-itself : (name : Name) → bytes_eq name name ≡ true
bytes_eq-itself name = (bytes_eq-Decides name name).1 refl

bytes_eq-apart : (a b : Name) → (a ≡ b → ⊥) → bytes_eq a b ≡ false
bytes_eq-apart a b apart = by (bytes_eq a b) refl
  where
    by : (t : Bool) → bytes_eq a b ≡ t → t ≡ false
    by true e = absurd (apart ((bytes_eq-Decides a b).0 e))
    by false e = refl

-- a text is not itself behind another one
longer : (c : ℕ) (p n : Name) → n ≡ (c ∷ p) ++ n → ⊥
longer c p n e = let lengths = ap length e in omega (arith, lengths, length-append p n)

-- ---- taking the prefix off

pub clipped_name-prefixed : (p n : Name) → clipped_name p (p ++ n) ≡ n
clipped_name-prefixed p n =
    ap (λ t. cond (bytes_eq p t) (drop (length p) (p ++ n)) (p ++ n)) (take-append_seam p n)
    ∙ ap (λ b. cond b (drop (length p) (p ++ n)) (p ++ n)) (bytes_eq-itself p)
    ∙ drop-append_seam p n

pub clipped_cookie-prefixed : (p : Name) (cookie : Record) → clipped_cookie p (prefixed_cookie p cookie) ≡ cookie
clipped_cookie-prefixed p cookie = ap (λ n. record cookie { name = n }) (clipped_name-prefixed p cookie.name)

pub clipped_cookie-empty : (p : Name) (cookie : Record) → (length p == 0) ≡ true → clipped_cookie p cookie ≡ cookie
clipped_cookie-empty [] cookie empty = clipped_cookie-prefixed [] cookie
clipped_cookie-empty (c ∷ p) cookie empty = absurd (let none = eqb-true (length (c ∷ p)) 0 empty in omega (arith, none))

clipped_name-apart : (p n : Name) → ((rest : Name) → n ≡ p ++ rest → ⊥) → clipped_name p n ≡ n
clipped_name-apart p n apart = by (bytes_eq p (take (length p) n)) refl
  where
    by : (t : Bool) → bytes_eq p (take (length p) n) ≡ t → cond t (drop (length p) n) n ≡ n
    by true e = absurd (apart (drop (length p) n)
        (sym (take-append-drop (length p) n) ∙ ap (λ front. front ++ drop (length p) n) (sym ((bytes_eq-Decides p (take (length p) n)).0 e))))
    by false e = refl

-- what std's call of that name leaves
pub stripped : (p n : Name) (r : Option (Bor (List ℕ))) → (length p == 0) ≡ false
    → MatchOption r (FindsTextPrefix p n None) (λ x. StripsPrefix (FindsTextPrefix p) n x.now) → LeavesName p n (option_map (λ x. x.now) r)
stripped [] n r filled cases = absurd (cc filled)
stripped (c ∷ p) n None filled lacks = clipped_name-apart (c ∷ p) n lacks
stripped (c ∷ p) n (Some x) filled (k, found, rest, ends) =
    let whole : n ≡ (c ∷ p) ++ x.now = found.1 ∙ ap (λ t. (c ∷ p) ++ t) (sym rest) in (
      ap (clipped_name (c ∷ p)) whole ∙ clipped_name-prefixed (c ∷ p) x.now,
      bytes_eq-apart x.now n (λ same. longer c p x.now (same ∙ whole)),
    )

-- ---- what is lent

pub renamed_raw-empty : (p : Name) (cookie : CookieView) → (length p == 0) ≡ true → renamed_raw (p ++ cookie.fields.name) cookie ≡ cookie.raw
renamed_raw-empty (c ∷ p) cookie empty = absurd (let none = eqb-true (length (c ∷ p)) 0 empty in omega (arith, none))
renamed_raw-empty [] cookie empty = ap (λ b. cond b cookie.raw (record cookie.raw { name = None })) (bytes_eq-itself cookie.fields.name)

pub renamed_raw-prefixed : (p : Name) (cookie : CookieView) → (length p == 0) ≡ false
    → renamed_raw (p ++ cookie.fields.name) cookie ≡ record cookie.raw { name = None }
renamed_raw-prefixed [] cookie filled = absurd (cc filled)
renamed_raw-prefixed (c ∷ p) cookie filled =
    ap (λ b. cond b cookie.raw (record cookie.raw { name = None }))
    (bytes_eq-apart ((c ∷ p) ++ cookie.fields.name) cookie.fields.name (λ same. longer c p cookie.fields.name (sym same)))

-- ---- what a jar shows

-- through the prefix, what was added through it
pub shown-added : (p : Name) (conformed : Record → Record) → KeepsPair conformed → (cookie : Record) (jar : JarState)
    → option_map pair_of (prefixed_view p (after (Add (conforming_cookie p conformed cookie)) jar) cookie.name) ≡ Some (pair_of cookie)
shown-added p conformed keeps cookie jar =
    let stored = conforming_cookie p conformed cookie in
    let named : stored.name ≡ p ++ cookie.name = keeps.name (prefixed_cookie p cookie) in
    let shows : Option Record → Option (Name × Name) = λ o. option_map pair_of (option_map (clipped_cookie p) o) in
    ap shows (view-added jar stored (p ++ cookie.name))
    ∙ ap (λ b. shows (cond b (Some stored) (view jar (p ++ cookie.name)))) (ap (bytes_eq (p ++ cookie.name)) named ∙ bytes_eq-itself (p ++ cookie.name))
    ∙ ap (λ n. Some (n, stored.value)) (ap (clipped_name p) named ∙ clipped_name-prefixed p cookie.name)
    ∙ ap (λ v. Some (cookie.name, v)) (keeps.value (prefixed_cookie p cookie))
