-- What a walk meets that meets each name once, for crates above.
use Rattle.std.proofs.Common.{◌≡◌, Bool, true, false, cond, List, [], ◌∷◌, map, Option, Some, is_some, All, Contains, sym, ap, ◌∙◌, zero, arith, true≢false}
use Rattle.std.proofs.lemmas.List.Elements.{All-from_recursion, Contains-append_right}
use Rattle.std.specs.Cmp.Lexicographic.{nat_list_eq_equiv}
use Rattle.std.specs.List.{AllByRecursion, IsDistinct, find}
use Rattle.std.specs.Str.{bytes_eq}
use Rattle.cookie_core.specs.Record.{Record}
use Rattle.cookie.specs.Jar.{Name}
use Rattle.cookie.specs.Walk.{Walks}

-- what a search found is among the cookies
found_inside : (test : Record → Bool) (cookies : List Record) (cookie : Record) → find test cookies ≡ Some cookie → Contains cookies cookie
found_inside test [] cookie e = absurd (true≢false (sym (ap is_some e)))
found_inside test (c ∷ cs) cookie e = by (test c) e (found_inside test cs cookie)
  where
    first : Some c ≡ Some cookie → c ≡ cookie
    first e = cc

    by : (b : Bool) → cond b (Some c) (find test cs) ≡ Some cookie → (find test cs ≡ Some cookie → Contains cs cookie) → Contains (c ∷ cs) cookie
    by true e later = (zero, omega arith, first e)
    by false e later = Contains-append_right (c ∷ []) cs cookie (later e)

-- the first cookie of that name
abbrev named : Name → List Record → Option Record
named name cookies = find (λ c. bytes_eq name c.name) cookies

-- one more cookie in front, of another name than the others
still_found : (c : Record) (all cs : List Record) → AllByRecursion (λ m. bytes_eq c.name m ≡ false) (map (λ d. d.name) cs)
    → AllByRecursion (λ d. named d.name all ≡ Some d) cs → AllByRecursion (λ d. named d.name (c ∷ all) ≡ Some d) cs
still_found c all [] apart own = tt
still_found c all (d ∷ cs) apart own =
    (ap (λ b. cond b (Some c) (named d.name all)) (nat_list_eq_equiv.symm d.name c.name ∙ apart.0) ∙ own.0, still_found c all cs apart.1 own.1)

-- where each name stands once, a search by a cookie's name finds it
own_found : (cookies : List Record) → IsDistinct bytes_eq (map (λ c. c.name) cookies) → AllByRecursion (λ c. named c.name cookies ≡ Some c) cookies
unfolding IsDistinct
own_found [] once = tt
own_found (c ∷ cs) once =
    (ap (λ b. cond b (Some c) (named c.name cs)) (nat_list_eq_equiv.refl c.name), still_found c cs cs once.0 (own_found cs once.1))

module _ (at : Name → Option Record) where
  standing : (all cookies : List Record) → ((name : Name) → named name all ≡ at name)
      → AllByRecursion (λ c. named c.name all ≡ Some c) cookies → AllByRecursion (λ c. at c.name ≡ Some c) cookies
  standing all [] found own = tt
  standing all (c ∷ cs) found own = (sym (found c.name) ∙ own.0, standing all cs found own.1)

  -- it meets what stands at a name
  pub meets_each : (cookies : List Record) → Walks at cookies → (name : Name) (cookie : Record) → at name ≡ Some cookie → Contains cookies cookie
  meets_each cookies walks name cookie stands = found_inside (λ c. bytes_eq name c.name) cookies cookie (walks.found name ∙ stands)

  -- and each cookie that it meets stands at its name
  pub meets_only : (cookies : List Record) → Walks at cookies → All (λ c. at c.name ≡ Some c) cookies
  meets_only cookies walks =
      All-from_recursion (λ c. at c.name ≡ Some c) cookies (standing cookies cookies walks.found (own_found cookies walks.once))
