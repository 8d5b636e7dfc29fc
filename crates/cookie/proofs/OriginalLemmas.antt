-- What a jar has as originals once the cookies of a header were added.
use Rattle.std.proofs.Common.{◌≡◌, Bool, true, false, cond, ℕ, List, [], ◌∷◌, ◌++◌, Option, Some, None, refl, sym, ap, ◌∙◌}
use Rattle.std.proofs.lemmas.Slice.Eq.{bytes_eq-Decides}
use Rattle.std.specs.FinMap.{get}
use Rattle.std.specs.List.{filter_map, cons_option}
use Rattle.std.specs.Option.{is_some, option_or, option_to_list}
use Rattle.std.specs.Str.{bytes_eq}
use Rattle.cookie_core.specs.Record.{Record}
use Rattle.cookie.specs.Jar.{AddOriginal, JarState, Name, after}
use Rattle.cookie.specs.Originals.{HasFirst, first_of_name, with_original, with_originals}
use Rattle.cookie.proofs.NameLemmas.{get_inserted}

module _ (reading : List ℕ → Option Record) where
  -- one text's cookie first, and then the others'
  pub with_originals-next : (t : List ℕ) (ts : List (List ℕ)) (o : Option Record) (jar : JarState) → o ≡ reading t
      → with_originals (filter_map reading ts) (with_originals (option_to_list o) jar) ≡ with_originals (filter_map reading (t ∷ ts)) jar
  with_originals-next t ts None jar e = ap (λ o. with_originals (cons_option o (filter_map reading ts)) jar) e
  with_originals-next t ts (Some c) jar e = ap (λ o. with_originals (cons_option o (filter_map reading ts)) jar) e

-- the first cookies, and then the others
pub with_originals-more : (first later : List Record) (jar : JarState) → with_originals later (with_originals first jar) ≡ with_originals (first ++ later) jar
with_originals-more [] later jar = refl
with_originals-more (cookie ∷ first) later jar = with_originals-more first later (with_original cookie jar)

-- ---- the first of a name counts

or_none : {X : Type 0} (o : Option X) → o ≡ option_or o None
or_none None = refl
or_none (Some c) = refl

-- what the jar has at a name, if it is given this cookie
given : (cookie : Record) (jar : JarState) (name : Name)
    → get (with_original cookie jar).originals name ≡ option_or (get jar.originals name) (cond (bytes_eq name cookie.name) (Some cookie) None)
given cookie jar name = by (get jar.originals cookie.name) refl (bytes_eq name cookie.name) refl
  where
    at : (b : Bool) → bytes_eq name cookie.name ≡ b → (o : Option Record) → get jar.originals cookie.name ≡ o → b ≡ true → get jar.originals name ≡ o
    at b same o is e = ap (get jar.originals) ((bytes_eq-Decides name cookie.name).0 (same ∙ e)) ∙ is

    by : (o : Option Record) → get jar.originals cookie.name ≡ o → (b : Bool) → bytes_eq name cookie.name ≡ b
        → get (cond (is_some o) jar (after (AddOriginal cookie) jar)).originals name ≡ option_or (get jar.originals name) (cond b (Some cookie) None)
    by (Some old) is true same = let here = at true same (Some old) is refl in here ∙ sym (ap (λ o. option_or o (Some cookie)) here)
    by (Some old) is false other = or_none (get jar.originals name)
    by None is true same =
        get_inserted jar.originals cookie.name cookie name ∙ ap (λ b. cond b (Some cookie) (get jar.originals name)) same
        ∙ sym (ap (λ o. option_or o (Some cookie)) (at true same None is refl))
    by None is false other =
        get_inserted jar.originals cookie.name cookie name ∙ ap (λ b. cond b (Some cookie) (get jar.originals name)) other
        ∙ or_none (get jar.originals name)

then : (o : Option Record) (b : Bool) (cookie : Record) (rest : Option Record)
    → option_or (option_or o (cond b (Some cookie) None)) rest ≡ option_or o (cond b (Some cookie) rest)
then (Some c) b cookie rest = refl
then None true cookie rest = refl
then None false cookie rest = refl

originals_first : (cookies : List Record) (jar : JarState) (name : Name)
    → get (with_originals cookies jar).originals name ≡ option_or (get jar.originals name) (first_of_name name cookies)
originals_first [] jar name = or_none (get jar.originals name)
originals_first (cookie ∷ cookies) jar name =
    originals_first cookies (with_original cookie jar) name
    ∙ ap (λ o. option_or o (first_of_name name cookies)) (given cookie jar name)
    ∙ then (get jar.originals name) (bytes_eq name cookie.name) cookie (first_of_name name cookies)

same_delta-one : (cookie : Record) (jar : JarState) → (with_original cookie jar).delta ≡ jar.delta
same_delta-one cookie jar = by (is_some (get jar.originals cookie.name))
  where
    by : (b : Bool) → (cond b jar (after (AddOriginal cookie) jar)).delta ≡ jar.delta
    by true = refl
    by false = refl

-- originals change nothing of the delta
pub same_delta : (cookies : List Record) (jar : JarState) → (with_originals cookies jar).delta ≡ jar.delta
same_delta [] jar = refl
same_delta (cookie ∷ cookies) jar = same_delta cookies (with_original cookie jar) ∙ same_delta-one cookie jar

pub has_first : (cookies : List Record) (jar : JarState) → HasFirst cookies jar (with_originals cookies jar)
has_first cookies jar = record { originals = originals_first cookies jar; delta = same_delta cookies jar }
