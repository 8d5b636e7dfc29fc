-- What is answered to a cookie that was added.
use Rattle.std.proofs.Common.{◌≡◌, ◌↔◌, ℕ, List, cond, Option, None, Some, option_map, Result, Ok, Err, IfOk, ap, sym, subst, refl, ◌∙◌}
use Rattle.std.proofs.lemmas.Slice.Eq.{bytes_eq-Decides}
use Rattle.cookie_core.specs.Memory.{Gives}
use Rattle.cookie_core.specs.Record.{Record}
use Rattle.cookie.specs.AnswersExactly.{AnswersExactly, AnswersPair}
use Rattle.cookie.specs.Jar.{JarState, Add, after, view}
use Rattle.cookie.specs.Prefixes.{pair_of}
use Rattle.cookie.specs.declared.jar_error.JarError.{JarError}
use Rattle.cookie.specs.declared.jar_error.JarError.TheVariants as refusal
use Rattle.cookie.proofs.JarLemmas.{view-added}

-- a jar shows a cookie that was added
pub view-stored : (jar : JarState) (stored : Record) → view (after (Add stored) jar) stored.name ≡ Some stored
view-stored jar stored =
    view-added jar stored stored.name
    ∙ ap (λ b. cond b (Some stored) (view jar stored.name)) ((bytes_eq-Decides stored.name stored.name).1 refl)

-- where the stored cookie has the name of another, and stands for its value, that name and value are answered
pub answered_pair : (StandsFor : Record → List ℕ → Type 0) (stored cookie : Record) → stored.name ≡ cookie.name → StandsFor stored cookie.value
    → AnswersPair StandsFor (Some stored) cookie
answered_pair StandsFor stored cookie named stands None answers = absurd (let some = (answers.exact cookie.value).1 stands in cc)
answered_pair StandsFor stored cookie named stands (Some c) answers =
    ap (option_map pair_of) (sym answers.kept)
    ∙ ap (λ n. Some (n, c.value)) named
    ∙ ap (option_map (λ v. (cookie.name, v))) ((answers.exact cookie.value).1 stands)

-- so it is once the stored one was added to a jar
pub answered_added : (StandsFor : Record → List ℕ → Type 0) (stored cookie : Record) (jar : JarState) → stored.name ≡ cookie.name
    → StandsFor stored cookie.value → AnswersPair StandsFor (view (after (Add stored) jar) cookie.name) cookie
answered_added StandsFor stored cookie jar named stands =
    subst (λ o. AnswersPair StandsFor o cookie) (sym (ap (view (after (Add stored) jar)) (sym named) ∙ view-stored jar stored))
    (answered_pair StandsFor stored cookie named stands)

-- what holds of every jar that a cookie was added to holds after a call that adds it, or is out of memory
pub if_added : (Shows : JarState → Type 0) (stored made : Record) (old new : JarState) (r : Result (Unit {0}) JarError) → made ≡ stored
    → ((jar : JarState) → Shows (after (Add stored) jar)) → Gives refusal.OutOfMemory r (λ _. new ≡ after (Add made) old) → IfOk r (λ _. Shows new)
if_added Shows stored made old new (Err _) is shows refused = tt
if_added Shows stored made old new (Ok _) is shows added = subst Shows (sym (added ∙ ap (λ c. after (Add c) old) is)) (shows old)

-- the answer to a stored cookie whose value stands for another
pub answered_read : (StandsFor : List ℕ → List ℕ → List ℕ → Type 0) (name text : List ℕ) (cookie made : Record) (found : Option (List ℕ)) (value : List ℕ)
    → name ≡ cookie.name → text ≡ cookie.value → found ≡ Some value → made ≡ record cookie { value = value }
    → ((v : List ℕ) → (found ≡ Some v) ↔ StandsFor name text v) → AnswersExactly (λ c v. StandsFor c.name c.value v) (Some cookie) (Some made)
answered_read StandsFor name text cookie made found value same_name same_text is_value is finds =
    subst (λ c. AnswersExactly (λ c v. StandsFor c.name c.value v) (Some cookie) (Some c)) (sym is) (
    record {
      exact = λ v.
          subst (λ n. (Some value ≡ Some v) ↔ StandsFor n cookie.value v) same_name (
          subst (λ t. (Some value ≡ Some v) ↔ StandsFor name t v) same_text (
          subst (λ o. (o ≡ Some v) ↔ StandsFor name text v) is_value (finds v)));
      kept = refl;
    })
