-- What the maps have at a name is what looking back through the calls finds.
use Rattle.std.proofs.Common.{◌≡◌, Bool, true, false, cond, List, [], ◌∷◌, reverse, Some, None, refl, sym, ap, ◌∙◌}
use mathlib.Core.List.{reverse_aux}
use Rattle.std.proofs.lemmas.Slice.Eq.{bytes_eq-Decides}
use Rattle.std.specs.FinMap.{FinMap, get, insert, remove, contains_key, get-empty}
use Rattle.std.specs.Str.{bytes_eq}
use Rattle.cookie_core.specs.Removal.{removal}
use Rattle.cookie.specs.History.{after_all, original_by, entry_by, removal_by, LooksBack}
use Rattle.cookie.specs.Jar.{Name, name_cmp, Marked, added_mark, dropped_mark, JarState, empty_jar, Change, AddOriginal, Add, Remove, ForceRemove, ResetDelta, after}
use Rattle.cookie.proofs.NameLemmas.{get_inserted, get_removed}

-- the jar after calls, the latest one first
abbrev pub jar_by : List Change → JarState
jar_by [] = empty_jar
jar_by (change ∷ earlier) = after change (jar_by earlier)

after_all-jar_by : (changes earlier : List Change) → after_all changes (jar_by earlier) ≡ jar_by (reverse_aux changes earlier)
after_all-jar_by [] earlier = refl
after_all-jar_by (change ∷ changes) earlier = after_all-jar_by changes (change ∷ earlier)

pub after_all_is : (changes : List Change) → after_all changes empty_jar ≡ jar_by (reverse changes)
after_all_is changes = after_all-jar_by changes []

pub original_at : (name : Name) (history : List Change) → get (jar_by history).originals name ≡ original_by name history
original_at name [] = get-empty name_cmp name
original_at name (AddOriginal cookie ∷ earlier) =
    get_inserted (jar_by earlier).originals cookie.name cookie name ∙ ap (cond (bytes_eq name cookie.name) (Some cookie)) (original_at name earlier)
original_at name (Add cookie ∷ earlier) = original_at name earlier
original_at name (Remove cookie now ∷ earlier) = original_at name earlier
original_at name (ForceRemove forced ∷ earlier) =
    get_removed (jar_by earlier).originals forced name ∙ ap (cond (bytes_eq name forced) None) (original_at name earlier)
original_at name (ResetDelta ∷ earlier) = original_at name earlier

-- what a removal leaves at a name
removed_at : (b : Bool) (delta : FinMap name_cmp Marked) (key : Name) (entry : Marked) (name : Name)
    → get (cond b (insert delta key entry) (remove delta key)) name ≡ cond (bytes_eq name key) (cond b (Some entry) None) (get delta name)
removed_at true delta key entry name = get_inserted delta key entry name
removed_at false delta key entry name = get_removed delta key name

-- where a name is the key's, what stands at the key stands at the name
at_the_key : {X Z : Type 0} (look : Name → X) (f : X → Z) (key name : Name) (other : Z)
    → cond (bytes_eq name key) (f (look key)) other ≡ cond (bytes_eq name key) (f (look name)) other
at_the_key look f key name other = by (bytes_eq name key) refl
  where
    by : (b : Bool) → bytes_eq name key ≡ b → cond b (f (look key)) other ≡ cond b (f (look name)) other
    by true e = ap (λ n. f (look n)) (sym ((bytes_eq-Decides name key).0 e))
    by false e = refl

pub entry_at : (name : Name) (history : List Change) → get (jar_by history).delta name ≡ entry_by name history
entry_at name [] = get-empty name_cmp name
entry_at name (AddOriginal cookie ∷ earlier) = entry_at name earlier
entry_at name (Add cookie ∷ earlier) =
    get_inserted (jar_by earlier).delta cookie.name (added_mark cookie) name ∙ ap (cond (bytes_eq name cookie.name) (Some (added_mark cookie))) (entry_at name earlier)
entry_at name (Remove cookie now ∷ earlier) =
    removed_at (contains_key (jar_by earlier).originals cookie.name) (jar_by earlier).delta cookie.name (dropped_mark (removal now cookie)) name
    ∙ at_the_key (get (jar_by earlier).originals) (removal_by (removal now cookie)) cookie.name name (get (jar_by earlier).delta name)
    ∙ ap (λ o. cond (bytes_eq name cookie.name) (removal_by (removal now cookie) o) (get (jar_by earlier).delta name)) (original_at name earlier)
    ∙ ap (cond (bytes_eq name cookie.name) (removal_by (removal now cookie) (original_by name earlier))) (entry_at name earlier)
entry_at name (ForceRemove forced ∷ earlier) =
    get_removed (jar_by earlier).delta forced name ∙ ap (cond (bytes_eq name forced) None) (entry_at name earlier)
entry_at name (ResetDelta ∷ earlier) = get-empty name_cmp name

-- after calls on an empty jar, both maps are what looking back finds
pub looks_back : (changes : List Change) → LooksBack (reverse changes) (after_all changes empty_jar)
looks_back changes =
    record {
      originals = λ name. ap (λ (j : JarState). get j.originals name) (after_all_is changes) ∙ original_at name (reverse changes);
      delta = λ name. ap (λ (j : JarState). get j.delta name) (after_all_is changes) ∙ entry_at name (reverse changes);
    }
