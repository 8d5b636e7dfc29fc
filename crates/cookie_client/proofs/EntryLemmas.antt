-- What holds of each entry of a delta holds after calls, where the calls put it there.
use Rattle.std.proofs.Common.{◌≡◌, Bool, true, false, cond, List, [], ◌∷◌, ◌⊎◌, inl, inr, All, Some, None, refl, sym, subst, ◌∙◌}
use Rattle.std.proofs.lemmas.List.Elements.{All-head, All-tail}
use Rattle.std.proofs.lemmas.Option.{none-some, same_Some}
use Rattle.std.proofs.lemmas.Slice.Eq.{bytes_eq-Decides}
use Rattle.std.specs.FinMap.{FinMap, empty, get, insert, remove, contains_key, get-empty}
use Rattle.std.specs.Str.{bytes_eq}
use Rattle.cookie.specs.History.{after_all}
use Rattle.cookie.specs.Jar.{Name, name_cmp, Marked, added_mark, dropped_mark, JarState, Change, AddOriginal, Add, Remove, ForceRemove, ResetDelta, after}
use Rattle.cookie.specs.Removal.{removal}
use Rattle.cookie.proofs.NameLemmas.{get_inserted, get_removed}

-- which way a test went
pub chosen : {X : Type 0} (b : Bool) (x y z : X) → cond b x y ≡ z → ((b ≡ true) × (x ≡ z)) ⊎ ((b ≡ false) × (y ≡ z))
chosen true x y z e = inl (refl, e)
chosen false x y z e = inr (refl, e)

module _ (P : Name → Marked → Type 0) where
  -- it holds of each entry
  abbrev pub AreEntries : FinMap name_cmp Marked → Type 0
  AreEntries delta = (name : Name) (entry : Marked) → get delta name ≡ Some entry → P name entry

  -- it holds of what the change puts there
  abbrev pub Puts : Change → Type 0
  Puts (AddOriginal cookie) = Unit {0}
  Puts (Add cookie) = P cookie.name (added_mark cookie)
  Puts (Remove cookie now) = P cookie.name (dropped_mark (removal now cookie))
  Puts (ForceRemove name) = Unit {0}
  Puts ResetDelta = Unit {0}

  pub AreEntries-empty : AreEntries empty
  AreEntries-empty name entry e = absurd (none-some entry (sym (get-empty name_cmp name) ∙ e))

  inserted : (delta : FinMap name_cmp Marked) (key : Name) (put : Marked) → P key put → AreEntries delta → AreEntries (insert delta key put)
  inserted delta key put p all name entry e = by (chosen (bytes_eq name key) (Some put) (get delta name) (Some entry) (sym (get_inserted delta key put name) ∙ e))
    where
      by : ((bytes_eq name key ≡ true) × (Some put ≡ Some entry)) ⊎ ((bytes_eq name key ≡ false) × (get delta name ≡ Some entry)) → P name entry
      by (inl (same, is)) = subst (λ n. P n entry) (sym ((bytes_eq-Decides name key).0 same)) (subst (P key) (same_Some put entry is) p)
      by (inr (other, is)) = all name entry is

  dropped_name : (delta : FinMap name_cmp Marked) (key : Name) → AreEntries delta → AreEntries (remove delta key)
  dropped_name delta key all name entry e = by (chosen (bytes_eq name key) None (get delta name) (Some entry) (sym (get_removed delta key name) ∙ e))
    where
      by : ((bytes_eq name key ≡ true) × (None ≡ Some entry)) ⊎ ((bytes_eq name key ≡ false) × (get delta name ≡ Some entry)) → P name entry
      by (inl (same, is)) = absurd (none-some entry is)
      by (inr (other, is)) = all name entry is

  either_way : (b : Bool) (delta : FinMap name_cmp Marked) (key : Name) (put : Marked) → P key put → AreEntries delta → AreEntries (cond b (insert delta key put) (remove delta key))
  either_way true delta key put p all = inserted delta key put p all
  either_way false delta key put p all = dropped_name delta key all

  AreEntries-after : (change : Change) (jar : JarState) → Puts change → AreEntries jar.delta → AreEntries (after change jar).delta
  AreEntries-after (AddOriginal cookie) jar p all = all
  AreEntries-after (Add cookie) jar p all = inserted jar.delta cookie.name (added_mark cookie) p all
  AreEntries-after (Remove cookie now) jar p all =
      either_way (contains_key jar.originals cookie.name) jar.delta cookie.name (dropped_mark (removal now cookie)) p all
  AreEntries-after (ForceRemove name) jar p all = dropped_name jar.delta name all
  AreEntries-after ResetDelta jar p all = AreEntries-empty

  -- so it holds after calls
  pub AreEntries-after_all : (changes : List Change) (jar : JarState) → All Puts changes → AreEntries jar.delta → AreEntries (after_all changes jar).delta
  AreEntries-after_all [] jar ps all = all
  AreEntries-after_all (change ∷ changes) jar ps all =
      AreEntries-after_all changes (after change jar) (All-tail Puts change changes ps) (AreEntries-after change jar (All-head Puts change changes ps) all)
