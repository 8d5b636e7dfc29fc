-- A table that is copied entry by entry.
use Rattle.std.proofs.Common.{◌≡◌, ℕ, Bool, true, false, cond, List, [], ◌∷◌, Option, Some, None, refl, sym, ap, subst, ◌∙◌}
use Rattle.std.proofs.lemmas.Slice.Eq.{bytes_eq-Decides}
use Rattle.std.specs.Cmp.Lexicographic.{nat_list_cmp_total}
use Rattle.std.specs.FinMap.{FinMap, get, insert, same_map}
use Rattle.std.specs.Option.{option_map}
use Rattle.std.specs.Str.{bytes_eq}
use Rattle.cookie.specs.Jar.{name_cmp}
use Rattle.cookie.specs.Table.{by_name, key_name}
use Rattle.cookie.specs.declared.name_key.NameKey.{NameKey}
use Rattle.cookie.proofs.NameLemmas.{at_text, get-by_name, get_inserted, names_apart}

-- the first of two look-ups that found something
abbrev pub first_of : {X : Type 0} → Option X → Option X → Option X
first_of (Some x) other = Some x
first_of None other = other

first_of-None : {X : Type 0} (o : Option X) → first_of o None ≡ o
first_of-None (Some x) = refl
first_of-None None = refl

module _ {X Z : Type 0} (shows : X → Z) where
  -- what the entries show at a name
  abbrev pub shown_at : List (NameKey × X) → List ℕ → Option Z
  shown_at es q = option_map shows (at_text shows es q)

  -- at first nothing is copied, and all is left
  pub none_copied : (all left es : List (NameKey × X)) → es ≡ [] → left ≡ all
      → (q : List ℕ) → first_of (get (by_name shows es) q) (shown_at left q) ≡ shown_at all q
  none_copied all left es none same q =
      ap (λ xs. first_of (get (by_name shows xs) q) (shown_at left q)) none
      ∙ ap (λ o. first_of o (shown_at left q)) (get-by_name shows [] q) ∙ ap (λ xs. shown_at xs q) same

  -- one more entry of `all` is copied: the map has those before it, and `left` are the others
  pub copied_more : (all left rest : List (NameKey × X)) (made : FinMap name_cmp Z) (key : NameKey) (x : X) (name : List ℕ) (z : Z)
      → name ≡ key_name key → z ≡ shows x → left ≡ (key, x) ∷ rest → at_text shows all (key_name key) ≡ Some x
      → ((q : List ℕ) → first_of (get made q) (shown_at left q) ≡ shown_at all q)
      → (q : List ℕ) → first_of (get (insert made name z) q) (shown_at rest q) ≡ shown_at all q
  copied_more all left rest made key x name z same_name same at found before q =
      rw (get_inserted made name z q, same_name, same) (
      by (bytes_eq q (key_name key)) refl (subst (λ es. first_of (get made q) (shown_at es q) ≡ shown_at all q) at (before q)))
    where
      by : (b : Bool) → bytes_eq q (key_name key) ≡ b → first_of (get made q) (shown_at ((key, x) ∷ rest) q) ≡ shown_at all q
          → first_of (cond b (Some (shows x)) (get made q)) (shown_at rest q) ≡ shown_at all q
      by true e h = sym (ap (option_map shows) found) ∙ ap (shown_at all) (sym ((bytes_eq-Decides q (key_name key)).0 e))
      by false e h = sym (ap (λ b. first_of (get made q) (option_map shows (cond b (Some x) (at_text shows rest q)))) e) ∙ h

  -- where nothing is left, the copy shows what the table shows
  pub all_copied : (all left : List (NameKey × X)) (made : FinMap name_cmp Z) → left ≡ []
      → ((q : List ℕ) → first_of (get made q) (shown_at left q) ≡ shown_at all q) → made ≡ by_name shows all
  all_copied all left made none copied = same_map nat_list_cmp_total names_apart _ _ (λ q.
      sym (first_of-None (get made q)) ∙ ap (λ es. first_of (get made q) (shown_at es q)) (sym none) ∙ copied q ∙ sym (get-by_name shows all q))
