-- The steps of a session.
use Rattle.std.proofs.Common.{◌≡◌, ℕ, ◌+◌, ◌≤◌, ◌==◌, ◌&&◌, Bool, true, false, cond, T, List, [], ◌∷◌, ◌++◌, map, Option, Some, None, Result, Ok, Err, length, option_map, refl, sym, ap, subst, ◌∙◌, append_assoc, arith}
use mathlib.Core.Logic.{◌≢◌}
use Rattle.std.proofs.lemmas.List.{length-map}
use Rattle.std.proofs.lemmas.List.Splits.{length-slice_split}
use Rattle.std.proofs.lemmas.List.Sums.{count_by-le-length}
use Rattle.std.proofs.lemmas.Map.Lookups.{exact_bytes}
use Rattle.std.proofs.lemmas.Map.Views.{tells_apart}
use Rattle.std.specs.Cmp.Lexicographic.{nat_list_cmp_total, texts_ties}
use Rattle.std.specs.FinMap.{FinMap, get, insert, entries, find as find_in, is_sorted, from_sorted, get-entries, get-from_sorted, get-insert, entries-from_sorted, entries_sorted, same_map}
use Rattle.std.specs.FinMap.Entries.{below_all}
use Rattle.std.specs.List.{find, list_all, slice_split, IsDistinct, AllByRecursion}
use Rattle.std.specs.Option.{option_or}
use Rattle.std.specs.Result.{result_map_both}
use Rattle.std.specs.Ordering.{is_lt, eq_by_cmp}
use Rattle.std.specs.Str.{bytes_eq}
use Rattle.jiff.specs.Types.{DateTime}
use Rattle.cookie.specs.History.{accepted_items}
use Rattle.cookie.specs.Jar.{Change, Marked, Name, name_cmp}
use Rattle.cookie.specs.Record.{Record}
use Rattle.cookie_client.specs.Lines.{lines_of, without_return}
use Rattle.cookie_client.specs.Session.{Fault, BadLine, call_of, changes_in}

-- ---- what is made of each of a map's values

module _ {X Y : Type 0} (f : X → Y) where
  below-mapped : (k : Name) (es : List (Name × X)) → below_all name_cmp k (map (λ e. (e.0, f e.1)) es) ≡ below_all name_cmp k es
  below-mapped k [] = refl
  below-mapped k (e ∷ es) = ap (λ b. is_lt (name_cmp k e.0) && b) (below-mapped k es)

  is_sorted-mapped : (es : List (Name × X)) → is_sorted name_cmp (map (λ e. (e.0, f e.1)) es) ≡ is_sorted name_cmp es
  is_sorted-mapped [] = refl
  is_sorted-mapped (e ∷ es) = λ i. below-mapped e.0 es i && is_sorted-mapped es i

  option_map-cond : (b : Bool) (x : X) (o : Option X) → cond b (Some (f x)) (option_map f o) ≡ option_map f (cond b (Some x) o)
  option_map-cond true x o = refl
  option_map-cond false x o = refl

  find-mapped : (q : Name) (es : List (Name × X)) → find_in name_cmp q (map (λ e. (e.0, f e.1)) es) ≡ option_map f (find_in name_cmp q es)
  find-mapped q [] = refl
  find-mapped q (e ∷ es) =
      ap (cond (eq_by_cmp name_cmp q e.0) (Some (f e.1))) (find-mapped q es)
      ∙ option_map-cond (eq_by_cmp name_cmp q e.0) e.1 (find_in name_cmp q es)

  -- a map that answers what f makes of another's answers has what f makes of its entries
  pub entries-mapped : (m : FinMap name_cmp X) (n : FinMap name_cmp Y) → ((q : Name) → get n q ≡ option_map f (get m q))
      → entries n ≡ map (λ e. (e.0, f e.1)) (entries m)
  entries-mapped m n same =
      let sorted : T (is_sorted name_cmp (map (λ e. (e.0, f e.1)) (entries m))) = subst T (sym (is_sorted-mapped (entries m))) (entries_sorted m) in
      ap entries (same_map nat_list_cmp_total exact_bytes n (from_sorted (map (λ e. (e.0, f e.1)) (entries m))) (λ q.
      same q ∙ ap (option_map f) (get-entries m q) ∙ sym (find-mapped q (entries m)) ∙ sym (get-from_sorted name_cmp _ q sorted)))
      ∙ entries-from_sorted name_cmp _ sorted

-- ---- the delta's texts

-- the cookie of that name
abbrev pub named : Name → List Record → Option Record
named name cookies = find (λ c. bytes_eq name c.name) cookies

module _ (text : Record → List ℕ) where
  pub texts-first : (o : Option Record) (entry : Option Marked) (g : Option (List ℕ)) → o ≡ option_map (λ m. m.cookie) entry → g ≡ None
      → option_or (option_map text o) g ≡ option_map (λ m. text m.cookie) entry
  texts-first o None g e none = rw (e, none) refl
  texts-first o (Some m) g e none = rw e refl

  no_other : (name : Name) (cookies : List Record) → AllByRecursion (λ n. bytes_eq name n ≡ false) (map (λ c. c.name) cookies) → named name cookies ≡ None
  no_other name [] h = refl
  no_other name (c ∷ cs) h = rw h.0 (no_other name cs h.1)

  next_at : (b : Bool) (name : Name) (c : Record) (left : List Record) (texts : Option (List ℕ)) → bytes_eq name c.name ≡ b
      → AllByRecursion (λ n. bytes_eq c.name n ≡ false) (map (λ c. c.name) left)
      → option_or (option_map text (named name left)) (cond b (Some (text c)) texts)
      ≡ option_or (option_map text (cond b (Some c) (named name left))) texts
  next_at true name c left texts e apart =
      let same : name ≡ c.name = tells_apart exact_bytes name c.name (sym (texts_ties name c.name) ∙ e) in
      let none : named name left ≡ None = ap (λ n. named n left) same ∙ no_other c.name left apart in
      rw none refl
  next_at false name c left texts e apart = refl

  -- setting the first cookie's text keeps what stands at each name
  pub texts-next : (texts : FinMap name_cmp (List ℕ)) (c : Record) (left : List Record) → IsDistinct bytes_eq (map (λ c. c.name) (c ∷ left)) → (name : Name)
      → option_or (option_map text (named name left)) (get (insert texts c.name (text c)) name)
      ≡ option_or (option_map text (named name (c ∷ left))) (get texts name)
  unfolding IsDistinct
  texts-next texts c left distinct name =
      ap (option_or (option_map text (named name left)))
      (get-insert nat_list_cmp_total texts c.name (text c) name ∙ ap (λ b. cond b (Some (text c)) (get texts name)) (sym (texts_ties name c.name)))
      ∙ next_at (bytes_eq name c.name) name c left (get texts name) refl distinct.0

pub IsDistinct-rest : (x : Name) (xs : List Name) → IsDistinct bytes_eq (x ∷ xs) → IsDistinct bytes_eq xs
unfolding IsDistinct
IsDistinct-rest x xs h = h.1

pub map_map : {A B C : Type 0} (f : A → B) (g : B → C) (xs : List A) → map g (map f xs) ≡ map (λ x. g (f x)) xs
map_map f g [] = refl
map_map f g (x ∷ xs) = ap (λ ys. g (f x) ∷ ys) (map_map f g xs)

-- a line, and what stands behind it
pub line-more : (front label text end rest : List ℕ) → (front ++ (label ++ (text ++ end))) ++ rest ≡ front ++ (label ++ (text ++ (end ++ rest)))
line-more front label text end rest = simp append_assoc

-- ---- the lines

-- the changes of a line, and of the others
asked_next : DateTime → ℕ → List (List ℕ) → Option Change → Result (List Change) Fault
asked_next now n lines o =
    elim o as (λ _. Result (List Change) Fault) [
      | None ↦ Err (BadLine n)
      | Some change ↦ result_map_both (λ changes. change ∷ changes) (λ fault. fault) (changes_in now (n + 1) lines)
    ]

pub changes_in-next : (now : DateTime) (n : ℕ) (line : List ℕ) (lines : List (List ℕ)) (change : Change) → line ≢ [] → call_of now line ≡ Some change
    → changes_in now n (line ∷ lines) ≡ result_map_both (λ changes. change ∷ changes) (λ fault. fault) (changes_in now (n + 1) lines)
unfolding asked_next
changes_in-next now n [] lines change some e = absurd (some refl)
changes_in-next now n (c ∷ cs) lines change some e = ap (asked_next now n lines) e

-- a text with a byte isn't empty
pub not_empty : (text : List ℕ) (b : Bool) → b ≡ (length text == 0) → b ≡ false → text ≢ []
not_empty [] b is nothing = λ _. let h : false ≡ true = sym nothing ∙ is in cc
not_empty (c ∷ cs) b is nothing = λ e. cc

-- one more change in front of the others
pub more_changes : (front : List Change) (change : Change) (r : Result (List Change) Fault)
    → result_map_both (λ changes. (front ++ change ∷ []) ++ changes) (λ fault. fault) r
    ≡ result_map_both (λ changes. front ++ changes) (λ fault. fault) (result_map_both (λ changes. change ∷ changes) (λ fault. fault) r)
more_changes front change (Ok changes) = ap Ok (append_assoc front (change ∷ []) changes)
more_changes front change (Err fault) = refl

pub no_changes : (r : Result (List Change) Fault) → result_map_both (λ changes. [] ++ changes) (λ fault. fault) r ≡ r
no_changes (Ok changes) = refl
no_changes (Err fault) = refl

-- all calls were accepted
pub accepted_items-all : {X : Type 0} (outcomes : List Bool) (xs : List X) → length outcomes ≡ length xs → list_all (λ b. b) outcomes ≡ true → accepted_items outcomes xs ≡ xs
accepted_items-all [] [] same all = refl
accepted_items-all [] (x ∷ xs) same all = absurd (omega (arith, same))
accepted_items-all (b ∷ bs) [] same all = refl
accepted_items-all (true ∷ bs) (x ∷ xs) same all = ap (λ ys. x ∷ ys) (accepted_items-all bs xs (omega (arith, same)) all)
accepted_items-all (false ∷ bs) (x ∷ xs) same all = absurd (subst T (sym all) tt)

-- a text has at most one line more than bytes
pub lines_of-length : (text : List ℕ) → length (lines_of text) ≤ length text + 1
lines_of-length text =
    let newline : ℕ → Bool = λ b. b == 10 in
    omega (arith, length-map (slice_split newline text) without_return, length-slice_split newline text, count_by-le-length newline text)
