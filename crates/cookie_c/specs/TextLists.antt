-- Names and their texts as a list for C: each as it is, after its length.
use Rattle.std.specs.Prelude.{ℕ, List, [], ◌++◌, fold, length}
use Rattle.std.specs.FinMap.{FinMap, entries}
use Rattle.std.specs.Int.{to_le_bytes, w64}
use Rattle.cookie.specs.Jar.{name_cmp}

-- the list with one more name and its text: both lengths in eight bytes each, of which the lowest is the first, and then
-- both
abbrev pub with_listed : List ℕ → List ℕ × List ℕ → List ℕ
with_listed list pair =
    list ++ to_le_bytes w64 (length pair.0) ++ to_le_bytes w64 (length pair.1) ++ pair.0 ++ pair.1

-- the list of these names with their texts, in this order
abbrev pub list_of : List (List ℕ × List ℕ) → List ℕ
list_of pairs = fold with_listed [] pairs

-- the texts by name, in byte order of the names
abbrev pub list_of_texts : FinMap name_cmp (List ℕ) → List ℕ
list_of_texts texts = list_of (entries texts)
