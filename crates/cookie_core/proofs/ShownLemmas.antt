-- What holds of the text of each attribute holds of the text of all.
use Rattle.std.proofs.Common.{ℕ, List, [], ◌∷◌, ◌++◌}
use Rattle.cookie_core.specs.Text.{ShownAttribute, shown_text, shown_texts}

pub shown_texts-all : (P : List ℕ → Type 0) → P [] → ((a b : List ℕ) → P a → P b → P (a ++ b)) → ((attribute : ShownAttribute) → P (shown_text attribute))
    → (attributes : List ShownAttribute) → P (shown_texts attributes)
shown_texts-all P none join each [] = none
shown_texts-all P none join each (a ∷ []) = each a
shown_texts-all P none join each (a ∷ b ∷ more) = join (shown_text a) (shown_texts (b ∷ more)) (each a) (shown_texts-all P none join each (b ∷ more))
