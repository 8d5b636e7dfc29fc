-- The texts of fields that a client reads, and passes over.
use Rattle.std.proofs.Common.{◌≡◌, ℕ, Bool, true, false, cond, List, [], ◌∷◌, refl, ap}
use Rattle.std.proofs.lemmas.Bool.{false_from_ne_true}
use Rattle.std.proofs.lemmas.Str.{is_utf8-from_IsUtf8, IsUtf8-from_is_utf8}
use Rattle.std.specs.List.{filter}
use Rattle.std.specs.Str.{IsUtf8, is_utf8}
use Rattle.jiff.specs.Types.{DateTime}
use Rattle.cookie_client.specs.Client.{Values, after_text, after_texts}

module _ (now : DateTime) (value : List ℕ) (values : Values) where
  -- a field that is UTF-8 is read
  pub read_text : IsUtf8 value → after_texts now (filter is_utf8 (value ∷ [])) values ≡ after_text now value values
  read_text utf8 = ap (λ b. after_texts now (cond b (value ∷ []) []) values) (is_utf8-from_IsUtf8 value utf8)

  -- another is passed over
  pub unread_text : ¬ (IsUtf8 value) → after_texts now (filter is_utf8 (value ∷ [])) values ≡ values
  unread_text bad =
      ap (λ b. after_texts now (cond b (value ∷ []) []) values) (false_from_ne_true (is_utf8 value) (λ e. bad (IsUtf8-from_is_utf8 value e)))

  -- the first field, and then the others
  pub read_next : (others : List (List ℕ)) → after_texts now (filter is_utf8 others) (after_texts now (filter is_utf8 (value ∷ [])) values) ≡ after_texts now (filter is_utf8 (value ∷ others)) values
  read_next others = by (is_utf8 value)
    where
      by : (b : Bool) → after_texts now (filter is_utf8 others) (after_texts now (cond b (value ∷ []) []) values)
          ≡ after_texts now (cond b (value ∷ filter is_utf8 others) (filter is_utf8 others)) values
      by true = refl
      by false = refl
