-- Keys that are read one after the other.
use Rattle.std.proofs.Common.{◌≡◌, ◌==◌, ◌⊎◌, ℕ, ◌+◌, ◌++◌, true, false, List, [], ◌∷◌, length, Result, Ok, Err, inl, inr, refl, sym, ap, ◌∙◌, arith}
use Rattle.std.proofs.lemmas.Bool.{eqb-true}
use Rattle.std.proofs.lemmas.List.{append_assoc, length-append}
use Rattle.std.specs.Result.{result_map_both}
use Rattle.cookie_session.specs.KeyText.{key_in, keys_in}
use Rattle.cookie_session.specs.declared.key_text_error.KeyTextError.{KeyTextError}
use Rattle.cookie_session.specs.declared.key_text_error.KeyTextError.TheVariants as refusal

abbrev Keys : Type 0
Keys = List (List ℕ)

-- these keys, and then those of the result
abbrev pub after_keys : Keys → Result Keys KeyTextError → Result Keys KeyTextError
after_keys front result = result_map_both (λ keys. front ++ keys) (λ why. why) result

after_one_more : (front : Keys) (key : List ℕ) (r : Result Keys KeyTextError)
    → after_keys (front ++ key ∷ []) r ≡ after_keys front (result_map_both (λ keys. key ∷ keys) (λ why. why) r)
after_one_more front key (Ok keys) = ap Ok (append_assoc front (key ∷ []) keys)
after_one_more front key (Err why) = refl

-- what comes of a key and the texts after it
abbrev with_key : ℕ → List (List ℕ) → Result (List ℕ) KeyTextError → Result Keys KeyTextError
with_key place texts read = elim read as (λ _. Result Keys KeyTextError) [
  | Ok key ↦ result_map_both (λ keys. key ∷ keys) (λ why. why) (keys_in (place + 1) texts)
  | Err why ↦ Err why
]

keys_in-some : (place : ℕ) (text : List ℕ) (texts : List (List ℕ)) → (length text == 0) ≡ false → keys_in place (text ∷ texts) ≡ with_key place texts (key_in place text)
keys_in-some place [] texts some = absurd (let clash : true ≡ false = some in cc)
keys_in-some place (c ∷ cs) texts some = refl

keys_in-empty : (place : ℕ) (text : List ℕ) (texts : List (List ℕ)) → (length text == 0) ≡ true → keys_in place (text ∷ texts) ≡ keys_in place texts
keys_in-empty place [] texts none = refl
keys_in-empty place (c ∷ cs) texts none = absurd (let long = eqb-true (length (c ∷ cs)) 0 none in omega (arith, long))

-- the answer of reading a key isn't out of memory
answered : (r read : Result (List ℕ) KeyTextError) (key : List ℕ) → (r ≡ Err refusal.OutOfMemory) ⊎ (r ≡ read) → r ≡ Ok key → read ≡ Ok key
answered r read key (inl none) got = absurd (let clash : Err refusal.OutOfMemory ≡ Ok key = sym none ∙ got in cc)
answered r read key (inr same) got = sym same ∙ got

module _ (whole : Result Keys KeyTextError) (front : Keys) (text : List ℕ) (left rest : List (List ℕ))
    (next : left ≡ text ∷ rest) (so_far : after_keys front (keys_in (length front) left) ≡ whole) where
  -- an empty text is passed over
  pub step_empty : (length text == 0) ≡ true → after_keys front (keys_in (length front) rest) ≡ whole
  step_empty none = ap (after_keys front) (sym (keys_in-empty (length front) text rest none)) ∙ ap (λ ts. after_keys front (keys_in (length front) ts)) (sym next) ∙ so_far

  -- what is left, by its first text
  by_text : (length text == 0) ≡ false → after_keys front (with_key (length front) rest (key_in (length front) text)) ≡ whole
  by_text some = ap (after_keys front) (sym (keys_in-some (length front) text rest some)) ∙ ap (λ ts. after_keys front (keys_in (length front) ts)) (sym next) ∙ so_far

  -- a key is read
  pub step_key : (length text == 0) ≡ false → (r : Result (List ℕ) KeyTextError) (key : List ℕ) → (r ≡ Err refusal.OutOfMemory) ⊎ (r ≡ key_in (length front) text) → r ≡ Ok key
      → (now : Keys) → now ≡ front ++ key ∷ [] → after_keys now (keys_in (length now) rest) ≡ whole
  step_key some r key reads got now more =
      let place : length now ≡ length front + 1 = ap length more ∙ length-append front (key ∷ []) in
      ap (λ n. after_keys now (keys_in n rest)) place
      ∙ ap (λ f. after_keys f (keys_in (length front + 1) rest)) more
      ∙ after_one_more front key (keys_in (length front + 1) rest)
      ∙ ap (λ read. after_keys front (with_key (length front) rest read)) (sym (answered r (key_in (length front) text) key reads got))
      ∙ by_text some

  -- a text is refused
  pub step_refusal : (length text == 0) ≡ false → (r : Result (List ℕ) KeyTextError) (why : KeyTextError) → (r ≡ Err refusal.OutOfMemory) ⊎ (r ≡ key_in (length front) text) → r ≡ Err why
      → (why ≡ refusal.OutOfMemory) ⊎ (whole ≡ Err why)
  step_refusal some r why (inl none) got = inl (let same : Err why ≡ Err refusal.OutOfMemory = sym got ∙ none in cc)
  step_refusal some r why (inr same) got = inr (sym (by_text some) ∙ ap (λ read. after_keys front (with_key (length front) rest read)) (sym same ∙ got))
