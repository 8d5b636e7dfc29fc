-- How a text's first line is taken off, and a line's carriage return.
use Rattle.std.proofs.Common.{◌≡◌, ℕ, ◌<◌, false, ◌==◌, cond, List, [], ◌∷◌, ◌++◌, map, length, get_or, Option, Some, None, refl, ap, ◌∙◌}
use Rattle.std.proofs.lemmas.Bool.{ne_eqb}
use Rattle.std.proofs.lemmas.List.{get_or_default}
use Rattle.std.proofs.lemmas.List.Splits.{slice_split_at, slice_split_none}
use Rattle.std.specs.List.{All, cons_option, filter_map}
use Rattle.std.specs.Option.{option_to_list}
use mathlib.Core.Logic.{◌≢◌}
use Rattle.cookie.specs.History.{after_all}
use Rattle.cookie.specs.Jar.{AddOriginal, JarState}
use Rattle.cookie.specs.Record.{Record}
use Rattle.cookie_client.specs.Lines.{lines_of, without_return}

-- no byte of the text is a newline
lacks_newline : (text : List ℕ) → ((i : ℕ) → i < length text → get_or text i 0 ≢ 10) → All (λ b. (b == 10) ≡ false) text
lacks_newline text lacks k d inside =
    ne_eqb (get_or text k d) 10 (λ e. lacks k inside (get_or_default text k 0 d inside ∙ e))

pub lines_of-first : (text line rest : List ℕ) → text ≡ line ++ 10 ∷ rest → ((i : ℕ) → i < length line → get_or line i 0 ≢ 10)
    → lines_of text ≡ without_return line ∷ lines_of rest
lines_of-first text line rest is lacks =
    ap lines_of is ∙ ap (map without_return) (slice_split_at (λ (b : ℕ). b == 10) line 10 rest (lacks_newline line lacks) refl)

pub lines_of-last : (text : List ℕ) → ((i : ℕ) → i < length text → get_or text i 0 ≢ 10) → lines_of text ≡ without_return text ∷ []
lines_of-last text lacks = ap (map without_return) (slice_split_none (λ (b : ℕ). b == 10) text (lacks_newline text lacks))

-- a line with a carriage return at its end
pub without_return-one : (line : List ℕ) → without_return (line ++ 13 ∷ []) ≡ line
without_return-one [] = refl
without_return-one (c ∷ []) = refl
without_return-one (c ∷ d ∷ cs) = ap (λ l. c ∷ l) (without_return-one (d ∷ cs))

-- a line without one
pub without_return-none : (line : List ℕ) → ((front : List ℕ) → line ≢ front ++ 13 ∷ []) → without_return line ≡ line
without_return-none [] none = refl
without_return-none (c ∷ []) none = ap (λ b. cond b [] (c ∷ [])) (ne_eqb c 13 (λ e. none [] (ap (λ b. b ∷ []) e)))
without_return-none (c ∷ d ∷ cs) none =
    ap (λ l. c ∷ l) (without_return-none (d ∷ cs) (λ front e. none (c ∷ front) (ap (λ l. c ∷ l) e)))

-- ---- the cookies of the first line

module _ (reading : List ℕ → Option Record) where
  -- one text's cookie first, and then the others'
  pub added-next : (t : List ℕ) (ts : List (List ℕ)) (o : Option Record) (jar : JarState) → o ≡ reading t
      → after_all (map AddOriginal (filter_map reading ts)) (after_all (map AddOriginal (option_to_list o)) jar) ≡ after_all (map AddOriginal (filter_map reading (t ∷ ts))) jar
  added-next t ts None jar e = ap (λ o. after_all (map AddOriginal (cons_option o (filter_map reading ts))) jar) e
  added-next t ts (Some c) jar e = ap (λ o. after_all (map AddOriginal (cons_option o (filter_map reading ts))) jar) e
