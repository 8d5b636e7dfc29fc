-- Headers that are joined by `; ` are read one after the other.
use Rattle.std.proofs.Common.{◌≡◌, ◌==◌, ◌<◌, Bool, true, false, not, ℕ, List, [], ◌∷◌, ◌++◌, map, length, refl, sym, ap, ◌∙◌, arith}
use Rattle.std.proofs.lemmas.List.{append-nil, map-append}
use Rattle.std.proofs.lemmas.List.Elements.{filter-append, filter_map-append}
use Rattle.std.proofs.lemmas.List.Splits.{slice_split-cons_yes, slice_split-cons_no, length-slice_split}
use Rattle.std.proofs.lemmas.Str.{chars-append, chars-IsAscii, IsUtf8-from_ascii}
use Rattle.std.specs.List.{filter, filter_map, flat_map, onto_first, slice_split}
use Rattle.std.specs.Str.{IsAscii, chars, encode_utf8_all, skip_leading_whitespace, trim, trim_end, trim_start}
use Rattle.cookie_core.specs.CookieOf.{cookie_of, header_cookies}
use Rattle.cookie_core.specs.Header.{joined_texts, kept_texts}
use Rattle.cookie_core.specs.Pieces.{pieces}
use Rattle.cookie_core.proofs.ByteLemmas.{IsAscii-from_test}
use Rattle.cookie_core.proofs.GraphicLemmas.{trim-graphic}

module _ {X : Type 0} (p : X → Bool) where
  onto_more : (x : X) (parts others : List (List X)) → 0 < length parts → onto_first x (parts ++ others) ≡ onto_first x parts ++ others
  onto_more x [] others some = absurd (omega arith)
  onto_more x (part ∷ parts) others some = refl

  -- the parts of two lists with one between them at which they are split
  split_both : (xs : List X) (y : X) (ys : List X) → p y ≡ true → slice_split p (xs ++ y ∷ ys) ≡ slice_split p xs ++ slice_split p ys
  split_both [] y ys e = slice_split-cons_yes p y ys e
  split_both (x ∷ xs) y ys e = by (p x) refl (split_both xs y ys e)
    where
      by : (b : Bool) → p x ≡ b → slice_split p (xs ++ y ∷ ys) ≡ slice_split p xs ++ slice_split p ys
          → slice_split p (x ∷ (xs ++ y ∷ ys)) ≡ slice_split p (x ∷ xs) ++ slice_split p ys
      by true t later =
          slice_split-cons_yes p x (xs ++ y ∷ ys) t ∙ ap (λ parts. [] ∷ parts) later
          ∙ ap (λ parts. parts ++ slice_split p ys) (sym (slice_split-cons_yes p x xs t))
      by false f later =
          slice_split-cons_no p x (xs ++ y ∷ ys) f ∙ ap (onto_first x) later
          ∙ onto_more x (slice_split p xs) (slice_split p ys) (omega (arith, length-slice_split p xs))
          ∙ ap (λ parts. parts ++ slice_split p ys) (sym (slice_split-cons_no p x xs f))

-- ---- a space in front

space : IsAscii (32 ∷ [])
space = IsAscii-from_test (32 ∷ []) refl

chars_space : (t : List ℕ) → chars (32 ∷ t) ≡ 32 ∷ chars t
chars_space t = chars-append (32 ∷ []) t (IsUtf8-from_ascii (32 ∷ []) space) ∙ ap (λ cs. cs ++ chars t) (chars-IsAscii (32 ∷ []) space)

trim_space : (t : List ℕ) → trim (32 ∷ t) ≡ trim t
unfolding trim_start
trim_space t = ap (λ cs. trim_end (encode_utf8_all (skip_leading_whitespace cs))) (chars_space t)

trim_nothing : trim [] ≡ []
trim_nothing = trim-graphic [] refl

-- ---- the texts of a header

abbrev is_filled : List ℕ → Bool
is_filled t = not (length t == 0)

kept_both : (ps qs : List (List ℕ)) → kept_texts (ps ++ qs) ≡ kept_texts ps ++ kept_texts qs
kept_both ps qs = ap (filter is_filled) (map-append trim ps qs) ∙ filter-append is_filled (map trim ps) (map trim qs)

kept_space : (ps : List (List ℕ)) → kept_texts (onto_first 32 ps) ≡ kept_texts ps
kept_space [] = ap (λ t. filter is_filled (t ∷ [])) (trim_space [] ∙ trim_nothing)
kept_space (p ∷ ps) = ap (λ t. filter is_filled (t ∷ map trim ps)) (trim_space p)

kept_joined : (a b : List ℕ) → kept_texts (pieces (a ++ 59 ∷ 32 ∷ b)) ≡ kept_texts (pieces a) ++ kept_texts (pieces b)
kept_joined a b =
    ap kept_texts (split_both (λ c. c == 59) a 59 (32 ∷ b) refl) ∙ kept_both (pieces a) (pieces (32 ∷ b))
    ∙ ap (λ texts. kept_texts (pieces a) ++ texts) (kept_space (pieces b))

-- ---- the cookies of a header

cookies_nothing : header_cookies true [] ≡ []
unfolding header_cookies
cookies_nothing = ap (λ t. filter_map (cookie_of true) (filter is_filled (t ∷ []))) trim_nothing

cookies_both : (a b : List ℕ) → header_cookies true (a ++ 59 ∷ 32 ∷ b) ≡ header_cookies true a ++ header_cookies true b
unfolding header_cookies
cookies_both a b =
    ap (filter_map (cookie_of true)) (kept_joined a b) ∙ filter_map-append (cookie_of true) (kept_texts (pieces a)) (kept_texts (pieces b))

-- the cookies of headers that are joined are those of each, in order
pub header_cookies-joined : (texts : List (List ℕ)) → header_cookies true (joined_texts texts) ≡ flat_map (header_cookies true) texts
header_cookies-joined [] = cookies_nothing
header_cookies-joined (a ∷ []) = ap (header_cookies true) (append-nil a) ∙ sym (append-nil (header_cookies true a))
header_cookies-joined (a ∷ b ∷ texts) =
    cookies_both a (joined_texts (b ∷ texts)) ∙ ap (λ cookies. header_cookies true a ++ cookies) (header_cookies-joined (b ∷ texts))
