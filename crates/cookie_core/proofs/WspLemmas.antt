-- Texts without spaces and tabs at their ends.
use Rattle.std.proofs.Common.{◌≡◌, ℕ, zero, suc, ◌+◌, ◌-◌, ◌<◌, Bool, true, false, List, [], ◌∷◌, length, get_or, drop, take, take_all, refl, sym, ap, ◌∙◌, arith}
use Rattle.std.proofs.lemmas.Bool.{and_parts}
use Rattle.std.proofs.lemmas.Bool.Decides.{nat_tests}
use Rattle.std.proofs.lemmas.List.Sums.{prefix_len-drop_no, suffix_len-take_no}
use Rattle.std.specs.List.{list_all, prefix_len, suffix_len}
use Rattle.cookie_core.specs.Graphic.{is_graphic}
use Rattle.cookie_core.specs.Wsp.{is_wsp, trim_wsp, trim_wsp_end}
use Rattle.cookie_core.proofs.EscapeTextLemmas.{is_token}
use Rattle.cookie_core.proofs.GraphicLemmas.{tokens_are_graphic}

pub trim_wsp-dark : (t : List ℕ) → 0 < length t → is_wsp (get_or t 0 0) ≡ false → is_wsp (get_or t (length t - 1) 0) ≡ false → trim_wsp t ≡ t
unfolding trim_wsp
trim_wsp-dark t some first last =
    let front : prefix_len is_wsp t ≡ 0 = prefix_len-drop_no is_wsp t 0 0 some first in
    let whole : take (length t) t ≡ t = take_all (length t) t (omega arith) in
    let end : suffix_len is_wsp t ≡ 0 = ap (suffix_len is_wsp) (sym whole) ∙ suffix_len-take_no is_wsp t (length t) 0 some (omega arith) last in
    let all : length t - suffix_len is_wsp t ≡ length t = omega arith in
    ap (λ n. trim_wsp_end (drop n t)) front ∙ ap (λ n. take n t) all ∙ whole

graphic_is_dark : (b : ℕ) → is_graphic b ≡ true → is_wsp b ≡ false
graphic_is_dark b h = grind (arith, nat_tests)

pub all-at : (p : ℕ → Bool) (t : List ℕ) (i : ℕ) → list_all p t ≡ true → i < length t → p (get_or t i 0) ≡ true
all-at p [] i h l = absurd (omega arith)
all-at p (b ∷ t) zero h l = (and_parts (p b) (list_all p t) h).0
all-at p (b ∷ t) (suc i) h l = all-at p t i (and_parts (p b) (list_all p t) h).1 (omega arith)

pub trim_wsp-graphic : (t : List ℕ) → list_all is_graphic t ≡ true → trim_wsp t ≡ t
unfolding trim_wsp
trim_wsp-graphic [] h = refl
trim_wsp-graphic (b ∷ t) h =
    trim_wsp-dark (b ∷ t) (omega arith) (graphic_is_dark b (and_parts (is_graphic b) (list_all is_graphic t) h).0)
    (graphic_is_dark (get_or (b ∷ t) (length (b ∷ t) - 1) 0) (all-at is_graphic (b ∷ t) (length (b ∷ t) - 1) h (omega arith)))

pub trim_wsp-tokens : (t : List ℕ) → list_all is_token t ≡ true → trim_wsp t ≡ t
trim_wsp-tokens t h = trim_wsp-graphic t (tokens_are_graphic t h)

pub drop_next : (n x : ℕ) (t : List ℕ) → drop (1 + n) (x ∷ t) ≡ drop n t
drop_next n x t = let next : 1 + n ≡ suc n = omega arith in ap (λ k. drop k (x ∷ t)) next

-- a space in front is trimmed
pub trim_wsp-space : (t : List ℕ) → trim_wsp (32 ∷ t) ≡ trim_wsp t
unfolding trim_wsp
trim_wsp-space t = ap trim_wsp_end (drop_next (prefix_len is_wsp t) 32 t)
