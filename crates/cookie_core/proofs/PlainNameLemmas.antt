-- Names of printable ASCII without `%` are read as they are sent.
use Rattle.std.proofs.Common.{◌≡◌, ℕ, zero, suc, ◌+◌, ◌-◌, ◌<◌, ◌≤◌, Bool, true, false, ◌==◌, ◌&&◌, List, [], ◌∷◌, ◌++◌, length, get_or, take, drop, refl, sym, ap, subst, ◌∙◌, arith, length-append}
use Rattle.std.proofs.Math.Seq.{get_or-append-add, take-append_seam}
use Rattle.std.proofs.lemmas.Bool.{agree_below_at, and_parts}
use Rattle.std.proofs.lemmas.Bool.Decides.{nat_tests}
use Rattle.std.proofs.lemmas.List.{drop_all, drop_more, get_or_append_left, take-append-drop}
use Rattle.std.proofs.lemmas.List.Folds.{list_all-append}
use Rattle.std.proofs.lemmas.List.Sums.{suffix_len_is}
use Rattle.std.proofs.lemmas.Str.{chars-IsAscii, encodes-IsAscii}
use Rattle.std.specs.Char.{is_whitespace}
use Rattle.std.specs.List.{before_first, list_all, prefix_len, suffix_len}
use Rattle.std.specs.Str.{IsAscii, encode_utf8_all, trim_start, trim_end, skip_leading_whitespace, drop_trailing_whitespace}
use mathlib.Core.Logic.{◌≢◌}
use Rattle.cookie_core.specs.BareNames.{IsSettledName, is_plain_byte}
use Rattle.cookie_core.specs.SentNames.{has_printed_escapes, is_named_as_sent}
use Rattle.cookie_core.specs.Wsp.{is_wsp, trim_wsp, trim_wsp_start, trim_wsp_end}
use Rattle.cookie_core.proofs.BareLemmas.{settled_named}
use Rattle.cookie_core.proofs.ByteLemmas.{IsAscii-from_test, all-weaker, is_low}
use Rattle.cookie_core.proofs.SentNameLemmas.{printed-past}
use Rattle.cookie_core.proofs.TrimLemmas.{AreWhite, Dropped, EndsDark, dropped}
use Rattle.cookie_core.proofs.WspLemmas.{all-at, drop_next}

abbrev ArePlain : List ℕ → Type 0
ArePlain t = list_all is_plain_byte t ≡ true

plain_is_low : (b : ℕ) → is_plain_byte b ≡ true → is_low b ≡ true
plain_is_low b h = grind (arith, nat_tests)

plain_is_other : (b : ℕ) → is_plain_byte b ≡ true → b ≢ 37
plain_is_other b h same = grind (arith, nat_tests)

-- of these bytes only the space is white
plain_white : (b : ℕ) → is_plain_byte b ≡ true → is_whitespace b ≡ is_wsp b
plain_white b h =
    let small : b < 128 = grind (arith, nat_tests) in
    let same = agree_below_at (λ d. is_plain_byte d && is_whitespace d) (λ d. is_plain_byte d && is_wsp d) 128 b refl small in
    rw h at same

plain_ascii : (t : List ℕ) → ArePlain t → IsAscii t
plain_ascii t h = IsAscii-from_test t (all-weaker is_plain_byte is_low plain_is_low t h)

plain-append : (xs ys : List ℕ) → ArePlain (xs ++ ys) → ArePlain xs × ArePlain ys
plain-append xs ys h = and_parts (list_all is_plain_byte xs) (list_all is_plain_byte ys) (sym (list_all-append is_plain_byte xs ys) ∙ h)

plain-take : (n : ℕ) (t : List ℕ) → ArePlain t → ArePlain (take n t)
plain-take n t h = (plain-append (take n t) (drop n t) (rw (take-append-drop n t) h)).0

plain-drop : (n : ℕ) (t : List ℕ) → ArePlain t → ArePlain (drop n t)
plain-drop n t h = (plain-append (take n t) (drop n t) (rw (take-append-drop n t) h)).1

-- ---- both trim the same

skipped : (t : List ℕ) → ArePlain t → skip_leading_whitespace t ≡ drop (prefix_len is_wsp t) t
skipped [] h = refl
skipped (b ∷ t) h =
    let parts = and_parts (is_plain_byte b) (list_all is_plain_byte t) h in
    by (is_wsp b) refl (plain_white b parts.0) (skipped t parts.1)
  where
    by : (w : Bool) → is_wsp b ≡ w → is_whitespace b ≡ is_wsp b → skip_leading_whitespace t ≡ drop (prefix_len is_wsp t) t
        → skip_leading_whitespace (b ∷ t) ≡ drop (prefix_len is_wsp (b ∷ t)) (b ∷ t)
    by true e same later = rw (same, e) (later ∙ sym (drop_next (prefix_len is_wsp t) b t))
    by false e same later = rw (same, e) refl

-- what is white at the end
all_white : (white : List ℕ) → AreWhite white → ArePlain white → (i : ℕ) → i < length white → is_wsp (get_or white i 0) ≡ true
all_white white are plain i below = sym (plain_white (get_or white i 0) (all-at is_plain_byte white i plain below)) ∙ every white are i below
  where
    every : (cs : List ℕ) → AreWhite cs → (k : ℕ) → k < length cs → is_whitespace (get_or cs k 0) ≡ true
    every [] a k l = absurd (omega arith)
    every (c ∷ cs) a zero l = a.0
    every (c ∷ cs) a (suc k) l = every cs a.1 k (omega arith)

-- the last of a text that ends dark
last_dark : (cs : List ℕ) → EndsDark cs → ArePlain cs → 0 < length cs → is_wsp (get_or cs (length cs - 1) 0) ≡ false
last_dark cs dark plain some =
    let end = length cs - 1 in
    let last = get_or cs end 0 in
    let rest : drop end cs ≡ last ∷ [] = drop_more cs end 0 (omega arith) ∙ ap (λ l. last ∷ l) (drop_all (end + 1) cs (omega arith)) in
    let whole : cs ≡ take end cs ++ last ∷ [] = sym (take-append-drop end cs) ∙ ap (λ l. take end cs ++ l) rest in
    sym (plain_white last (all-at is_plain_byte cs end plain (omega arith))) ∙ dark (take end cs) last whole

cut : (t : List ℕ) → ArePlain t → drop_trailing_whitespace t ≡ trim_wsp_end t
cut t h = by (drop_trailing_whitespace t) d.white d.whole d.are d.dark
  where
    d : Dropped t
    d = dropped t

    by : (kept white : List ℕ) → t ≡ kept ++ white → AreWhite white → EndsDark kept → kept ≡ trim_wsp_end t
    by kept white whole are dark =
        let plain = plain-append kept white (subst ArePlain whole h) in
        let n = length kept in
        let long : length t ≡ n + length white = ap length whole ∙ length-append kept white in
        let passes : (k : ℕ) → n ≤ k → k < length t → is_wsp (get_or t k 0) ≡ true = λ k low below.
        let at : n + (k - n) ≡ k = omega (arith, low) in
        let here : get_or t k 0 ≡ get_or white (k - n) 0 =
        ap (λ l. get_or l k 0) whole ∙ ap (λ i. get_or (kept ++ white) i 0) (sym at) ∙ get_or-append-add kept white (k - n) 0 in
        ap is_wsp here ∙ all_white white are plain.1 (k - n) (omega (arith, low, below, long)) in
        let stops : 0 < n → is_wsp (get_or t (n - 1) 0) ≡ false = λ some.
        let here : get_or t (n - 1) 0 ≡ get_or kept (n - 1) 0 = ap (λ l. get_or l (n - 1) 0) whole ∙ get_or_append_left kept white 0 (n - 1) (omega (arith, some)) in
        ap is_wsp here ∙ last_dark kept dark plain.0 some in
        let cut_off : suffix_len is_wsp t ≡ length t - n = suffix_len_is is_wsp t n 0 (omega (arith, long)) passes stops in
        let left : length t - suffix_len is_wsp t ≡ n = omega (arith, cut_off, long) in
        sym (take-append_seam kept white) ∙ ap (take n) (sym whole) ∙ ap (λ k. take k t) (sym left)

starts : (t : List ℕ) → ArePlain t → trim_start t ≡ trim_wsp_start t
unfolding trim_start
starts t h =
    ap encode_utf8_all (ap skip_leading_whitespace (chars-IsAscii t (plain_ascii t h)) ∙ skipped t h)
    ∙ encodes-IsAscii (trim_wsp_start t) (plain_ascii (trim_wsp_start t) (plain-drop (prefix_len is_wsp t) t h))

ends : (t : List ℕ) → ArePlain t → trim_end t ≡ trim_wsp_end t
unfolding trim_end
ends t h =
    ap encode_utf8_all (ap drop_trailing_whitespace (chars-IsAscii t (plain_ascii t h)) ∙ cut t h)
    ∙ encodes-IsAscii (trim_wsp_end t) (plain_ascii (trim_wsp_end t) (plain-take (length t - suffix_len is_wsp t) t h))

plain_printed : (t : List ℕ) → ArePlain t → has_printed_escapes t ≡ true
plain_printed [] h = refl
plain_printed (b ∷ t) h =
    let at = and_parts (is_plain_byte b) (list_all is_plain_byte t) h in
    printed-past b t (plain_is_other b at.0) ∙ plain_printed t at.1

pub plain_settled : (t : List ℕ) → ArePlain t → IsSettledName t
unfolding trim_wsp
plain_settled t h =
    let front = plain-drop (prefix_len is_wsp t) t h in
    let kept = trim_wsp_start t in
    let both = plain-take (length kept - suffix_len is_wsp kept) kept front in
    (ap trim_end (starts t h) ∙ ends kept front, plain_printed (trim_wsp_end kept) both)

pub plain_named : (piece : List ℕ) → ArePlain piece → is_named_as_sent piece ≡ true
plain_named piece h =
    let name = before_first (λ byte. byte == 61) piece in
    sym (settled_named piece name refl (plain_settled name (plain-take _ piece h)))
