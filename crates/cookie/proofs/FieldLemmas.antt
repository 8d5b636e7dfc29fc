-- The pieces of a `Cookie` field, which are read one after the other.
use Rattle.std.proofs.Common.{◌≡◌, ◌==◌, ◌<◌, ◌≤◌, ◌+◌, ◌-◌, Bool, true, false, cond, not, ◌&&◌, ℕ, List, [], ◌∷◌, ◌++◌, map, length, take, take_all, drop, length-drop, get_or, All, Option, Some, None, refl, sym, ap, subst, ◌∙◌, arith}
use Rattle.std.proofs.Math.Dec.{ltb}
use Rattle.std.proofs.Math.Seq.{take-append_seam, drop-append-add, get_or-append_seam}
use Rattle.std.proofs.lemmas.Bool.{and_parts, eqb-true, false_from_ne_true, ltb-true}
use Rattle.std.proofs.lemmas.Bool.Decides.{nat_tests}
use Rattle.std.proofs.lemmas.List.{append-nil, append_assoc, length-append, nil_from_length}
use Rattle.std.proofs.lemmas.List.Elements.{All-cons, All-filter, All-head, All-tail, filter-append, filter_map-append}
use Rattle.std.proofs.lemmas.List.Folds.{list_all-append}
use Rattle.std.proofs.lemmas.List.Quantifiers.{position-Some}
use Rattle.std.proofs.lemmas.List.Splits.{slice_split_first, slice_split_none, join_with_byte-slice_split}
use Rattle.std.proofs.lemmas.List.Sums.{fails_before_first}
use Rattle.std.proofs.lemmas.Option.{none-some, same_Some}
use Rattle.std.proofs.lemmas.Str.{IsCharBoundary-after_ascii, IsCharBoundary-before_ascii, IsUtf8-drop, IsUtf8-from_is_utf8, IsUtf8-take, is_utf8-from_IsUtf8}
use Rattle.std.specs.List.{cons_option, filter, filter_map, flat_map, join_with_byte, list_all, position, position_or_len}
use Rattle.std.specs.Option.{option_to_list}
use Rattle.std.specs.Str.{IsCharBoundary, IsUtf8, is_utf8, trim}
use Rattle.cookie_core.specs.BareNames.{is_plain_byte}
use Rattle.cookie_core.specs.CookieOf.{cookie_of, header_cookies}
use Rattle.cookie_core.specs.Header.{joined_texts, kept_texts}
use Rattle.cookie_core.specs.Normal.{IsNamed}
use Rattle.cookie_core.specs.Pieces.{Lacks, pieces}
use Rattle.cookie_core.specs.Record.{Record, plain}
use Rattle.cookie_core.specs.SentNames.{is_named_as_sent}
use Rattle.cookie_core.specs.Text.{cookie_text}
use Rattle.cookie_core.proofs.HeaderLemmas.{header_form}
use Rattle.cookie_core.proofs.JoinLemmas.{header_cookies-joined}
use Rattle.cookie_core.proofs.PieceLemmas.{IsHeaderTexts-header_texts, IsPieces-pieces, pieces-cut}
use Rattle.cookie_core.proofs.PlainNameLemmas.{plain_named}
use Rattle.cookie_core.proofs.SentHeaderLemmas.{joined_named}
use Rattle.cookie.specs.FieldPieces.{cookies_of_piece}
use Rattle.cookie.specs.Originals.{field_cookies, is_readable, readable}

not_below : (a b : ℕ) → ltb a b ≡ false → b ≤ a
not_below a b h = grind (arith, nat_tests)

abbrev pub is_mark : ℕ → Bool
is_mark b = b == 59

-- ---- the first piece

-- it ends at a `;`
pub pieces-Some : (t : List ℕ) (end : ℕ) → position is_mark t ≡ Some end → (end < length t) × (pieces t ≡ take end t ∷ pieces (drop (end + 1) t))
pieces-Some t end e = by (ltb n (length t)) refl e
  where
    n : ℕ
    n = position_or_len is_mark t

    by : (b : Bool) → ltb n (length t) ≡ b → cond b (Some n) None ≡ Some end → (end < length t) × (pieces t ≡ take end t ∷ pieces (drop (end + 1) t))
    by true l s =
        let same : n ≡ end = same_Some n end s in
        subst (λ i. (i < length t) × (pieces t ≡ take i t ∷ pieces (drop (i + 1) t))) same
        (ltb-true n (length t) l, slice_split_first is_mark t 0 (ltb-true n (length t) l))
    by false l s = absurd (none-some end s)

-- or with the field
pub pieces-None : (t : List ℕ) → position is_mark t ≡ None → pieces t ≡ t ∷ []
pieces-None t e = by (ltb n (length t)) refl e
  where
    n : ℕ
    n = position_or_len is_mark t

    by : (b : Bool) → ltb n (length t) ≡ b → cond b (Some n) None ≡ None → pieces t ≡ t ∷ []
    by true l s = absurd (none-some n (sym s))
    by false l s =
        slice_split_none is_mark t (λ i d lt. fails_before_first is_mark t i d (omega (arith, lt, not_below n (length t) l)))

-- ---- the cookies of pieces

abbrev is_filled : List ℕ → Bool
is_filled t = not (length t == 0)

-- the cookies of pieces, each trimmed
abbrev cookies_in : List (List ℕ) → List Record
cookies_in ps = filter_map (cookie_of true) (kept_texts ps)

cookies_in-cons : (p : List ℕ) (ps : List (List ℕ)) → cookies_in (p ∷ ps) ≡ cookies_in (p ∷ []) ++ cookies_in ps
cookies_in-cons p ps =
    ap (filter_map (cookie_of true)) (filter-append is_filled (trim p ∷ []) (map trim ps))
    ∙ filter_map-append (cookie_of true) (kept_texts (p ∷ [])) (kept_texts ps)

header_cookies-pieces : (t : List ℕ) → header_cookies true t ≡ cookies_in (pieces t)
unfolding header_cookies
header_cookies-pieces t = refl

-- one piece
header_cookies-piece : (p : List ℕ) → Lacks 59 p → header_cookies true p ≡ cookies_in (p ∷ [])
header_cookies-piece p lacks = header_cookies-pieces p ∙ ap cookies_in (pieces-cut p p None (sym (append-nil p)) lacks)

-- and more after its `;`
header_cookies-cut : (p rest : List ℕ) → Lacks 59 p → header_cookies true (p ++ 59 ∷ rest) ≡ header_cookies true p ++ header_cookies true rest
header_cookies-cut p rest lacks =
    header_cookies-pieces (p ++ 59 ∷ rest) ∙ ap cookies_in (pieces-cut (p ++ 59 ∷ rest) p (Some rest) refl lacks) ∙ cookies_in-cons p (pieces rest)
    ∙ ap (λ cookies. cookies ++ cookies_in (pieces rest)) (sym (header_cookies-piece p lacks))
    ∙ ap (λ cookies. header_cookies true p ++ cookies) (sym (header_cookies-pieces rest))

header_cookies-join : (ps : List (List ℕ)) → All (Lacks 59) ps → header_cookies true (join_with_byte 59 ps) ≡ flat_map (header_cookies true) ps
header_cookies-join [] lacks = header_cookies-joined []
header_cookies-join (p ∷ []) lacks = sym (append-nil (header_cookies true p))
header_cookies-join (p ∷ q ∷ ps) lacks =
    header_cookies-cut p (join_with_byte 59 (q ∷ ps)) (All-head (Lacks 59) p (q ∷ ps) lacks)
    ∙ ap (λ cookies. header_cookies true p ++ cookies) (header_cookies-join (q ∷ ps) (All-tail (Lacks 59) p (q ∷ ps) lacks))

pieces_lack : (t : List ℕ) → All (Lacks 59) (pieces t)
pieces_lack t =
    let h = IsHeaderTexts-header_texts t in
    subst (All (Lacks 59)) (sym (IsPieces-pieces t h.0 h.1 h.2)) (All-cons (Lacks 59) h.0 h.1 h.2.first h.2.later)

-- the cookie that a text without `;` is read as
no_cookie : (p : List ℕ) → p ≡ [] → cookie_of true p ≡ None
unfolding cookie_of
no_cookie p none = ap (cookie_of true) none

piece_cookie : (p : List ℕ) → Lacks 59 p → header_cookies true p ≡ option_to_list (cookie_of true (trim p))
piece_cookie p lacks = header_cookies-piece p lacks ∙ by (is_filled (trim p)) refl
  where
    one : (o : Option Record) → cons_option o [] ≡ option_to_list o
    one None = refl
    one (Some c) = refl

    by : (b : Bool) → is_filled (trim p) ≡ b → filter_map (cookie_of true) (cond b (trim p ∷ []) []) ≡ option_to_list (cookie_of true (trim p))
    by true e = one (cookie_of true (trim p))
    by false e = sym (ap option_to_list (no_cookie (trim p) (nil_from_length (trim p) (grind (arith, nat_tests)))))

kept_pieces : (ps : List (List ℕ)) → All (Lacks 59) ps → flat_map (header_cookies true) (filter is_readable ps) ≡ flat_map cookies_of_piece ps
kept_pieces [] lacks = refl
kept_pieces (p ∷ ps) lacks = by (is_readable p) (kept_pieces ps (All-tail (Lacks 59) p ps lacks))
  where
    by : (b : Bool) → flat_map (header_cookies true) (filter is_readable ps) ≡ flat_map cookies_of_piece ps
        → flat_map (header_cookies true) (cond b (p ∷ filter is_readable ps) (filter is_readable ps)) ≡ cond b (option_to_list (cookie_of true (trim p))) [] ++ flat_map cookies_of_piece ps
    by true later =
        ap (λ cookies. cookies ++ flat_map (header_cookies true) (filter is_readable ps)) (piece_cookie p (All-head (Lacks 59) p ps lacks))
        ∙ ap (λ cookies. option_to_list (cookie_of true (trim p)) ++ cookies) later
    by false later = later

-- a field's cookies are those of its pieces, in order
pub field_cookies-pieces : (value : List ℕ) → field_cookies value ≡ flat_map cookies_of_piece (pieces value)
field_cookies-pieces value =
    header_cookies-join (filter is_readable (pieces value)) (All-filter is_readable (Lacks 59) (pieces value) (pieces_lack value)) ∙ kept_pieces (pieces value) (pieces_lack value)

-- a piece is readable if it is UTF-8, and named as it was sent
pub piece_readable : (piece : List ℕ) (b : Bool) → IsUtf8 piece → b ≡ is_named_as_sent piece → b ≡ is_readable piece
piece_readable piece b utf8 named = named ∙ sym (ap (λ u. u && is_named_as_sent piece) (is_utf8-from_IsUtf8 piece utf8))

pub piece_unreadable : (piece : List ℕ) → ¬ (IsUtf8 piece) → is_readable piece ≡ false
piece_unreadable piece bad = ap (λ u. u && is_named_as_sent piece) (false_from_ne_true (is_utf8 piece) (λ e. bad (IsUtf8-from_is_utf8 piece e)))

-- ---- the walk over the pieces of a field

-- once the first piece is read, the others are left
pub cookies_left : (rest : List ℕ) (end : ℕ) (read made whole : List Record) → position is_mark rest ≡ Some end
    → made ≡ read ++ cookies_of_piece (take end rest)
    → read ++ flat_map cookies_of_piece (pieces rest) ≡ whole
    → made ++ flat_map cookies_of_piece (pieces (take (length rest - (end + 1)) (drop (end + 1) rest))) ≡ whole
cookies_left rest end read made whole found is all =
    let cut = pieces-Some rest end found in
    let left = drop (end + 1) rest in
    ap (λ t. made ++ flat_map cookies_of_piece (pieces t)) (take_all (length rest - (end + 1)) left (omega (arith, length-drop (end + 1) rest)))
    ∙ ap (λ cs. cs ++ flat_map cookies_of_piece (pieces left)) is
    ∙ append_assoc read (cookies_of_piece (take end rest)) (flat_map cookies_of_piece (pieces left))
    ∙ ap (λ ps. read ++ flat_map cookies_of_piece ps) (sym cut.1)
    ∙ all

-- the last piece
pub cookies_last : (rest : List ℕ) (read whole : List Record) → position is_mark rest ≡ None
    → read ++ flat_map cookies_of_piece (pieces rest) ≡ whole → read ++ cookies_of_piece rest ≡ whole
cookies_last rest read whole none all =
    ap (λ cookies. read ++ cookies) (sym (append-nil (cookies_of_piece rest)))
    ∙ ap (λ ps. read ++ flat_map cookies_of_piece ps) (sym (pieces-None rest none))
    ∙ all

-- ---- the pieces of a text that is UTF-8, cut at each `;`

-- the first ends between characters, and so does its `;`
pub piece_boundaries : (t : List ℕ) (end : ℕ) → IsUtf8 t → position is_mark t ≡ Some end → IsCharBoundary t end × IsCharBoundary t (end + 1)
piece_boundaries t end utf8 found =
    let at = position-Some is_mark t end 0 found in
    let mark : get_or t end 0 < 128 = omega (arith, eqb-true (get_or t end 0) 59 at.1) in
    (IsCharBoundary-before_ascii t end at.0 mark, IsCharBoundary-after_ascii t end utf8 at.0 mark)

-- whether the first is named as it was sent, and then the others
pub named-found : (t : List ℕ) (end : ℕ) → position is_mark t ≡ Some end
    → list_all is_named_as_sent (pieces t) ≡ (is_named_as_sent (take end t) && list_all is_named_as_sent (pieces (drop (end + 1) t)))
named-found t end found = ap (list_all is_named_as_sent) (pieces-Some t end found).1

-- or the only one
pub named-whole : (t : List ℕ) → position is_mark t ≡ None → list_all is_named_as_sent (pieces t) ≡ is_named_as_sent t
named-whole t none = ap (list_all is_named_as_sent) (pieces-None t none) ∙ and_true (is_named_as_sent t)
  where
    and_true : (b : Bool) → (b && true) ≡ b
    and_true true = refl
    and_true false = refl

-- ---- a header of printable ASCII without `%`

plain_pieces : (ps : List (List ℕ)) → list_all is_plain_byte (join_with_byte 59 ps) ≡ true → list_all is_named_as_sent ps ≡ true
plain_pieces [] plain = refl
plain_pieces (p ∷ []) plain = rw (plain_named p plain) refl
plain_pieces (p ∷ q ∷ ps) plain =
    let rest = join_with_byte 59 (q ∷ ps) in
    let parts = and_parts (list_all is_plain_byte p) (list_all is_plain_byte (59 ∷ rest)) (sym (list_all-append is_plain_byte p (59 ∷ rest)) ∙ plain) in
    rw (plain_named p parts.0) (plain_pieces (q ∷ ps) (and_parts (is_plain_byte 59) (list_all is_plain_byte rest) parts.1).1)

pub plain_header : (header : List ℕ) → list_all is_plain_byte header ≡ true → list_all is_named_as_sent (pieces header) ≡ true
plain_header header plain = plain_pieces (pieces header) (ap (list_all is_plain_byte) (join_with_byte-slice_split 59 header) ∙ plain)

-- ---- a field that is UTF-8

seam : (p rest : List ℕ) → IsUtf8 (p ++ 59 ∷ rest) → IsUtf8 p × IsUtf8 rest
seam p rest utf8 =
    let t = p ++ 59 ∷ rest in
    let within : length p < length t = omega (arith, length-append p (59 ∷ rest)) in
    let mark : get_or t (length p) 0 < 128 = omega (arith, get_or-append_seam p 59 rest 0) in (
      subst IsUtf8 (take-append_seam p (59 ∷ rest)) (IsUtf8-take t (length p) utf8 (IsCharBoundary-before_ascii t (length p) within mark)),
      subst IsUtf8 (drop-append-add p (59 ∷ rest) 1) (IsUtf8-drop t (length p + 1) utf8 (IsCharBoundary-after_ascii t (length p) utf8 within mark)),
    )

all_readable : (ps : List (List ℕ)) → IsUtf8 (join_with_byte 59 ps) → list_all is_named_as_sent ps ≡ true → filter is_readable ps ≡ ps
all_readable [] utf8 named = refl
all_readable (p ∷ []) utf8 named =
    let here = and_parts (is_named_as_sent p) true named in
    ap (λ b. cond (b && is_named_as_sent p) (p ∷ []) []) (is_utf8-from_IsUtf8 p utf8) ∙ ap (λ b. cond b (p ∷ []) []) here.0
all_readable (p ∷ q ∷ ps) utf8 named =
    let parts = seam p (join_with_byte 59 (q ∷ ps)) utf8 in
    let here = and_parts (is_named_as_sent p) (list_all is_named_as_sent (q ∷ ps)) named in
    ap (λ b. cond (b && is_named_as_sent p) (p ∷ filter is_readable (q ∷ ps)) (filter is_readable (q ∷ ps))) (is_utf8-from_IsUtf8 p parts.0)
    ∙ ap (λ b. cond b (p ∷ filter is_readable (q ∷ ps)) (filter is_readable (q ∷ ps))) here.0
    ∙ ap (λ qs. p ∷ qs) (all_readable (q ∷ ps) parts.1 here.1)

-- it is read as it stands, if each piece is named as it was sent
pub readable-named : (value : List ℕ) → IsUtf8 value → list_all is_named_as_sent (pieces value) ≡ true → readable value ≡ value
readable-named value utf8 named =
    let whole = join_with_byte-slice_split 59 value in
    ap (join_with_byte 59) (all_readable (pieces value) (subst IsUtf8 (sym whole) utf8) named) ∙ whole

-- what this crate printed is read whole
pub printed_cookies : (header : List ℕ) (cookies : List Record) → IsUtf8 header → All IsNamed cookies → header ≡ joined_texts (map (cookie_text true true) cookies)
    → field_cookies header ≡ map (λ c. plain c.name c.value) cookies
printed_cookies header cookies utf8 named is =
    ap (header_cookies true) (readable-named header utf8 (ap (λ t. list_all is_named_as_sent (pieces t)) is ∙ joined_named cookies named) ∙ is)
    ∙ header_form cookies named
