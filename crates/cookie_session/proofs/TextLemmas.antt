-- The text of a session: its pairs are read back.
use Rattle.std.proofs.Common.{◌≡◌, ℕ, zero, suc, ◌<◌, false, List, [], ◌∷◌, ◌++◌, map, All, IsUtf8, append_assoc, append-nil, codes, refl, sym, ap, subst, ◌∙◌}
use Rattle.std.proofs.lemmas.List.Elements.{All-nil, All-cons, All-head, All-tail, All-weaker}
use Rattle.std.proofs.lemmas.Simd.{map-map}
use Rattle.std.proofs.lemmas.Str.{utf8_lossy-IsUtf8}
use Rattle.std.specs.List.{list_any}
use Rattle.std.specs.Str.Lossy.{utf8_lossy}
use Rattle.form_urlencoded.specs.Form.{decode, extend_pairs, raw_pairs}
use Rattle.form_urlencoded.proofs.FormLemmas.{IsBytePair, round_trip}
use Rattle.cookie.specs.Bytes.{IsBytes}
use Rattle.cookie.proofs.SealingLemmas.{bytes_text}
use Rattle.cookie_session.specs.Form.{compact_form, compact_pair, escape_marks, form_pairs, form_text, is_mark}
use Rattle.cookie_session.specs.Id.{id_text}
use Rattle.cookie_session.proofs.MarkLemmas.{compact_nonempty, compact_pair_nonempty, decode-escape_marks, escape_marks-id_text, escape_marks_unmarked}

abbrev IsTextPair : List ℕ × List ℕ → Type 0
IsTextPair e = IsUtf8 e.0 × IsUtf8 e.1

all_bytes : (xs : List ℕ) → IsBytes xs → All (λ b. b < 256) xs
all_bytes [] are = All-nil (λ b. b < 256)
all_bytes (x ∷ xs) are = All-cons (λ b. b < 256) x xs (are zero) (all_bytes xs (λ i. are (suc i)))

-- a text is bytes
small_text : (text : List ℕ) → IsUtf8 text → All (λ b. b < 256) text
small_text text is = all_bytes text (bytes_text text is)

abbrev lossy_pair : List ℕ × List ℕ → List ℕ × List ℕ
lossy_pair e = (utf8_lossy e.0, utf8_lossy e.1)

lossy_pairs : (es : List (List ℕ × List ℕ)) → All IsTextPair es → map lossy_pair es ≡ es
lossy_pairs [] are = refl
lossy_pairs (e ∷ es) are =
    let first = All-head IsTextPair e es are in
    λ i. (utf8_lossy-IsUtf8 e.0 first.0 i, utf8_lossy-IsUtf8 e.1 first.1 i) ∷ lossy_pairs es (All-tail IsTextPair e es are) i

-- a form of texts has these texts as its pairs
pub form_pairs-extended : (es : List (List ℕ × List ℕ)) → All IsTextPair es → form_pairs (extend_pairs [] es) ≡ es
form_pairs-extended es are =
    sym (map-map lossy_pair (λ (e : List ℕ × List ℕ). (decode e.0, decode e.1)) (raw_pairs (extend_pairs [] es)))
    ∙ ap (map lossy_pair) (round_trip es (All-weaker IsTextPair IsBytePair (λ e t. (small_text e.0 t.0, small_text e.1 t.1)) es are))
    ∙ lossy_pairs es are

-- a text that was written is read back
pub form_text-written : (text : List ℕ) → IsUtf8 text → form_text (escape_marks text) ≡ text
form_text-written text is = ap utf8_lossy (decode-escape_marks text (small_text text is)) ∙ utf8_lossy-IsUtf8 text is

-- a text without marks stands for itself
pub form_text-unmarked : (text : List ℕ) → IsUtf8 text → list_any is_mark text ≡ false → form_text text ≡ text
form_text-unmarked text is none = subst (λ t. form_text t ≡ text) (escape_marks_unmarked text none) (form_text-written text is)

-- the text so far, as its pieces were appended, is the form of the first two pairs
pub head_pairs : (t0 t1 t2 id : List ℕ) → t0 ≡ [] → t1 ≡ t0 ++ codes "v=4&id=" → t2 ≡ t1 ++ id_text id → t2 ≡ compact_form ((codes "v", codes "4") ∷ (codes "id", id_text id) ∷ [])
head_pairs t0 t1 t2 id e0 e1 e2 = plain (id_text id) (escape_marks-id_text id) e2
  where
    plain : (i : List ℕ) → escape_marks i ≡ i → t2 ≡ t1 ++ i → t2 ≡ compact_form ((codes "v", codes "4") ∷ (codes "id", i) ∷ [])
    plain i stays last =
        let version = escape_marks_unmarked (codes "v") refl in
        let four = escape_marks_unmarked (codes "4") refl in
        let id_name = escape_marks_unmarked (codes "id") refl in
        let whole : codes "v=4&id=" ++ i ≡ compact_form ((codes "v", codes "4") ∷ (codes "id", i) ∷ []) =
        sym (compact_nonempty (compact_pair (codes "v", codes "4")) ((codes "id", i) ∷ []) (compact_pair_nonempty (codes "v", codes "4"))
        ∙ simp (version, four, id_name, stays, append_assoc, append-nil) refl) in
        last ∙ ap (λ t. t ++ i) (e1 ∙ ap (λ t. t ++ codes "v=4&id=") e0) ∙ whole
