-- How long a text is as it is printed.
use Rattle.std.proofs.Common.{◌≡◌, ℕ, suc, ◌+◌, ◌<◌, Bool, true, false, cond, List, [], ◌∷◌, length, take, get_or, refl, ap, subst, ◌∙◌, length-append, append-nil, arith}
use Rattle.std.proofs.Math.Seq.{take-suc}
use Rattle.std.proofs.lemmas.Grind.{flat_map-append}
use Rattle.std.specs.List.{flat_map}
use Rattle.percent_encoding.specs.Percent.{percent_encode_byte}
use Rattle.cookie_core.specs.Escapes.{escape, escape_byte, is_escaped}

-- what a byte is printed as
length-escape_byte : (byte : ℕ) (test : Bool) → test ≡ is_escaped byte → length (escape_byte byte) ≡ cond test 3 1
unfolding percent_encode_byte
length-escape_byte byte true is = subst (λ t. length (cond t (percent_encode_byte byte) (byte ∷ [])) ≡ 3) is refl
length-escape_byte byte false is = subst (λ t. length (cond t (percent_encode_byte byte) (byte ∷ [])) ≡ 1) is refl

-- one byte more of a text
pub length-escape_more : (text : List ℕ) (i : ℕ) (test : Bool) → i < length text → test ≡ is_escaped (get_or text i 0)
    → length (escape (take (i + 1) text)) ≡ length (escape (take i text)) + cond test 3 1
unfolding escape
length-escape_more text i test below is =
    let byte : ℕ = get_or text i 0 in
    let next : i + 1 ≡ suc i = omega arith in
    ap (λ n. length (flat_map escape_byte (take n text))) next
    ∙ ap (λ t. length (flat_map escape_byte t)) (take-suc text i 0 below)
    ∙ ap length (flat_map-append escape_byte (take i text) (byte ∷ []))
    ∙ length-append (flat_map escape_byte (take i text)) (flat_map escape_byte (byte ∷ []))
    ∙ ap (λ n. length (flat_map escape_byte (take i text)) + n) (ap length (append-nil (escape_byte byte)) ∙ length-escape_byte byte test is)

-- nothing of a text yet
pub length-escape_none : (text : List ℕ) → 0 ≡ length (escape (take 0 text))
unfolding escape
length-escape_none text = refl
