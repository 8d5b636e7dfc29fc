-- An id is read from its text.
use Rattle.std.proofs.Common.{◌≡◌, ℕ, ◌+◌, List, [], length, take, true, false, is_err, Result, Ok, Err, IfOk, IfErr, arith, length-append, refl, sym, ap, subst, ◌∙◌}
use Rattle.std.proofs.lemmas.Bool.{both_ways}
use Rattle.std.proofs.lemmas.List.{length-take-le}
use Rattle.base64.specs.Engines.{url_safe_no_pad}
use Rattle.base64.specs.GeneralPurpose.{IsDecodedInto, decode_of, engine_symbols}
use Rattle.base64.specs.Rfc4648.{encode_symbols, unpadded_len}
use Rattle.base64.specs.declared.decode.DecodeError.{DecodeError}
use Rattle.base64.proofs.EngineFacts.{decode_of-encode_of}
use Rattle.base64.proofs.RoundTrip.{length-encode_symbols}
use Rattle.cookie_session.specs.Id.{IsId, id_text}

pub length-id_text : (id : List ℕ) → IsId id → length (id_text id) ≡ 22
length-id_text id is =
    length-append (encode_symbols (engine_symbols url_safe_no_pad) id) []
    ∙ ap (λ n. n + 0) (length-encode_symbols (engine_symbols url_safe_no_pad) id) ∙ subst (λ n. unpadded_len n + 0 ≡ 22) (sym is.long) refl

decode-id_text : (text id : List ℕ) → IsId id → text ≡ id_text id → decode_of url_safe_no_pad text ≡ Ok id
decode-id_text text id is shown = ap (decode_of url_safe_no_pad) shown ∙ decode_of-encode_of url_safe_no_pad id refl is.bytes

-- no failure comes of it
pub undecoded : (text id : List ℕ) (r : Result ℕ DecodeError) → is_err r ≡ true → IfErr r (λ e. decode_of url_safe_no_pad text ≡ Err e) → IsId id → ¬ (text ≡ id_text id)
undecoded text id (Ok n) failed why is shown = both_ways true (sym failed) refl
undecoded text id (Err e) failed why is shown = let clash = sym why ∙ decode-id_text text id is shown in cc

-- the bytes that were decoded begin with the id
pub decoded_id : (text id old new : List ℕ) (r : Result ℕ DecodeError) → is_err r ≡ false → IfOk r (λ n. IsDecodedInto url_safe_no_pad text n old new) → length new ≡ length old
    → IsId id → text ≡ id_text id → take 16 new ≡ id
decoded_id text id old new (Err e) succeeded into same is shown = absurd (both_ways true succeeded refl)
decoded_id text id old new (Ok n) succeeded into same is shown =
    let front : take n new ≡ id = let e = sym into.0 ∙ decode-id_text text id is shown in cc in
    let long : n ≡ 16 = omega (arith, sym (length-take-le n new (omega arith)) ∙ ap length front ∙ is.long, into.2, same) in
    subst (λ k. take k new ≡ id) long front
