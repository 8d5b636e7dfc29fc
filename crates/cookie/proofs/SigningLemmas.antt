-- A signed value is a signature of 44 characters, which are ASCII, and the value.
use Rattle.std.proofs.Common.{◌≡◌, ◌↔◌, ◌+◌, ◌<◌, ◌≤◌, ℕ, List, [], ◌++◌, length, take, drop, replicate, arith, refl, sym, ap, subst, ◌∙◌, length-append, append-nil, IsAscii, IsUtf8, IsCharBoundary, Option, Some, None, Result, Ok, OnOk}
use Rattle.std.specs.Int.{w64, from_be_bytes, to_be_bytes}
use Rattle.std.proofs.lemmas.List.{get_or_append_left, drop_all, take-append-drop}
use Rattle.std.proofs.lemmas.Nat.{from_be_bytes-to_be_bytes_8}
use Rattle.std.proofs.lemmas.Str.{IsCharBoundary-after_ascii, IsUtf8-append, IsUtf8-from_ascii}
use Rattle.std.proofs.Math.Seq.{take-append_seam, drop-append_seam}
use Rattle.base64.specs.Engines.{standard}
use Rattle.base64.specs.GeneralPurpose.{encode_of, encoded_size_of, IsEncodedOver}
use Rattle.base64.specs.declared.encode.EncodeSliceError.{EncodeSliceError}
use Rattle.base64.specs.Rfc4648.{encode_symbols, padding_len, unpadded_len}
use Rattle.base64.proofs.EngineFacts.{IsAscii-encode_of}
use Rattle.base64.proofs.RoundTrip.{length-encode_symbols}
use Rattle.cookie_core.specs.Record.{Record, IsCookie}
use Rattle.cookie_crypt.specs.Hmac.{hmac}
use Rattle.cookie_crypt.proofs.MacLemmas.{length-hmac}
use Rattle.cookie.specs.AnswersExactly.{AnswersPair}
use Rattle.cookie.specs.Jar.{Name, JarState, Add, after, view}
use Rattle.cookie.specs.Signing.{CoversOnePair, IsSigningOf, signed_message, signature, signing, signed_cookie}
use Rattle.cookie.proofs.AnswerLemmas.{answered_added}

-- ---- the signature

-- 32 bytes are 44 characters
length-encoded : (m : List ℕ) → length m ≡ 32 → length (encode_of standard m) ≡ 44
length-encoded m h =
    let pad : List ℕ = replicate (padding_len (length m)) 61 in
    length-append (encode_symbols standard.encode_table m) pad
    ∙ ap (λ n. n + length pad) (length-encode_symbols standard.encode_table m)
    ∙ subst (λ n. unpadded_len n + length (replicate {A = ℕ} (padding_len n) 61) ≡ 44) (sym h) refl

length-signature : (key : List ℕ) (name : Name) (value : List ℕ) → length (signature key name value) ≡ 44
unfolding signature
length-signature key name value = length-encoded _ (length-hmac key (signed_message name value))

IsAscii-signature : (key : List ℕ) (name : Name) (value : List ℕ) → IsAscii (signature key name value)
unfolding signature
IsAscii-signature key name value = IsAscii-encode_of standard (hmac key (signed_message name value))

pub IsUtf8-signature : (key : List ℕ) (name : Name) (value : List ℕ) → IsUtf8 (signature key name value)
IsUtf8-signature key name value = IsUtf8-from_ascii (signature key name value) (IsAscii-signature key name value)

-- the length, the name and the value, joined
pub message-is : (name : Name) (value size front back : List ℕ) → size ≡ to_be_bytes w64 (length name) → front ≡ name → back ≡ value
    → size ++ (front ++ (back ++ [])) ≡ signed_message name value
message-is name value size front back is_size is_front is_back =
    ap (λ xs. xs ++ (front ++ (back ++ []))) is_size
    ∙ ap (λ xs. to_be_bytes w64 (length name) ++ (xs ++ (back ++ []))) is_front
    ∙ ap (λ xs. to_be_bytes w64 (length name) ++ (name ++ xs)) (append-nil back ∙ is_back)

-- lists of one length, each before another list, are the same where the whole is
same_seam : (front other back another : List ℕ) → length front ≡ length other → front ++ back ≡ other ++ another
    → (front ≡ other) × (back ≡ another)
same_seam front other back another long same = (
  sym (take-append_seam front back) ∙ ap (take (length front)) same ∙ ap (λ n. take n (other ++ another)) long ∙ take-append_seam other another,
  sym (drop-append_seam front back) ∙ ap (drop (length front)) same ∙ ap (λ n. drop n (other ++ another)) long ∙ drop-append_seam other another,
)

-- the first eight bytes give the length of the name, and so its end
pub covers_one_pair : CoversOnePair
covers_one_pair name other value another fits fits_too same =
    let size : to_be_bytes w64 (length name) ≡ to_be_bytes w64 (length other) = ap (take 8) same in
    let long : length name ≡ length other =
    sym (from_be_bytes-to_be_bytes_8 (length name) fits) ∙ ap (from_be_bytes w64) size ∙ from_be_bytes-to_be_bytes_8 (length other) fits_too in
    same_seam name other value another long (ap (drop 8) same)

-- what `encode_slice` leaves in 44 bytes
pub signature-from : (key : List ℕ) (name : Name) (value message mac old new : List ℕ) (r : Result ℕ EncodeSliceError)
    → message ≡ signed_message name value → mac ≡ hmac key message → length old ≡ 44
    → (encoded_size_of standard (length mac) ≤ length old → r ≡ Ok (encoded_size_of standard (length mac)))
    → OnOk r (IsEncodedOver standard mac old new) → new ≡ signature key name value
unfolding signature
signature-from key name value message mac old new r e hm long fits written =
    let size : encoded_size_of standard (length mac) ≡ 44 = ap (encoded_size_of standard) (ap length hm ∙ length-hmac key message) in
    let ok : r ≡ Ok (encoded_size_of standard (length mac)) = fits (subst (λ n. n ≤ length old) (sym size) (omega arith)) in
    let over : new ≡ encode_of standard mac ++ drop (encoded_size_of standard (length mac)) old = subst (λ q. OnOk q (IsEncodedOver standard mac old new)) ok written in
    over ∙ ap (λ xs. encode_of standard mac ++ xs) (ap (λ n. drop n old) size ∙ drop_all 44 old (omega arith))
    ∙ append-nil (encode_of standard mac) ∙ ap (encode_of standard) (hm ∙ ap (hmac key) e)

-- ---- signed values

take-signing : (key : List ℕ) (name : Name) (value : List ℕ) → take 44 (signing key name value) ≡ signature key name value
unfolding signing
take-signing key name value =
    let mark = signature key name value in
    subst (λ n. take n (mark ++ value) ≡ mark) (length-signature key name value) (take-append_seam mark value)

drop-signing : (key : List ℕ) (name : Name) (value : List ℕ) → drop 44 (signing key name value) ≡ value
unfolding signing
drop-signing key name value =
    let mark = signature key name value in
    subst (λ n. drop n (mark ++ value) ≡ value) (length-signature key name value) (drop-append_seam mark value)

IsCharBoundary-signing : (key : List ℕ) (name : Name) (value : List ℕ) → IsUtf8 (signing key name value) → IsCharBoundary (signing key name value) 44
unfolding signing
IsCharBoundary-signing key name value text =
    let mark = signature key name value in
    let long : length mark ≡ 44 = length-signature key name value in
    let fits : 43 < length (mark ++ value) = omega (arith, length-append mark value) in
    IsCharBoundary-after_ascii (mark ++ value) 43 text fits (
    subst (λ n. n < 128) (sym (get_or_append_left mark value 0 43 (omega arith))) (IsAscii-signature key name value 43))

-- what stands behind the signature is the value
pub signing-from : (key : List ℕ) (name : Name) (value front back made : List ℕ)
    → made ≡ front ++ back → front ≡ signature key name value → back ≡ value → made ≡ signing key name value
unfolding signing
signing-from key name value front back made joined is_front is_back =
    joined ∙ ap (λ xs. xs ++ back) is_front ∙ ap (λ xs. signature key name value ++ xs) is_back

-- a signed cookie is a cookie
pub IsCookie-signed : (key : List ℕ) (cookie : Record) → IsCookie cookie → IsCookie (signed_cookie key cookie)
unfolding signing
IsCookie-signed key cookie is =
    let mark = signature key cookie.name cookie.value in
    record {
      name = is.name;
      value = IsUtf8-append mark cookie.value (IsUtf8-signature key cookie.name cookie.value) is.value;
      path = is.path;
      domain = is.domain;
      max_age = is.max_age;
    }

-- the answer where a text has no character boundary after the signature
pub verified_unsplit : (key : List ℕ) (name : Name) (s : List ℕ) → IsUtf8 s → (IsCharBoundary s 44 → ⊥)
    → (v : List ℕ) → (◌≡◌ {A = Option (List ℕ)} None (Some v)) ↔ (s ≡ signing key name v)
verified_unsplit key name s text cut v =
    (λ none. cc, λ e. absurd (cut (subst (λ t. IsCharBoundary t 44) (sym e) (IsCharBoundary-signing key name v (subst IsUtf8 e text)))))

module _ (key : List ℕ) (name : Name) (s front rest : List ℕ) (is_front : front ≡ take 44 s) (is_rest : rest ≡ drop 44 s) where
  -- the answer where the front is the signature of the rest
  pub verified_same : front ≡ signature key name rest → (v : List ℕ) → (Some rest ≡ Some v) ↔ (s ≡ signing key name v)
  unfolding signing
  verified_same same v =
      let whole : s ≡ signature key name rest ++ rest = sym (take-append-drop 44 s) ∙ ap (λ xs. xs ++ drop 44 s) (sym is_front ∙ same) ∙ ap (λ xs. signature key name rest ++ xs) (sym is_rest) in
      (λ some. let e : rest ≡ v = cc in whole ∙ ap (λ xs. signature key name xs ++ xs) e, λ e. ap Some (is_rest ∙ ap (drop 44) e ∙ drop-signing key name v))

  -- the answer where it is not
  pub verified_other : (front ≡ signature key name rest → ⊥) → (v : List ℕ) → (◌≡◌ {A = Option (List ℕ)} None (Some v)) ↔ (s ≡ signing key name v)
  verified_other other v = (
    λ none. cc,
    λ e.
        let is : rest ≡ v = is_rest ∙ ap (drop 44) e ∙ drop-signing key name v in
        absurd (other (is_front ∙ ap (take 44) e ∙ take-signing key name v ∙ ap (signature key name) (sym is))),
  )

-- ---- signed jars

-- a signed cookie that was added is answered with the name and the value that it was added with
pub signed_shown : (key : List ℕ) (cookie : Record) (jar : JarState)
    → AnswersPair (IsSigningOf key) (view (after (Add (signed_cookie key cookie)) jar) cookie.name) cookie
signed_shown key cookie jar = answered_added (IsSigningOf key) (signed_cookie key cookie) cookie jar refl refl
