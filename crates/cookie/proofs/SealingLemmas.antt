-- Sealed values: what is sealed opens, and nothing else does.
use Rattle.std.proofs.Common.{◌≡◌, ◌↔◌, ℕ, ◌+◌, ◌-◌, ◌/◌, ◌<◌, ◌≤◌, true, ltb, List, [], ◌∷◌, ◌++◌, length, take, drop, Option, None, Some, Result, Ok, Err, IfOk, IsUtf8, alloc_error, option_map, refl, sym, ap, subst, ◌∙◌, arith, ⊎_elim}
use Rattle.std.proofs.lemmas.Bool.{and_parts, ltb-true}
use Rattle.std.proofs.lemmas.List.{append_assoc, length-append, length-drop, append-nil, take_all, drop_all, take_at, drop_at, take-append-drop, length-take-le}
use Rattle.std.proofs.lemmas.Str.{IsUtf8-from_ascii}
use borrow.Rule.Slice.PartMut.{mid_of, post_of, put_mid}
use lib.Utf8.{scalar, scalars, scalar_cases, encode, encodes, next}
use Rattle.base64.specs.Engines.{standard, url_safe_no_pad}
use Rattle.base64.specs.GeneralPurpose.{decode_of, encode_of}
use Rattle.base64.specs.declared.engine.general_purpose.GeneralPurpose.{GeneralPurpose}
use Rattle.base64.proofs.EngineFacts.{IsAscii-encode_of, decode_of-encode_of, front_bytes}
use Rattle.cookie_crypt.specs.Bytes.{IsBytes}
use Rattle.cookie_crypt.specs.Gcm.{IsSealing, SealsToBytes, gctr, tag_of}
use Rattle.cookie_crypt.proofs.BytesLemmas.{bytes_either, bytes_first, bytes_joined, bytes_none}
use Rattle.cookie_crypt.proofs.GcmLemmas.{gctr-gctr, length-gctr, length-sealed, length-tag_of, sealing_of}
use Rattle.std.specs.declared.alloc.AllocError.{AllocError}
use Rattle.cookie_core.specs.Memory.{Gives}
use Rattle.cookie_core.specs.Record.{Record, IsCookie}
use Rattle.cookie.specs.AnswersExactly.{AnswersPair}
use Rattle.cookie.specs.Jar.{JarState, Add, after, view}
use Rattle.cookie.specs.Opening.{IsSealedBytes, IsSealedTextBytes}
use Rattle.cookie.specs.SealingCalls.{IsSealedText}
use Rattle.cookie.specs.Purposes.{IsSealableFor, IsTextFor, purpose_data}
use Rattle.cookie.specs.Sealing.{IsNonce, IsSealable, IsSealedWith, IsSealingOf, sealed_cookie, sealed_bytes, sealed_text, sealing}
use Rattle.cookie.specs.declared.jar_error.JarError.{JarError}
use Rattle.cookie.specs.declared.jar_error.JarError.TheVariants as refusal
use Rattle.cookie.proofs.AnswerLemmas.{answered_added, if_added}

-- ---- bytes

-- a byte that goes on with a character
bytes_next : (c : ℕ) (xs : List ℕ) → IsBytes xs → IsBytes (next c ∷ xs)
bytes_next c xs p = bytes_first (next c) xs (omega arith) p

bytes_encoded : (c : ℕ) → scalar c ≡ true → IsBytes (encode c)
unfolding encode
bytes_encoded c is =
    let small : c < 1114112 = ⊎_elim (λ low. omega (arith, low)) (λ high. high.1) (scalar_cases c is) in
    let one : List ℕ = next c ∷ [] in
    let two : List ℕ = next (c / 64) ∷ one in
    let three : List ℕ = next (c / 4096) ∷ two in
    let bytes_one : IsBytes one = bytes_next c [] bytes_none in
    let bytes_two : IsBytes two = bytes_next (c / 64) one bytes_one in
    let bytes_three : IsBytes three = bytes_next (c / 4096) two bytes_two in
    bytes_either (ltb c 128) (c ∷ []) _ (λ e. let h = ltb-true c 128 e in bytes_first c [] (omega (arith, h)) bytes_none)
    (bytes_either (ltb c 2048) ((192 + c / 64) ∷ one) _ (λ e. let h = ltb-true c 2048 e in bytes_first (192 + c / 64) one (omega (arith, h)) bytes_one)
    (bytes_either (ltb c 65536) ((224 + c / 4096) ∷ two) ((240 + c / 262144) ∷ three)
    (λ e. let h = ltb-true c 65536 e in bytes_first (224 + c / 4096) two (omega (arith, h)) bytes_two)
    (bytes_first (240 + c / 262144) three (omega (arith, small)) bytes_three)))

bytes_encodes : (cs : List ℕ) → scalars cs ≡ true → IsBytes (encodes cs)
bytes_encodes [] are = bytes_none
bytes_encodes (c ∷ cs) are =
    let both = and_parts (scalar c) (scalars cs) are in
    bytes_joined (encode c) (encodes cs) (bytes_encoded c both.0) (bytes_encodes cs both.1)

-- a text is bytes
pub bytes_text : (text : List ℕ) → IsUtf8 text → IsBytes text
bytes_text text is = subst IsBytes is.1.1 (bytes_encodes is.0 is.1.0)

-- ---- the bytes of a sealing

-- what a sealing in place leaves, with its tag behind it
pub sealed_bytes-from : (key name nonce value text tag : List ℕ) → IsSealing key nonce name value text tag → nonce ++ text ++ tag ≡ sealed_bytes key name nonce value
unfolding sealed_bytes
sealed_bytes-from key name nonce value text tag is =
    ap (λ t. nonce ++ text ++ t) is.tag_is ∙ ap (λ t. nonce ++ t ++ tag_of key nonce name t) is.text_is

-- a sealing of parts that are these
pub sealing-turned : (cipher key nonce aad name old value text tag : List ℕ) → cipher ≡ key → aad ≡ name → old ≡ value
    → IsSealing cipher nonce aad old text tag → IsSealing key nonce name value text tag
sealing-turned cipher key nonce aad name old value text tag same_key same_name same_text is =
    subst (λ k. IsSealing k nonce name value text tag) same_key (subst (λ a. IsSealing cipher nonce a value text tag) same_name (subst (λ t. IsSealing cipher nonce aad t text tag) same_text is))

-- a buffer of the nonce and the value: what stands behind the nonce
pub buffer-value : (nonce value items whole : List ℕ) → length nonce ≡ 12 → whole ≡ items → items ≡ nonce ++ value → mid_of 12 (length whole - 12) whole ≡ value
buffer-value nonce value items whole long same are =
    let back : drop 12 whole ≡ value = ap (drop 12) (same ∙ are) ∙ drop_at nonce value 12 long in
    take_all (length whole - 12) (drop 12 whole) (omega (arith, length-drop 12 whole)) ∙ back

-- and the buffer once a text of that length was put there
pub buffer-put : (nonce value text items whole : List ℕ) (n : ℕ) → length nonce ≡ 12 → whole ≡ items → items ≡ nonce ++ value → length text ≡ length value → length whole ≡ n
    → take n (put_mid 12 (length whole - 12) whole text ++ drop (length (put_mid 12 (length whole - 12) whole text)) items) ≡ nonce ++ text
buffer-put nonce value text items whole n long same are even size =
    let put : List ℕ = put_mid 12 (length whole - 12) whole text in
    let front : take 12 whole ≡ nonce = ap (take 12) (same ∙ are) ∙ take_at nonce value 12 long in
    let none : post_of 12 (length whole - 12) whole ≡ [] = drop_all (length whole - 12) (drop 12 whole) (omega (arith, length-drop 12 whole)) in
    let put_is : put ≡ nonce ++ text = ap (λ xs. xs ++ (text ++ post_of 12 (length whole - 12) whole)) front ∙ ap (λ xs. nonce ++ (text ++ xs)) none ∙ ap (λ xs. nonce ++ xs) (append-nil text) in
    let put_long : length put ≡ n =
    omega (arith, ap length put_is, length-append nonce text, length-append nonce value, ap length (same ∙ are), even, size) in
    take_at put (drop (length put) items) n put_long ∙ put_is

-- a sealing under a nonce, as the encoding of its bytes
pub sealed_of_nonce : (engine : GeneralPurpose) (key bound nonce value bytes slice text : List ℕ)
    → IsUtf8 value → IsSealable bound value → IsNonce nonce → slice ≡ bytes → bytes ≡ sealed_bytes key bound nonce value → text ≡ encode_of engine slice
    → (text ≡ sealed_text engine key bound nonce value) × IsSealedWith engine key bound text value
unfolding sealed_text
sealed_of_nonce engine key bound nonce value bytes slice text is_text fits is same are encoded =
    let made = encoded ∙ ap (encode_of engine) (same ∙ are) in
    (made, record { is_text = is_text; sealable = fits; sealed = (nonce, is, made) })

-- what an encoding of these bytes gives
pub sealed_text_of : {X E : Type 0} (bytes_of : X → List ℕ) (key name nonce value bytes slice : List ℕ) (r : Result X E)
    → IsUtf8 value → IsSealable name value → IsNonce nonce → slice ≡ bytes → bytes ≡ sealed_bytes key name nonce value
    → IfOk r (λ t. bytes_of t ≡ encode_of standard slice) → IfOk r (λ t. IsSealedText key name value nonce (bytes_of t))
sealed_text_of bytes_of key name nonce value bytes slice (Ok t) text fits is same are encoded =
    let both = sealed_of_nonce standard key name nonce value bytes slice (bytes_of t) text fits is same are encoded in
    record { made = both.0; opens = both.1 }
sealed_text_of bytes_of key name nonce value bytes slice (Err e) text fits is same are encoded = tt

bytes_sealed : (key name nonce value : List ℕ) → SealsToBytes key → IsNonce nonce → IsUtf8 value → IsSealable name value → IsBytes (sealed_bytes key name nonce value)
unfolding sealed_bytes
bytes_sealed key name nonce value seals is text within =
    let cipher : List ℕ = gctr key nonce value in
    let tag : List ℕ = tag_of key nonce name cipher in
    let both : IsBytes cipher × IsBytes tag = seals nonce name value cipher tag (bytes_text value text) (sealing_of key nonce name value within) in
    bytes_joined (nonce ++ cipher) tag (bytes_joined nonce cipher is.bytes both.0) both.1

length-sealed_bytes : (key name nonce value : List ℕ) → length (sealed_bytes key name nonce value) ≡ length nonce + length value + 16
unfolding sealed_bytes
length-sealed_bytes key name nonce value =
    let cipher : List ℕ = gctr key nonce value in
    let tag : List ℕ = tag_of key nonce name cipher in
    omega (arith, length-append (nonce ++ cipher) tag, length-append nonce cipher, length-gctr key nonce value, length-tag_of key nonce name cipher)

-- the bytes are a sealing of one value
sealed_bytes-one : (key bound nonce other value also : List ℕ) → length nonce ≡ 12 → length other ≡ 12
    → sealed_bytes key bound nonce value ≡ sealed_bytes key bound other also → value ≡ also
unfolding sealed_bytes
sealed_bytes-one key bound nonce other value also long also_long e =
    let g : List ℕ = gctr key nonce value in
    let h : List ℕ = gctr key other also in
    let t : List ℕ = tag_of key nonce bound g in
    let u : List ℕ = tag_of key other bound h in
    let whole : nonce ++ (g ++ t) ≡ other ++ (h ++ u) = sym (append_assoc nonce g t) ∙ e ∙ append_assoc other h u in
    let same_nonce : nonce ≡ other = sym (take_at nonce (g ++ t) 12 long) ∙ ap (take 12) whole ∙ take_at other (h ++ u) 12 also_long in
    let rest : g ++ t ≡ h ++ u = sym (drop_at nonce (g ++ t) 12 long) ∙ ap (drop 12) whole ∙ drop_at other (h ++ u) 12 also_long in
    let size : length g ≡ length h =
    omega (arith, ap length rest, length-append g t, length-append h u, length-tag_of key nonce bound g, length-tag_of key other bound h) in
    let cipher : g ≡ h = sym (take_at g t (length g) refl) ∙ ap (take (length g)) rest ∙ take_at h u (length g) (sym size) in
    sym (gctr-gctr key nonce value) ∙ ap (gctr key nonce) cipher ∙ ap (λ n. gctr key n h) same_nonce ∙ gctr-gctr key other also

-- and so is a text
sealed_one : (key bound text value other : List ℕ) → SealsToBytes key → IsSealedWith url_safe_no_pad key bound text value
    → IsSealedWith url_safe_no_pad key bound text other → other ≡ value
unfolding sealed_text
sealed_one key bound text value other seals is also =
    let nonce : List ℕ = is.sealed.0 in
    let also_nonce : List ℕ = also.sealed.0 in
    let b : List ℕ = sealed_bytes key bound nonce value in
    let c : List ℕ = sealed_bytes key bound also_nonce other in
    let read : decode_of url_safe_no_pad text ≡ Ok b =
    ap (decode_of url_safe_no_pad) is.sealed.2 ∙ decode_of-encode_of url_safe_no_pad b refl (bytes_sealed key bound nonce value seals is.sealed.1 is.is_text is.sealable) in
    let also_read : decode_of url_safe_no_pad text ≡ Ok c =
    ap (decode_of url_safe_no_pad) also.sealed.2
    ∙ decode_of-encode_of url_safe_no_pad c refl (bytes_sealed key bound also_nonce other seals also.sealed.1 also.is_text also.sealable) in
    let both : Ok c ≡ Ok b = sym also_read ∙ read in
    let same : c ≡ b = cc in
    sealed_bytes-one key bound also_nonce nonce other value also.sealed.1.long is.sealed.1.long same

-- what an encoding of these bytes gives for a purpose
pub text_for_of : {X E : Type 0} (bytes_of : X → List ℕ) (key purpose name nonce value bound bytes slice : List ℕ) (r : Result X E)
    → SealsToBytes key → IsUtf8 value → IsSealableFor purpose name value → IsNonce nonce → bound ≡ purpose_data purpose name → slice ≡ bytes → bytes ≡ sealed_bytes key bound nonce value
    → IfOk r (λ t. bytes_of t ≡ encode_of url_safe_no_pad slice) → IfOk r (λ t. IsTextFor key purpose name value nonce (bytes_of t))
text_for_of bytes_of key purpose name nonce value bound bytes slice (Ok t) seals text fits is bound_is same are encoded =
    let both = sealed_of_nonce url_safe_no_pad key (purpose_data purpose name) nonce value bytes slice (bytes_of t) text fits is same
    (are ∙ ap (λ b. sealed_bytes key b nonce value) bound_is) encoded in
    record { made = both.0; opens = both.1; only = λ other also. sealed_one key (purpose_data purpose name) (bytes_of t) value other seals both.1 also }
text_for_of bytes_of key purpose name nonce value bound bytes slice (Err e) seals text fits is bound_is same are encoded = tt

-- ---- the parts of a sealing

long_enough : (key name bytes value : List ℕ) → IsSealedBytes key name bytes value → 28 ≤ length bytes
long_enough key name bytes value is =
    let nonce : List ℕ = is.sealed.0 in
    omega (arith, is.sealed.1, ap length is.sealed.2, length-sealed_bytes key name nonce value)

module _ (key name bytes : List ℕ) where
  -- the answer where there is no whole nonce
  pub opened_without_nonce : length bytes < 12 → (v : List ℕ) → (◌≡◌ {A = Option (List ℕ)} None (Some v)) ↔ IsSealedBytes key name bytes v
  opened_without_nonce short v = (λ none. cc, λ is. absurd (omega (arith, short, long_enough key name bytes v is)))

  -- the answer where there is no whole tag
  pub opened_without_tag : (rest : List ℕ) → rest ≡ drop 12 bytes → length rest < 16 → (v : List ℕ) → (◌≡◌ {A = Option (List ℕ)} None (Some v)) ↔ IsSealedBytes key name bytes v
  opened_without_tag rest back short v =
      (λ none. cc, λ is. absurd (omega (arith, short, long_enough key name bytes v is, ap length back, length-drop 12 bytes)))

  module _ (nonce rest text tag : List ℕ) (first : nonce ≡ take 12 bytes) (back : rest ≡ drop 12 bytes) (middle : text ≡ take (length rest - 16) rest) (last : tag ≡ drop (length rest - 16) rest) where
    -- the parts of a sealing are the nonce, the encrypted value and the tag
    parts_sealing : (v : List ℕ) → IsSealedBytes key name bytes v → IsSealing key nonce name v text tag
    unfolding sealed_bytes
    parts_sealing v is =
        let n : List ℕ = is.sealed.0 in
        let g : List ℕ = gctr key n v in
        let t : List ℕ = tag_of key n name g in
        let whole : bytes ≡ n ++ (g ++ t) = is.sealed.2 ∙ append_assoc n g t in
        let nonce_is : nonce ≡ n = first ∙ ap (take 12) whole ∙ take_at n (g ++ t) 12 is.sealed.1 in
        let rest_is : rest ≡ g ++ t = back ∙ ap (drop 12) whole ∙ drop_at n (g ++ t) 12 is.sealed.1 in
        let seam : length g ≡ length rest - 16 = omega (arith, ap length rest_is, length-append g t, length-tag_of key n name g) in
        let text_is : text ≡ g = middle ∙ ap (take (length rest - 16)) rest_is ∙ take_at g t (length rest - 16) seam in
        let tag_is : tag ≡ t = last ∙ ap (drop (length rest - 16)) rest_is ∙ drop_at g t (length rest - 16) seam in
        record {
          within = is.sealable;
          text_is = text_is ∙ ap (λ k. gctr key k v) (sym nonce_is);
          tag_is = tag_is ∙ ap (tag_of key n name) (sym text_is) ∙ ap (λ k. tag_of key k name text) (sym nonce_is);
        }

    -- what opens, with its parts joined again
    sealing_parts : 12 ≤ length bytes → (v : List ℕ) → IsSealing key nonce name v text tag → IsSealedBytes key name bytes v
    sealing_parts long v is =
        let joined : text ++ tag ≡ rest = ap (λ t. t ++ tag) middle ∙ ap (λ t. take (length rest - 16) rest ++ t) last ∙ take-append-drop (length rest - 16) rest in
        let whole : nonce ++ rest ≡ bytes = ap (λ t. t ++ rest) first ∙ ap (λ t. take 12 bytes ++ t) back ∙ take-append-drop 12 bytes in
        record {
          sealable = is.within;
          sealed = (nonce, ap length first ∙ length-take-le 12 bytes long, sym whole ∙ ap (λ t. nonce ++ t) (sym joined) ∙ sym (append_assoc nonce text tag) ∙ sealed_bytes-from key name nonce v text tag is);
        }

    module _ (aad old : List ℕ) (same_name : aad ≡ name) (same_text : old ≡ text) where
      -- the same sealing, of these parts
      turned_sealing : (p : List ℕ) → (IsSealing key nonce aad p old tag → IsSealing key nonce name p text tag) × (IsSealing key nonce name p text tag → IsSealing key nonce aad p old tag)
      turned_sealing p = (
        λ is. subst (λ a. IsSealing key nonce a p text tag) same_name (subst (λ t. IsSealing key nonce aad p t tag) same_text is),
        λ is. subst (λ a. IsSealing key nonce a p old tag) (sym same_name) (subst (λ t. IsSealing key nonce name p t tag) (sym same_text) is),
      )

      -- the answer where the cipher opens them
      pub opened_right : (plain end : List ℕ) → end ≡ plain → 12 ≤ length bytes → IsSealing key nonce aad plain old tag
          → ((p : List ℕ) → IsSealing key nonce aad p old tag → plain ≡ p) → (v : List ℕ) → (Some end ≡ Some v) ↔ IsSealedBytes key name bytes v
      opened_right plain end ends long is only v = (
        λ e. let same : end ≡ v = cc in subst (IsSealedBytes key name bytes) (sym ends ∙ same) (sealing_parts long plain ((turned_sealing plain).0 is)),
        λ sealed. ap Some (ends ∙ only v ((turned_sealing v).1 (parts_sealing v sealed))),
      )

      -- the answer where it does not
      pub opened_wrong : ((p : List ℕ) → IsSealing key nonce aad p old tag → ⊥) → (v : List ℕ) → (◌≡◌ {A = Option (List ℕ)} None (Some v)) ↔ IsSealedBytes key name bytes v
      opened_wrong refused v = (λ none. cc, λ sealed. absurd (refused v ((turned_sealing v).1 (parts_sealing v sealed))))

-- what a whole buffer holds after it was opened in place
pub opened_whole : (key nonce aad plain old tag items : List ℕ) (n : ℕ) → IsSealing key nonce aad plain old tag → length old ≡ n → take n (plain ++ drop (length plain) items) ≡ plain
opened_whole key nonce aad plain old tag items n is long =
    take_at plain (drop (length plain) items) n (sym (length-sealed key nonce aad plain old tag is) ∙ long)

-- ---- the text in the bytes

module _ (key bound bytes : List ℕ) (opened : Option (List ℕ)) (opens : (v : List ℕ) → (opened ≡ Some v) ↔ IsSealedBytes key bound bytes v) where
  -- the answer where the bytes are no sealing
  pub text_unopened : opened ≡ None → (v : List ℕ) → (◌≡◌ {A = Option (List ℕ)} None (Some v)) ↔ IsSealedTextBytes key bound bytes v
  text_unopened none v = (λ e. cc, λ is. let clash : None ≡ Some v = sym none ∙ (opens v).1 is.1 in cc)

  module _ (plain : List ℕ) (opened_is : opened ≡ Some plain) where
    -- what they hold, where they are one
    plain_is : (v : List ℕ) → IsSealedTextBytes key bound bytes v → plain ≡ v
    plain_is v is = let both : Some plain ≡ Some v = sym opened_is ∙ (opens v).1 is.1 in cc

    -- the answer where that is no text
    pub text_bad : (IsUtf8 plain → ⊥) → (v : List ℕ) → (◌≡◌ {A = Option (List ℕ)} None (Some v)) ↔ IsSealedTextBytes key bound bytes v
    text_bad bad v = (λ e. cc, λ is. absurd (bad (subst IsUtf8 (sym (plain_is v is)) is.0)))

    -- the answer where it is one
    pub text_right : (value : List ℕ) → value ≡ plain → IsUtf8 value → (v : List ℕ) → (Some value ≡ Some v) ↔ IsSealedTextBytes key bound bytes v
    text_right value value_is is_text v = (
      λ e. let same : value ≡ v = cc in (subst IsUtf8 same is_text, (opens v).0 (opened_is ∙ ap Some (sym value_is ∙ same))),
      λ is. ap Some (value_is ∙ plain_is v is),
    )

-- ---- from the text

module _ (engine : GeneralPurpose) (key bound text : List ℕ) (seals : SealsToBytes key) (answer : Option (List ℕ))
    (decodes : (b : List ℕ) → IsBytes b → (answer ≡ Some b) ↔ (text ≡ encode_of engine b)) where
  -- what a sealing decodes to
  sealed_decodes : (v : List ℕ) → IsSealedWith engine key bound text v → (b : List ℕ) × (answer ≡ Some b) × IsSealedBytes key bound b v
  unfolding sealed_text
  sealed_decodes v is =
      let nonce : List ℕ = is.sealed.0 in
      let b : List ℕ = sealed_bytes key bound nonce v in (
        b,
        (decodes b (bytes_sealed key bound nonce v seals is.sealed.1 is.is_text is.sealable)).1 is.sealed.2,
        record { sealable = is.sealable; sealed = (nonce, is.sealed.1.long, refl) },
      )

  -- the answer where the text is no base64
  pub unsealed_undecoded : answer ≡ None → (v : List ℕ) → (◌≡◌ {A = Option (List ℕ)} None (Some v)) ↔ IsSealedWith engine key bound text v
  unsealed_undecoded none v = (λ e. cc, λ is. let d = sealed_decodes v is in let clash : None ≡ Some d.0 = sym none ∙ d.1 in cc)

  module _ (bytes : List ℕ) (some : answer ≡ Some bytes) (are : IsBytes bytes) where
    -- the bytes are a sealing where the text is
    bytes_of_sealed : (v : List ℕ) → IsSealedWith engine key bound text v → IsSealedBytes key bound bytes v
    bytes_of_sealed v is =
        let d = sealed_decodes v is in
        let clash : Some bytes ≡ Some d.0 = sym some ∙ d.1 in
        let same : bytes ≡ d.0 = cc in
        subst (λ b. IsSealedBytes key bound b v) (sym same) d.2

    -- the text is a sealing where the bytes are one, of a text
    sealed_of_bytes : (v : List ℕ) → IsUtf8 v → IsSealedBytes key bound bytes v → IsSealedWith engine key bound text v
    unfolding sealed_bytes sealed_text
    sealed_of_bytes v is_text is =
        let nonce : List ℕ = is.sealed.0 in
        let g : List ℕ = gctr key nonce v in
        let t : List ℕ = tag_of key nonce bound g in
        let nonce_bytes : IsBytes nonce = front_bytes nonce (g ++ t) (subst IsBytes (is.sealed.2 ∙ append_assoc nonce g t) are) in
        record {
          is_text = is_text;
          sealable = is.sealable;
          sealed = (nonce, record { long = is.sealed.1; bytes = nonce_bytes }, (decodes bytes are).0 some ∙ ap (encode_of engine) is.sealed.2);
        }

    -- so the answer to the bytes is that to the text
    sealed_as_bytes : (opened : Option (List ℕ)) → ((v : List ℕ) → (opened ≡ Some v) ↔ IsSealedTextBytes key bound bytes v)
        → (v : List ℕ) → (opened ≡ Some v) ↔ IsSealedWith engine key bound text v
    sealed_as_bytes opened opens v = (
      λ e. let is = (opens v).0 e in sealed_of_bytes v is.0 is.1,
      λ is. (opens v).1 (is.is_text, bytes_of_sealed v is),
    )

    -- the same of a call that opens the bytes under a key and data that are these
    pub answered_as_bytes : {X : Type 0} (bytes_of : X → List ℕ) (cipher other : List ℕ) → cipher ≡ key → other ≡ bound → (r : Result (Option X) AllocError)
        → IfOk r (λ opened. (v : List ℕ) → (option_map bytes_of opened ≡ Some v) ↔ IsSealedTextBytes cipher other bytes v)
        → Gives alloc_error r (λ opened. (v : List ℕ) → (option_map bytes_of opened ≡ Some v) ↔ IsSealedWith engine key bound text v)
    answered_as_bytes bytes_of cipher other same_key same_other (Ok opened) opens =
        sealed_as_bytes (option_map bytes_of opened)
        (subst (λ k. (v : List ℕ) → (option_map bytes_of opened ≡ Some v) ↔ IsSealedTextBytes k bound bytes v) same_key
        (subst (λ d. (v : List ℕ) → (option_map bytes_of opened ≡ Some v) ↔ IsSealedTextBytes cipher d bytes v) same_other opens))
    answered_as_bytes bytes_of cipher other same_key same_other (Err e) opens = refl

-- ---- private jars

-- a sealed cookie is a cookie
pub IsCookie-sealed : (key nonce : List ℕ) (cookie : Record) → IsCookie cookie → IsCookie (sealed_cookie key nonce cookie)
unfolding sealed_text
IsCookie-sealed key nonce cookie is =
    record {
      name = is.name;
      value = IsUtf8-from_ascii (sealing key cookie.name nonce cookie.value) (IsAscii-encode_of standard (sealed_bytes key cookie.name nonce cookie.value));
      path = is.path;
      domain = is.domain;
      max_age = is.max_age;
    }

-- a sealed cookie that was added is answered with the name and the value that it was added with
pub sealed_shown : (key : List ℕ) (cookie made : Record) (old new : JarState) (r : Result (Unit {0}) JarError)
    → IsSealingOf key made cookie.value → made.name ≡ cookie.name → Gives refusal.OutOfMemory r (λ _. new ≡ after (Add made) old)
    → IfOk r (λ _. AnswersPair (IsSealingOf key) (view new cookie.name) cookie)
sealed_shown key cookie made old new r stands named added =
    if_added (λ jar. AnswersPair (IsSealingOf key) (view jar cookie.name) cookie) made made old new r refl
    (λ jar. answered_added (IsSealingOf key) made cookie jar named stands) added
