-- Tokens: what is sealed in one is split in one way, and what was made is read.
use Rattle.std.proofs.Common.{◌≡◌, ◌≢◌, ◌↔◌, ℕ, ◌+◌, ◌<◌, ◌≤◌, ◌^◌, List, [], ◌∷◌, ◌++◌, All, length, Option, None, Some, MatchOption, IfOk, IsUtf8, Result, Ok, Err, alloc_error, ⊎_elim, arith, length-append, refl, slice_get, sym, ap, subst, ◌∙◌}
use Rattle.std.proofs.lemmas.Bool.{cases_lt}
use Rattle.std.proofs.lemmas.Fmt.{decimal_injective, decimal_is_IsNumeral}
use Rattle.std.proofs.lemmas.List.Elements.{All-from_get_or}
use Rattle.std.proofs.lemmas.Option.{none-some, same_Some}
use Rattle.std.proofs.lemmas.Str.{IsUtf8-from_ascii}
use Rattle.std.proofs.lemmas.Str.Parse.{digit_at}
use Rattle.std.proofs.lemmas.Str.Pattern.{IsSplitOnceResult, split_after, split_parts}
use Rattle.std.specs.Fmt.{decimal}
use Rattle.std.specs.declared.alloc.AllocError.{AllocError}
use Rattle.std.specs.Prelude.{get_or}
use denote.Ref.{Bor}
use Rattle.form_urlencoded.specs.Form.{split_once}
use Rattle.form_urlencoded.proofs.FormLemmas.{split_once_after_at, split_once_before_at}
use Rattle.base64.specs.Engines.{url_safe_no_pad}
use Rattle.base64.specs.GeneralPurpose.{encode_of, engine_symbols}
use Rattle.base64.specs.Rfc4648.{encode_symbols, unpadded_len}
use Rattle.base64.proofs.RoundTrip.{length-encode_symbols}
use Rattle.jiff.specs.Types.{DateTime}
use Rattle.cookie.proofs.ByteLemmas.{IsAscii-from_test}
use Rattle.cookie.specs.Keys.{encryption_half}
use Rattle.cookie.specs.Memory.{Gives}
use Rattle.cookie.specs.Purposes.{IsSealedFor, IsTextFor, purpose_data, sealing_for}
use Rattle.cookie.specs.Sealing.{IsNonce, sealed_bytes, sealed_text}
use Rattle.cookie_session.specs.KeyRing.{KeyOpensText, OpensTextAt, newest}
use Rattle.cookie_session.specs.Seconds.{second_of}
use Rattle.cookie_session.specs.Tokens.{HoldsAt, IsNumbered, IsReadUntilEnd, IsToken, TokenState, made_token, new_token, token_purpose, token_text}
use Rattle.cookie_session.specs.declared.tokens.Tokens.{Tokens}
use Rattle.cookie_session.proofs.KeyRingLemmas.{newest_opens}

-- no blank is a digit
unblank : (n : ℕ) → n < 2 ^ 64 → (i : ℕ) → i < length (decimal n) → get_or (decimal n) i 0 ≢ 32
unblank n small i inside e =
    let digit = digit_at (decimal n) i (decimal_is_IsNumeral n small).0.1 inside in
    omega (arith, digit.0, e)

all_unblank : (n : ℕ) → n < 2 ^ 64 → All (λ b. b ≢ 32) (decimal n)
all_unblank n small = All-from_get_or (λ b. b ≢ 32) (decimal n) 0 (unblank n small)

-- a number, a blank and the rest are read in one way
numbered_one : (text : List ℕ) (a b : ℕ) (x y : List ℕ) → IsNumbered text a x → IsNumbered text b y → (a ≡ b) × (x ≡ y)
numbered_one text a b x y left right =
    let e : decimal a ++ 32 ∷ x ≡ decimal b ++ 32 ∷ y = sym left.1 ∙ right.1 in (
      decimal_injective a b left.0 right.0
          (sym (split_once_before_at 32 (decimal a) x (all_unblank a left.0)) ∙ ap (λ t. (split_once 32 t).0) e ∙ split_once_before_at 32 (decimal b) y (all_unblank b right.0)),
      sym (split_once_after_at 32 (decimal a) x (all_unblank a left.0)) ∙ ap (λ t. (split_once 32 t).1) e ∙ split_once_after_at 32 (decimal b) y (all_unblank b right.0),
    )

-- what is sealed after the first blank
abbrev end_text : TokenState → List ℕ
end_text token = decimal token.end ++ 32 ∷ token.value

-- the token of these parts
abbrev pub token_of : ℕ × (ℕ × List ℕ) → TokenState
token_of parts = record { made = parts.0; end = parts.1.0; value = parts.1.1 }

-- so what is sealed is one token
token_text-one : (one other : TokenState) → (one.made < 2 ^ 64) × (one.end < 2 ^ 64) → (other.made < 2 ^ 64) × (other.end < 2 ^ 64) → token_text one ≡ token_text other
    → one ≡ other
token_text-one one other small also e =
    let first = numbered_one (token_text one) one.made other.made (end_text one) (end_text other) (small.0, refl) (also.0, e) in
    let second = numbered_one (end_text one) one.end other.end one.value other.value (small.1, refl) (also.1, first.1) in
    ap (λ m. token_of (m, (one.end, one.value))) first.0 ∙ ap (λ n. token_of (other.made, (n, one.value))) second.0 ∙ ap (λ v. token_of (other.made, (other.end, v))) second.1

-- ---- a number and the rest, split at the first blank

module _ (text : List ℕ) where
  -- where there is none
  pub unsplit : IsSplitOnceResult 32 text None → (n : ℕ) (rest : List ℕ) → (◌≡◌ {A = Option (ℕ × List ℕ)} None (Some (n, rest))) ↔ IsNumbered text n rest
  unsplit splits n rest = (
    λ e. absurd (none-some (n, rest) e),
    λ holds. absurd (split_after 32 text (decimal n) rest None splits (omega arith) holds.1 (unblank n holds.0)),
  )

  module _ (front back : Bor (List ℕ)) (splits : IsSplitOnceResult 32 text (Some (front, back))) (number : Option ℕ)
      (reads : (n : ℕ) → (number ≡ Some n) ↔ ((n < 2 ^ 64) × (front.now ≡ decimal n))) where
    -- the parts are the number and the rest
    parts : (n : ℕ) (rest : List ℕ) → IsNumbered text n rest → (number ≡ Some n) × (back.now ≡ rest)
    parts n rest holds =
        let both = split_after 32 text (decimal n) rest (Some (front, back)) splits (omega arith) holds.1 (unblank n holds.0) in
        ((reads n).1 (holds.0, both.0), both.1)

    -- where no number comes first
    pub unread : number ≡ None → (n : ℕ) (rest : List ℕ) → (◌≡◌ {A = Option (ℕ × List ℕ)} None (Some (n, rest))) ↔ IsNumbered text n rest
    unread none n rest = (λ e. absurd (none-some (n, rest) e), λ holds. absurd (none-some n (sym none ∙ (parts n rest holds).0)))

    -- and where one does
    pub numbered : (m : ℕ) → number ≡ Some m → (n : ℕ) (rest : List ℕ) → (◌≡◌ {A = Option (ℕ × List ℕ)} (Some (m, back.now)) (Some (n, rest))) ↔ IsNumbered text n rest
    numbered m is n rest = (
      λ e.
          let read = (reads m).0 is in
          let cut = split_parts 32 text (Some (front, back)) splits (omega arith) in
          let whole : text ≡ decimal m ++ 32 ∷ back.now = cut.0 ∙ ap (λ f. f ++ 32 ∷ back.now) read.1 in
          subst (λ (p : ℕ × List ℕ). IsNumbered text p.0 p.1) (same_Some (m, back.now) (n, rest) e) (read.0, whole),
      λ holds.
          let both = parts n rest holds in
          ap (λ k. Some (k, back.now)) (same_Some m n (sym is ∙ both.0)) ∙ ap (λ r. Some (n, r)) both.1,
    )

-- ---- what a ring opens

module _ (site : Tokens) (now : DateTime) (text : List ℕ) (found : Option (ℕ × List ℕ))
    (opens : (place : ℕ) (v : List ℕ) → (found ≡ Some (place, v)) ↔ OpensTextAt (Some token_purpose) site.keys.now place site.purpose.now text v) where
  -- the answer where no key opens
  pub read_unopened : found ≡ None → (token : TokenState) → (◌≡◌ {A = Option TokenState} None (Some token)) ↔ IsToken site now text token
  read_unopened none token = (
    λ e. absurd (none-some token e),
    λ is. absurd (none-some (is.place, token_text token) (sym none ∙ (opens is.place (token_text token)).1 is.sealed)),
  )

  module _ (place : ℕ) (sealed : List ℕ) where
    -- and where one does
    read_opened : found ≡ Some (place, sealed) → (answer : Option TokenState)
        → ((token : TokenState) → (answer ≡ Some token) ↔ HoldsAt (second_of now) site.lifetime sealed token) → (token : TokenState) → (answer ≡ Some token) ↔ IsToken site now text token
    read_opened is answer holds token = (
      λ e.
          let held = (holds token).0 e in
          record {
            place = place;
            fits = held.fits;
            own = held.own;
            young = held.young;
            sealed = subst (λ s. OpensTextAt (Some token_purpose) site.keys.now place site.purpose.now text s) held.written ((opens place sealed).0 is);
          },
      λ read.
          let given : (place, sealed) ≡ (read.place, token_text token) = same_Some (place, sealed) (read.place, token_text token) (sym is ∙ (opens read.place (token_text token)).1 read.sealed) in
          (holds token).1
          (record { fits = read.fits; own = read.own; young = read.young; written = ap (λ (t : ℕ × List ℕ). t.1) given }),
    )

    -- so it is of an answer that may be out of memory
    pub read_in_memory : (second : ℕ) (written : List ℕ) (result : Result (Option TokenState) AllocError) → second ≡ second_of now → written ≡ sealed → found ≡ Some (place, sealed)
        → Gives alloc_error result (λ answer. (token : TokenState) → (answer ≡ Some token) ↔ HoldsAt second site.lifetime written token)
        → Gives alloc_error result (λ answer. (token : TokenState) → (answer ≡ Some token) ↔ IsToken site now text token)
    read_in_memory second written (Err why) same is opened gives = gives
    read_in_memory second written (Ok answer) same is opened gives =
        read_opened opened answer
        (subst (λ n. (token : TokenState) → (answer ≡ Some token) ↔ HoldsAt n site.lifetime sealed token) same
        (subst (λ w. (token : TokenState) → (answer ≡ Some token) ↔ HoldsAt second site.lifetime w token) is gives))

-- ---- what was made

-- what the key at place 0 opens it opens as the newest
to_newest : (ring : List (List ℕ)) (name text v : List ℕ) → KeyOpensText (Some token_purpose) ring 0 name text v → IsSealedFor (encryption_half (newest ring)) token_purpose name text v
to_newest [] name text v is = absurd is
to_newest (key ∷ older) name text v is = is

from_newest : (ring : List (List ℕ)) → 0 < length ring → (name text v : List ℕ) → IsSealedFor (encryption_half (newest ring)) token_purpose name text v
    → KeyOpensText (Some token_purpose) ring 0 name text v
from_newest ring some name text v is = (newest_opens (Some token_purpose) ring some name text v is).opens

-- what the newest key sealed is read until its end
pub made_read : (site : Tokens) (text : List ℕ) (token : TokenState) → 0 < length site.keys.now → (token.made < 2 ^ 64) × (token.end < 2 ^ 64)
    → token.end ≡ token.made + site.lifetime → IsSealedFor (encryption_half (newest site.keys.now)) token_purpose site.purpose.now text (token_text token)
    → ((other : List ℕ) → IsSealedFor (encryption_half (newest site.keys.now)) token_purpose site.purpose.now text other → other ≡ token_text token) → IsReadUntilEnd site text token
made_read site text token some fits lives is only later other = (
  λ read.
      let sealed : OpensTextAt (Some token_purpose) ring 0 name text (token_text other) =
      ⊎_elim (λ (lt : 0 < read.place). absurd (read.sealed.first 0 (token_text token) lt (from_newest ring some name text (token_text token) is)))
      (λ (le : read.place ≤ 0).
      let first : read.place ≡ 0 = omega arith in
      subst (λ p. OpensTextAt (Some token_purpose) ring p name text (token_text other)) first read.sealed)
      (cases_lt 0 read.place) in
      let same = token_text-one other token read.fits fits (only (token_text other) (to_newest ring name text (token_text other) sealed.opens)) in
      (same, subst (λ (t : TokenState). second_of later < t.end) same read.own),
  λ right.
      subst (IsToken site later text) (sym right.0)
      (record {
        place = 0;
        fits = fits;
        own = right.1;
        young = subst (λ n. second_of later < n) lives right.1;
        sealed = newest_opens (Some token_purpose) ring some name text (token_text token) is;
      }),
)
  where
    ring : List (List ℕ)
    ring = site.keys.now

    name : List ℕ
    name = site.purpose.now

-- so it is where the sealing is what a call made
pub makes_read : {X E : Type 0} (bytes_of : X → List ℕ) (site : Tokens) (token : TokenState) (key text : List ℕ) (IsDrawn : List ℕ → Type 0) (result : Result X E)
    → 0 < length site.keys.now → (token.made < 2 ^ 64) × (token.end < 2 ^ 64) → token.end ≡ token.made + site.lifetime → key ≡ encryption_half (newest site.keys.now)
    → text ≡ token_text token
    → IfOk result (λ made. (nonce : List ℕ) × IsNonce nonce × IsDrawn nonce × IsTextFor key token_purpose site.purpose.now text nonce (bytes_of made))
    → IfOk result (λ made. IsReadUntilEnd site (bytes_of made) token)
makes_read bytes_of site token key text IsDrawn (Ok made) some fits lives same is ok =
    let (nonce, is_nonce, drawn, sealed) = ok in
    let name = site.purpose.now in
    made_read site (bytes_of made) token some fits lives
    (subst (λ k. IsSealedFor k token_purpose name (bytes_of made) (token_text token)) same
    (subst (λ t. IsSealedFor key token_purpose name (bytes_of made) t) is sealed.opens))
    (λ other also. sealed.only other (subst (λ k. IsSealedFor k token_purpose name (bytes_of made) other) (sym same) also) ∙ is)
makes_read bytes_of site token key text IsDrawn (Err why) some fits lives same is ok = tt

-- it is this token's text
pub makes_token : {X E : Type 0} (bytes_of : X → List ℕ) (site : Tokens) (now : DateTime) (value key text : List ℕ) (IsDrawn : List ℕ → Type 0) (result : Result X E)
    → key ≡ encryption_half (newest site.keys.now) → text ≡ token_text (new_token site now value)
    → IfOk result (λ made. (nonce : List ℕ) × IsNonce nonce × IsDrawn nonce × IsTextFor key token_purpose site.purpose.now text nonce (bytes_of made))
    → IfOk result (λ made. (nonce : List ℕ) × IsNonce nonce × IsDrawn nonce × (bytes_of made ≡ made_token site nonce now value))
makes_token bytes_of site now value key text IsDrawn (Ok made) same is ok =
    let (nonce, is_nonce, drawn, sealed) = ok in (
      nonce,
      is_nonce,
      drawn,
      sealed.made
          ∙ ap (λ k. sealing_for k token_purpose site.purpose.now nonce text) same
          ∙ ap (λ t. sealing_for (encryption_half (newest site.keys.now)) token_purpose site.purpose.now nonce t) is,
    )
makes_token bytes_of site now value key text IsDrawn (Err why) same is ok = tt

-- ---- a token's id

-- what is sealed begins with the nonce
bytes_long : (key bound nonce value : List ℕ) → length nonce ≡ 12 → 12 ≤ length (sealed_bytes key bound nonce value)
unfolding sealed_bytes
bytes_long key bound nonce value long = omega (arith, length-append {A = ℕ}, long)

-- so a token's text has at least the characters of the nonce
sealed_long : (key name text value : List ℕ) → IsSealedFor key token_purpose name text value → 16 ≤ length text
unfolding sealed_text
sealed_long key name text value is =
    let (nonce, is_nonce, e) = is.sealed in
    let bytes = sealed_bytes key (purpose_data token_purpose name) nonce value in
    let shown : text ≡ encode_of url_safe_no_pad bytes = e in
    let whole : length (encode_of url_safe_no_pad bytes) ≡ unpadded_len (length bytes) + 0 =
    length-append (encode_symbols (engine_symbols url_safe_no_pad) bytes) []
    ∙ ap (λ n. n + 0) (length-encode_symbols (engine_symbols url_safe_no_pad) bytes) in
    omega (arith, ap length shown, whole, bytes_long key (purpose_data token_purpose name) nonce value is_nonce.long)

opened_long : (name text value : List ℕ) (found : Option (List ℕ)) → MatchOption found ⊥ (λ key. IsSealedFor (encryption_half key) token_purpose name text value)
    → 16 ≤ length text
opened_long name text value None is = absurd is
opened_long name text value (Some key) is = sealed_long (encryption_half key) name text value is

pub token_long : (site : Tokens) (now : DateTime) (text : List ℕ) (token : TokenState) → IsToken site now text token → 16 ≤ length text
token_long site now text token is = opened_long site.purpose.now text (token_text token) (slice_get site.keys.now is.place) is.sealed.opens

-- ---- a token that is read once

module _ (site : Tokens) (now : DateTime) (text : List ℕ) (found : Option TokenState)
    (reads : (token : TokenState) → (found ≡ Some token) ↔ IsToken site now text token) where
  -- where there is none
  pub once_none : found ≡ None → (Was : Type 0) (token : TokenState) → (◌≡◌ {A = Option TokenState} None (Some token)) ↔ (IsToken site now text token × ¬ Was)
  once_none none Was token = (λ e. absurd (none-some token e), λ both. absurd (none-some token (sym none ∙ (reads token).1 both.0)))

  pub no_token : found ≡ None → (token : TokenState) → ¬ IsToken site now text token
  no_token none token is = none-some token (sym none ∙ (reads token).1 is)

  module _ (one : TokenState) (some : found ≡ Some one) where
    pub one_token : IsToken site now text one
    one_token = (reads one).0 some

    pub only_token : (token : TokenState) → IsToken site now text token → one ≡ token
    only_token token is = same_Some one token (sym some ∙ (reads token).1 is)

    -- where it was read before
    pub once_spent : (Was : Type 0) → Was → (token : TokenState) → (◌≡◌ {A = Option TokenState} None (Some token)) ↔ (IsToken site now text token × ¬ Was)
    once_spent Was was token = (λ e. absurd (none-some token e), λ both. absurd (both.1 was))

    -- and where it wasn't
    pub once_read : (Was : Type 0) → ¬ Was → (token : TokenState) → (Some one ≡ Some token) ↔ (IsToken site now text token × ¬ Was)
    once_read Was was token = (λ e. ((reads token).0 (some ∙ e), was), λ both. ap Some (only_token token both.0))

-- the purpose of tokens is a text
pub token_purpose_text : IsUtf8 token_purpose
token_purpose_text = IsUtf8-from_ascii token_purpose (IsAscii-from_test token_purpose refl)
