-- Reading with decoding, and with memory that can be wanting.
use Rattle.std.proofs.Common.{◌≡◌, ℕ, ◌-◌, List, [], Bool, cond, true, false, Some, None, Ok, Err, Result, refl, sym, ap, ◌∙◌, subst, inl, inr, option_map, IfOk, IfErr, if◌then◌else◌, take, drop, length, length-drop, slice_range, arith}
use Rattle.std.proofs.Math.Seq.{take-append_seam, drop-append_seam}
use Rattle.std.proofs.lemmas.Bool.{false≢true}
use Rattle.std.proofs.lemmas.List.{take_all}
use Rattle.std.proofs.lemmas.Option.{none-some, same_Some}
use Rattle.std.proofs.lemmas.Str.{is_utf8-from_IsUtf8, IsUtf8-from_is_utf8, IsUtf8-take, IsUtf8-drop}
use Rattle.std.specs.Str.{IsUtf8, is_utf8}
use mathlib.Core.Logic.{◌≢◌}
use Rattle.cookie_core.specs.Attributes.{IsPair, SetsAttributes}
use Rattle.cookie_core.specs.CookieOf.{cookie_of}
use Rattle.cookie_core.specs.Decoding.{HasPair, ReadsInMemory, AgreesInMemory, are_decoded, decoded_forms, LendsDecoded, NamesFault, IsCertain, blamed_text}
use Rattle.cookie_core.specs.DecodingCode.{IsRefusedFor, IsRefusedForPair, IsJoined, Decodes, IsDecodedOutcome}
use Rattle.cookie_core.specs.EscapeTest.{has_escape}
use Rattle.cookie_core.specs.Escapes.{unescape}
use Rattle.cookie_core.specs.OwnedCode.{IsMadeOwn}
use Rattle.cookie_core.specs.Pieces.{IsPieces}
use Rattle.cookie_core.specs.Reads.{Reads, IsUndecodable, record_or_refusal}
use Rattle.cookie_core.specs.Record.{Record, CookieView, RawForms, all_lent, no_raw_forms}
use Rattle.cookie_core.specs.declared.parse_error.ParseError.{ParseError}
use Rattle.cookie_core.specs.declared.parse_error.ParseError.TheVariants as refusal
use Rattle.cookie_core.proofs.CookieOfLemmas.{cookie_of-Reads, cookie_of-refused, cookie_of-result}
use Rattle.cookie_core.proofs.EscapeLemmas.{or_false, unescape-same}
use Rattle.cookie_core.proofs.ReadingLemmas.{SetsAttributes-named}
use Rattle.cookie_core.proofs.SpanLemmas.{slice_range-front}

-- the bytes that are blamed are those of the name or of the value
if_false : (b : Bool) → ¬ (b ≡ true) → b ≡ false
if_false true h = absurd (h refl)
if_false false h = refl

not_utf8 : (b : List ℕ) → ¬ (IsUtf8 b) → is_utf8 b ≡ false
not_utf8 b h = if_false (is_utf8 b) (λ e. h (IsUtf8-from_is_utf8 b e))

blamed-undecodable : (n v : List ℕ) (b : Bool) → is_utf8 (unescape n) ≡ b → ¬ (IsUtf8 (if b then unescape v else unescape n)) → IsUndecodable true n v
blamed-undecodable n v true e h = inr h
blamed-undecodable n v false e h = inl h

IsUndecodable-blamed_text : (n v : List ℕ) → ¬ (IsUtf8 (blamed_text n v)) → IsUndecodable true n v
IsUndecodable-blamed_text n v h = blamed-undecodable n v (is_utf8 (unescape n)) refl h

-- the name is blamed where it can't be decoded, and else the value
pub blamed-name : (n v : List ℕ) (e : ParseError) → IsRefusedFor n e → IsRefusedForPair n v e
blamed-name n v (refusal.Utf8Error x) h = rw (not_utf8 (unescape n) h.faulty) h
blamed-name n v refusal.OutOfMemory h = h
blamed-name n v refusal.MissingPair h = h
blamed-name n v refusal.EmptyName h = h

pub blamed-value : (n v : List ℕ) (e : ParseError) → IsUtf8 (unescape n) → IsRefusedFor v e → IsRefusedForPair n v e
blamed-value n v (refusal.Utf8Error x) u h = rw (is_utf8-from_IsUtf8 (unescape n) u) h
blamed-value n v refusal.OutOfMemory u h = h
blamed-value n v refusal.MissingPair u h = h
blamed-value n v refusal.EmptyName u h = h

-- ---- decoding

-- a cookie without an escape stands for itself
pub Decodes-same : (c : CookieView) → are_decoded c.fields ≡ false → IsUtf8 c.fields.name × IsUtf8 c.fields.value → Decodes c (Ok c)
Decodes-same c none (n, v) =
    let (name, value) = or_false (has_escape c.fields.name) (has_escape c.fields.value) none in
    let same_name = unescape-same c.fields.name name in
    let same_value = unescape-same c.fields.value value in
    (rw (same_name, same_value) refl, ap (λ b. cond b (record c.raw { name = None; value = None }) c.raw) (sym none), rw same_name n, rw same_value v)

-- one with own texts for its name and its value
pub Decodes-own : (c d : CookieView) (n v : List ℕ) → are_decoded c.fields ≡ true → n ≡ unescape c.fields.name → v ≡ unescape c.fields.value → IsUtf8 n → IsUtf8 v → d.fields ≡ record c.fields { name = n; value = v } → d.raw ≡ record c.raw { name = None; value = None } → Decodes c (Ok d)
Decodes-own c d n v some name value n_utf8 v_utf8 fields raw =
    (fields ∙ rw (name, value) refl, raw ∙ ap (λ b. cond b (record c.raw { name = None; value = None }) c.raw) (sym some), subst IsUtf8 name n_utf8, subst IsUtf8 value v_utf8)

-- a text of the decoded name and the decoded value holds both, which are UTF-8
pub joined-texts : (n v t : List ℕ) (m : ℕ) → IsJoined n v t m → IsUtf8 t → (slice_range t 0 m ≡ unescape n) × (slice_range t m (length t) ≡ unescape v) × IsUtf8 (unescape n) × IsUtf8 (unescape v)
joined-texts n v t m j u =
    let first : take m t ≡ unescape n = rw (j.joined, j.place) (take-append_seam (unescape n) (unescape v)) in
    let last : drop m t ≡ unescape v = rw (j.joined, j.place) (drop-append_seam (unescape n) (unescape v)) in (
      slice_range-front t m ∙ first,
      take_all (length t - m) (drop m t) (omega (arith, length-drop m t)) ∙ last,
      subst IsUtf8 first (IsUtf8-take t m u j.apart),
      subst IsUtf8 last (IsUtf8-drop t m u j.apart),
    )

-- ---- a text that was read as it stands, and then decoded

-- the pieces of a text that is read as it stands
plain_parts : (t : List ℕ) (r : Record) → Reads false t (Ok r) → (p : List ℕ) × (ps : List (List ℕ)) × IsPieces t p ps × IsPair p r.name r.value × (r.name ≢ []) × SetsAttributes ps r
plain_parts t r (p, ps, pieces, (n, v, pair, some, same_name, same_value, sets)) =
    (p, ps, pieces, rw (same_name, same_value) pair, rw same_name some, sets)

-- the outcome of decoding what was read
pub ReadsInMemory-decoded : (t : List ℕ) (c : CookieView) (o : Result CookieView ParseError) → Reads false t (Ok c.fields) → Decodes c o → ReadsInMemory true t (record_or_refusal o)
ReadsInMemory-decoded t c (Ok d) h (e, _, n, v) =
    let (p, ps, pieces, pair, some, sets) = plain_parts t c.fields h in
    subst (λ (r : Record). ReadsInMemory true t (Ok r)) (sym e) (p, ps, pieces, (c.fields.name, c.fields.value, pair, some, (refl, n), (refl, v), SetsAttributes-named ps c.fields (unescape c.fields.name) (unescape c.fields.value) sets))
ReadsInMemory-decoded t c (Err (refusal.Utf8Error x)) h (_, k) =
    let (p, ps, pieces, pair, some, sets) = plain_parts t c.fields h in
    (p, ps, pieces, (c.fields.name, c.fields.value, pair, some, IsUndecodable-blamed_text c.fields.name c.fields.value k.faulty))
ReadsInMemory-decoded t c (Err refusal.OutOfMemory) h k =
    let (p, ps, pieces, pair, some, sets) = plain_parts t c.fields h in
    (p, ps, c.fields.name, c.fields.value, pieces, pair, some)
ReadsInMemory-decoded t c (Err refusal.MissingPair) h (_, k) = absurd k
ReadsInMemory-decoded t c (Err refusal.EmptyName) h (_, k) = absurd k

pub NamesFault-decoded : (t : List ℕ) (c : CookieView) (o : Result CookieView ParseError) → Reads false t (Ok c.fields) → Decodes c o → IfErr o (NamesFault t)
NamesFault-decoded t c (Ok d) h k = tt
NamesFault-decoded t c (Err (refusal.Utf8Error x)) h (_, k) = (c.fields, (cookie_of-Reads false t c.fields).1 h, k)
NamesFault-decoded t c (Err e) h k = tt

pub IsCertain-decoded : (t : List ℕ) (c : CookieView) (o : Result CookieView ParseError) → Reads false t (Ok c.fields) → Decodes c o → IsCertain t o
IsCertain-decoded t c (Ok d) h k r e none = refl
IsCertain-decoded t c (Err x) h (some, _) r e none =
    let same : r ≡ c.fields = same_Some _ _ (sym e ∙ (cookie_of-Reads false t c.fields).1 h) in
    absurd (false≢true (sym none ∙ ap are_decoded same ∙ some))

pub raw-decoded : (t : List ℕ) (c : CookieView) (raw : Record → RawForms) (o : Result CookieView ParseError) → Reads false t (Ok c.fields) → c.raw ≡ raw c.fields → Decodes c o → IfOk o (λ d. (r : Record) × (cookie_of false t ≡ Some r) × (d.raw ≡ decoded_forms r (raw r)))
raw-decoded t c raw (Ok d) h e (_, f, _, _) =
    (c.fields, (cookie_of-Reads false t c.fields).1 h, f ∙ ap (decoded_forms c.fields) e)
raw-decoded t c raw (Err x) h e k = tt

-- what is refused as it stands is refused with decoding
pub ReadsInMemory-refused : (t : List ℕ) (e : ParseError) → Reads false t (Err e) → ReadsInMemory true t (Err e)
ReadsInMemory-refused t refusal.MissingPair h = h
ReadsInMemory-refused t refusal.EmptyName h = h
ReadsInMemory-refused t (refusal.Utf8Error x) (p, ps, pieces, (n, v, pair, some, bad)) = absurd bad
ReadsInMemory-refused t refusal.OutOfMemory h = absurd h.3

pub NamesFault-refused : (t : List ℕ) (e : ParseError) → Reads false t (Err e) → NamesFault t e
NamesFault-refused t (refusal.Utf8Error x) (p, ps, pieces, (n, v, pair, some, bad)) = absurd bad
NamesFault-refused t e h = tt

pub IsCertain-refused : {C : Type 0} (t : List ℕ) (e : ParseError) (o : Result C ParseError) → Reads false t (Err e) → IsCertain t o
IsCertain-refused t e o h r s d = absurd (none-some r (sym (cookie_of-refused false t e h) ∙ s))

-- so what was read is decoded, whether it is a cookie or refused
pub ReadsInMemory-outcome : (t : List ℕ) (o o' : Result CookieView ParseError) → Reads false t (record_or_refusal o) → IsDecodedOutcome o o' → ReadsInMemory true t (record_or_refusal o') × IfErr o' (NamesFault t) × IsCertain t o'
ReadsInMemory-outcome t (Ok c) o' h k =
    (ReadsInMemory-decoded t c o' h k, NamesFault-decoded t c o' h k, IsCertain-decoded t c o' h k)
ReadsInMemory-outcome t (Err e) o' h k =
    rw k (ReadsInMemory-refused t e h, NamesFault-refused t e h, IsCertain-refused {C = CookieView} t e (Err e) h)

pub raw-outcome : (t : List ℕ) (raw : Record → RawForms) (o o' : Result CookieView ParseError) → Reads false t (record_or_refusal o) → IfOk o (λ c. c.raw ≡ raw c.fields) → IsDecodedOutcome o o' → IfOk o' (λ d. (r : Record) × (cookie_of false t ≡ Some r) × (d.raw ≡ decoded_forms r (raw r)))
raw-outcome t raw (Ok c) o' h e k = raw-decoded t c raw o' h e k
raw-outcome t raw (Err x) o' h e k = rw k tt

-- what is said of `cookie_of`
pub AgreesInMemory-reads : (decode : Bool) (t : List ℕ) (o : Result Record ParseError) → ReadsInMemory decode t o → AgreesInMemory decode t o
AgreesInMemory-reads decode t (Ok r) h = cookie_of-result decode t (Ok r) h
AgreesInMemory-reads decode t (Err refusal.OutOfMemory) h = tt
AgreesInMemory-reads decode t (Err e) h = cookie_of-result decode t (Err e) h

-- ---- what a decoded cookie lends

pub LendsDecoded-raw : (t : List ℕ) (o : Result CookieView ParseError) → IfOk o (λ c. (r : Record) × (cookie_of false t ≡ Some r) × (c.raw ≡ decoded_forms r (all_lent r))) → IfOk o (λ c. LendsDecoded t c.raw)
LendsDecoded-raw t (Ok c) (r, e, f) = ap (option_map (λ r. decoded_forms r (all_lent r))) e ∙ ap Some (sym f)
LendsDecoded-raw t (Err e) h = tt

-- a cookie that lends nothing lends nothing decoded
same_forms : (b : Bool) (f : RawForms) → cond b f f ≡ f
same_forms true f = refl
same_forms false f = refl

pub no_raw_forms-decoded : (t : List ℕ) (o : Result CookieView ParseError) → IfOk o (λ c. (r : Record) × (cookie_of false t ≡ Some r) × (c.raw ≡ decoded_forms r no_raw_forms)) → IfOk o (λ c. c.raw ≡ no_raw_forms)
no_raw_forms-decoded t (Ok c) (r, e, f) = f ∙ same_forms (are_decoded r) no_raw_forms
no_raw_forms-decoded t (Err e) h = tt

-- ---- texts of its own

pub HasPair-record : (decode : Bool) (t : List ℕ) (r : Record) → Reads decode t (Ok r) → HasPair t
HasPair-record decode t r (p, ps, pieces, (n, v, pair, filled, _, _, _)) = (p, ps, n, v, pieces, pair, filled)

pub ReadsInMemory-own : (decode : Bool) (t : List ℕ) (o o' : Result CookieView ParseError) → ReadsInMemory decode t (record_or_refusal o) → IsMadeOwn o o' → ReadsInMemory decode t (record_or_refusal o') × IfOk o' (λ c. c.raw ≡ no_raw_forms)
ReadsInMemory-own decode t (Err e) o' h k = rw k (h, tt)
ReadsInMemory-own decode t (Ok c) (Err e) h k = rw k (HasPair-record decode t c.fields h, tt)
ReadsInMemory-own decode t (Ok c) (Ok d) h k = rw k (h, refl)

-- a reader that wants no memory
pub ReadsInMemory-reads : (decode : Bool) (t : List ℕ) (o : Result Record ParseError) → Reads decode t o → ReadsInMemory decode t o
ReadsInMemory-reads decode t (Ok r) h = h
ReadsInMemory-reads decode t (Err refusal.OutOfMemory) h = absurd h.3
ReadsInMemory-reads decode t (Err e) h = h
