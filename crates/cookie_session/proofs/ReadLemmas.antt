-- The text of a session is read back, and no other text is.
use Rattle.std.proofs.Common.{◌≡◌, ◌≢◌, ◌↔◌, ℕ, ◌<◌, ◌^◌, List, [], ◌∷◌, ◌++◌, All, IsUtf8, Option, None, Some, append_assoc, append-nil, arith, refl, sym, ap, subst, ◌∙◌, codes}
use Rattle.std.proofs.lemmas.List.Elements.{All-get_or, All-head, All-tail}
use Rattle.std.proofs.lemmas.Option.{none-some, same_Some}
use Rattle.std.proofs.lemmas.Str.Pattern.{IsSplitOnceResult, split_after, split_parts}
use Rattle.std.specs.Borrow.{Bor}
use Rattle.std.specs.FinMap.{FinMap, empty, entries, insert}
use Rattle.std.specs.Fmt.{decimal}
use Rattle.std.specs.Prelude.{unwrap_or}
use Rattle.cookie.specs.Jar.{name_cmp}
use Rattle.cookie.specs.TextMap.{AreTexts}
use Rattle.cookie_session.specs.Form.{escape_marks, filled, form_of_texts, form_text, texts_of_form}
use Rattle.cookie_session.specs.Id.{IsId, id_text}
use Rattle.cookie_session.specs.Reading.{later_pairs, pairs_text}
use Rattle.cookie_session.specs.Session.{IsSessionText, SessionState, session_pairs, session_text}
use Rattle.cookie_session.proofs.FillLemmas.{filled-entries}
use Rattle.cookie_session.proofs.MarkLemmas.{compact_form-read, escape_marks-decimal, escape_marks-id_text, no_ampersand, no_equals}
use Rattle.cookie_session.proofs.TextLemmas.{form_pairs-extended, form_text-written}

abbrev Pair : Type 0
Pair = List ℕ × List ℕ

abbrev Cut : Type 0
Cut = Bor (List ℕ) × Bor (List ℕ)

-- ---- a text that is cut at a byte, or else is the whole

module _ (c : ℕ) (small : c < 128) (bs : List ℕ) (r : Option Cut) (splits : IsSplitOnceResult c bs r) (other got : Cut) (is : got ≡ unwrap_or r other) where
  -- where it has the byte
  cut_at : (xs ys : List ℕ) → All (λ b. b ≢ c) xs → bs ≡ xs ++ (c ∷ ys) → (got.0.now ≡ xs) × (got.1.now ≡ ys)
  cut_at xs ys none whole = by r splits is
    where
      by : (o : Option Cut) → IsSplitOnceResult c bs o → got ≡ unwrap_or o other → (got.0.now ≡ xs) × (got.1.now ≡ ys)
      by None cut e = absurd (split_after c bs xs ys None cut small whole (λ i inside. All-get_or (λ b. b ≢ c) xs i 0 inside none))
      by (Some x) cut e =
          let both = split_after c bs xs ys (Some x) cut small whole (λ i inside. All-get_or (λ b. b ≢ c) xs i 0 inside none) in
          (ap (λ (p : Cut). p.0.now) e ∙ both.0, ap (λ (p : Cut). p.1.now) e ∙ both.1)

  -- and where it doesn't
  uncut : All (λ b. b ≢ c) bs → got ≡ other
  uncut none = by r splits is
    where
      lacks : (xs ys : List ℕ) → All (λ b. b ≢ c) (xs ++ (c ∷ ys)) → ⊥
      lacks [] ys are = All-head (λ b. b ≢ c) c ys are refl
      lacks (x ∷ xs) ys are = lacks xs ys (All-tail (λ b. b ≢ c) x (xs ++ (c ∷ ys)) are)

      by : (o : Option Cut) → IsSplitOnceResult c bs o → got ≡ unwrap_or o other → got ≡ other
      by None cut e = e
      by (Some x) cut e = absurd (lacks x.0.now x.1.now (subst (All (λ b. b ≢ c)) (split_parts c bs (Some x) cut small).0 none))

-- ---- the first pair

module _ (text : List ℕ) (first second : Option Cut) (other also cut last : Cut) (splits : IsSplitOnceResult 61 text first) (is : cut ≡ unwrap_or first other)
    (parts : IsSplitOnceResult 38 cut.1.now second) (are : last ≡ unwrap_or second also) (whole : also.0.now ≡ cut.1.now) (none : also.1.now ≡ []) where
  pub first_read : (pair : Pair) (pairs : List Pair) → text ≡ pairs_text (pair ∷ pairs)
      → (cut.0.now ≡ escape_marks pair.0) × (last.0.now ≡ escape_marks pair.1) × (last.1.now ≡ pairs_text pairs)
  first_read pair pairs shown = (name.0, (value pairs name.1).0, (value pairs name.1).1)
    where
      joined : pairs_text (pair ∷ pairs) ≡ escape_marks pair.0 ++ (61 ∷ (escape_marks pair.1 ++ later_pairs pairs))
      joined = simp append_assoc refl

      name : (cut.0.now ≡ escape_marks pair.0) × (cut.1.now ≡ escape_marks pair.1 ++ later_pairs pairs)
      name = cut_at 61 (omega arith) text first splits other cut is (escape_marks pair.0) (escape_marks pair.1 ++ later_pairs pairs) (no_equals pair.0)
          (shown ∙ joined)

      value : (ps : List Pair) → cut.1.now ≡ escape_marks pair.1 ++ later_pairs ps → (last.0.now ≡ escape_marks pair.1) × (last.1.now ≡ pairs_text ps)
      value [] after =
          let alone : cut.1.now ≡ escape_marks pair.1 = after ∙ append-nil (escape_marks pair.1) in
          let same = uncut 38 (omega arith) cut.1.now second parts also last are (subst (All (λ b. b ≢ 38)) (sym alone) (no_ampersand pair.1)) in
          (ap (λ (p : Cut). p.0.now) same ∙ whole ∙ alone, ap (λ (p : Cut). p.1.now) same ∙ none)
      value (p ∷ ps) after = cut_at 38 (omega arith) cut.1.now second parts also last are (escape_marks pair.1) (pairs_text (p ∷ ps)) (no_ampersand pair.1) after

-- these are the parts of a text's first pair, and what comes after it
abbrev pub ReadsFirst : List ℕ → List ℕ → List ℕ → List ℕ → Type 0
ReadsFirst text name value rest =
    (pair : Pair) (pairs : List Pair) → text ≡ pairs_text (pair ∷ pairs) → (name ≡ escape_marks pair.0) × (value ≡ escape_marks pair.1) × (rest ≡ pairs_text pairs)

-- ---- all pairs

-- pairs are left in the text, and with them the map is whole
abbrev pub Remains : List ℕ → FinMap name_cmp (List ℕ) → List Pair → Type 0
Remains rest texts pairs = (left : List Pair) × AreTexts left × (rest ≡ pairs_text left) × (filled left texts ≡ filled pairs empty)

pub remains_after : (rest name value after read_name read_value : List ℕ) (texts next : FinMap name_cmp (List ℕ)) (pairs : List Pair) → ¬ (rest ≡ []) → ReadsFirst rest name value after
    → read_name ≡ form_text name → read_value ≡ form_text value → next ≡ insert texts read_name read_value → Remains rest texts pairs → Remains after next pairs
remains_after rest name value after read_name read_value texts next pairs some reads named valued put ([], are, is, full) = absurd (some is)
remains_after rest name value after read_name read_value texts next pairs some reads named valued put (pair ∷ left, are, is, full) =
    let parts = reads pair left is in
    let text = All-head (λ (p : Pair). IsUtf8 p.0 × IsUtf8 p.1) pair left are in
    let n : read_name ≡ pair.0 = named ∙ ap form_text parts.0 ∙ form_text-written pair.0 text.0 in
    let v : read_value ≡ pair.1 = valued ∙ ap form_text parts.1 ∙ form_text-written pair.1 text.1 in
    let made : next ≡ insert texts pair.0 pair.1 = put ∙ (λ i. insert texts (n i) (v i)) in
    (left, All-tail (λ (p : Pair). IsUtf8 p.0 × IsUtf8 p.1) pair left are, parts.2, ap (filled left) made ∙ full)

-- the number that was read is the one that was written
abbrev ReadsNumber : List ℕ → ℕ → Type 0
ReadsNumber text read = (n : ℕ) → n < 2 ^ 64 → text ≡ decimal n → read ≡ n

-- the parts that are read of a session's text are the session's
pub parsed : (text n0 v0 r0 n1 v1 r1 n2 v2 r2 n3 v3 r3 n4 v4 r4 n5 v5 r5 id : List ℕ) (started end idle seen : ℕ) (texts : FinMap name_cmp (List ℕ))
    → ReadsFirst text n0 v0 r0 → ReadsFirst r0 n1 v1 r1 → ReadsFirst r1 n2 v2 r2 → ReadsFirst r2 n3 v3 r3 → ReadsFirst r3 n4 v4 r4 → ReadsFirst r4 n5 v5 r5
    → ((written : List ℕ) → IsId written → v1 ≡ id_text written → id ≡ written)
    → ReadsNumber v2 started → ReadsNumber v3 end → ReadsNumber v4 idle → ReadsNumber v5 seen
    → ((pairs : List Pair) → AreTexts pairs → r5 ≡ pairs_text pairs → texts ≡ filled pairs empty) → (s : SessionState) → IsSessionText text s
    → ◌≡◌ {A = SessionState} (record { id = id; started = started; end = end; idle = idle; seen = seen; texts = texts }) s
parsed text n0 v0 r0 n1 v1 r1 n2 v2 r2 n3 v3 r3 n4 v4 r4 n5 v5 r5 id started end idle seen texts f0 f1 f2 f3 f4 f5 reads_id reads_started reads_end reads_idle reads_seen reads_texts s is =
    let session = is.session in
    let in_seen : List Pair = (codes "seen", decimal s.seen) ∷ entries s.texts in
    let in_idle : List Pair = (codes "idle", decimal s.idle) ∷ in_seen in
    let in_end : List Pair = (codes "end", decimal s.end) ∷ in_idle in
    let in_started : List Pair = (codes "started", decimal s.started) ∷ in_end in
    let in_id : List Pair = (codes "id", id_text s.id) ∷ in_started in
    let p0 = f0 (codes "v", codes "4") in_id (is.written ∙ compact_form-read (session_pairs s)) in
    let p1 = f1 (codes "id", id_text s.id) in_started p0.2 in
    let p2 = f2 (codes "started", decimal s.started) in_end p1.2 in
    let p3 = f3 (codes "end", decimal s.end) in_idle p2.2 in
    let p4 = f4 (codes "idle", decimal s.idle) in_seen p3.2 in
    let p5 = f5 (codes "seen", decimal s.seen) (entries s.texts) p4.2 in
    let a : id ≡ s.id = reads_id s.id session.id (p1.1 ∙ escape_marks-id_text s.id) in
    let b : started ≡ s.started = reads_started s.started session.started (p2.1 ∙ escape_marks-decimal s.started session.started) in
    let c : end ≡ s.end = reads_end s.end session.end (p3.1 ∙ escape_marks-decimal s.end session.end) in
    let d : idle ≡ s.idle = reads_idle s.idle session.idle (p4.1 ∙ escape_marks-decimal s.idle session.idle) in
    let e : seen ≡ s.seen = reads_seen s.seen session.seen (p5.1 ∙ escape_marks-decimal s.seen session.seen) in
    let f : texts ≡ s.texts = reads_texts (entries s.texts) session.texts p5.2 ∙ filled-entries s.texts in
    λ j. record { id = a j; started = b j; end = c j; idle = d j; seen = e j; texts = f j }

module _ (text again : List ℕ) (session : SessionState) (wrote : IsSessionText again session)
    (reads : (s : SessionState) → IsSessionText text s → session ≡ s) where
  -- the answer where it is written alike
  pub read_right : again ≡ text → (s : SessionState) → (Some session ≡ Some s) ↔ IsSessionText text s
  read_right same s = (
    λ e. subst (IsSessionText text) (same_Some session s e) (subst (λ t. IsSessionText t session) same wrote),
    λ of. ap Some (reads s of),
  )

  -- the answer where it is not
  pub read_wrong : ¬ (again ≡ text) → (s : SessionState) → (◌≡◌ {A = Option SessionState} None (Some s)) ↔ IsSessionText text s
  read_wrong other s = (
    λ e. absurd (none-some s e),
    λ of. absurd (other (wrote.written ∙ ap session_text (reads s of) ∙ sym of.written)),
  )

-- the form of texts has these texts
pub texts-form : (texts : FinMap name_cmp (List ℕ)) → AreTexts (entries texts) → texts_of_form (form_of_texts texts) ≡ texts
texts-form texts are = ap (λ es. filled es empty) (form_pairs-extended (entries texts) are) ∙ filled-entries texts
