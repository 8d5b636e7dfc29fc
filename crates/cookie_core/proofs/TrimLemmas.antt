-- `trim` gives the text without the white space at its ends, and nothing else is that.
use Rattle.std.proofs.Common.{◌≡◌, ℕ, ◌==◌, ◌≤◌, Bool, true, false, true≢false, cond, ◌&&◌, List, [], ◌∷◌, ◌++◌, length, refl, sym, ap, subst, ◌∙◌, arith, All, IsUtf8}
use Rattle.std.proofs.lemmas.List.{append-nil, append_assoc, length-append}
use Rattle.std.proofs.lemmas.List.Elements.{All-from_recursion, recursion_from_All, All-append}
use Rattle.std.proofs.lemmas.Str.{chars-nil, chars-encodes, encodes-append, encodes-chars, scalars-chars, chars-append, IsUtf8-append, IsUtf8-nil}
use Rattle.std.specs.Char.{is_whitespace}
use Rattle.std.specs.List.{AllByRecursion}
use Rattle.std.specs.Str.{chars, trim, trim_start, trim_end, skip_leading_whitespace, drop_trailing_whitespace, encode_utf8_all, all_scalars}
use Rattle.cookie_core.specs.Trim.{IsTrimmed, IsBarePart, IsWhite}

abbrev pub AreWhite : List ℕ → Type 0
AreWhite cs = AllByRecursion (λ c. is_whitespace c ≡ true) cs

abbrev BeginsDark : List ℕ → Type 0
BeginsDark cs = (c : ℕ) (rest : List ℕ) → cs ≡ c ∷ rest → is_whitespace c ≡ false

abbrev pub EndsDark : List ℕ → Type 0
EndsDark cs = (front : List ℕ) (c : ℕ) → cs ≡ front ++ c ∷ [] → is_whitespace c ≡ false

abbrev head_or : ℕ → List ℕ → ℕ
head_or d [] = d
head_or d (c ∷ cs) = c

abbrev tail_of : List ℕ → List ℕ
tail_of [] = []
tail_of (c ∷ cs) = cs

cons_not_nil : (c : ℕ) (cs : List ℕ) → (c ∷ cs) ≡ [] → ⊥
cons_not_nil c cs e = let n = ap length e in omega arith

filled : (c : ℕ) (cs : List ℕ) → (length (c ∷ cs) == 0) ≡ false
filled c cs = grind arith

empty_of_length : (cs : List ℕ) → (length cs == 0) ≡ true → cs ≡ []
empty_of_length [] e = refl
empty_of_length (c ∷ cs) e = absurd (true≢false (sym e ∙ filled c cs))

-- what was skipped is white
record Skipped (cs : List ℕ) : Type 0 where
  white : List ℕ
  are : AreWhite white
  whole : cs ≡ white ++ skip_leading_whitespace cs
  dark : BeginsDark (skip_leading_whitespace cs)

skipped : (cs : List ℕ) → Skipped cs
skipped [] = record { white = []; are = tt; whole = refl; dark = λ c rest e. absurd (cons_not_nil c rest (sym e)) }
skipped (c ∷ cs) = by (is_whitespace c) refl (skipped cs)
  where
    by : (b : Bool) → is_whitespace c ≡ b → Skipped cs → Skipped (c ∷ cs)
    by true e s =
        let at : skip_leading_whitespace (c ∷ cs) ≡ skip_leading_whitespace cs = ap (λ b. cond b (skip_leading_whitespace cs) (c ∷ cs)) e in
        record {
          white = c ∷ s.white;
          are = (e, s.are);
          whole = ap (λ l. c ∷ l) s.whole ∙ ap (λ l. (c ∷ s.white) ++ l) (sym at);
          dark = subst BeginsDark (sym at) s.dark;
        }
    by false e s =
        let at : skip_leading_whitespace (c ∷ cs) ≡ c ∷ cs = ap (λ b. cond b (skip_leading_whitespace cs) (c ∷ cs)) e in
        record {
          white = [];
          are = tt;
          whole = sym at;
          dark = subst BeginsDark (sym at) (λ d rest same. ap is_whitespace (sym (ap (head_or 0) same)) ∙ e);
        }

-- what was dropped is white
pub record Dropped (cs : List ℕ) : Type 0 where
  pub white : List ℕ
  pub are : AreWhite white
  pub whole : cs ≡ drop_trailing_whitespace cs ++ white
  pub dark : EndsDark (drop_trailing_whitespace cs)

no_end : (front : List ℕ) (c : ℕ) → [] ≡ front ++ c ∷ [] → ⊥
no_end [] c e = cons_not_nil c [] (sym e)
no_end (d ∷ front) c e = cons_not_nil d (front ++ c ∷ []) (sym e)

ends_more : (x : ℕ) (xs : List ℕ) → (xs ≡ [] → is_whitespace x ≡ false) → EndsDark xs → EndsDark (x ∷ xs)
ends_more x xs alone dark [] c e = ap is_whitespace (sym (ap (head_or 0) e)) ∙ alone (ap tail_of e)
ends_more x xs alone dark (f ∷ front) c e = dark front c (ap tail_of e)

pub dropped : (cs : List ℕ) → Dropped cs
dropped [] = record { white = []; are = tt; whole = refl; dark = λ front c e. absurd (no_end front c e) }
dropped (c ∷ cs) = by (is_whitespace c) refl (length (drop_trailing_whitespace cs) == 0) refl (dropped cs)
  where
    kept : is_whitespace c && length (drop_trailing_whitespace cs) == 0 ≡ false → (drop_trailing_whitespace cs ≡ [] → is_whitespace c ≡ false) → Dropped cs → Dropped (c ∷ cs)
    kept e alone s =
        let at : drop_trailing_whitespace (c ∷ cs) ≡ c ∷ drop_trailing_whitespace cs = ap (λ b. cond b [] (c ∷ drop_trailing_whitespace cs)) e in
        record {
          white = s.white;
          are = s.are;
          whole = ap (λ l. c ∷ l) s.whole ∙ ap (λ l. l ++ s.white) (sym at);
          dark = subst EndsDark (sym at) (ends_more c (drop_trailing_whitespace cs) alone s.dark);
        }

    by : (b : Bool) → is_whitespace c ≡ b → (n : Bool) → (length (drop_trailing_whitespace cs) == 0) ≡ n → Dropped cs → Dropped (c ∷ cs)
    by true e true none s =
        let at : drop_trailing_whitespace (c ∷ cs) ≡ [] = ap (λ b. cond b [] (c ∷ drop_trailing_whitespace cs)) (λ i. e i && none i) in
        record {
          white = c ∷ s.white;
          are = (e, s.are);
          whole = ap (λ l. c ∷ l) (s.whole ∙ ap (λ l. l ++ s.white) (empty_of_length (drop_trailing_whitespace cs) none)) ∙ ap (λ l. l ++ c ∷ s.white) (sym at);
          dark = subst EndsDark (sym at) (λ front d same. absurd (no_end front d same));
        }
    by true e false some s = kept (λ i. e i && some i) (λ empty. absurd (true≢false (sym (ap (λ l. length l == 0) empty) ∙ some))) s
    by false e n is s = kept (ap (λ b. b && length (drop_trailing_whitespace cs) == 0) e) (λ empty. e) s

and_both : (a b : Bool) → a && b ≡ true → (a ≡ true) × (b ≡ true)
and_both true b e = (refl, e)
and_both false b e = absurd (true≢false (sym e))

scalars_left : (xs ys : List ℕ) → all_scalars (xs ++ ys) ≡ true → all_scalars xs ≡ true
scalars_left [] ys e = refl
scalars_left (x ∷ xs) ys e =
    let h = and_both _ (all_scalars (xs ++ ys)) e in
    λ i. h.0 i && scalars_left xs ys h.1 i

scalars_right : (xs ys : List ℕ) → all_scalars (xs ++ ys) ≡ true → all_scalars ys ≡ true
scalars_right [] ys e = e
scalars_right (x ∷ xs) ys e = scalars_right xs ys (and_both _ (all_scalars (xs ++ ys)) e).1

-- white space in front is skipped
passed : (ws cs : List ℕ) → AreWhite ws → skip_leading_whitespace (ws ++ cs) ≡ skip_leading_whitespace cs
passed [] cs white = refl
passed (w ∷ ws) cs white = ap (λ b. cond b (skip_leading_whitespace (ws ++ cs)) (w ∷ (ws ++ cs))) white.0 ∙ passed ws cs white.1

stops : (cs : List ℕ) → BeginsDark cs → skip_leading_whitespace cs ≡ cs
stops [] dark = refl
stops (c ∷ cs) dark = ap (λ b. cond b (skip_leading_whitespace cs) (c ∷ cs)) (dark c cs refl)

-- white space at the end is dropped
all_dropped : (ws : List ℕ) → AreWhite ws → drop_trailing_whitespace ws ≡ []
all_dropped [] white = refl
all_dropped (w ∷ ws) white = λ i. cond (white.0 i && length (all_dropped ws white.1 i) == 0) [] (w ∷ drop_trailing_whitespace ws)

stays : (c : ℕ) (cs : List ℕ) → EndsDark (c ∷ cs) → is_whitespace c && length cs == 0 ≡ false
stays c [] dark = ap (λ b. b && true) (dark [] c refl)
stays c (x ∷ cs) dark = ap (λ b. is_whitespace c && b) (filled x cs) ∙ by (is_whitespace c)
  where
    by : (b : Bool) → b && false ≡ false
    by true = refl
    by false = refl

ends_dropped : (cs ws : List ℕ) → EndsDark cs → AreWhite ws → drop_trailing_whitespace (cs ++ ws) ≡ cs
ends_dropped [] ws dark white = all_dropped ws white
ends_dropped (c ∷ cs) ws dark white =
    let later = ends_dropped cs ws (λ front d e. dark (c ∷ front) d (ap (λ l. c ∷ l) e)) white in
    (λ i. cond (is_whitespace c && length (later i) == 0) [] (c ∷ later i)) ∙ ap (λ b. cond b [] (c ∷ cs)) (stays c cs dark)

module _ (text : List ℕ) where
  only_start : (before rest : List ℕ) → text ≡ before ++ rest → IsUtf8 before → IsUtf8 rest → IsWhite before → BeginsDark (chars rest) → trim_start text ≡ rest
  unfolding trim_start
  only_start before rest whole utf8 rest_utf8 white dark =
      ap encode_utf8_all (ap skip_leading_whitespace (ap chars whole ∙ chars-append before rest utf8) ∙ passed (chars before) (chars rest) (recursion_from_All _ (chars before) white) ∙ stops (chars rest) dark)
      ∙ encodes-chars rest rest_utf8

  only_end : (rest after : List ℕ) → text ≡ rest ++ after → IsUtf8 rest → IsUtf8 after → IsWhite after → EndsDark (chars rest) → trim_end text ≡ rest
  unfolding trim_end
  only_end rest after whole utf8 after_utf8 white dark =
      ap encode_utf8_all (ap drop_trailing_whitespace (ap chars whole ∙ chars-append rest after utf8) ∙ ends_dropped (chars rest) (chars after) dark (recursion_from_All _ (chars after) white))
      ∙ encodes-chars rest utf8

trim_nil : trim_end [] ≡ []
unfolding trim_end
trim_nil = ap (λ l. encode_utf8_all (drop_trailing_whitespace l)) chars-nil

abbrev White : ℕ → Type 0
White c = is_whitespace c ≡ true

-- no other part is the text without the white space at its ends
pub exactly : (text part : List ℕ) → IsTrimmed text part → part ≡ trim text
exactly text part h = by (chars part) refl
  where
    by : (cs : List ℕ) → chars part ≡ cs → part ≡ trim text
    by [] e =
        let nothing : part ≡ [] = sym (encodes-chars part h.texts.1) ∙ ap encode_utf8_all e in
        let whole : text ≡ (h.before ++ h.after) ++ [] = h.whole ∙ ap (λ l. h.before ++ (l ++ h.after)) nothing ∙ sym (append-nil (h.before ++ h.after)) in
        let white : IsWhite (h.before ++ h.after) = subst (All White) (sym (chars-append h.before h.after h.texts.0)) (All-append White (chars h.before) (chars h.after) h.white.0 h.white.1) in
        let start : trim_start text ≡ [] =
        only_start text (h.before ++ h.after) [] whole (IsUtf8-append h.before h.after h.texts.0 h.texts.2) IsUtf8-nil white (λ c rest same. absurd (cons_not_nil c rest (sym same ∙ chars-nil))) in
        nothing ∙ sym trim_nil ∙ sym (ap trim_end start)
    by (c ∷ cs) e =
        let at : chars (part ++ h.after) ≡ c ∷ (cs ++ chars h.after) = chars-append part h.after h.texts.1 ∙ ap (λ l. l ++ chars h.after) e in
        let dark : BeginsDark (chars (part ++ h.after)) = λ d more same. ap is_whitespace (ap (head_or 0) (sym same ∙ at)) ∙ h.begins c cs e in
        let start = only_start text h.before (part ++ h.after) h.whole h.texts.0 (IsUtf8-append part h.after h.texts.1 h.texts.2) h.white.0 dark in
        sym (ap trim_end start ∙ only_end (part ++ h.after) part h.after refl h.texts.1 h.texts.2 h.white.1 h.ends)

-- `trim` gives the text without the white space at its ends
pub trims : (text : List ℕ) → IsUtf8 text → IsTrimmed text (trim text)
unfolding trim_start trim_end
trims text utf8 =
    let s = skipped (chars text) in
    let xs = skip_leading_whitespace (chars text) in
    let d = dropped xs in
    let ys = drop_trailing_whitespace xs in
    let both = subst (λ l. all_scalars l ≡ true) s.whole (scalars-chars text utf8) in
    let front = scalars_left s.white xs both in
    let rest = scalars_right s.white xs both in
    let both_more = subst (λ l. all_scalars l ≡ true) d.whole rest in
    let middle = scalars_left ys d.white both_more in
    let back = scalars_right ys d.white both_more in
    let is : trim text ≡ encode_utf8_all ys = ap (λ l. encode_utf8_all (drop_trailing_whitespace l)) (chars-encodes xs rest) in
    subst (IsTrimmed text) (sym is) (record {
      before = encode_utf8_all s.white;
      after = encode_utf8_all d.white;
      whole =
          sym (encodes-chars text utf8) ∙ ap encode_utf8_all (s.whole ∙ ap (λ l. s.white ++ l) d.whole) ∙ encodes-append s.white (ys ++ d.white)
          ∙ ap (λ l. encode_utf8_all s.white ++ l) (encodes-append ys d.white);
      texts = ((s.white, (front, refl)), (ys, (middle, refl)), (d.white, (back, refl)));
      white = (
        subst (All White) (sym (chars-encodes s.white front)) (All-from_recursion White s.white s.are),
        subst (All White) (sym (chars-encodes d.white back)) (All-from_recursion White d.white d.are),
      );
      begins = λ c more e. s.dark c (more ++ d.white) (d.whole ∙ ap (λ l. l ++ d.white) (sym (chars-encodes ys middle) ∙ e));
      ends = λ before c e. d.dark before c (sym (chars-encodes ys middle) ∙ e);
    })

-- a dark character that follows `front` lies behind the white space at the start
record Behind (front white rest : List ℕ) (c : ℕ) (more : List ℕ) : Type 0 where
  between : List ℕ
  whole : front ≡ white ++ between
  left : between ++ c ∷ more ≡ rest

behind : (front white rest : List ℕ) (c : ℕ) (more : List ℕ) → AreWhite white → is_whitespace c ≡ false → front ++ c ∷ more ≡ white ++ rest → Behind front white rest c more
behind front [] rest c more are dark e = record { between = front; whole = refl; left = e }
behind [] (w ∷ white) rest c more are dark e = absurd (true≢false (sym are.0 ∙ ap is_whitespace (sym (ap (head_or 0) e)) ∙ dark))
behind (f ∷ front) (w ∷ white) rest c more are dark e =
    let later = behind front white rest c more are.1 dark (ap tail_of e) in
    record { between = later.between; whole = (λ i. ap (head_or 0) e i ∷ later.whole i); left = later.left }

-- no white space holds a dark character
no_dark : (front : List ℕ) (c : ℕ) (more white : List ℕ) → AreWhite white → is_whitespace c ≡ false → front ++ c ∷ more ≡ white → ⊥
no_dark [] c more [] are dark e = cons_not_nil c more e
no_dark (f ∷ front) c more [] are dark e = cons_not_nil f (front ++ c ∷ more) e
no_dark [] c more (w ∷ white) are dark e = true≢false (sym are.0 ∙ ap is_whitespace (sym (ap (head_or 0) e)) ∙ dark)
no_dark (f ∷ front) c more (w ∷ white) are dark e = no_dark front c more white are.1 dark (ap tail_of e)

-- a dark character that `more` follows lies ahead of the white space at the end
record Ahead (front : List ℕ) (c : ℕ) (more rest : List ℕ) : Type 0 where
  between : List ℕ
  left : front ++ c ∷ between ≡ rest

ahead : (front : List ℕ) (c : ℕ) (more rest white : List ℕ) → AreWhite white → is_whitespace c ≡ false → front ++ c ∷ more ≡ rest ++ white → Ahead front c more rest
ahead front c more [] white are dark e = absurd (no_dark front c more white are dark e)
ahead [] c more (r ∷ rest) white are dark e = record { between = rest; left = ap (λ d. d ∷ rest) (ap (head_or 0) e) }
ahead (f ∷ front) c more (r ∷ rest) white are dark e =
    let later = ahead front c more rest white are dark (ap tail_of e) in
    record { between = later.between; left = (λ i. ap (head_or 0) e i ∷ later.left i) }

record HasLast (cs : List ℕ) : Type 0 where
  front : List ℕ
  last : ℕ
  whole : cs ≡ front ++ last ∷ []

last_of : (c : ℕ) (cs : List ℕ) → HasLast (c ∷ cs)
last_of c [] = record { front = []; last = c; whole = refl }
last_of c (d ∷ cs) =
    let later = last_of d cs in
    record { front = c ∷ later.front; last = later.last; whole = ap (λ l. c ∷ l) later.whole }

length_inside : (p m q k : List ℕ) → p ≡ m ++ (q ++ k) → length q ≤ length p
length_inside p m q k e =
    let whole = ap length e ∙ length-append m (q ++ k) in
    omega (arith, whole, length-append q k)

-- no part without white space at either end is longer than the text without the white space at its ends
pub longest : (text part q : List ℕ) → IsTrimmed text part → IsBarePart text q → length q ≤ length part
longest text part q t o = by (chars q) refl
  where
    by : (cs : List ℕ) → chars q ≡ cs → length q ≤ length part
    by [] e =
        let nothing = ap length (sym (encodes-chars q o.texts.1) ∙ ap encode_utf8_all e) in
        omega (arith, nothing)
    by (c ∷ cs) e =
        let l = last_of c cs in
        let first_dark = o.begins c cs e in
        let last_dark = o.ends l.front l.last (e ∙ l.whole) in
        let trimmed : chars text ≡ chars t.before ++ (chars part ++ chars t.after) =
        ap chars t.whole ∙ chars-append t.before (part ++ t.after) t.texts.0 ∙ ap (λ x. chars t.before ++ x) (chars-append part t.after t.texts.1) in
        let bare : chars text ≡ chars o.before ++ (chars q ++ chars o.after) =
        ap chars o.whole ∙ chars-append o.before (q ++ o.after) o.texts.0 ∙ ap (λ x. chars o.before ++ x) (chars-append q o.after o.texts.1) in
        let start = behind (chars o.before) (chars t.before) (chars part ++ chars t.after) c (cs ++ chars o.after) (recursion_from_All White (chars t.before) t.white.0) first_dark
        (ap (λ x. chars o.before ++ (x ++ chars o.after)) (sym e) ∙ sym bare ∙ trimmed) in
        let to_last : start.between ++ c ∷ (cs ++ chars o.after) ≡ (start.between ++ l.front) ++ l.last ∷ chars o.after =
        ap (λ x. start.between ++ (x ++ chars o.after)) l.whole ∙ ap (λ x. start.between ++ x) (append_assoc l.front (l.last ∷ []) (chars o.after))
        ∙ sym (append_assoc start.between l.front (l.last ∷ chars o.after)) in
        let end = ahead (start.between ++ l.front) l.last (chars o.after) (chars part) (chars t.after) (recursion_from_All White (chars t.after) t.white.1) last_dark (sym to_last ∙ start.left) in
        let inside : chars part ≡ start.between ++ (chars q ++ end.between) =
        sym end.left ∙ append_assoc start.between l.front (l.last ∷ end.between) ∙ ap (λ x. start.between ++ x) (sym (append_assoc l.front (l.last ∷ []) end.between))
        ∙ ap (λ x. start.between ++ (x ++ end.between)) (sym (e ∙ l.whole)) in
        length_inside part (encode_utf8_all start.between) q (encode_utf8_all end.between)
        (sym (encodes-chars part t.texts.1) ∙ ap encode_utf8_all inside ∙ encodes-append start.between (chars q ++ end.between)
        ∙ ap (λ x. encode_utf8_all start.between ++ x) (encodes-append (chars q) end.between ∙ ap (λ x. x ++ encode_utf8_all end.between) (encodes-chars q o.texts.1)))
