-- `Set-Cookie` fields that are appended, one for each cookie of a delta.
use Rattle.std.proofs.Common.{◌≡◌, ◌+◌, ◌≤◌, inl, inr, ℕ, Bool, true, false, cond, suc, codes, List, [], ◌∷◌, ◌++◌, map, length, bytes_eq, All, Option, Some, is_some, option_map, ◌||◌, Result, Ok, Err, refl, sym, ap, subst, ◌∙◌, arith, zero}
use Rattle.std.proofs.lemmas.List.{append-nil, append_assoc, length-append, length-map, map-append}
use Rattle.std.proofs.lemmas.List.Elements.{All-append, All-cons, All-head, All-nil, All-tail, Contains-append_right, filter-append}
use Rattle.std.proofs.lemmas.List.Sums.{sum_by-cons}
use Rattle.std.proofs.lemmas.Map.Made.{length-le_from_is_member}
use Rattle.std.proofs.lemmas.Slice.Eq.{bytes_eq-Decides}
use Rattle.std.proofs.lemmas.Str.{is_utf8-from_IsUtf8}
use Rattle.std.specs.Cmp.Lexicographic.{nat_list_eq_equiv}
use Rattle.std.specs.FinMap.{FinMap, get}
use Rattle.std.specs.List.{AllZip, filter, find, list_any}
use Rattle.std.specs.Result.{IsErrAnd, IsErrOf}
use Rattle.std.specs.Str.{IsUtf8, is_utf8}
use Rattle.http_header.specs.FieldValue.{FieldValue, plain_value}
use Rattle.http_header.specs.declared.map.HeaderMapError.{HeaderMapError}
use Rattle.http_header.specs.declared.map.HeaderMapError.TheVariants as full
use Rattle.http_header.specs.HeaderMap.{ContainsKey, Entries, IsMapClone, RefusesAppend, append, get_all, keys, value_count}
use Rattle.http_header.proofs.HeaderMapLemmas.{get_all-append_same}
use Rattle.cookie.specs.Jar.{Marked, Name, name_cmp}
use Rattle.cookie.specs.Memory.{Gives}
use Rattle.cookie.specs.Record.{Record}
use Rattle.cookie.specs.Text.{cookie_text}
use Rattle.cookie.specs.Walk.{Walks}
use Rattle.cookie_http.specs.Fields.{set_cookie_texts}
use Rattle.cookie_http.specs.HttpError.{refusal_of}
use Rattle.cookie_http.specs.declared.http_error.HttpError.{HttpError}
use Rattle.cookie_http.specs.declared.http_error.HttpError.TheVariants as refusal
use Rattle.cookie.specs.DeltaTexts.{WalksDelta}
use Rattle.cookie_http.specs.Response.{AddsDelta, LacksRoom, LacksRoomFor, with_set_cookies}

-- ---- a clone of a map

values_same : (old new : List FieldValue) → AllZip (λ v copy. copy ≡ v) old new → new ≡ old
values_same [] [] h = refl
values_same [] (y ∷ new) h = absurd h
values_same (x ∷ old) [] h = absurd h
values_same (x ∷ old) (y ∷ new) h = rw (h.0, values_same old new h.1) refl

-- a clone has the same names and values
pub clone_same : (old new : Entries FieldValue) → IsMapClone (λ v copy. copy ≡ v) old new → new ≡ old
clone_same [] [] h = refl
clone_same [] (y ∷ new) h = absurd h
clone_same (x ∷ old) [] h = absurd h
clone_same (x ∷ old) (y ∷ new) h = rw (h.0.0, values_same x.1 y.1 h.0.1, clone_same old new h.1) refl

-- ---- texts that are appended

abbrev name : List ℕ
name = codes "set-cookie"

abbrev text_of : Record → List ℕ
text_of cookie = cookie_text true false cookie

-- one more text
with_one_more : (texts : List (List ℕ)) (text : List ℕ) (m : Entries FieldValue) → with_set_cookies (texts ++ text ∷ []) m ≡ append (with_set_cookies texts m) name (plain_value text)
with_one_more [] text m = refl
with_one_more (t ∷ texts) text m = with_one_more texts text (append m name (plain_value t))

-- they stand behind what the name had
get_all-with : (texts : List (List ℕ)) (m : Entries FieldValue) → get_all (with_set_cookies texts m) name ≡ get_all m name ++ map plain_value texts
get_all-with [] m = sym (append-nil (get_all m name))
get_all-with (text ∷ texts) m =
    get_all-with texts (append m name (plain_value text))
    ∙ ap (λ values. values ++ map plain_value texts) (get_all-append_same m name (plain_value text))
    ∙ append_assoc (get_all m name) (plain_value text ∷ []) (map plain_value texts)

-- and those that are UTF-8 are read
read_back : (texts : List (List ℕ)) → All IsUtf8 texts → filter is_utf8 (map (λ v. v.bytes) (map plain_value texts)) ≡ texts
read_back [] all = refl
read_back (text ∷ texts) all =
    ap (λ b. cond b (text ∷ filter is_utf8 (map (λ v. v.bytes) (map plain_value texts))) (filter is_utf8 (map (λ v. v.bytes) (map plain_value texts))))
    (is_utf8-from_IsUtf8 text (All-head IsUtf8 text texts all))
    ∙ ap (λ ts. text ∷ ts) (read_back texts (All-tail IsUtf8 text texts all))

texts-with : (texts : List (List ℕ)) (m : Entries FieldValue) → All IsUtf8 texts → set_cookie_texts (with_set_cookies texts m) ≡ set_cookie_texts m ++ texts
texts-with texts m all =
    ap (λ values. filter is_utf8 (map (λ v. v.bytes) values)) (get_all-with texts m)
    ∙ ap (filter is_utf8) (map-append (λ v. v.bytes) (get_all m name) (map plain_value texts))
    ∙ filter-append is_utf8 (map (λ v. v.bytes) (get_all m name)) (map (λ v. v.bytes) (map plain_value texts))
    ∙ ap (λ ts. set_cookie_texts m ++ ts) (read_back texts all)

-- ---- the walk over a delta

-- the cookies of a delta of which those before `left` have their fields
pub record IsWritten (delta : FinMap name_cmp Marked) (old made : Entries FieldValue) (left : List Record) : Type 0 where
  pub done : List Record
  pub are : WalksDelta delta (done ++ left)
  pub fields : made ≡ with_set_cookies (map text_of done) old
  pub utf8 : All IsUtf8 (map text_of done)

pub IsWritten-first : (delta : FinMap name_cmp Marked) (old made : Entries FieldValue) (left : List Record) → WalksDelta delta left → made ≡ old → IsWritten delta old made left
IsWritten-first delta old made left are same = record { done = []; are = are; fields = same; utf8 = All-nil IsUtf8 }

pub IsWritten-next : (delta : FinMap name_cmp Marked) (old made more : Entries FieldValue) (cookie : Record) (left : List Record) → IsWritten delta old made (cookie ∷ left)
    → IsUtf8 (text_of cookie) → more ≡ with_set_cookies (text_of cookie ∷ []) made → IsWritten delta old more left
IsWritten-next delta old made more cookie left w utf8 is =
    let texts = map text_of w.done in
    let all : map text_of (w.done ++ cookie ∷ []) ≡ texts ++ text_of cookie ∷ [] = map-append text_of w.done (cookie ∷ []) in
    record {
      done = w.done ++ cookie ∷ [];
      are = subst (WalksDelta delta) (sym (append_assoc w.done (cookie ∷ []) left)) w.are;
      fields = is ∙ ap (λ m. append m name (plain_value (text_of cookie))) w.fields ∙ sym (with_one_more texts (text_of cookie) old) ∙ ap (λ ts. with_set_cookies ts old) (sym all);
      utf8 = subst (All IsUtf8) (sym all) (All-append IsUtf8 texts (text_of cookie ∷ []) w.utf8 (All-cons IsUtf8 (text_of cookie) [] utf8 (All-nil IsUtf8)));
    }

pub AddsDelta-written : (delta : FinMap name_cmp Marked) (old made : Entries FieldValue) → IsWritten delta old made [] → AddsDelta delta old made
AddsDelta-written delta old made w =
    record {
      cookies = w.done;
      are = subst (WalksDelta delta) (append-nil w.done) w.are;
      fields = w.fields;
      read = ap set_cookie_texts w.fields ∙ texts-with (map text_of w.done) old w.utf8;
    }

-- ---- a map without room

count_cons : (e : List ℕ × List FieldValue) (m : Entries FieldValue) → value_count (e ∷ m) ≡ length e.1 + value_count m
count_cons e m = sum_by-cons (λ (x : List ℕ × List FieldValue). length x.1) e m

count-append : (m : Entries FieldValue) (n : List ℕ) (v : FieldValue) → value_count (append m n v) ≡ value_count m + 1
count-append [] n v = refl
count-append (e ∷ m) n v = by (bytes_eq e.0 n) (count-append m n v)
  where
    by : (b : Bool) → value_count (append m n v) ≡ value_count m + 1 → value_count (cond b ((e.0, e.1 ++ v ∷ []) ∷ m) (e ∷ append m n v)) ≡ value_count (e ∷ m) + 1
    by true later = omega (arith, count_cons (e.0, e.1 ++ v ∷ []) m, count_cons e m, length-append e.1 (v ∷ []))
    by false later = omega (arith, count_cons e (append m n v), count_cons e m, later)

ContainsKey-append : (m : Entries FieldValue) (n : List ℕ) (v : FieldValue) → ContainsKey (append m n v) n
ContainsKey-append [] n v = (zero, omega arith, refl)
ContainsKey-append (e ∷ m) n v = by (bytes_eq e.0 n) refl (ContainsKey-append m n v)
  where
    by : (b : Bool) → bytes_eq e.0 n ≡ b → ContainsKey (append m n v) n → ContainsKey (cond b ((e.0, e.1 ++ v ∷ []) ∷ m) (e ∷ append m n v)) n
    by true t later = (zero, omega arith, (bytes_eq-Decides e.0 n).0 t)
    by false f later = Contains-append_right (e.0 ∷ []) (keys (append m n v)) n later

-- a map that refuses a text lacks room for it and for more
pub LacksRoom-refused : (n : ℕ) (m : Entries FieldValue) → RefusesAppend m name → LacksRoom (suc n) m
LacksRoom-refused n m (inl full) = inr (omega (arith, full))
LacksRoom-refused n m (inr (new, inl many)) = inl (omega arith, new, many)
LacksRoom-refused n m (inr (new, inr full)) = inr (omega (arith, full))

-- a map that lacks room after a text lacked room for it and the others
pub LacksRoom-append : (n : ℕ) (m : Entries FieldValue) (v : FieldValue) → LacksRoom n (append m name v) → LacksRoom (suc n) m
LacksRoom-append n m v (inl (some, new, many)) = absurd (new (ContainsKey-append m name v))
LacksRoom-append n m v (inr full) = inr (omega (arith, full, count-append m name v))

-- ---- how many cookies a delta has

found_member : (n : Name) (cookies : List Record) → is_some (find (λ c. bytes_eq n c.name) cookies) ≡ list_any (bytes_eq n) (map (λ c. c.name) cookies)
found_member n [] = refl
found_member n (c ∷ cookies) = by (bytes_eq n c.name) (found_member n cookies)
  where
    by : (b : Bool) → is_some (find (λ d. bytes_eq n d.name) cookies) ≡ list_any (bytes_eq n) (map (λ d. d.name) cookies)
        → is_some (cond b (Some c) (find (λ d. bytes_eq n d.name) cookies)) ≡ (b || list_any (bytes_eq n) (map (λ d. d.name) cookies))
    by true later = refl
    by false later = later

walk_not_longer : (at : Name → Option Record) (xs ys : List Record) → Walks at xs → Walks at ys → length xs ≤ length ys
walk_not_longer at xs ys walks others =
    let names : List Record → List Name = λ cookies. map (λ c. c.name) cookies in
    omega (
      arith,
      length-map xs (λ c. c.name),
      length-map ys (λ c. c.name),
      length-le_from_is_member nat_list_eq_equiv (names xs) (names ys) walks.once
          (λ n inside. sym (found_member n ys) ∙ ap is_some (others.found n ∙ sym (walks.found n)) ∙ found_member n xs ∙ inside),
    )

-- any walk over the delta tells whether the map lacks room
pub LacksRoomFor-walk : (delta : FinMap name_cmp Marked) (cookies : List Record) (m : Entries FieldValue) → WalksDelta delta cookies → LacksRoomFor delta m → LacksRoom (length cookies) m
LacksRoomFor-walk delta cookies m walks (others, met, lacks) =
    let at : Name → Option Record = λ n. option_map (λ entry. entry.cookie) (get delta n) in
    let same : length others ≡ length cookies = omega (arith, walk_not_longer at others cookies met walks, walk_not_longer at cookies others walks met) in
    subst (λ n. LacksRoom n m) same lacks

-- ---- refusals

abbrev pub is_ok : {T E : Type 0} → Result T E → Bool
is_ok (Ok x) = true
is_ok (Err e) = false

abbrev error_or : {T : Type 0} → HttpError → Result T HttpError → HttpError
error_or other (Ok x) = other
error_or other (Err e) = e

-- an error that is passed on is the one of the result
pub refused_same : {T : Type 0} (r : Result T HttpError) (x y : HttpError) → IsErrAnd r (λ e. e ≡ x) → IsErrOf r y → x ≡ y
refused_same (Ok v) x y h is = ap (error_or x) is
refused_same (Err e) x y h is = sym h ∙ ap (error_or x) is

-- out of memory is no other refusal
pub not_invalid : {T : Type 0} (r : Result T HttpError) → IsErrAnd r (λ e. e ≡ refusal.OutOfMemory) → ¬ (IsErrOf r refusal.InvalidValue)
not_invalid r h is = let same : refusal.OutOfMemory ≡ refusal.InvalidValue = refused_same r refusal.OutOfMemory refusal.InvalidValue h is in cc

pub not_full : {T : Type 0} (r : Result T HttpError) → IsErrAnd r (λ e. e ≡ refusal.OutOfMemory) → ¬ (IsErrOf r refusal.TooManyFields)
not_full r h is = let same : refusal.OutOfMemory ≡ refusal.TooManyFields = refused_same r refusal.OutOfMemory refusal.TooManyFields h is in cc

pub other_refusal : {T : Type 0} (r : Result T HttpError) → r ≡ Err refusal.TooManyFields → r ≡ Err refusal.InvalidValue → ⊥
other_refusal r is other = cc

-- a map that refuses a value, but for room, is out of memory
pub gives_memory : {T U : Type 0} (r : Result T HeaderMapError) (s : Result U HttpError) (e : HeaderMapError) (P : U → Type 0) → r ≡ Err e
    → ¬ (r ≡ Err full.MaxSizeReached) → IsErrAnd s (λ x. x ≡ refusal_of e) → Gives refusal.OutOfMemory s P
gives_memory r s full.MaxSizeReached P is room h = absurd (room is)
gives_memory r (Ok u) full.OutOfMemory P is room h = absurd h
gives_memory r (Err x) full.OutOfMemory P is room h = h

-- an empty map takes a value
pub empty_takes : (m : Entries FieldValue) (n : List ℕ) → m ≡ [] → ¬ (RefusesAppend m n)
empty_takes [] n empty (inl many) = omega (arith, many)
empty_takes [] n empty (inr (new, inl many)) = omega (arith, many)
empty_takes [] n empty (inr (new, inr many)) = omega (arith, many)
empty_takes (e ∷ m) n empty refuses = cc
