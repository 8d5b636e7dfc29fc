-- Slots and the cookies in them: what each change leaves.
use Rattle.std.proofs.Common.{◌≡◌, ◌≢◌, ℕ, zero, suc, ◌+◌, ◌<◌, ◌≤◌, ◌&&◌, reverse, take, drop, Option, None, Some, option_map, is_some, Bool, true, false, cond, List, [], ◌∷◌, ◌++◌, length, get_or, map, nat_eq, nat_lt, refl, sym, ap, subst, ◌∙◌, All, ◌⊎◌, ⊎_elim, arith}
use denote.Ref.{Bor}
use Rattle.std.proofs.Math.ListN.{set}
use Rattle.std.proofs.lemmas.Bool.{and_parts, cases_eq, cases_lt, cases_order, false≢true}
use Rattle.std.proofs.lemmas.Grind.{drop_more_same}
use Rattle.std.proofs.lemmas.List.{append-nil, drop-set-lt, get_or-drop, get_or-set_other, get_or-set_same, length-append, length-set, map-append, take_all, take_more, take_more_set}
use Rattle.std.proofs.lemmas.List.Elements.{All-cons, All-get_or, All-nil, filter-append, filter_map-append}
use Rattle.std.proofs.lemmas.List.Sums.{sum_by-cons}
use Rattle.std.specs.List.{Contains, count_by, filter, remove, slice_get}
use Rattle.std.specs.Option.{MatchOption, option_copied}
use Rattle.jiff.specs.Types.{DateTime}
use Rattle.jiff.specs.Words.{civil_nanos}
use Rattle.cookie_browser.specs.Request.{RequestView}
use Rattle.cookie_browser.specs.Storage.{KeptView, is_same_cookie, is_sent}
use Rattle.cookie_agent.specs.IndexCode.{Lists, numbers_at}
use Rattle.cookie_agent.specs.LimitsCode.{Ascends, blank, picked}
use Rattle.cookie_agent.specs.RowsCode.{AreListed, AreRows, Slots, has, held, slot_at}
use Rattle.cookie_agent.specs.Sent.{accessed}
use Rattle.cookie_agent.specs.declared.domain_index.DomainIndex.{DomainIndex}
use Rattle.cookie_agent.specs.declared.rows.Rows.{Rows}
use Rattle.cookie_agent.proofs.KeyLemmas.{alike}
use Rattle.cookie_agent.proofs.NumberLemmas.{number_same, same_number}
use Rattle.cookie_agent.proofs.PickLemmas.{picked-passing, rising-places}

pub some_is : {X : Type 0} (a b : X) → Some a ≡ Some b → a ≡ b
some_is a b e = cc

pub none_some : {X Y : Type 0} (a : X) → None ≡ Some a → Y
none_some a e = absurd cc

-- ---- what a slot has

pub has_some : (test : KeptView → Bool) (slot : Option KeptView) → has test slot ≡ true → (c : KeptView) × (slot ≡ Some c) × (test c ≡ true)
has_some test None e = absurd (false≢true e)
has_some test (Some c) e = (c, refl, e)

pub has_full : (test : KeptView → Bool) (slot : Option KeptView) → has test slot ≡ true → is_some slot ≡ true
has_full test None e = absurd (false≢true e)
has_full test (Some c) e = refl

pub some_has : (test : KeptView → Bool) (slot : Option KeptView) (c : KeptView) → slot ≡ Some c → has test slot ≡ test c
some_has test slot c e = ap (has test) e

pub full_some : (slot : Option KeptView) → is_some slot ≡ true → (c : KeptView) × (slot ≡ Some c)
full_some None e = absurd (false≢true e)
full_some (Some c) e = (c, refl)

pub empty_none : (slot : Option KeptView) → is_some slot ≡ false → slot ≡ None
empty_none None e = refl
empty_none (Some c) e = absurd (false≢true (sym e))

-- what is lent of a slot is what it has
pub lent_slot : (o : Option (Bor KeptView)) (slot : Option KeptView) → MatchOption o (slot ≡ None) (λ c. slot ≡ Some c.now) → option_copied o ≡ slot
lent_slot None slot e = sym e
lent_slot (Some c) slot e = sym e

pub slot_after : (slots : Slots) (p : ℕ) → length slots ≤ p → slot_at slots p ≡ None
slot_after [] p le = refl
slot_after (s ∷ slots) zero le = absurd (omega (arith, le))
slot_after (s ∷ slots) (suc p) le = slot_after slots p (omega (arith, le))

pub slot_below : (slots : Slots) (p : ℕ) (c : KeptView) → slot_at slots p ≡ Some c → p < length slots
slot_below [] p c e = none_some c e
slot_below (s ∷ slots) zero c e = omega arith
slot_below (s ∷ slots) (suc p) c e = let rest = slot_below slots p c e in omega (arith, rest)

-- ---- the cookies of slots

pub held-push : (slots : Slots) (c : KeptView) → held (slots ++ Some c ∷ []) ≡ held slots ++ c ∷ []
held-push [] c = refl
held-push (None ∷ slots) c = held-push slots c
held-push (Some d ∷ slots) c = ap (λ l. d ∷ l) (held-push slots c)

pub held-no_more : (slots : Slots) → length (held slots) ≤ length slots
held-no_more [] = omega arith
held-no_more (None ∷ slots) = let rest = held-no_more slots in omega (arith, rest)
held-no_more (Some c ∷ slots) = let rest = held-no_more slots in omega (arith, rest)

-- without empty slots they are at the places of their slots
pub held-full : (slots : Slots) → length (held slots) ≡ length slots → (k : ℕ) → slot_at slots k ≡ slice_get (held slots) k
held-full [] long k = refl
held-full (None ∷ slots) long k = let few = held-no_more slots in absurd (omega (arith, few, long))
held-full (Some c ∷ slots) long zero = refl
held-full (Some c ∷ slots) long (suc k) = held-full slots (omega (arith, long)) k

pub held-packed : (slots : Slots) → held (filter is_some slots) ≡ held slots
held-packed [] = refl
held-packed (None ∷ slots) = held-packed slots
held-packed (Some c ∷ slots) = ap (λ l. c ∷ l) (held-packed slots)

pub packed-long : (slots : Slots) → length (filter is_some slots) ≡ length (held slots)
packed-long [] = refl
packed-long (None ∷ slots) = packed-long slots
packed-long (Some c ∷ slots) = ap (λ n. suc n) (packed-long slots)

pub held-count : (slots : Slots) → count_by is_some slots ≡ length (held slots)
held-count [] = refl
held-count (None ∷ slots) = held-count slots
held-count (Some c ∷ slots) =
    let first : count_by is_some (Some c ∷ slots) ≡ 1 + count_by is_some slots = sum_by-cons (λ s. cond (is_some s) 1 0) (Some c) slots in
    let rest = held-count slots in
    omega (arith, first, rest)

-- those that pass a test
pub held-passing : (test : KeptView → Bool) (slots : Slots) → held (filter (has test) slots) ≡ filter test (held slots)
held-passing test [] = refl
held-passing test (None ∷ slots) = held-passing test slots
held-passing test (Some c ∷ slots) = by (test c) (held-passing test slots)
  where
    by : (b : Bool) → held (filter (has test) slots) ≡ filter test (held slots)
        → held (cond b (Some c ∷ filter (has test) slots) (filter (has test) slots)) ≡ cond b (c ∷ filter test (held slots)) (filter test (held slots))
    by true rest = ap (λ l. c ∷ l) rest
    by false rest = rest

pub none-has : (test : KeptView → Bool) (slots : Slots) → ((k : ℕ) → has test (slot_at slots k) ≡ false) → All (λ c. test c ≡ false) (held slots)
none-has test [] none = All-nil (λ c. test c ≡ false)
none-has test (None ∷ slots) none = none-has test slots (λ k. none (suc k))
none-has test (Some c ∷ slots) none = All-cons (λ d. test d ≡ false) c (held slots) (none 0) (none-has test slots (λ k. none (suc k)))

-- the place of a slot's cookie in the list, and the list after a write to the slot
pub record IsAtPlace (slots : Slots) (p : ℕ) (c : KeptView) : Type 0 where
  pub place : ℕ
  pub below : place < length (held slots)
  pub at : (d : KeptView) → get_or (held slots) place d ≡ c
  pub put : (x : KeptView) → held (set slots p (Some x)) ≡ set (held slots) place x
  pub out : held (set slots p None) ≡ remove (held slots) place
  pub fewer : suc (length (held (set slots p None))) ≡ length (held slots)

pub at-place : (slots : Slots) (p : ℕ) (c : KeptView) → slot_at slots p ≡ Some c → IsAtPlace slots p c
at-place [] p c e = none_some c e
at-place (None ∷ slots) zero c e = none_some c e
at-place (Some d ∷ slots) zero c e = record {
  place = 0;
  below = omega arith;
  at = λ x. some_is d c e;
  put = λ x. refl;
  out = refl;
  fewer = refl;
}
at-place (None ∷ slots) (suc p) c e =
    let rest = at-place slots p c e in
    record {
      place = rest.place;
      below = rest.below;
      at = rest.at;
      put = rest.put;
      out = rest.out;
      fewer = rest.fewer;
    }
at-place (Some d ∷ slots) (suc p) c e =
    let rest = at-place slots p c e in
    let below = rest.below in
    record {
      place = suc rest.place;
      below = omega (arith, below);
      at = rest.at;
      put = λ x. ap (λ l. d ∷ l) (rest.put x);
      out = ap (λ l. d ∷ l) rest.out;
      fewer = ap (λ n. suc n) rest.fewer;
    }

-- ---- what is told of each slot's cookie

abbrev pub EachSlot : (ℕ → KeptView → Type 0) → Slots → Type 0
EachSlot P slots = (place : ℕ) (c : KeptView) → slot_at slots place ≡ Some c → P place c

-- after a write to a slot
pub each-but : (P : ℕ → KeptView → Type 0) (slots : Slots) (p : ℕ) (slot : Option KeptView) → ((k : ℕ) (c : KeptView) → k ≢ p → slot_at slots k ≡ Some c → P k c)
    → ((c : KeptView) → slot ≡ Some c → P p c) → EachSlot P (set slots p slot)
each-but P [] p slot others here k c e = none_some c e
each-but P (s ∷ slots) zero slot others here zero c e = here c e
each-but P (s ∷ slots) zero slot others here (suc k) c e = others (suc k) c (λ z. omega (arith, z)) e
each-but P (s ∷ slots) (suc p) slot others here zero c e = others 0 c (λ z. omega (arith, z)) e
each-but P (s ∷ slots) (suc p) slot others here (suc k) c e = each-but (λ j d. P (suc j) d) slots p slot (λ j d other f. others (suc j) d (λ same. other (omega (arith, same))) f) here k c e

pub each-set : (P : ℕ → KeptView → Type 0) (slots : Slots) (p : ℕ) (slot : Option KeptView) → EachSlot P slots → ((c : KeptView) → slot ≡ Some c → P p c) → EachSlot P (set slots p slot)
each-set P slots p slot each here = each-but P slots p slot (λ k c other e. each k c e) here

pub each-push : (P : ℕ → KeptView → Type 0) (slots : Slots) (x : KeptView) → EachSlot P slots → P (length slots) x → EachSlot P (slots ++ Some x ∷ [])
each-push P [] x each here zero c e = subst (P 0) (some_is x c e) here
each-push P [] x each here (suc k) c e = none_some c e
each-push P (s ∷ slots) x each here zero c e = each 0 c e
each-push P (s ∷ slots) x each here (suc k) c e = each-push (λ j d. P (suc j) d) slots x (λ j d f. each (suc j) d f) here k c e

-- ---- the rows after a change

-- a cookie that is the same is of the domain, so its slot is at the domain
pub none-same : (rows : Rows) (kept : KeptView) (these : List ℕ) → AreRows rows → these ≡ numbers_at rows.index (reverse kept.domain)
    → ((k : ℕ) → Contains these k → has (λ c. is_same_cookie c kept) (slot_at rows.slots.items k) ≡ false) → All (λ c. is_same_cookie c kept ≡ false) (held rows.slots.items)
none-same rows kept these all is none =
    none-has (λ c. is_same_cookie c kept) rows.slots.items (λ k. by k (slot_at rows.slots.items k) refl)
  where
    same : (k : ℕ) (c : KeptView) → slot_at rows.slots.items k ≡ Some c → (b : Bool) → is_same_cookie c kept ≡ b → b ≡ false
    same k c e false f = refl
    same k c e true f =
        let here : Lists rows.index c.domain k = all.listed k c e in
        let at : Contains these k = subst (λ l. Contains l k) (ap (λ (d : List ℕ). numbers_at rows.index (reverse d)) (alike c kept f).domain ∙ sym is) here in
        absurd (false≢true (sym (none k at) ∙ some_has (λ d. is_same_cookie d kept) (slot_at rows.slots.items k) c e ∙ f))

    by : (k : ℕ) (slot : Option KeptView) → slot_at rows.slots.items k ≡ slot → has (λ c. is_same_cookie c kept) slot ≡ false
    by k None e = refl
    by k (Some c) e = same k c e (is_same_cookie c kept) refl

-- a cookie takes the slot of one of its domain
pub listed-put : (index : DomainIndex) (slots : Slots) (p : ℕ) (old x : KeptView) → AreListed index slots → slot_at slots p ≡ Some old → old.domain ≡ x.domain → AreListed index (set slots p (Some x))
listed-put index slots p old x listed is same =
    each-set (λ k c. Lists index c.domain k) slots p (Some x) listed (λ c e. subst (λ (d : KeptView). Lists index d.domain p) (some_is x c e) (subst (λ t. Lists index t p) same (listed p old is)))

pub rows-put : (rows : Rows) (p : ℕ) (old x : KeptView) → AreRows rows → slot_at rows.slots.items p ≡ Some old → is_same_cookie old x ≡ true
    → AreListed rows.index (set rows.slots.items p (Some x)) × (rows.empty + length (held (set rows.slots.items p (Some x))) ≡ length (set rows.slots.items p (Some x)))
rows-put rows p old x all is same = (
  listed-put rows.index rows.slots.items p old x all.listed is (alike old x same).domain,
  (let at = at-place rows.slots.items p old is in
      ap (λ n. rows.empty + n) (ap (λ l. length l) (at.put x) ∙ length-set (held rows.slots.items) at.place x) ∙ all.counted ∙ sym (length-set rows.slots.items p (Some x))),
)

pub listed-out : (index : DomainIndex) (slots : Slots) (p : ℕ) → AreListed index slots → AreListed index (set slots p None)
listed-out index slots p listed = each-set (λ k c. Lists index c.domain k) slots p None listed (λ c e. none_some c e)

pub listed-push : (index : DomainIndex) (slots : Slots) (x : KeptView) → AreListed index slots → Lists index x.domain (length slots) → AreListed index (slots ++ Some x ∷ [])
listed-push index slots x listed here = each-push (λ k c. Lists index c.domain k) slots x listed here

-- another index that has what the first has of the slots
pub listed-in : (index new : DomainIndex) (slots : Slots) → ((d : List ℕ) (k : ℕ) → is_some (slot_at slots k) ≡ true → Lists index d k → Lists new d k) → AreListed index slots → AreListed new slots
listed-in index new slots stay listed k c e = stay c.domain k (ap is_some e) (listed k c e)

-- ---- slots that are changed one by one

-- the slot is emptied, if its cookie doesn't pass
abbrev pub left : (KeptView → Bool) → Option KeptView → Option KeptView
left test slot = cond (has test slot) slot None

pub held-left : (test : KeptView → Bool) (new old : Slots) → length new ≡ length old → ((k : ℕ) → slot_at new k ≡ left test (slot_at old k)) → held new ≡ filter test (held old)
held-left test [] [] long each = refl
held-left test [] (s ∷ old) long each = absurd (omega (arith, long))
held-left test (t ∷ new) [] long each = absurd (omega (arith, long))
held-left test (t ∷ new) (None ∷ old) long each =
    ap (λ s. held (s ∷ new)) (each 0) ∙ held-left test new old (omega (arith, long)) (λ k. each (suc k))
held-left test (t ∷ new) (Some c ∷ old) long each =
    ap (λ s. held (s ∷ new)) (each 0) ∙ by (test c) (held-left test new old (omega (arith, long)) (λ k. each (suc k)))
  where
    by : (b : Bool) → held new ≡ filter test (held old) → held (cond b (Some c) None ∷ new) ≡ cond b (c ∷ filter test (held old)) (filter test (held old))
    by true rest = ap (λ l. c ∷ l) rest
    by false rest = rest

pub held-mapped : (f : KeptView → KeptView) (new old : Slots) → length new ≡ length old → ((k : ℕ) → slot_at new k ≡ option_map f (slot_at old k)) → held new ≡ map f (held old)
held-mapped f [] [] long each = refl
held-mapped f [] (s ∷ old) long each = absurd (omega (arith, long))
held-mapped f (t ∷ new) [] long each = absurd (omega (arith, long))
held-mapped f (t ∷ new) (None ∷ old) long each =
    ap (λ s. held (s ∷ new)) (each 0) ∙ held-mapped f new old (omega (arith, long)) (λ k. each (suc k))
held-mapped f (t ∷ new) (Some c ∷ old) long each =
    ap (λ s. held (s ∷ new)) (each 0) ∙ ap (λ l. f c ∷ l) (held-mapped f new old (omega (arith, long)) (λ k. each (suc k)))

-- a slot after a write to it by what it had
pub set-here : (f : Option KeptView → Option KeptView) → f None ≡ None → (slots : Slots) (p : ℕ) → slot_at (set slots p (f (slot_at slots p))) p ≡ f (slot_at slots p)
set-here f empty [] p = sym empty
set-here f empty (s ∷ slots) zero = refl
set-here f empty (s ∷ slots) (suc p) = set-here f empty slots p

-- ---- an access

module _ (site : RequestView) (now : DateTime) where
  pub accessed-twice : (c : KeptView) → accessed site now (accessed site now c) ≡ accessed site now c
  accessed-twice c = by (is_sent site now c) refl
    where
      by : (b : Bool) → is_sent site now c ≡ b → accessed site now (cond b (record c { last_access = civil_nanos now }) c) ≡ cond b (record c { last_access = civil_nanos now }) c
      by true e = ap (λ b. cond b (record c { last_access = civil_nanos now }) (record c { last_access = civil_nanos now })) e
      by false e = ap (λ b. cond b (record c { last_access = civil_nanos now }) c) e

  pub slot-twice : (slot : Option KeptView) → option_map (accessed site now) (option_map (accessed site now) slot) ≡ option_map (accessed site now) slot
  slot-twice None = refl
  slot-twice (Some c) = ap (λ d. Some d) (accessed-twice c)

  -- what isn't sent stays
  pub slot-unsent : (slot : Option KeptView) → has (is_sent site now) slot ≡ false → option_map (accessed site now) slot ≡ slot
  slot-unsent None e = refl
  slot-unsent (Some c) e = ap (λ b. Some (cond b (record c { last_access = civil_nanos now }) c)) e

  pub accessed-domain : (slot : Option KeptView) (c : KeptView) → option_map (accessed site now) slot ≡ Some c → (d : KeptView) × (slot ≡ Some d) × (d.domain ≡ c.domain)
  accessed-domain None c e = none_some c e
  accessed-domain (Some d) c e = (d, refl, by (is_sent site now d) ∙ ap (λ (x : KeptView). x.domain) (some_is (accessed site now d) c e))
    where
      by : (b : Bool) → d.domain ≡ (cond b (record d { last_access = civil_nanos now }) d).domain
      by true = refl
      by false = refl

  pub listed-accessed : (index : DomainIndex) (new old : Slots) → ((k : ℕ) → slot_at new k ≡ option_map (accessed site now) (slot_at old k)) → AreListed index old → AreListed index new
  listed-accessed index new old each listed k c e =
      let was = accessed-domain (slot_at old k) c (sym (each k) ∙ e) in
      subst (λ t. Lists index t k) was.2 (listed k was.0 was.1)

  -- each slot is as after the request, if those that have a cookie that is sent are
  pub all-accessed : (new old : Slots) (ps : List ℕ)
      → ((k : ℕ) → (slot_at new k ≡ slot_at old k) ⊎ (slot_at new k ≡ option_map (accessed site now) (slot_at old k)))
      → ((k : ℕ) → Contains ps k → slot_at new k ≡ option_map (accessed site now) (slot_at old k))
      → ((k : ℕ) → has (is_sent site now) (slot_at old k) ≡ true → Contains ps k)
      → (k : ℕ) → slot_at new k ≡ option_map (accessed site now) (slot_at old k)
  all-accessed new old ps each done sent k = ⊎_elim (λ same. by same (has (is_sent site now) (slot_at old k)) refl) (λ is. is) (each k)
    where
      by : slot_at new k ≡ slot_at old k → (b : Bool) → has (is_sent site now) (slot_at old k) ≡ b → slot_at new k ≡ option_map (accessed site now) (slot_at old k)
      by same true e = done k (sent k e)
      by same false e = same ∙ sym (slot-unsent (slot_at old k) e)

  -- one more slot
  pub each-accessed : (now_slots old : Slots) (p : ℕ)
      → ((k : ℕ) → (slot_at now_slots k ≡ slot_at old k) ⊎ (slot_at now_slots k ≡ option_map (accessed site now) (slot_at old k)))
      → (k : ℕ) → (k ≡ p → slot_at (set now_slots p (option_map (accessed site now) (slot_at now_slots p))) k ≡ option_map (accessed site now) (slot_at old k))
      × (((k ≡ p → ⊥)) → slot_at (set now_slots p (option_map (accessed site now) (slot_at now_slots p))) k ≡ slot_at now_slots k)
  each-accessed now_slots old p each k = (
    λ is. subst (λ j. slot_at (set now_slots p (option_map (accessed site now) (slot_at now_slots p))) j ≡ option_map (accessed site now) (slot_at old j)) (sym is)
        (set-here (option_map (accessed site now)) refl now_slots p
        ∙ ⊎_elim (λ same. ap (option_map (accessed site now)) same) (λ was. ap (option_map (accessed site now)) was ∙ slot-twice (slot_at old p)) (each p)),
    λ other. get_or-set_other now_slots p k (option_map (accessed site now) (slot_at now_slots p)) None other,
  )

-- ---- a walk that empties the slots of the cookies that go

module _ (test : KeptView → Bool) (old : Slots) where
  -- the slots before this one are done, and the others are as they were
  pub record IsSwept (new : Slots) (p : ℕ) : Type 0 where
    pub long : length new ≡ length old
    pub before : (k : ℕ) → k < p → slot_at new k ≡ left test (slot_at old k)
    pub after : (k : ℕ) → p ≤ k → slot_at new k ≡ slot_at old k

  pub swept-none : IsSwept old 0
  swept-none = record { long = refl; before = λ k lt. absurd (omega (arith, lt)); after = λ k le. refl }

  pub swept-stay : (new : Slots) (p : ℕ) → IsSwept new p → left test (slot_at new p) ≡ slot_at new p → IsSwept new (p + 1)
  swept-stay new p so stays = record {
    long = so.long;
    before = λ k lt. ⊎_elim (λ is. subst (λ j. slot_at new j ≡ left test (slot_at old j)) (sym is) (sym stays ∙ ap (left test) (so.after p (omega arith))))
        (λ other. so.before k (⊎_elim (λ less. less) (λ from. absurd (other (omega (arith, lt, from)))) (cases_lt k p))) (cases_eq k p);
    after = λ k le. so.after k (omega (arith, le));
  }

  pub swept-out : (new : Slots) (p : ℕ) (c : KeptView) → IsSwept new p → slot_at new p ≡ Some c → test c ≡ false → IsSwept (set new p None) (p + 1)
  swept-out new p c so is goes = record {
    long = length-set new p None ∙ so.long;
    before = λ k lt. ⊎_elim
        (λ same. subst (λ j. slot_at (set new p None) j ≡ left test (slot_at old j)) (sym same)
        (get_or-set_same new p None None (slot_below new p c is) ∙ sym (ap (left test) (sym (so.after p (omega arith)) ∙ is) ∙ ap (λ b. cond b (Some c) None) goes)))
        (λ other. get_or-set_other new p k None None other ∙ so.before k (⊎_elim (λ less. less) (λ from. absurd (other (omega (arith, lt, from)))) (cases_lt k p))) (cases_eq k p);
    after = λ k le. get_or-set_other new p k None None (λ e. omega (arith, le, e)) ∙ so.after k (omega (arith, le));
  }

  pub swept-all : (new : Slots) (p : ℕ) → length old ≤ p → IsSwept new p → held new ≡ filter test (held old)
  swept-all new p far so =
      held-left test new old so.long (λ k. ⊎_elim (λ before. so.before k before) (λ from. so.after k from ∙ slot_after old k (omega (arith, far, from)) ∙ sym (ap (left test) (slot_after old k (omega (arith, far, from))))) (cases_lt k p))

-- ---- a walk that numbers the cookies

pub held-more : (slots : Slots) (i : ℕ) → i < length slots → held (take (i + 1) slots) ≡ held (take i slots) ++ held (slot_at slots i ∷ [])
held-more slots i lt = ap held (take_more slots i None lt) ∙ filter_map-append (λ s. s) (take i slots) (slot_at slots i ∷ [])

module _ (slots : Slots) where
  -- the first i slots have n cookies, and of each of them with its number this is told
  pub record IsPacked (P : ℕ → KeptView → Type 0) (i n : ℕ) : Type 0 where
    pub few : n ≤ i
    pub number : n ≡ length (filter is_some (take i slots))
    pub each : EachSlot P (filter is_some (take i slots))

  packed_more : (i : ℕ) (s : Option KeptView) → i < length slots → slot_at slots i ≡ s → filter is_some (take (i + 1) slots) ≡ filter is_some (take i slots) ++ filter is_some (s ∷ [])
  packed_more i s lt is =
      ap (filter is_some) (take_more slots i None lt ∙ ap (λ t. take i slots ++ t ∷ []) is) ∙ filter-append is_some (take i slots) (s ∷ [])

  pub packed-none : (P : ℕ → KeptView → Type 0) → IsPacked P 0 0
  packed-none P = record { few = omega arith; number = refl; each = λ k c e. none_some c e }

  pub packed-same : (P : ℕ → KeptView → Type 0) (i n : ℕ) → IsPacked P i n → i < length slots → slot_at slots i ≡ None → IsPacked P (i + 1) n
  packed-same P i n so lt is =
      let few = so.few in
      let same : filter is_some (take (i + 1) slots) ≡ filter is_some (take i slots) = packed_more i None lt is ∙ append-nil (filter is_some (take i slots)) in
      record {
        few = omega (arith, few);
        number = so.number ∙ sym (ap (λ l. length l) same);
        each = subst (EachSlot P) (sym same) so.each;
      }

  pub packed-more : (P Q : ℕ → KeptView → Type 0) (i n : ℕ) (x : KeptView) → IsPacked P i n → i < length slots → slot_at slots i ≡ Some x
      → ((k : ℕ) (c : KeptView) → P k c → Q k c) → Q n x → IsPacked Q (i + 1) (n + 1)
  packed-more P Q i n x so lt is stay added =
      let few = so.few in
      let more : filter is_some (take (i + 1) slots) ≡ filter is_some (take i slots) ++ Some x ∷ [] = packed_more i (Some x) lt is in
      record {
        few = omega (arith, few);
        number = ap (λ m. m + 1) so.number ∙ sym (ap (λ l. length l) more ∙ length-append (filter is_some (take i slots)) (Some x ∷ []));
        each = subst (EachSlot Q) (sym more) (each-push Q (filter is_some (take i slots)) x (λ k c e. stay k c (so.each k c e)) (subst (λ m. Q m x) so.number added));
      }

-- ---- a walk that keeps the cookies at places of the list

-- the cookie of a slot is in the list after those of the slots before it
pub held-nth : (slots : Slots) (i : ℕ) (c d : KeptView) → slot_at slots i ≡ Some c → get_or (held slots) (length (held (take i slots))) d ≡ c
held-nth [] i c d e = none_some c e
held-nth (None ∷ slots) zero c d e = none_some c e
held-nth (Some x ∷ slots) zero c d e = some_is x c e
held-nth (None ∷ slots) (suc i) c d e = held-nth slots i c d e
held-nth (Some x ∷ slots) (suc i) c d e = held-nth slots i c d e

same_slot : (new old : Slots) (i : ℕ) → drop i new ≡ drop i old → slot_at new i ≡ slot_at old i
same_slot new old i rest =
    let right : i + 0 ≡ i = omega arith in
    ap (slot_at new) (sym right) ∙ sym (get_or-drop i new 0 None) ∙ ap (λ l. get_or l 0 None) rest ∙ get_or-drop i old 0 None ∙ ap (slot_at old) right

-- whether a number is at an index
pub is_number : (ps : List ℕ) (k n : ℕ) → nat_lt k (length ps) && nat_eq (get_or ps k 0) n ≡ true → (k < length ps) × (get_or ps k 0 ≡ n)
is_number ps k n e =
    let both = and_parts (nat_lt k (length ps)) (nat_eq (get_or ps k 0) n) e in
    ((let lt = both.0 in grind (arith, lt)), number_same (get_or ps k 0) n both.1)

pub isnt_number : (ps : List ℕ) (k n : ℕ) → nat_lt k (length ps) && nat_eq (get_or ps k 0) n ≡ false → k < length ps → get_or ps k 0 ≡ n → ⊥
isnt_number ps k n e lt is =
    let first : nat_lt k (length ps) ≡ true = grind (arith, lt) in
    false≢true (sym e ∙ ap (λ b. b && nat_eq (get_or ps k 0) n) first ∙ same_number (get_or ps k 0) n is)

module _ (old : Slots) (ps : List ℕ) where
  pub record IsKept (new : Slots) (slot place kept : ℕ) : Type 0 where
    pub long : length new ≡ length old
    pub passed : place ≡ length (held (take slot old))
    pub fits : kept ≤ length ps
    pub ahead : (j : ℕ) → kept ≤ j → j < length ps → place ≤ get_or ps j 0
    pub value : held (take slot new) ≡ picked (held old) (take kept ps)
    pub rest : drop slot new ≡ drop slot old

  pub kept-none : IsKept old 0 0 0
  kept-none = record { long = refl; passed = refl; fits = omega arith; ahead = λ j le lt. omega arith; value = refl; rest = refl }

  pub kept-empty : (new : Slots) (slot place kept : ℕ) → IsKept new slot place kept → slot < length old → slot_at new slot ≡ None → IsKept new (slot + 1) place kept
  kept-empty new slot place kept so lt is =
      let long = so.long in
      let was : slot_at old slot ≡ None = sym (same_slot new old slot so.rest) ∙ is in
      record {
        long = so.long;
        passed = so.passed ∙ sym (ap (λ l. length l) (held-more old slot lt ∙ ap (λ s. held (take slot old) ++ held (s ∷ [])) was ∙ append-nil (held (take slot old))));
        fits = so.fits;
        ahead = so.ahead;
        value = held-more new slot (omega (arith, lt, long)) ∙ ap (λ s. held (take slot new) ++ held (s ∷ [])) is ∙ append-nil (held (take slot new)) ∙ so.value;
        rest = drop_more_same new old slot so.rest;
      }

  module _ (up : Ascends 0 ps) (new : Slots) (slot place kept : ℕ) (c : KeptView) (so : IsKept new slot place kept) (lt : slot < length old) (is : slot_at new slot ≡ Some c) where
    was : slot_at old slot ≡ Some c
    was = sym (same_slot new old slot so.rest) ∙ is

    passed_more : place + 1 ≡ length (held (take (slot + 1) old))
    passed_more =
        ap (λ n. n + 1) so.passed
        ∙ sym (ap (λ l. length l) (held-more old slot lt ∙ ap (λ s. held (take slot old) ++ held (s ∷ [])) was) ∙ length-append (held (take slot old)) (c ∷ []))

    at_place : get_or (held old) place blank ≡ c
    at_place = ap (λ n. get_or (held old) n blank) so.passed ∙ held-nth old slot c blank was

    pub kept-here : kept < length ps → get_or ps kept 0 ≡ place → IsKept new (slot + 1) (place + 1) (kept + 1)
    kept-here below here =
        let long = so.long in
        record {
          long = so.long;
          passed = passed_more;
          fits = omega (arith, below);
          ahead = λ j le lj. let rises = rising-places 0 ps up kept j 0 (omega (arith, le)) lj in omega (arith, rises, here);
          value = held-more new slot (omega (arith, lt, long)) ∙ ap (λ s. held (take slot new) ++ held (s ∷ [])) is ∙ ap (λ l. l ++ c ∷ []) so.value
              ∙ ap (λ d. picked (held old) (take kept ps) ++ d ∷ []) (sym (ap (λ p. get_or (held old) p blank) here ∙ at_place))
              ∙ sym (ap (picked (held old)) (take_more ps kept 0 below) ∙ map-append (λ p. get_or (held old) p blank) (take kept ps) (get_or ps kept 0 ∷ []));
          rest = drop_more_same new old slot so.rest;
        }

    pub kept-out : (kept < length ps → get_or ps kept 0 ≡ place → ⊥) → IsKept (set new slot None) (slot + 1) (place + 1) kept
    kept-out other =
        let long = so.long in
        record {
          long = length-set new slot None ∙ so.long;
          passed = passed_more;
          fits = so.fits;
          ahead = further;
          value = ap held (take_more_set new slot None (omega (arith, lt, long))) ∙ filter_map-append (λ s. s) (take slot new) (None ∷ []) ∙ append-nil (held (take slot new)) ∙ so.value;
          rest = drop-set-lt (slot + 1) new slot None (omega arith) ∙ drop_more_same new old slot so.rest;
        }
      where
        first : kept < length ps → place + 1 ≤ get_or ps kept 0
        first below =
            let least = so.ahead kept (omega arith) below in
            ⊎_elim (λ same. absurd (other below same)) (λ h. ⊎_elim (λ less. absurd (omega (arith, less, least))) (λ more. omega (arith, more)) h) (cases_order (get_or ps kept 0) place)

        further : (j : ℕ) → kept ≤ j → j < length ps → place + 1 ≤ get_or ps j 0
        further j le lj =
            let start = first (omega (arith, le, lj)) in
            ⊎_elim (λ same. subst (λ i. place + 1 ≤ get_or ps i 0) (sym same) start) (λ h. ⊎_elim (λ less. absurd (omega (arith, less, le)))
            (λ more. let rises = rising-places 0 ps up kept j 0 more lj in omega (arith, start, rises)) h) (cases_order j kept)

  pub kept-all : (new : Slots) (slot place kept : ℕ) → IsKept new slot place kept → length old ≤ slot → All (λ p. p < length (held old)) ps → held new ≡ picked (held old) ps
  kept-all new slot place kept so far inside =
      let long = so.long in
      let passed : place ≡ length (held old) = so.passed ∙ ap (λ s. length (held s)) (take_all slot old far) in
      let done : length ps ≤ kept
      = ⊎_elim (λ less. let least = so.ahead kept (omega arith) less in let below = All-get_or (λ p. p < length (held old)) ps kept 0 less inside in absurd (omega (arith, least, below, passed)))
      (λ from. from) (cases_lt kept (length ps)) in
      sym (ap held (take_all slot new (omega (arith, far, long)))) ∙ so.value ∙ ap (picked (held old)) (take_all kept ps done)

-- ---- what passes at slots that ascend

pub sent-all : (test : KeptView → Bool) (slots : Slots) (ps : List ℕ) → Ascends 0 ps → ((k : ℕ) → has test (slot_at slots k) ≡ true → Contains ps k)
    → filter test (held (map (slot_at slots) ps)) ≡ filter test (held slots)
sent-all test slots ps up sent =
    sym (held-passing test (map (slot_at slots) ps))
    ∙ ap held (picked-passing (has test) None (slot_at slots) 0 slots ps up
    (λ r le. ap (has test) (slot_after slots r (omega (arith, le))))
    (λ k lt. ap (slot_at slots) (nothing k))
    (λ k lt passes. subst (Contains ps) (sym (nothing k)) (sent k passes)))
    ∙ held-passing test slots
  where
    nothing : (k : ℕ) → 0 + k ≡ k
    nothing k = omega arith

pub sent-more : (test : KeptView → Bool) (slots : Slots) (ps : List ℕ) (i : ℕ) (slot : Option KeptView) → i < length ps → slot_at slots (get_or ps i 0) ≡ slot
    → filter test (held (map (slot_at slots) (take (i + 1) ps))) ≡ filter test (held (map (slot_at slots) (take i ps))) ++ filter test (held (slot ∷ []))
sent-more test slots ps i slot lt is =
    ap (λ l. filter test (held (map (slot_at slots) l))) (take_more ps i 0 lt)
    ∙ ap (λ l. filter test (held l)) (map-append (slot_at slots) (take i ps) (get_or ps i 0 ∷ []))
    ∙ ap (filter test) (filter_map-append (λ s. s) (map (slot_at slots) (take i ps)) (slot_at slots (get_or ps i 0) ∷ []) ∙ ap (λ s. held (map (slot_at slots) (take i ps)) ++ held (s ∷ [])) is)
    ∙ filter-append test (held (map (slot_at slots) (take i ps))) (held (slot ∷ []))
