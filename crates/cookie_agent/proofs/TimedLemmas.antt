-- Slots whose cookies are listed at their expiries: what each change leaves.
use Rattle.std.proofs.Common.{◌≡◌, ◌≢◌, ◌⊎◌, ℕ, ℤ, Bool, true, false, not, cond, int_lt, [], ◌∷◌, ◌++◌, length, filter, Option, None, Some, option_map, inl, inr, refl, sym, ap, subst, ◌∙◌, ⊎_elim}
use Rattle.std.proofs.Math.ListN.{set}
use Rattle.std.proofs.lemmas.Bool.{cases_eq}
use Rattle.std.proofs.lemmas.List.{get_or-set_other, get_or-set_same, length-set}
use Rattle.jiff.specs.Types.{DateTime}
use Rattle.jiff.specs.Words.{civil_nanos}
use Rattle.cookie_browser.specs.Request.{RequestView}
use Rattle.cookie_browser.specs.Storage.{KeptView, is_sent, lasts}
use Rattle.cookie_agent.specs.ExpiriesCode.{IsAfter, IsTimed}
use Rattle.cookie_agent.specs.RowsCode.{AreTimed, Slots, has, held, slot_at}
use Rattle.cookie_agent.specs.Sent.{accessed}
use Rattle.cookie_agent.specs.declared.expiries.Expiries.{Expiries}
use Rattle.cookie_agent.proofs.SlotLemmas.{EachSlot, each-but, each-push, held-left, left, none_some, slot_below, some_has, some_is}

-- ---- a write to one slot

module _ (old new : Expiries) (slots : Slots) (timed : AreTimed old slots) where
  pub timed-put : (p : ℕ) (x : KeptView) → ((n : ℕ) (o : Option ℤ) → n ≢ p → IsTimed old n o → IsTimed new n o) → IsTimed new p x.expiry → AreTimed new (set slots p (Some x))
  timed-put p x others here =
      each-but (λ k c. IsTimed new k c.expiry) slots p (Some x) (λ k c other e. others k c.expiry other (timed k c e)) (λ c e. subst (λ (d : KeptView). IsTimed new p d.expiry) (some_is x c e) here)

  pub timed-out : (p : ℕ) → ((n : ℕ) (o : Option ℤ) → n ≢ p → IsTimed old n o → IsTimed new n o) → AreTimed new (set slots p None)
  timed-out p others = each-but (λ k c. IsTimed new k c.expiry) slots p None (λ k c other e. others k c.expiry other (timed k c e)) (λ c e. none_some c e)

  pub timed-push : (x : KeptView) → ((n : ℕ) (o : Option ℤ) → IsTimed old n o → IsTimed new n o) → IsTimed new (length slots) x.expiry → AreTimed new (slots ++ Some x ∷ [])
  timed-push x stay here = each-push (λ k c. IsTimed new k c.expiry) slots x (λ k c e. stay k c.expiry (timed k c e)) here

  pub timed-stay : ((n : ℕ) (o : Option ℤ) → IsTimed old n o → IsTimed new n o) → AreTimed new slots
  timed-stay stay k c e = stay k c.expiry (timed k c e)

-- an access leaves the expiry
accessed-expiry : (site : RequestView) (now : DateTime) (slot : Option KeptView) (c : KeptView) → option_map (accessed site now) slot ≡ Some c → (d : KeptView) × (slot ≡ Some d) × (d.expiry ≡ c.expiry)
accessed-expiry site now None c e = none_some c e
accessed-expiry site now (Some d) c e = (d, refl, by (is_sent site now d) ∙ ap (λ (x : KeptView). x.expiry) (some_is (accessed site now d) c e))
  where
    by : (b : Bool) → d.expiry ≡ (cond b (record d { last_access = civil_nanos now }) d).expiry
    by true = refl
    by false = refl

pub timed-accessed : (site : RequestView) (now : DateTime) (expiries : Expiries) (new old : Slots) → ((k : ℕ) → slot_at new k ≡ option_map (accessed site now) (slot_at old k)) → AreTimed expiries old → AreTimed expiries new
timed-accessed site now expiries new old each timed k c e =
    let was = accessed-expiry site now (slot_at old k) c (sym (each k) ∙ e) in
    subst (λ o. IsTimed expiries k o) was.2 (timed k was.0 was.1)

-- ---- what is expired goes

pub lasts-after : (now : DateTime) (time : ℤ) (expiry : Option ℤ) → time ≡ civil_nanos now → lasts expiry now ≡ true → IsAfter time expiry
lasts-after now time None is e = tt
lasts-after now time (Some expiry) is e = ap (λ t. int_lt t expiry) is ∙ e

pub after-lasts : (now : DateTime) (time : ℤ) (expiry : Option ℤ) → time ≡ civil_nanos now → IsAfter time expiry → lasts expiry now ≡ true
after-lasts now time None is e = refl
after-lasts now time (Some expiry) is e = ap (λ t. int_lt t expiry) (sym is) ∙ e

not_false : (b : Bool) → not b ≡ false → b ≡ true
not_false true e = refl
not_false false e = sym e

pub not_true : (b : Bool) → not b ≡ true → b ≡ false
not_true true e = sym e
not_true false e = refl

-- a number is taken off the list whose slot has no cookie that is expired
pub timed-due : (old new : Expiries) (slots : Slots) (p : ℕ) (now : DateTime) (time : ℤ) → AreTimed old slots → time ≡ civil_nanos now
    → ((n : ℕ) (o : Option ℤ) → IsTimed old n o → IsAfter time o ⊎ (n ≢ p) → IsTimed new n o) → has (λ c. not (lasts c.expiry now)) (slot_at slots p) ≡ false → AreTimed new slots
timed-due old new slots p now time timed is due fresh k c e =
    due k c.expiry (timed k c e) (⊎_elim
    (λ same. inl (lasts-after now time c.expiry is (not_false (lasts c.expiry now) (sym (some_has (λ d. not (lasts d.expiry now)) (slot_at slots p) c (ap (slot_at slots) (sym same) ∙ e)) ∙ fresh))))
    (λ other. inr other) (cases_eq k p))

-- some cookies that don't pass are gone
module _ (test : KeptView → Bool) (old : Slots) where
  pub record IsRid (new : Slots) : Type 0 where
    pub long : length new ≡ length old
    pub each : (k : ℕ) → left test (slot_at new k) ≡ left test (slot_at old k)

  pub rid-out : (new : Slots) (p : ℕ) (c : KeptView) → IsRid new → slot_at new p ≡ Some c → test c ≡ false → IsRid (set new p None)
  rid-out new p c so is goes = record {
    long = length-set new p None ∙ so.long;
    each = λ k. ⊎_elim
        (λ same. subst (λ j. left test (slot_at (set new p None) j) ≡ left test (slot_at old j)) (sym same)
        (ap (left test) (get_or-set_same new p None None (slot_below new p c is)) ∙ sym (ap (left test) is ∙ ap (λ b. cond b (Some c) None) goes) ∙ so.each p))
        (λ other. ap (left test) (get_or-set_other new p k None None other) ∙ so.each k) (cases_eq k p);
  }

  stays : (slot : Option KeptView) → ((c : KeptView) → slot ≡ Some c → test c ≡ true) → slot ≡ left test slot
  stays None passes = refl
  stays (Some c) passes = sym (ap (λ b. cond b (Some c) None) (passes c refl))

  -- and then all of them
  pub rid-all : (new : Slots) → IsRid new → EachSlot (λ k c. test c ≡ true) new → held new ≡ filter test (held old)
  rid-all new so passes = held-left test new old so.long (λ k. stays (slot_at new k) (passes k) ∙ so.each k)
