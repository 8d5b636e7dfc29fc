-- A visit that calls make is one that the agent follows.
use Rattle.std.proofs.Common.{ℕ, ◌≡◌, Bool, true, false, cond, List, [], ◌∷◌, ◌⊎◌, inl, inr, map, All, Option, Some, None, refl, sym, ap, subst, ◌∙◌}
use Rattle.std.proofs.lemmas.List.Elements.{All-head, All-tail, All-filter}
use Rattle.std.proofs.lemmas.List.Sorted.{All-permutation}
use Rattle.std.proofs.lemmas.Option.{none-some, same_Some}
use Rattle.std.specs.FinMap.{FinMap, get, get-empty}
use Rattle.std.specs.Option.{is_some}
use Rattle.std.specs.Str.{bytes_eq, IsUtf8}
use Rattle.cookie.specs.Jar.{Name, name_cmp, Marked, JarState, AddOriginal, after, empty_jar, overlay, view, Change}
use Rattle.cookie.specs.Normal.{IsNamed}
use Rattle.cookie.specs.Record.{Record}
use Rattle.cookie.proofs.NameLemmas.{get_inserted}
use Rattle.cookie.proofs.OriginalLemmas.{same_delta}
use Rattle.cookie_theorems.specs.Agreement.{IsOurs, IsOurStore, IsPlannedEntry, IsPlannedDelta, PlanView}
use Rattle.cookie_theorems.specs.PlannedCalls.{IsPlannedChange}
use Rattle.cookie_client.specs.Calls.{IsKnownChange}
use Rattle.cookie_browser.specs.Storage.{CookieStore, is_sent}
use Rattle.cookie_browser.specs.Suffixes.{Rule}
use Rattle.cookie_browser.specs.Request.{RequestView}
use Rattle.jiff.specs.Types.{DateTime}
use Rattle.cookie.specs.History.{after_all}
use Rattle.cookie_client.proofs.EntryLemmas.{chosen, AreEntries-empty}
use Rattle.cookie_theorems.proofs.VisitLemmas.{IsFollowable}
use Rattle.cookie_agent.specs.Sent.{visible, IsHeader}
use Rattle.cookie.specs.Originals.{field_cookies, jar_for, with_original, with_originals}
use Rattle.cookie_theorems.proofs.PlannedCallLemmas.{planned_delta, originals_stay}
use Rattle.cookie_theorems.proofs.AgentHeaderLemmas.{plain_of, named_of, read_as}

-- the originals are those cookies
abbrev AreNamed : JarState → Type 0
AreNamed jar = (name : Name) (c : Record) → get jar.originals name ≡ Some c → IsNamed c

one_named : (c : Record) (jar : JarState) → IsNamed c → AreNamed jar → AreNamed (after (AddOriginal c) jar)
one_named c jar h all name d e = by (chosen (bytes_eq name c.name) (Some c) (get jar.originals name) (Some d) (sym (get_inserted jar.originals c.name c name) ∙ e))
  where
    by : ((bytes_eq name c.name ≡ true) × (Some c ≡ Some d)) ⊎ ((bytes_eq name c.name ≡ false) × (get jar.originals name ≡ Some d)) → IsNamed d
    by (inl (same, is)) = subst IsNamed (same_Some c d is) h
    by (inr (other, is)) = all name d is

given_named : (c : Record) (jar : JarState) → IsNamed c → AreNamed jar → AreNamed (with_original c jar)
given_named c jar h all = by (is_some (get jar.originals c.name))
  where
    by : (b : Bool) → AreNamed (cond b jar (after (AddOriginal c) jar))
    by true = all
    by false = one_named c jar h all

all_named : (cs : List Record) → All IsNamed cs → (jar : JarState) → AreNamed jar → AreNamed (with_originals cs jar)
all_named [] hs jar all = all
all_named (c ∷ cs) hs jar all = all_named cs (All-tail IsNamed c cs hs) (with_original c jar) (given_named c jar (All-head IsNamed c cs hs) all)

none_named : AreNamed empty_jar
none_named name c e = absurd (none-some c (sym (get-empty name_cmp name) ∙ e))

-- the delta that planned changes leave, on a jar with a header's cookies as its originals
pub planned_delta_of : (rules : List Rule) (plans : Name → PlanView) (site : RequestView) (now : DateTime) (header : List ℕ) (changes : List Change)
    → All IsKnownChange changes → All (IsPlannedChange rules site now plans) changes
    → IsPlannedDelta rules site now plans (after_all changes (jar_for header)).delta
planned_delta_of rules plans site now header changes known planned =
    planned_delta rules site now plans changes (jar_for header) known planned
    (subst (IsPlannedDelta rules site now plans) (sym (same_delta (field_cookies header) empty_jar)) (AreEntries-empty (IsPlannedEntry rules site now plans)))

module _ (rules : List Rule) (plans : Name → PlanView) (before : CookieStore) (ours : IsOurStore plans before) (site : RequestView) (now : DateTime)
    (header : List ℕ) (sent : IsHeader site now before header) (changes : List Change) (known : All IsKnownChange changes) (planned : All (IsPlannedChange rules site now plans) changes) where
  abbrev start : JarState
  start = jar_for header

  abbrev jar : JarState
  jar = after_all changes start

  delta : IsPlannedDelta rules site now plans jar.delta
  delta = planned_delta_of rules plans site now header changes known planned

  start_named : AreNamed start
  start_named =
      let every : All (IsOurs plans) sent.cookies
      = All-permutation (IsOurs plans) (visible site now before) sent.cookies sent.sent (All-filter (is_sent site now) (IsOurs plans) before ours.each) in
      let read : field_cookies header ≡ map plain_of sent.cookies = read_as plans header sent.cookies every sent.text in
      all_named (field_cookies header) (subst (All IsNamed) (sym read) (named_of plans sent.cookies every)) empty_jar none_named

  of_entry : (entry : Marked) (original : Option Record) (c : Record) (b : Bool) → IsNamed entry.cookie → cond b None (Some entry.cookie) ≡ Some c → IsUtf8 c.value
  of_entry entry original c true h e = absurd (none-some c e)
  of_entry entry original c false h e = subst (λ (d : Record). IsUtf8 d.value) (same_Some entry.cookie c e) h.cookie.value

  shown : (name : Name) (c : Record) (o : Option Marked) → get jar.delta name ≡ o → view jar name ≡ Some c → IsUtf8 c.value
  shown name c None stands e =
      (start_named name c (sym (ap (λ (m : FinMap name_cmp Record). get m name) (originals_stay rules site now plans changes start planned)) ∙ sym (ap (λ p. overlay p (get jar.originals name)) stands) ∙ e)).cookie.value
  shown name c (Some entry) stands e =
      of_entry entry (get jar.originals name) c entry.removed ((delta name entry stands).cookie) (sym (ap (λ p. overlay p (get jar.originals name)) stands) ∙ e)

  -- such a request is one that the agent follows
  pub followable : IsFollowable rules plans before site now header jar
  followable =
      record {
        sent = sent;
        originals = originals_stay rules site now plans changes start planned;
        planned = delta;
        known = λ name c e. shown name c (get jar.delta name) refl e;
      }
