-- What the changes of a jar put into its delta.
use Rattle.std.proofs.Common.{◌≡◌, List, [], ◌∷◌, inl, inr, refl, ◌∙◌, All, arith}
use Rattle.std.proofs.lemmas.List.Elements.{All-nil, All-cons, All-head, All-tail}
use Rattle.std.proofs.lemmas.Str.{IsUtf8-nil}
use Rattle.jiff.specs.Types.{DateTime}
use Rattle.jiff.proofs.SpanFacts.{signed_arith}
use Rattle.cookie.specs.History.{after_all}
use Rattle.cookie.specs.Jar.{Name, JarState, Change, AddOriginal, Add, Remove, ForceRemove, ResetDelta, after}
use Rattle.cookie_client.specs.Calls.{IsKnownChange}
use Rattle.cookie_client.proofs.EntryLemmas.{AreEntries-after_all, Puts}
use Rattle.cookie_theorems.specs.Agreement.{IsPlannedEntry, IsPlannedDelta, PlanView}
use Rattle.cookie_theorems.specs.PlannedCalls.{IsPlannedChange}
use Rattle.cookie_browser.specs.Request.{RequestView}
use Rattle.cookie_browser.specs.Suffixes.{Rule}

module _ (rules : List Rule) (site : RequestView) (now : DateTime) (plans : Name → PlanView) where
  puts_planned : (change : Change) → IsKnownChange change → IsPlannedChange rules site now plans change → Puts (IsPlannedEntry rules site now plans) change
  puts_planned (AddOriginal cookie) known h = tt
  puts_planned (Add cookie) known h =
      record { cookie = record { cookie = known; name = h.name }; key = refl; planned = h.planned; fate = inr (refl, h.sent) }
  puts_planned (Remove cookie moment) known h =
      record {
        cookie = record {
          cookie = record { name = known.name; value = IsUtf8-nil; path = known.path; domain = known.domain; max_age = (omega (arith, signed_arith), omega (arith, signed_arith)) };
          name = h.name;
        };
        key = refl;
        planned = h.planned;
        fate = inl (refl, h.expired);
      }
  puts_planned (ForceRemove name) known h = tt
  puts_planned ResetDelta known h = tt

  all_put : (changes : List Change) → All IsKnownChange changes → All (IsPlannedChange rules site now plans) changes → All (Puts (IsPlannedEntry rules site now plans)) changes
  all_put [] ks hs = All-nil (Puts (IsPlannedEntry rules site now plans))
  all_put (change ∷ changes) ks hs =
      All-cons (Puts (IsPlannedEntry rules site now plans)) change changes
      (puts_planned change (All-head IsKnownChange change changes ks) (All-head (IsPlannedChange rules site now plans) change changes hs))
      (all_put changes (All-tail IsKnownChange change changes ks) (All-tail (IsPlannedChange rules site now plans) change changes hs))

  -- each entry of the delta is scoped
  pub planned_delta : (changes : List Change) (jar : JarState) → All IsKnownChange changes → All (IsPlannedChange rules site now plans) changes
      → IsPlannedDelta rules site now plans jar.delta → IsPlannedDelta rules site now plans (after_all changes jar).delta
  planned_delta changes jar ks hs before = AreEntries-after_all (IsPlannedEntry rules site now plans) changes jar (all_put changes ks hs) before

  original_stays : (change : Change) (jar : JarState) → IsPlannedChange rules site now plans change → (after change jar).originals ≡ jar.originals
  original_stays (AddOriginal cookie) jar h = absurd h
  original_stays (Add cookie) jar h = refl
  original_stays (Remove cookie moment) jar h = refl
  original_stays (ForceRemove name) jar h = absurd h
  original_stays ResetDelta jar h = refl

  -- and the originals stay
  pub originals_stay : (changes : List Change) (jar : JarState) → All (IsPlannedChange rules site now plans) changes → (after_all changes jar).originals ≡ jar.originals
  originals_stay [] jar hs = refl
  originals_stay (change ∷ changes) jar hs =
      originals_stay changes (after change jar) (All-tail (IsPlannedChange rules site now plans) change changes hs)
      ∙ original_stays change jar (All-head (IsPlannedChange rules site now plans) change changes hs)
