-- A user agent for C: what a call makes of its handle.
use Rattle.std.proofs.Common.{◌≡◌, ℕ, ◌≤◌, ℤ, pos, ◌+ℤ◌, ◌-ℤ◌, ◌⊎◌, inl, inr, ◌↔◌, true, false, Option, Some, None, IsNone, IsSome, IsSomeAnd, IfSome, Ok, Err, MatchResult, option_map, refl, sym, ap, subst, ◌∙◌, arith}
use Rattle.std.specs.Prelude.{Result, int_div}
use Rattle.jiff.specs.Types.{DateTime}
use Rattle.jiff.specs.Words.{IsDurationNanos, civil_nanos, signed_nanos}
use Rattle.jiff.specs.declared.SignedDuration.{SignedDuration}
use Rattle.jiff.proofs.SpanFacts.{signed_arith}
use Rattle.cookie_browser.specs.Request.{RequestView}
use Rattle.cookie_agent.specs.declared.saved.form.SavedForm.{SavedForm}
use Rattle.cookie_browser.specs.Storage.{KeptView}
use Rattle.cookie_session.specs.Seconds.{from_zero}
use Rattle.cookie_c.specs.Agents.{HasTexts, IfSeen, IsTooFar, seen_request}
use Rattle.cookie_c.specs.ExplanationParts.{IsDraftOf}
use Rattle.cookie_c.specs.Explanations.{seconds_until}
use Rattle.cookie_c.specs.SavedAgents.{ForForm, InForm, form_of}
use Rattle.cookie_c.specs.Sites.{AtSecond, IsAtSecond, last_second}
use Rattle.cookie_c.specs.declared.explanation.draft.Draft.{Draft}
use Rattle.cookie_c.specs.declared.explanation.request.Request.{Request}
use Rattle.cookie_c.specs.declared.status.Status.{Status}
use Rattle.cookie_c.specs.declared.status.Status.TheVariants as status
use Rattle.cookie_c.proofs.SiteLemmas.{at_second}

-- a call in the form of this number, in a second of a date
pub for_form : (number second : ℕ) (Holds : SavedForm → DateTime → Type 0) (Refuses : Status → Type 0) (form : SavedForm) (time : DateTime)
    → Some form ≡ form_of number → (second ≤ last_second) × IsAtSecond second time → Holds form time → ForForm number second Holds Refuses
for_form number second Holds Refuses form time some is holds =
    subst (λ f. InForm f (λ x. AtSecond second (Holds x) Refuses) Refuses) some (at_second second (Holds form) Refuses time is holds)

-- a call for a request that the agent sees
pub seen_told : (request : Request) (site : RequestView) (Holds : RequestView → Type 0) (Refuses : Status → Type 0)
    → HasTexts request × (site ≡ seen_request request) → Holds site ⊎ Refuses status.OutOfMemory
    → IfSeen request Holds Refuses
seen_told request site Holds Refuses is (inl holds) = inl (is.0, subst Holds is.1 holds)
seen_told request site Holds Refuses is (inr refuses) = inr (status.OutOfMemory, inr refl, refuses)

-- the draft of a stored cookie is that of its view without its times, and of these
pub kept_draft : (now : DateTime) (cookie kept : KeptView) (lifetime : Option ℕ) (expiry : Option ℤ) (draft : Draft)
    → kept ≡ record cookie { expiry = None; last_access = pos 0 } → expiry ≡ cookie.expiry
    → lifetime ≡ option_map (seconds_until now) expiry
    → ((time : DateTime) (end : Option ℤ) (last : ℤ) → lifetime ≡ option_map (seconds_until time) end
    → IsDraftOf time (Ok (record kept { expiry = end; last_access = last })) draft)
    → IsDraftOf now (Ok cookie) draft
kept_draft now cookie kept lifetime expiry draft is at left made =
    subst (λ k. IsDraftOf now (Ok (record k { expiry = cookie.expiry; last_access = cookie.last_access })) draft) is
    (made now cookie.expiry cookie.last_access (left ∙ ap (option_map (seconds_until now)) at))

-- the whole seconds up to an expiry that is so long after a moment
pub left_told : (now moment : DateTime) (age since : SignedDuration) (left : Option SignedDuration) (end : Option ℤ) (result : Result (Option ℕ) Status)
    → end ≡ Some (civil_nanos moment +ℤ signed_nanos age) → signed_nanos since ≡ civil_nanos now -ℤ civil_nanos moment
    → (IsSome left ↔ IsDurationNanos (signed_nanos age -ℤ signed_nanos since))
    → IfSome left (λ d. signed_nanos d ≡ signed_nanos age -ℤ signed_nanos since)
    → MatchResult result (λ seconds. IsSomeAnd left (λ time. seconds ≡ Some (from_zero (int_div (signed_nanos time) (pos 1000000000)))))
    (λ why. (why ≡ status.NoDate) × IsNone left)
    → MatchResult result (λ seconds. seconds ≡ option_map (seconds_until now) end) (λ why. (why ≡ status.NoDate) × IsTooFar now end)
left_told now moment age since (Some time) end (Ok seconds) ends is fits value told =
    let same : signed_nanos time ≡ civil_nanos moment +ℤ signed_nanos age -ℤ civil_nanos now = omega (arith, signed_arith, value, is) in
    told ∙ ap (λ n. Some (from_zero (int_div n (pos 1000000000)))) same ∙ ap (option_map (seconds_until now)) (sym ends)
left_told now moment age since None end (Ok seconds) ends is fits value told = absurd told
left_told now moment age since (Some time) end (Err why) ends is fits value told = let never : true ≡ false = told.1 in cc
left_told now moment age since None end (Err why) ends is fits value told =
    let same : civil_nanos moment +ℤ signed_nanos age -ℤ civil_nanos now ≡ signed_nanos age -ℤ signed_nanos since = omega (arith, signed_arith, is) in
    subst (λ e. (why ≡ status.NoDate) × IsTooFar now e) (sym ends)
    (told.0, λ within. let never : false ≡ true = fits.1 (subst IsDurationNanos same within) in cc)
