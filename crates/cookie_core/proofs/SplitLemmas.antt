-- What a loop over a splitter learns of an item.
use Rattle.std.proofs.Common.{◌≡◌, ℕ, List, ◌∷◌, Bool, true, false, Some, Result, subst}
use Rattle.cookie_core.specs.Decoding.{ReadsInMemory, AgreesInMemory}
use Rattle.cookie_core.specs.Reads.{record_or_refusal}
use Rattle.cookie_core.specs.Record.{Record, CookieView}
use Rattle.cookie_core.specs.SplitCookies.{SplitView, ReadsItem, NextCookie}
use Rattle.cookie_core.specs.declared.parse_error.ParseError.{ParseError}
use Rattle.cookie_core.proofs.DecodeLemmas.{AgreesInMemory-reads, ReadsInMemory-reads}

ReadsInMemory-item : (decode own : Bool) (t : List ℕ) (o : Result Record ParseError) → ReadsItem decode own t o → ReadsInMemory decode t o
ReadsInMemory-item false false t o h = ReadsInMemory-reads false t o h
ReadsInMemory-item true false t o h = h
ReadsInMemory-item false true t o h = h
ReadsInMemory-item true true t o h = h

-- each item of each splitter: the answer is that of `cookie_of`, unless memory was wanting
pub NextCookie-agrees : (s s' : SplitView) (o : Result CookieView ParseError) → NextCookie s (Some o) s' → (t : List ℕ) × (s.texts ≡ t ∷ s'.texts) × AgreesInMemory s.is_decoded t (record_or_refusal o)
NextCookie-agrees s s' o (t, e, item, _) =
    (t, e, AgreesInMemory-reads s.is_decoded t (record_or_refusal o) (ReadsInMemory-item s.is_decoded s.is_owned t (record_or_refusal o) item.reads))

-- an item of a decoding splitter
pub NextCookie-decodes : (s s' : SplitView) (o : Result CookieView ParseError) → s.is_decoded ≡ true → NextCookie s (Some o) s' → (t : List ℕ) × (s.texts ≡ t ∷ s'.texts) × AgreesInMemory true t (record_or_refusal o)
NextCookie-decodes s s' o d h =
    let all = NextCookie-agrees s s' o h in
    (all.0, all.1, subst (λ b. AgreesInMemory b all.0 (record_or_refusal o)) d all.2)
