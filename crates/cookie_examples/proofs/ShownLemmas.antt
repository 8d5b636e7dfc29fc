-- What a jar shows after an addition.
use Rattle.std.proofs.Common.{◌≡◌, ℕ, List, true, cond, Some, refl, sym, ap, ◌∙◌, subst, IsUtf8}
use Rattle.std.proofs.lemmas.Slice.Eq.{bytes_eq-Decides}
use Rattle.std.specs.Str.{bytes_eq}
use Rattle.cookie.proofs.JarLemmas.{view-added}
use Rattle.cookie.specs.Jar.{Name, JarState, Add, after, view}
use Rattle.cookie.specs.Record.{Record}
use Rattle.cookie.specs.AnswersExactly.{IsStoredFor}
use Rattle.cookie.specs.Sealing.{CanSeal, IsNonce, IsSealingOf, sealed_cookie}

-- the cookie that was added
shown-added : (jar new : JarState) (cookie : Record) (name : Name) → cookie.name ≡ name → new ≡ after (Add cookie) jar → view new name ≡ Some cookie
shown-added jar new cookie name named is =
    let here : bytes_eq name cookie.name ≡ true = (bytes_eq-Decides name cookie.name).1 (sym named) in
    ap (λ j. view j name) is ∙ view-added jar cookie name ∙ ap (λ b. cond b (Some cookie) (view jar name)) here

-- the user whose name was sealed into the cookie that was added
pub sealed-added : (key nonce user : List ℕ) (jar new : JarState) (cookie : Record) (name : Name) → IsNonce nonce → CanSeal cookie → IsUtf8 user
    → cookie.name ≡ name → cookie.value ≡ user → new ≡ after (Add (sealed_cookie key nonce cookie)) jar → IsStoredFor (IsSealingOf key) (view new name) user
sealed-added key nonce user jar new cookie name is_nonce within is_text named valued is =
    let stands : IsSealingOf key (sealed_cookie key nonce cookie) cookie.value =
    record { is_text = subst IsUtf8 (sym valued) is_text; sealable = within; sealed = (nonce, is_nonce, refl) } in
    subst (λ shown. IsStoredFor (IsSealingOf key) shown user) (sym (shown-added jar new (sealed_cookie key nonce cookie) name named is))
    (subst (IsSealingOf key (sealed_cookie key nonce cookie)) valued stands)
