-- The header of cookies that are ours is ASCII.
use Rattle.std.proofs.Common.{◌≡◌, ℕ, true, List, [], ◌∷◌, ◌++◌, map, codes, refl, sym, subst, All, arith}
use Rattle.std.proofs.lemmas.List.Elements.{All-head, All-tail}
use Rattle.std.specs.Str.{IsUtf8}
use Rattle.std.proofs.lemmas.Str.{IsUtf8-append, IsUtf8-from_ascii, IsUtf8-nil}
use Rattle.cookie.specs.Escapes.{escape}
use Rattle.cookie.specs.Header.{joined_texts, more_joined}
use Rattle.cookie.specs.Jar.{Name}
use Rattle.cookie_core.proofs.ByteLemmas.{is_low, all-weaker, IsAscii-from_test}
use Rattle.cookie_core.proofs.EscapeTextLemmas.{is_token, escape_is_tokens}
use Rattle.std.proofs.lemmas.Bool.Decides.{nat_tests}
use Rattle.cookie_browser.specs.Storage.{KeptView, CookieStore}
use Rattle.cookie_theorems.specs.Agreement.{IsOurs, PlanView}
use Rattle.cookie_agent.specs.Sent.{name_part, sent_pair}

token_is_low : (b : ℕ) → is_token b ≡ true → is_low b ≡ true
token_is_low b h = grind (arith, nat_tests)

escaped_utf8 : (t : List ℕ) → IsUtf8 (escape t)
escaped_utf8 t = IsUtf8-from_ascii (escape t) (IsAscii-from_test (escape t) (all-weaker is_token is_low token_is_low (escape t) (escape_is_tokens t)))

equals_utf8 : IsUtf8 (61 ∷ [])
equals_utf8 = IsUtf8-from_ascii (61 ∷ []) (IsAscii-from_test (61 ∷ []) refl)

named_utf8 : (n : List ℕ) → IsUtf8 n → IsUtf8 (name_part n)
named_utf8 [] u = u
named_utf8 (b ∷ bs) u = IsUtf8-append (b ∷ bs) (61 ∷ []) u equals_utf8

module _ (plans : Name → PlanView) where
  pair_utf8 : (c : KeptView) → IsOurs plans c → IsUtf8 (sent_pair c)
  pair_utf8 c o =
      IsUtf8-append (name_part c.name) c.value (named_utf8 c.name (subst IsUtf8 (sym o.names) (escaped_utf8 o.name))) (subst IsUtf8 (sym o.values) (escaped_utf8 o.value))

  more_utf8 : (cs : CookieStore) → All (IsOurs plans) cs → IsUtf8 (more_joined (map sent_pair cs))
  more_utf8 [] all = IsUtf8-nil
  more_utf8 (c ∷ cs) all =
      IsUtf8-append (codes "; ") (sent_pair c ++ more_joined (map sent_pair cs)) (IsUtf8-from_ascii (codes "; ") (IsAscii-from_test (codes "; ") refl))
      (IsUtf8-append (sent_pair c) (more_joined (map sent_pair cs)) (pair_utf8 c (All-head (IsOurs plans) c cs all)) (more_utf8 cs (All-tail (IsOurs plans) c cs all)))

  pub joined_utf8 : (cs : CookieStore) → All (IsOurs plans) cs → IsUtf8 (joined_texts (map sent_pair cs))
  joined_utf8 [] all = IsUtf8-nil
  joined_utf8 (c ∷ cs) all =
      IsUtf8-append (sent_pair c) (more_joined (map sent_pair cs)) (pair_utf8 c (All-head (IsOurs plans) c cs all)) (more_utf8 cs (All-tail (IsOurs plans) c cs all))
