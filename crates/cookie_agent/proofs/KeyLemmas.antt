-- When two stored cookies are the same one.
use Rattle.std.proofs.Common.{◌≡◌, ℕ, ◌&&◌, Bool, true, false, List, refl, sym, ap, ◌∙◌}
use Rattle.std.proofs.lemmas.Bool.{and_parts, false≢true}
use Rattle.std.proofs.lemmas.Slice.Eq.{bytes_eq-Decides}
use Rattle.std.specs.Str.{bytes_eq}
use Rattle.cookie_browser.specs.Storage.{KeptView, is_same_cookie, both_or_neither}
use Rattle.cookie_agent.specs.Scopes.{ScopeView, scope_of}

-- a test of two texts answers the same with the texts turned
pub turned_test : (a b : List ℕ) → bytes_eq a b ≡ bytes_eq b a
turned_test a b = by (bytes_eq a b) (bytes_eq b a) refl refl
  where
    by : (r s : Bool) → bytes_eq a b ≡ r → bytes_eq b a ≡ s → r ≡ s
    by true true e f = refl
    by false false e f = refl
    by true false e f = absurd (false≢true (sym f ∙ (bytes_eq-Decides b a).1 (sym ((bytes_eq-Decides a b).0 e))))
    by false true e f = absurd (false≢true (sym e ∙ (bytes_eq-Decides a b).1 (sym ((bytes_eq-Decides b a).0 f))))

turned_flags : (a b : Bool) → both_or_neither a b ≡ both_or_neither b a
turned_flags true true = refl
turned_flags true false = refl
turned_flags false true = refl
turned_flags false false = refl

pub same_flags : (a b : Bool) → both_or_neither a b ≡ true → a ≡ b
same_flags true true e = refl
same_flags false false e = refl
same_flags true false e = absurd (false≢true e)
same_flags false true e = absurd (false≢true e)

pub flag_itself : (a : Bool) → both_or_neither a a ≡ true
flag_itself true = refl
flag_itself false = refl

-- what two of one key have in common
pub record Alike (a b : KeptView) : Type 0 where
  pub name : a.name ≡ b.name
  pub domain : a.domain ≡ b.domain
  pub flag : a.is_host_only ≡ b.is_host_only
  pub path : a.path ≡ b.path

pub alike : (a b : KeptView) → is_same_cookie a b ≡ true → Alike a b
alike a b e =
    let first = and_parts (bytes_eq a.name b.name) (bytes_eq a.domain b.domain && (both_or_neither a.is_host_only b.is_host_only && bytes_eq a.path b.path)) e in
    let second = and_parts (bytes_eq a.domain b.domain) (both_or_neither a.is_host_only b.is_host_only && bytes_eq a.path b.path) first.1 in
    let third = and_parts (both_or_neither a.is_host_only b.is_host_only) (bytes_eq a.path b.path) second.1 in
    record {
      name = (bytes_eq-Decides a.name b.name).0 first.0;
      domain = (bytes_eq-Decides a.domain b.domain).0 second.0;
      flag = same_flags a.is_host_only b.is_host_only third.0;
      path = (bytes_eq-Decides a.path b.path).0 third.1;
    }

pub same_named : (a b : KeptView) → is_same_cookie a b ≡ true → a.name ≡ b.name
same_named a b e = (alike a b e).name

pub itself : (b : KeptView) → is_same_cookie b b ≡ true
itself b =
    ap (λ r. r && (bytes_eq b.domain b.domain && (both_or_neither b.is_host_only b.is_host_only && bytes_eq b.path b.path))) ((bytes_eq-Decides b.name b.name).1 refl)
    ∙ ap (λ r. r && (both_or_neither b.is_host_only b.is_host_only && bytes_eq b.path b.path)) ((bytes_eq-Decides b.domain b.domain).1 refl)
    ∙ ap (λ r. r && bytes_eq b.path b.path) (flag_itself b.is_host_only)
    ∙ (bytes_eq-Decides b.path b.path).1 refl

-- cookies of one name and one scope are the same one
pub same_settled : (a b : KeptView) → a.name ≡ b.name → scope_of a ≡ scope_of b → is_same_cookie a b ≡ true
same_settled a b n s =
    ap (λ t. bytes_eq t b.name && (bytes_eq a.domain b.domain && (both_or_neither a.is_host_only b.is_host_only && bytes_eq a.path b.path))) n
    ∙ ap (λ (t : ScopeView). bytes_eq b.name b.name && (bytes_eq t.domain b.domain && (both_or_neither t.is_host_only b.is_host_only && bytes_eq t.path b.path))) s
    ∙ itself b

pub turned_key : (a b : KeptView) → is_same_cookie a b ≡ is_same_cookie b a
turned_key a b =
    ap (λ t. t && (bytes_eq a.domain b.domain && (both_or_neither a.is_host_only b.is_host_only && bytes_eq a.path b.path))) (turned_test a.name b.name)
    ∙ ap (λ t. bytes_eq b.name a.name && (t && (both_or_neither a.is_host_only b.is_host_only && bytes_eq a.path b.path))) (turned_test a.domain b.domain)
    ∙ ap (λ t. bytes_eq b.name a.name && (bytes_eq b.domain a.domain && (t && bytes_eq a.path b.path))) (turned_flags a.is_host_only b.is_host_only)
    ∙ ap (λ t. bytes_eq b.name a.name && (bytes_eq b.domain a.domain && (both_or_neither b.is_host_only a.is_host_only && t))) (turned_test a.path b.path)

-- what has the key of c is told from what has the key of x alike
pub same_key : (c x d : KeptView) → is_same_cookie c x ≡ true → is_same_cookie d c ≡ is_same_cookie d x
same_key c x d e =
    let h = alike c x e in
    ap (λ n. bytes_eq d.name n && (bytes_eq d.domain c.domain && (both_or_neither d.is_host_only c.is_host_only && bytes_eq d.path c.path))) h.name
    ∙ ap (λ n. bytes_eq d.name x.name && (bytes_eq d.domain n && (both_or_neither d.is_host_only c.is_host_only && bytes_eq d.path c.path))) h.domain
    ∙ ap (λ n. bytes_eq d.name x.name && (bytes_eq d.domain x.domain && (both_or_neither d.is_host_only n && bytes_eq d.path c.path))) h.flag
    ∙ ap (λ n. bytes_eq d.name x.name && (bytes_eq d.domain x.domain && (both_or_neither d.is_host_only x.is_host_only && bytes_eq d.path n))) h.path
