-- The second half of the main theorem: a signed or private jar answers a value exactly where the stored one stands for
-- it.
use Rattle.std.specs.Prelude.{◌≡◌, ◌↔◌, ℕ, List, Option, Some, IfSome, MatchOption, option_map}
use Rattle.cookie_core.specs.Record.{Record}
use Rattle.cookie.specs.Prefixes.{pair_of}

-- a cookie is stored, and its value stands for v
abbrev pub IsStoredFor : (Record → List ℕ → Type 0) → Option Record → List ℕ → Type 0
IsStoredFor StandsFor stored v = MatchOption stored ⊥ (λ cookie. StandsFor cookie v)

-- the cookie with that value
abbrev pub with_value : List ℕ → Record → Record
with_value v cookie = record cookie { value = v }

-- The answer to a cookie that is stored, if any.
pub record AnswersExactly (StandsFor : Record → List ℕ → Type 0)
    (stored answer : Option Record) : Type 0 where
  -- v is answered exactly where the stored value stands for v
  pub exact : (v : List ℕ)
      → (option_map (λ c. c.value) answer ≡ Some v) ↔ IsStoredFor StandsFor stored v
  -- nothing else of the cookie changes
  pub kept : IfSome answer (λ c. option_map (with_value c.value) stored ≡ Some c)

-- every such answer has the name and the value of this cookie
abbrev pub AnswersPair : (Record → List ℕ → Type 0) → Option Record → Record → Type 0
AnswersPair StandsFor stored cookie =
    (answer : Option Record) → AnswersExactly StandsFor stored answer
    → option_map pair_of answer ≡ Some (pair_of cookie)
