-- A jar that is seen through a key.
use Rattle.std.specs.Prelude.{ℕ, List, refl}
use Rattle.std.specs.Coded.{Coded, code_by, coded×, coded_ℕ, coded_list}
use Rattle.cookie.specs.Jar.{JarState, jar_code}

-- the jar, and the half of the key under which its values are signed or sealed
pub record KeyedJar : Type 0 where
  pub jar : JarState
  pub key : List ℕ

-- how it is stored, as a pair
abbrev pub keyed_code : Coded KeyedJar
keyed_code =
    code_by (JarState × List ℕ) (coded× jar_code (coded_list coded_ℕ)) (λ k. (k.jar, k.key))
    (λ p. record { jar = p.0; key = p.1 }) (λ _. refl)
