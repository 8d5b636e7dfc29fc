-- Hosts in lower case, and paths that begin with `/`.
use Rattle.std.proofs.Common.{◌≡◌, ℕ, Bool, true, false, cond, List, [], ◌∷◌, codes, eqb, refl}
use Rattle.std.proofs.lemmas.Str.Ascii.{lowercase-lowercase}
use Rattle.std.specs.List.{starts_with}
use Rattle.std.specs.Str.{str_to_ascii_lowercase}
use Rattle.cookie_agent.specs.Site.{request_path}

-- in lower case already
pub lowered_twice : (text : List ℕ) → str_to_ascii_lowercase (str_to_ascii_lowercase text) ≡ str_to_ascii_lowercase text
lowered_twice [] = refl
lowered_twice (c ∷ cs) =
    let e = lowercase-lowercase c in
    let rest = lowered_twice cs in
    cc

pub request_path-begins : (path : List ℕ) → starts_with eqb (request_path path) (codes "/") ≡ true
request_path-begins path = by (starts_with eqb path (codes "/")) refl
  where
    by : (b : Bool) → starts_with eqb path (codes "/") ≡ b → starts_with eqb (cond b path (47 ∷ path)) (codes "/") ≡ true
    by true e = e
    by false e = refl
