use Rattle.std.proofs.Common.{◌≡◌, map}
use Rattle.std.specs.FinMap.{get}
use Rattle.std.specs.List.{find, IsDistinct}
use Rattle.std.specs.Option.{option_or}
use Rattle.std.specs.Str.{bytes_eq}
use Rattle.cookie.specs.Jar.{Name, view}
use Rattle.cookie.specs.Record.{Record}
use Rattle.cookie_client.specs.Agreement.{value_of}
use Rattle.cookie_client.proofs.requests.client_of.Given as goal

-- at each name it holds the value of the cookie that is left there, or what it held
abbrev pub invariant-loop-cookie : goal.invariant-loop-cookie
invariant-loop-cookie l = record {
  values : (name : Name) → option_or (value_of (find (λ (c : Record). bytes_eq name c.name) l.cookie-iterator)) (get l.client name) ≡ value_of (view l.jar name);
  once : IsDistinct bytes_eq (map (λ (c : Record). c.name) l.cookie-iterator);
}
