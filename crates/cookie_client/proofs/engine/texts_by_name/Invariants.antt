use Rattle.std.proofs.Common.{◌≡◌, ℕ, List, true, false, map, option_map}
use Rattle.std.specs.FinMap.{get}
use Rattle.std.specs.List.{find, IsDistinct}
use Rattle.std.specs.Option.{option_or}
use Rattle.std.specs.Str.{bytes_eq}
use Rattle.cookie.specs.Record.{Record}
use Rattle.cookie.specs.Text.{cookie_text}
use Rattle.cookie_client.proofs.engine.texts_by_name.Given as goal

-- at each name stands the text of the cookie that is left there, or what was set
abbrev pub invariant-loop-cookie : goal.invariant-loop-cookie
invariant-loop-cookie l = record {
  texts : (name : List ℕ) → option_or (option_map (cookie_text true false) (find (λ (c : Record). bytes_eq name c.name) l.cookie-iterator)) (get l.texts name)
      ≡ option_map (λ m. cookie_text true false m.cookie) (get l.jar.delta name);
  once : IsDistinct bytes_eq (map (λ (c : Record). c.name) l.cookie-iterator);
}
