-- What a jar shows after an addition.
use Rattle.std.proofs.Common.{◌≡◌, Bool, true, false, cond, Option, Some, refl, ap, ◌∙◌}
use Rattle.std.proofs.lemmas.Map.Text.{is_eq-slice_cmp}
use Rattle.std.specs.Cmp.Lexicographic.{nat_list_cmp_total}
use Rattle.std.specs.FinMap.{get, insert, get-insert}
use Rattle.std.specs.Str.{bytes_eq}
use Rattle.cookie_core.specs.Record.{Record}
use Rattle.cookie.specs.Jar.{Name, JarState, Marked, Add, added_mark, after, overlay, view}

module _ (jar : JarState) (cookie : Record) (name : Name) where
  abbrev here : Bool
  here = bytes_eq name cookie.name

  get-put : (entry : Marked) → get (insert jar.delta cookie.name entry) name ≡ cond here (Some entry) (get jar.delta name)
  get-put entry =
      get-insert nat_list_cmp_total jar.delta cookie.name entry name
      ∙ ap (λ b. cond b (Some entry) (get jar.delta name)) (is_eq-slice_cmp name cookie.name)

  overlay-cond : (b : Bool) (entry : Option Marked) → overlay (cond b entry (get jar.delta name)) (get jar.originals name)
      ≡ cond b (overlay entry (get jar.originals name)) (view jar name)
  overlay-cond true entry = refl
  overlay-cond false entry = refl

  -- under its name the cookie that was added, and elsewhere what was there
  pub view-added : view (after (Add cookie) jar) name ≡ cond here (Some cookie) (view jar name)
  view-added = ap (λ e. overlay e (get jar.originals name)) (get-put (added_mark cookie)) ∙ overlay-cond here (Some (added_mark cookie))
