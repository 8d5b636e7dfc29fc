use Rattle.std.proofs.Common.{◌≡◌, List, map, sym, ap, subst, ◌∙◌}
use Rattle.std.specs.FinMap.{get, insert, get-empty}
use Rattle.std.specs.List.{IsDistinct}
use Rattle.std.specs.Option.{option_or}
use Rattle.std.specs.Str.{bytes_eq}
use Rattle.cookie.specs.Jar.{name_cmp}
use Rattle.cookie.specs.Record.{Record}
use Rattle.cookie_client.specs.Agreement.{value_of}
use Rattle.cookie_client.proofs.SessionLemmas.{named, texts-next, IsDistinct-rest}
use Rattle.cookie_client.proofs.RoundLemmas.{or_none}
use Rattle.cookie_client.proofs.requests.client_of.Goals as goal

pub loop-cookie-init : goal.loop-cookie-init
loop-cookie-init c =
    let given = c.into_iter-cookie-iterator.ensures.into_iter_gives in
    record {
      values = λ name.
          ap (option_or (value_of (named name c.into_iter-cookie-iterator.result))) (ap (λ v. get v name) c.new-client.ensures ∙ get-empty name_cmp name)
          ∙ or_none _ ∙ ap value_of (ap (named name) given ∙ c.iter-cookie-items.ensures.walks.found name);
      once = subst (λ (cookies : List Record). IsDistinct bytes_eq (map (λ r. r.name) cookies)) (sym given) c.iter-cookie-items.ensures.walks.once;
    }

pub loop-cookie-preserved : goal.loop-cookie-preserved
loop-cookie-preserved c =
    let s = c.in-Some.ensures.steps in
    let cookie = c.in-Some.cookie.now.fields in
    let left = c.next.new.self in
    let distinct = subst (λ (cookies : List Record). IsDistinct bytes_eq (map (λ r. r.name) cookies)) s c.loop-cookie.invariant.once in
    let held : c.hold.new.self ≡ insert c.loop-cookie.client cookie.name cookie.value =
    c.in_ok-hold.ensures.gives ∙ (λ i. insert c.loop-cookie.client (c.name.ensures i) (c.value.ensures i)) in
    record {
      values = λ name. ap (λ v. option_or (value_of (named name left)) (get v name)) held
          ∙ texts-next (λ r. r.value) c.loop-cookie.client cookie left distinct name
          ∙ ap (λ cookies. option_or (value_of (named name cookies)) (get c.loop-cookie.client name)) (sym s)
          ∙ c.loop-cookie.invariant.values name;
      once = IsDistinct-rest cookie.name (map (λ (r : Record). r.name) left) distinct;
    }

pub returns : goal.returns
returns c name =
    ap (λ cookies. option_or (value_of (named name cookies)) (get c.loop-cookie.client name)) (sym c.in-None.ensures.steps.0) ∙ c.loop-cookie.invariant.values name
