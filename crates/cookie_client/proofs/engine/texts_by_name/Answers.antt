use Rattle.std.proofs.Common.{◌≡◌, List, true, false, map, option_map, sym, ap, subst, ◌∙◌}
use Rattle.std.specs.FinMap.{get, insert, get-empty}
use Rattle.std.specs.List.{IsDistinct}
use Rattle.std.specs.Option.{option_or}
use Rattle.std.specs.Str.{bytes_eq}
use Rattle.cookie.specs.Jar.{Marked, name_cmp}
use Rattle.cookie.specs.Record.{Record}
use Rattle.cookie.specs.Text.{cookie_text}
use Rattle.cookie_client.proofs.SessionLemmas.{entries-mapped, named, texts-first, texts-next, IsDistinct-rest}
use Rattle.cookie_client.proofs.engine.texts_by_name.Goals as goal

pub loop-cookie-init : goal.loop-cookie-init
loop-cookie-init c =
    let given = c.into_iter-cookie-iterator.ensures.into_iter_gives in
    record {
      texts = λ name. texts-first (cookie_text true false) (named name c.into_iter-cookie-iterator.result) (get c.args.jar.now.delta name) (get c.new-texts.result name)
          (ap (named name) given ∙ c.delta-cookie-items.ensures.walks.found name)
          (ap (λ m. get m name) c.new-texts.ensures ∙ get-empty name_cmp name);
      once = subst (λ (cookies : List Record). IsDistinct bytes_eq (map (λ r. r.name) cookies)) (sym given) c.delta-cookie-items.ensures.walks.once;
    }

pub loop-cookie-preserved : goal.loop-cookie-preserved
loop-cookie-preserved c =
    let s = c.in-Some.ensures.steps in
    let cookie = c.in-Some.cookie.now.fields in
    let left = c.next.new.self in
    let distinct = subst (λ (cookies : List Record). IsDistinct bytes_eq (map (λ r. r.name) cookies)) s c.loop-cookie.invariant.once in
    let put : c.put.new.self ≡ insert c.loop-cookie.texts cookie.name (cookie_text true false cookie) =
    c.in_ok-put.ensures.ok ∙ (λ i. insert c.loop-cookie.texts (c.name.ensures i) (c.in_ok-text.ensures.ok i))
    ∙ ap (λ d. insert c.loop-cookie.texts cookie.name (cookie_text d.is_encoded d.is_stripped d.fields)) c.encoded.ensures in
    record {
      texts = λ name. ap (λ m. option_or (option_map (cookie_text true false) (named name left)) (get m name)) put
          ∙ texts-next (cookie_text true false) c.loop-cookie.texts cookie left distinct name
          ∙ ap (λ cookies. option_or (option_map (cookie_text true false) (named name cookies)) (get c.loop-cookie.texts name)) (sym s)
          ∙ c.loop-cookie.invariant.texts name;
      once = IsDistinct-rest cookie.name (map (λ (r : Record). r.name) left) distinct;
    }

pub returns : goal.returns
returns c =
    entries-mapped (λ (m : Marked). cookie_text true false m.cookie) c.args.jar.now.delta c.loop-cookie.texts (λ name.
    ap (λ cookies. option_or (option_map (cookie_text true false) (named name cookies)) (get c.loop-cookie.texts name)) (sym c.in-None.ensures.steps.0)
    ∙ c.loop-cookie.invariant.texts name)
