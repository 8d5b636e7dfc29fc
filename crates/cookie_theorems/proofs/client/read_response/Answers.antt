use Rattle.std.proofs.Common.{map, ap, sym, ◌∙◌}
use Rattle.std.specs.List.{filter}
use Rattle.std.specs.Str.{is_utf8}
use Rattle.cookie_client.specs.Client.{after_texts}
use Rattle.cookie_theorems.proofs.ReadLemmas.{read_next}
use Rattle.cookie_theorems.proofs.client.read_response.Goals as goal

pub loop-value-preserved : goal.loop-value-preserved
loop-value-preserved c =
    let now = c.args.now in
    let left = map (λ v. v.bytes) c.next.new.self in
    ap (after_texts now (filter is_utf8 left)) c.in_ok-read_value.ensures
    ∙ read_next now c.in-Some.value.now.bytes c.loop-value.reading left
    ∙ ap (λ fields. after_texts now (filter is_utf8 (map (λ v. v.bytes) fields)) c.loop-value.reading) (sym c.in-Some.ensures.steps)
    ∙ c.loop-value.invariant
