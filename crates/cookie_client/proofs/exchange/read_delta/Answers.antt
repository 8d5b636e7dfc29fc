use Rattle.std.proofs.Common.{List, ℕ, map, ap, ◌∙◌, string_bytes}
use Rattle.std.proofs.lemmas.Result.{on_ok_weaker}
use Rattle.cookie_client.specs.Client.{after_texts}
use Rattle.cookie_client.proofs.exchange.read_delta.Goals as goal

pub returns : goal.returns
returns c =
    let texts : List (List ℕ) = map string_bytes c.in_ok-texts.texts.items in
    on_ok_weaker c.read_texts.result (λ read. (
      texts,
      c.in_ok-texts.ensures.each,
      read ∙ ap (λ ts. after_texts c.args.now (map string_bytes ts) c.args.client.now) c.deref.ensures.value,
    )) c.read_texts.ensures
