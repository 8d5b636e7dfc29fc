use Rattle.std.proofs.Common.{option_copied, sym, ap, ◌∙◌, arith}
use Rattle.std.specs.Prelude.{fold}
use Rattle.cookie_date.specs.CookieDate.{with_token}
use Rattle.cookie_date.specs.Found.{cut_token, tokens_left}
use Rattle.cookie_date.proofs.TokenLemmas.{left_length, cut-shorter, tokens-cut}
use Rattle.cookie_date.proofs.found.found_in.Goals as goal

pub loop-rest-smaller : goal.loop-rest-smaller
loop-rest-smaller c =
    let t = c.in-Some.text.now in
    let before = ap (λ o. left_length (option_copied o)) c.in-Some.is in
    let after = ap left_length c.cut_token.ensures.after in
    omega (arith, before, after, cut-shorter t)

pub loop-rest-preserved : goal.loop-rest-preserved
loop-rest-preserved c =
    let t = c.in-Some.text.now in
    let found = c.loop-rest.found in
    record {
      same =
          ap (λ s. fold with_token s (tokens_left (option_copied c.cut_token.result.1))) (c.with_token-found.ensures.value ∙ ap (with_token found) c.cut_token.ensures.before)
          ∙ ap (λ o. fold with_token (with_token found (cut_token t).0) (tokens_left o)) c.cut_token.ensures.after
          ∙ sym (ap (fold with_token found) (tokens-cut t))
          ∙ sym (ap (λ o. fold with_token found (tokens_left (option_copied o))) c.in-Some.is)
          ∙ c.loop-rest.invariant.same;
      small = c.with_token-found.ensures.small;
    }
