use Rattle.std.proofs.Common.{ap, map, true, false, string_bytes, sym, subst, ◌++◌, ◌∙◌}
use Rattle.std.proofs.lemmas.List.Sorted.{IsPermutation-refl}
use Rattle.std.specs.List.Sorted.{IsPermutation}
use Rattle.cookie_core.specs.Text.{cookie_text}
use Rattle.cookie.proofs.jar.CookieJar.all_texts.Goals as goal

pub loop-cookie-init : goal.loop-cookie-init
loop-cookie-init c =
    let all = map (cookie_text true false) c.delta-cookie-items.result in
    record {
      cookies = c.delta-cookie-items.result;
      are = c.delta-cookie-items.ensures.walks;
      written = subst (IsPermutation all) (sym (
          ap (λ ts. map string_bytes ts ++ map (cookie_text true false) c.into_iter-cookie-iterator.result) c.new-texts.ensures.items
          ∙ ap (λ cookies. map (cookie_text true false) cookies) c.into_iter-cookie-iterator.ensures.into_iter_gives)) (IsPermutation-refl all);
    }
