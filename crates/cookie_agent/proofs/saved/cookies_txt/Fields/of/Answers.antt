use Rattle.std.proofs.Common.{◌≡◌, length, arith}
use Rattle.cookie_agent.proofs.CookiesTxtLemmas.{other_texts}
use Rattle.cookie_agent.proofs.saved.cookies_txt.Fields.of.Goals as goal

pub returns : goal.returns
returns c =
    other_texts c.args.texts.now
    (λ (h : length c.args.texts.now ≡ 7). omega (arith, h, c.if-texts-eq7.false))
    (λ (h : length c.args.texts.now ≡ 6). omega (arith, h, c.if-texts-eq6.false))
