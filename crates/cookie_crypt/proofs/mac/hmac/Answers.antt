use Rattle.std.proofs.Common.{◌≡◌, length, nat_lt, true, false, map, ap, ◌∙◌, arith}
use Rattle.std.specs.List.{concat}
use Rattle.std.proofs.lemmas.Bool.Decides.{nat_tests}
use Rattle.cookie_crypt.specs.Hmac.{short_key, hmac_short, hmac}
use Rattle.cookie_crypt.proofs.mac.hmac.Goals as goal

pub returns-then-key-gt64 : goal.returns-then-key-gt64
unfolding hmac short_key
returns-then-key-gt64 c =
    let test : nat_lt 64 (length c.args.key.now) ≡ true = grind (arith, nat_tests) in
    rw test (c.hmac_short.ensures ∙ ap (λ k. hmac_short k (concat (map (λ piece. piece.now) c.args.pieces.now))) c.digest.ensures)

pub returns-else-key-gt64 : goal.returns-else-key-gt64
unfolding hmac short_key
returns-else-key-gt64 c =
    let test : nat_lt 64 (length c.args.key.now) ≡ false = grind (arith, nat_tests) in
    rw test c.hmac_short-else-key-gt64.ensures
