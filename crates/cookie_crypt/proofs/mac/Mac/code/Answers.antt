use Rattle.std.proofs.Common.{◌≡◌, List, ℕ, length, nat_lt, false, map, ap, sym, subst, ◌∙◌, arith}
use Rattle.std.specs.List.{concat}
use Rattle.std.proofs.lemmas.Bool.Decides.{nat_tests}
use Rattle.sha2.specs.Hashers.{Holds256}
use Rattle.cookie_crypt.specs.Hmac.{masked, short_key, hmac_short, hmac}
use Rattle.cookie_crypt.proofs.mac.Mac.code.Goals as goal

pub returns : goal.returns
unfolding hmac short_key
returns c =
    let key : List ℕ = c.self.inside.key in
    let long : length c.args.self.now ≡ 32 = sym (ap length c.self.view_is) ∙ c.self.told in
    let test : nat_lt 64 (length c.args.self.now) ≡ false = grind (arith, nat_tests) in
    let inner : Holds256 c.copy_of.result (masked key 0x36) = subst (λ s. Holds256 s (masked key 0x36)) (sym c.copy_of.ensures) c.self.invariant.0 in
    let outer : Holds256 c.copy_of-2.result (masked key 0x5c) = subst (λ s. Holds256 s (masked key 0x5c)) (sym c.copy_of-2.ensures) c.self.invariant.1 in
    rw test (c.code.ensures key inner outer ∙ ap (λ k. hmac_short k (concat (map (λ piece. piece.now) c.args.pieces.now))) c.self.view_is)
