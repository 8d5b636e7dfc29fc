use Rattle.std.proofs.Common.{ap, ◌∙◌}
use Rattle.cookie_crypt.specs.Aes.{key_expansion, cipher, encrypt_block}
use Rattle.cookie_crypt.proofs.SboxLemmas.{inverse_is}
use Rattle.cookie_crypt.proofs.aes.Aes256.encrypt_block.Goals as goal

pub returns-clause-value : goal.returns-clause-value
unfolding encrypt_block
returns-clause-value c = c.cipher.ensures ∙ ap (λ w. cipher w c.args.block) (c.self.invariant ∙ ap key_expansion c.self.view_is)

pub returns-clause-inverses : goal.returns-clause-inverses
returns-clause-inverses c = inverse_is
