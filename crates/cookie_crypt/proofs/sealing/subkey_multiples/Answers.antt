use Rattle.std.proofs.Common.{◌≡◌, ap, subst, ◌∙◌}
use Rattle.cookie_crypt.specs.Gcm.{hash_subkey, number_of}
use Rattle.cookie_crypt.specs.Ghash.{HasPowersFirst}
use Rattle.cookie_crypt.proofs.HornerLemmas.{has_powers_first}
use Rattle.cookie_crypt.proofs.sealing.subkey_multiples.Goals as goal

pub returns-clause-made : goal.returns-clause-made
unfolding hash_subkey
returns-clause-made c = c.new.ensures ∙ c.number_of-subkey.ensures ∙ ap number_of c.encrypt_block.ensures.made

pub returns-clause-powers_first : goal.returns-clause-powers_first
unfolding hash_subkey
returns-clause-powers_first c =
    let is : c.number_of-subkey.result ≡ hash_subkey c.args.cipher.now = c.number_of-subkey.ensures ∙ ap number_of c.encrypt_block.ensures.made in
    subst HasPowersFirst is (has_powers_first c.number_of-subkey.result c.number_of-subkey.type_inv)
