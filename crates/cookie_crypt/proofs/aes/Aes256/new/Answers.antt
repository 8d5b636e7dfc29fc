use Rattle.std.proofs.Common.{ap, sym, ◌∙◌, take}
use Rattle.cookie_crypt.specs.Aes.{key_expansion}
use Rattle.cookie_crypt.proofs.AesLemmas.{key_first}
use Rattle.cookie_crypt.proofs.aes.Aes256.new.Goals as goal

pub invariant_of-result : goal.invariant_of-result
invariant_of-result c =
    let words = c.prepare.ensures ∙ c.key_expansion.ensures in
    words ∙ ap key_expansion (sym (ap (take 32) words ∙ key_first c.args.key.now c.told-key))

pub returns : goal.returns
returns c = ap (take 32) (c.prepare.ensures ∙ c.key_expansion.ensures) ∙ key_first c.args.key.now c.told-key
