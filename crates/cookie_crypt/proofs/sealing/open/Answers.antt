use Rattle.std.proofs.Common.{◌≡◌, sym, ◌∙◌, rules}
use Rattle.cookie_crypt.proofs.GcmLemmas.{sealing-turned_back}
use Rattle.cookie_crypt.proofs.sealing.open.Goals as goal

pub returns-clause-opened : goal.returns-clause-opened
returns-clause-opened c =
    let same : c.tag_of.result ≡ c.args.tag.now = search rules in
    sealing-turned_back c.args.cipher.now c.args.nonce.now c.args.aad.now c.args.text.now c.add_key_stream.new.text c.args.tag.now
    c.requires.within c.add_key_stream.ensures.made (sym same ∙ c.tag_of.ensures.made)
