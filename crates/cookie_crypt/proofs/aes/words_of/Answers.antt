use Rattle.std.proofs.Common.{◌-◌, ◌*◌, refl}
use Rattle.cookie_crypt.proofs.TurnedLemmas.{key_chunk, length-key_chunk}
use Rattle.cookie_crypt.proofs.aes.words_of.Goals as goal

pub returns-clause-length : goal.returns-clause-length
returns-clause-length c = length-key_chunk c.args.words.now c.args.round (240 - 16 * c.args.round) c.requires refl c.told-words

pub returns-clause-each : goal.returns-clause-each
returns-clause-each c = λ j h. key_chunk c.args.words.now c.args.round (240 - 16 * c.args.round) j c.requires refl c.told-words h
