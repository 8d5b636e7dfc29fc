use Rattle.std.proofs.Common.{◌+◌, ◌*◌, refl, arith}
use Rattle.cookie_crypt.proofs.TurnedLemmas.{prepared_first, prepared_last, prepared_later}
use Rattle.cookie_crypt.proofs.aes.prepared_words.Goals as goal

pub returns-then-round-eq0 : goal.returns-then-round-eq0
returns-then-round-eq0 c = λ j h.
    let k = c.args.round in
    prepared_first c.words_of-bytes.result c.turn.result (16 * k + j) j _ h c.words_of-bytes.ensures.length c.turn.ensures (c.words_of-bytes.ensures.each j h) (omega arith)

pub returns-then-round-eq14 : goal.returns-then-round-eq14
returns-then-round-eq14 c = λ j h.
    let k = c.args.round in
    prepared_last c.words_of-bytes.result _ (16 * k + j) j _ h c.words_of-bytes.ensures.length refl (c.words_of-bytes.ensures.each j h) (omega arith)

pub returns : goal.returns
returns c = λ j h.
    let k = c.args.round in
    prepared_later c.words_of-bytes.result c.turn-2.result (16 * k + j) j _ h c.words_of-bytes.ensures.length c.turn-2.ensures (c.words_of-bytes.ensures.each j h) (omega arith) (omega arith)
