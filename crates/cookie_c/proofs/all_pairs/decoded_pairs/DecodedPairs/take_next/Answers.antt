use Rattle.cookie_c.proofs.AllPairsLemmas.{takes_other}
use Rattle.cookie_c.proofs.all_pairs.decoded_pairs.DecodedPairs.take_next.Goals as goal

pub returns-in_ok-refuse-in-Other : goal.returns-in_ok-refuse-in-Other
returns-in_ok-refuse-in-Other c =
    let (piece, is, bad, at) = c.in-Other.ensures in
    (piece, is, at, takes_other piece c.in-Other.next c.args.self.now c.refuse.new.self at bad c.in_ok-refuse-in-Other.ensures.pairs c.in_ok-refuse-in-Other.ensures.text)
