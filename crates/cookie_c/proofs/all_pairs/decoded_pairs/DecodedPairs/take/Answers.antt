use Rattle.cookie_c.proofs.AllPairsLemmas.{takes_refused}
use Rattle.cookie_c.proofs.all_pairs.decoded_pairs.DecodedPairs.take.Goals as goal

pub returns-in_ok-refuse_text-in-Err : goal.returns-in_ok-refuse_text-in-Err
returns-in_ok-refuse_text-in-Err c piece is at utf8 =
    let done = c.in_ok-refuse_text-in-Err.ensures in
    takes_refused piece c.args.next c.args.self.now c.refuse_text.new.self at c.args.text.now c.in-Err.error c.of.result is utf8 c.of.ensures
    done.sure c.in-Err.ensures.reads done.pairs done.text
