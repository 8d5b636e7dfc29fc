use Rattle.std.proofs.Common.{map, ap, ◌∙◌}
use Rattle.cookie_crypt.specs.Aes.{add_round_key}
use Rattle.cookie_crypt.specs.Turned.{turned_back}
use Rattle.cookie_crypt.proofs.TurnedLemmas.{added_lanes, first_added, last_added, later_added}
use Rattle.cookie_crypt.proofs.aes.add_round_key.Goals as goal

pub returns-clause-first : goal.returns-clause-first
returns-clause-first c = λ is.
    let w = c.args.words.now in
    let s = c.args.state in
    ap (map turned_back) (added_lanes w s c.words_of.result c.args.round c.fits-state.0 c.words_of.ensures.length c.words_of.ensures.each ∙ ap (λ k. add_round_key w k s) is)
    ∙ first_added w s c.fits-words c.fits-state.1 c.fits-state.0

pub returns-clause-later : goal.returns-clause-later
returns-clause-later c = λ mixed low high long is.
    let w = c.args.words.now in
    let s = c.args.state in
    ap (map turned_back) (added_lanes w s c.words_of.result c.args.round c.fits-state.0 c.words_of.ensures.length c.words_of.ensures.each)
    ∙ later_added w s mixed c.args.round low high c.fits-words c.fits-state.1 c.fits-state.0 long is

pub returns-clause-last : goal.returns-clause-last
returns-clause-last c = λ shifted last long is.
    let w = c.args.words.now in
    let s = c.args.state in
    added_lanes w s c.words_of.result c.args.round c.fits-state.0 c.words_of.ensures.length c.words_of.ensures.each ∙ ap (λ k. add_round_key w k s) last
    ∙ last_added w s shifted c.fits-state.0 long is
