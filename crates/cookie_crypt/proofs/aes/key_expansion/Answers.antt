use Rattle.std.proofs.Common.{◌≡◌, ◌-◌, ◌*◌, take, ap, sym, ◌∙◌, arith}
use Rattle.std.proofs.lemmas.List.{length-set, take_all}
use Rattle.cookie_crypt.specs.Aes.{word, word_sum, added_word, words, key_expansion}
use Rattle.cookie_crypt.proofs.AesLemmas.{words_more, copied}
use Rattle.cookie_crypt.proofs.aes.key_expansion.Goals as goal

pub words-init : goal.words-init
unfolding words
words-init c = record {
  places = c.key.invariant.places;
  made = copied c.args.key.now c.key.words c.told-key c.key.invariant.places (λ k h. c.key.invariant.made k (omega arith));
}

pub words-preserved : goal.words-preserved
words-preserved c = record {
  places = simp length-set c.words.invariant.places;
  made = words_more c.args.key.now c.words.words c.word_sum-next.result c.words.i (omega arith) (omega arith)
      (c.word_sum-next.ensures
      ∙ ap (λ x. word_sum x c.added_word.result) c.word.ensures
      ∙ ap (word_sum (word c.words.words (c.words.i - 8))) (c.added_word.ensures ∙ ap (λ x. added_word x c.words.i) c.word-in-words.ensures))
      c.words.invariant.made;
}

pub returns : goal.returns
unfolding key_expansion
returns c =
    let end : c.words.i ≡ 60 = omega arith in
    sym (take_all 240 c.words.words (omega arith)) ∙ ap (λ i. take (4 * i) c.words.words) (sym end) ∙ c.words.invariant.made
    ∙ ap (λ i. words c.args.key.now (i - 8)) end
