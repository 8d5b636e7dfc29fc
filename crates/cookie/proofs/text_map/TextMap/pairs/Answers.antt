use Rattle.cookie.proofs.TextMapLemmas.{AreTexts-text_pairs}
use Rattle.cookie.proofs.text_map.TextMap.pairs.Goals as goal

pub returns-clause-texts : goal.returns-clause-texts
returns-clause-texts c = AreTexts-text_pairs c.iter.result
