use Rattle.std.proofs.Common.{refl}
use Rattle.cookie_session.proofs.ReadLemmas.{first_read}
use Rattle.cookie_session.proofs.session_text.first_pair.Goals as goal

pub returns-clause-parts : goal.returns-clause-parts
returns-clause-parts c pair pairs shown =
    first_read c.args.text.now c.split_once.result c.split_once-2.result _ _ c.unwrap_or.result c.unwrap_or-2.result c.split_once.ensures.cases c.unwrap_or.ensures
    c.split_once-2.ensures.cases c.unwrap_or-2.ensures refl refl pair pairs shown
