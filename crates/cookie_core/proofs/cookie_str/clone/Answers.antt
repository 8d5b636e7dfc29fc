use Rattle.cookie_core.proofs.CopyLemmas.{IsSameOptionalText-some}
use Rattle.cookie_core.proofs.cookie_str.clone.Goals as goal

pub returns-in_ok-clone-in-Some : goal.returns-in_ok-clone-in-Some
returns-in_ok-clone-in-Some c =
    IsSameOptionalText-some _ _ _ c.in-Some.is c.in_ok-clone-in-Some.ensures
