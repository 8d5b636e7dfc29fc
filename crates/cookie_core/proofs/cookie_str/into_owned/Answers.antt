use Rattle.cookie_core.proofs.CopyLemmas.{IsSameOptionalText-some}
use Rattle.cookie_core.proofs.cookie_str.into_owned.Goals as goal

pub returns-in_ok-into_owned-in-Some : goal.returns-in_ok-into_owned-in-Some
returns-in_ok-into_owned-in-Some c =
    IsSameOptionalText-some _ _ _ c.in-Some.is c.in_ok-into_owned-in-Some.ensures
