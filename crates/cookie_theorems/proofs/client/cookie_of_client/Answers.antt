use Rattle.std.proofs.Common.{sym, subst, ◌∙◌}
use Rattle.http_header.specs.FieldValue.{IsFieldValue}
use Rattle.cookie_theorems.proofs.HeaderTextLemmas.{IsFieldValue-header_text}
use Rattle.cookie_theorems.proofs.client.cookie_of_client.Goals as goal

pub from_known_valid-requires : goal.from_known_valid-requires
from_known_valid-requires c =
    subst IsFieldValue (sym (c.in_ok-from_string.ensures ∙ c.in-Ok.ensures.text)) (IsFieldValue-header_text c.args.client.now)
