use Rattle.std.proofs.Common.{ℕ, List, Some, ◌∙◌}
use Rattle.std.proofs.lemmas.Result.{IfOk-weaker}
use Rattle.cookie_agent.specs.JsonLines.{line_of_cookie}
use Rattle.cookie_agent.proofs.JsonLinesLemmas.{same_texts}
use Rattle.cookie_agent.proofs.saved.json_lines.line_of.Goals as goal

pub returns : goal.returns
returns c =
    let flags = c.args.flags in
    let times = c.args.times in
    let texts = c.args.texts.now in
    IfOk-weaker c.line_at.result _ _
    (λ line h. h ∙ same_texts (λ (name value domain path : List ℕ). line_of_cookie c.args.now (Some (record {
      name = name;
      value = value;
      domain = domain;
      is_host_only = flags.is_host_only;
      path = path;
      is_secure_only = flags.is_secure_only;
      is_http_only = flags.is_http_only;
      same_site = flags.same_site;
      expiry = Some times.expiry;
      last_access = times.last_access;
    }))) c.as_slice.result.now c.as_slice-2.result.now c.as_slice-3.result.now c.as_slice-4.result.now
    texts.name.items texts.value.items texts.domain.items texts.path.items
    c.as_slice.ensures.value c.as_slice-2.ensures.value c.as_slice-3.ensures.value c.as_slice-4.ensures.value)
    c.line_at.ensures
