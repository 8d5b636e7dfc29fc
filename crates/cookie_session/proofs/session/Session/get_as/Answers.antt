use Rattle.std.proofs.Common.{Some, ap, subst, sym, ◌∙◌}
use Rattle.std.proofs.lemmas.Option.{same_Some}
use Rattle.std.specs.Option.{option_copied}
use Rattle.std.specs.Result.{result_map_both}
use Rattle.cookie_session.proofs.session.Session.get_as.Goals as goal

pub returns-in-Ok-clause-some : goal.returns-in-Ok-clause-some
returns-in-Ok-clause-some g c text is =
    let same = same_Some _ _ (sym (ap option_copied c.in-Some.is) ∙ c.get.ensures ∙ is) in (
      c.from_str.result,
      subst (λ t. g.T.FromStr.from_str_gives t c.from_str.result) same c.from_str.ensures,
      ap (result_map_both Some (λ why. why)) (sym c.in-Ok.is),
    )

pub returns-in-Err-clause-some : goal.returns-in-Err-clause-some
returns-in-Err-clause-some g c text is =
    let same = same_Some _ _ (sym (ap option_copied c.in-Some.is) ∙ c.get.ensures ∙ is) in (
      c.from_str.result,
      subst (λ t. g.T.FromStr.from_str_gives t c.from_str.result) same c.from_str.ensures,
      ap (result_map_both Some (λ why. why)) (sym c.in-Err.is),
    )
