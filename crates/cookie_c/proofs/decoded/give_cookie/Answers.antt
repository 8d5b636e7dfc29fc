use Rattle.std.proofs.Common.{inl, refl, sym}
use Rattle.cookie.specs.Layout.{layout_record}
use Rattle.cookie_c.proofs.DecodedLemmas.{gives_cookie}
use Rattle.cookie_c.proofs.decoded.give_cookie.Goals as goal

pub returns-in-Ok : goal.returns-in-Ok
returns-in-Ok c =
    let decoded = sym c.in-Ok.ensures.value in
    inl (
      c.in-Ok.cookie.fields,
      decoded,
      gives_cookie c.args.text.now c.name.result.now c.value.result.now c.args.out.now c.give_pair-pair.new.out c.in-Ok.cookie.fields (layout_record c.args.text.now c.args.layout) c.of.result _ c.requires.value decoded c.of.ensures c.name.ensures c.value.ensures c.give_pair-pair.ensures.texts refl refl refl,
    )
