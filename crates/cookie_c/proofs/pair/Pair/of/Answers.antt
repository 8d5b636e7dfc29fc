use Rattle.std.proofs.Common.{◌∙◌, ap, false, sym, inl}
use Rattle.cookie.specs.CookieOf.{cookie_of}
use Rattle.cookie.specs.Layout.{layout_record}
use Rattle.cookie_c.proofs.PairLemmas.{name_span, value_span}
use Rattle.cookie_c.proofs.pair.Pair.of.Goals as goal

pub returns-in-Ok : goal.returns-in-Ok
returns-in-Ok c header piece is =
    let text = c.args.text.now in
    let layout = c.in-Ok.layout in
    inl (
      layout_record text layout,
      ap (cookie_of false) (sym is.trimmed) ∙ sym c.in-Ok.ensures.value,
      record {
        status = c.code.ensures;
        name = rw c.after.ensures (name_span header piece text c.args.start c.args.next is layout c.in-Ok.ensures.place);
        value = rw c.after-in-Ok.ensures (value_span header piece text c.args.start c.args.next is layout c.in-Ok.ensures.place);
        next = is.next;
      },
    )
