use Rattle.std.proofs.Common.{ap, sym, ◌∙◌, arith}
use Rattle.std.proofs.lemmas.Nat.{shl_whole}
use Rattle.cookie_crypt.specs.BlockField.{product_below}
use Rattle.cookie_crypt.specs.Gcm.{bytes_of}
use Rattle.cookie_crypt.specs.Code.{row, rows}
use Rattle.cookie_crypt.proofs.Made.{are_made_more, are_made_all}
use Rattle.cookie_crypt.proofs.ProductLemmas.{field_product-nibble}
use Rattle.cookie_crypt.proofs.multiples.rows.Goals as goal

pub loop-j-preserved : goal.loop-j-preserved
loop-j-preserved c =
    are_made_more (row c.args.h) 16 c.loop-j.j c.loop-j.rows _
    (c.bytes_of.ensures
    ∙ ap bytes_of (c.product_below.ensures ∙ ap (λ y. product_below 4 y c.args.h) (shl_whole c.loop-j.j 4 124 128 (omega arith) (omega arith)) ∙ sym (field_product-nibble c.loop-j.j c.args.h)))
    (omega arith) c.loop-j.invariant

pub returns : goal.returns
unfolding rows
returns c = are_made_all (row c.args.h) 16 c.loop-j.j c.loop-j.rows (omega arith) c.loop-j.invariant
