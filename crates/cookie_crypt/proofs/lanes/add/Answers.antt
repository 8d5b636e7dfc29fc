use Rattle.std.proofs.Common.{bit_xor, sym, ◌∙◌}
use Rattle.std.proofs.lemmas.Simd.{length-zip2}
use Rattle.cookie_crypt.proofs.LaneLemmas.{lanes_are_bytes}
use Rattle.cookie_crypt.proofs.ColumnLemmas.{bytes_zipped, number_of-xor}
use Rattle.cookie_crypt.proofs.lanes.add.Goals as goal

pub returns-clause-lanes : goal.returns-clause-lanes
returns-clause-lanes c = (
  length-zip2 bit_xor c.args.a c.args.b (c.fits-a.0 ∙ sym c.fits-b.0) ∙ c.fits-a.0,
  bytes_zipped c.args.a c.args.b (lanes_are_bytes c.args.a c.fits-a.1) (lanes_are_bytes c.args.b c.fits-b.1),
)

pub returns-clause-value : goal.returns-clause-value
returns-clause-value c =
    number_of-xor c.args.a c.args.b (lanes_are_bytes c.args.a c.fits-a.1) (lanes_are_bytes c.args.b c.fits-b.1) c.fits-a.0 c.fits-b.0
