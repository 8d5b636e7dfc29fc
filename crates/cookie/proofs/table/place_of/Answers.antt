use Rattle.std.proofs.Common.{sym}
use Rattle.std.proofs.lemmas.Iterator.Adapters.{position_from-zero}
use Rattle.std.specs.Map.{keys_of}
use Rattle.cookie.proofs.RowLemmas.{has_name}
use Rattle.cookie.proofs.table.place_of.Goals as goal

pub loop-i-init : goal.loop-i-init
loop-i-init g c = sym (position_from-zero (has_name c.args.name.now) (keys_of c.args.pairs.now))
