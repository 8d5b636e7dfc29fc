-- The whole is a name if what is left can come after what was seen.
use Rattle.std.proofs.Common.{◌≡◌, true, drop}
use Rattle.cookie_agent.specs.Storable.{is_name_rest}
use Rattle.cookie_agent.proofs.saved.storable.is_host_name.Given as goal

abbrev pub invariant-loop-byte : goal.invariant-loop-byte
invariant-loop-byte l = is_name_rest true l.text ≡ is_name_rest l.is_label_due (drop l.byte-index l.text)
