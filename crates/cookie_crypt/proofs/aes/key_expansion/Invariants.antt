use Rattle.std.proofs.Common.{◌≡◌, ◌-◌, ◌*◌, length, take, get_or}
use Rattle.cookie_crypt.specs.Aes.{words}
use Rattle.cookie_crypt.proofs.Made.{IsMadeBelow}
use Rattle.cookie_crypt.proofs.aes.key_expansion.Given as goal

abbrev pub invariant-key : goal.invariant-key
invariant-key l = IsMadeBelow (λ k. get_or l.key k 0) 240 l.i l.words

abbrev pub invariant-words : goal.invariant-words
invariant-words l = record { places : length l.words ≡ 240; made : take (4 * l.i) l.words ≡ words l.key (l.i - 8) }
