use Rattle.std.proofs.Common.{◌≡◌, ◌++◌, drop, length, map}
use Rattle.std.specs.Result.{result_map_both}
use Rattle.cookie_session.specs.KeyText.{keys_in}
use Rattle.cookie_session.proofs.key_text.keys_of.Given as goal

-- the keys so far, and those of the texts that are left, are the keys of all texts
abbrev pub invariant-loop-text : goal.invariant-loop-text
invariant-loop-text l =
    result_map_both (λ keys. l.keys.items ++ keys) (λ why. why) (keys_in (length l.keys.items) (map (λ text. text.now) (drop l.text-index l.fn.texts)))
    ≡ keys_in 0 (map (λ text. text.now) l.fn.texts)
