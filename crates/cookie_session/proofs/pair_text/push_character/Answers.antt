use Rattle.std.proofs.Common.{◌≡◌, ◌≤◌, false, rules}
use Rattle.cookie_session.specs.Form.{is_mark}
use Rattle.cookie_session.proofs.MarkLemmas.{marked_character, past_ascii, unmarked_character}
use Rattle.cookie_session.proofs.pair_text.push_character.Goals as goal
use Rattle.cookie_session.proofs.pair_text.push_character.Goals.{else-is_ascii-via-then-is_ascii+else-is_mark, else-is_ascii-via-else-is_ascii}

pub returns-then-is_mark : goal.returns-then-is_mark
returns-then-is_mark c = search (rules, marked_character)

pub returns-else-is_ascii : goal.returns-else-is_ascii
returns-else-is_ascii c =
    let kept : is_mark c.args.character ≡ false = elim c.else-is_ascii.branch [
      | else-is_ascii-via-then-is_ascii+else-is_mark w ↦ search rules
      | else-is_ascii-via-else-is_ascii w ↦ let past : 128 ≤ c.args.character = search rules in past_ascii c.args.character past
    ] in
    search (rules, unmarked_character)
