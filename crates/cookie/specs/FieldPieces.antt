-- Mirrors private code: the cookies of a field, piece by piece.
use Rattle.std.specs.Prelude.{ℕ, true, List, [], if◌then◌else◌}
use Rattle.std.specs.Option.{option_to_list}
use Rattle.std.specs.Str.{trim}
use Rattle.cookie_core.specs.CookieOf.{cookie_of}
use Rattle.cookie_core.specs.Record.{Record}
use Rattle.cookie.specs.Originals.{is_readable}

-- the cookie of one piece of a field, none if the piece isn't readable
abbrev pub cookies_of_piece : List ℕ → List Record
cookies_of_piece piece =
    if is_readable piece then option_to_list (cookie_of true (trim piece)) else []
