use Rattle.std.proofs.Common.{◌++◌, true, false, map, string_bytes}
use Rattle.cookie.specs.Text.{cookie_text}
use Rattle.cookie_client.specs.Session.{set_cookie_lines}
use Rattle.cookie_c.specs.Jars.{HasLines}
use Rattle.cookie_c.proofs.jar.texts.lines.Given as goal

-- the lines so far, with those of the cookies that are left, are the delta's
abbrev pub invariant-loop-cookie : goal.invariant-loop-cookie
invariant-loop-cookie l = HasLines l.jar.delta (string_bytes l.text ++ set_cookie_lines (map (cookie_text true false) l.cookie-iterator))
