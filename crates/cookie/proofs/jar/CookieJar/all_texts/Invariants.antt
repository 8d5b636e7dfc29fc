use Rattle.std.proofs.Common.{◌++◌, true, false, map, string_bytes}
use Rattle.cookie_core.specs.Text.{cookie_text}
use Rattle.cookie.specs.DeltaTexts.{AreDeltaTextsOnce}
use Rattle.cookie.proofs.jar.CookieJar.all_texts.Given as goal

-- the texts so far, with those of the cookies that are left, are the delta's
abbrev pub invariant-loop-cookie : goal.invariant-loop-cookie
invariant-loop-cookie l = AreDeltaTextsOnce l.self.delta (map string_bytes l.texts.items ++ map (cookie_text true false) l.cookie-iterator)
