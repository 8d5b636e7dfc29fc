-- Mirrors private code: parts of JSON lines, as the code writes and reads them.
use Rattle.std.specs.Prelude.{ℕ, ℤ, List, [], ◌∷◌, ◌++◌, codes, Option, Some, None, option_and_then, if◌then◌else◌}
use Rattle.serde_json.specs.Data.{Members, boolean, put, string}
use Rattle.serde_json.specs.Written.{compact_text}
use Rattle.cookie_browser.specs.Storage.{KeptView}
use Rattle.cookie_agent.specs.JsonLines.{Texts, cookie_data, enforcement_word, is_json_time, text_data, time_data, times_with}
use Rattle.cookie_agent.specs.Storable.{is_storable}
use Rattle.cookie_agent.specs.declared.saved.json_lines.Texts.{Texts as StoredTexts}
use Rattle.cookie_agent.specs.declared.saved.json_lines.Times.{Times}

-- the time, if the form can carry it
abbrev pub json_time : ℤ → Option ℤ
json_time time = if is_json_time time then Some time else None

-- the times of the cookie, if the form can carry it
abbrev pub carried_times : KeptView → Option Times
carried_times cookie =
    if is_storable cookie
    then times_with (option_and_then json_time cookie.expiry) (json_time cookie.last_access)
    else None

-- the cookie with this last access
abbrev pub timed : Times → KeptView → KeptView
timed times cookie = record cookie { last_access = times.last_access }

-- the line of the cookie with these times
abbrev pub line_at : Times → KeptView → List ℕ
line_at times cookie = compact_text (cookie_data (timed times cookie) times.expiry) ++ 10 ∷ []

-- the texts, as lists
abbrev pub texts_view : StoredTexts → Texts
texts_view texts =
    record {
      name = texts.name.items;
      value = texts.value.items;
      domain = texts.domain.items;
      path = texts.path.items;
    }

-- the members with the texts, the flags and the times of a cookie

abbrev pub with_texts : KeptView → Members → Members
with_texts cookie members =
    put (codes "path") (text_data cookie.path)
    (put (codes "domain") (text_data cookie.domain)
    (put (codes "value") (text_data cookie.value)
    (put (codes "name") (text_data cookie.name) members)))

abbrev pub with_flags : KeptView → Members → Members
with_flags cookie members =
    put (codes "same_site") (string (enforcement_word cookie.same_site))
    (put (codes "http_only") (boolean cookie.is_http_only)
    (put (codes "secure") (boolean cookie.is_secure_only)
    (put (codes "host_only") (boolean cookie.is_host_only) members)))

abbrev pub with_times : Times → Members → Members
with_times times members =
    put (codes "last_access") (time_data times.last_access)
    (put (codes "expiry") (time_data times.expiry) members)

-- the cookie with these times
abbrev pub dated : Times → KeptView → KeptView
dated times cookie =
    record cookie { expiry = Some times.expiry; last_access = times.last_access }
