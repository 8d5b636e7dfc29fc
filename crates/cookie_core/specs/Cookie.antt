-- Mirrors private code: what a cookie's private fields stand for.
use Rattle.std.specs.Prelude.{option_map, option_and_then, IfSome, IsUtf8}
use Rattle.cookie_core.specs.Record.{CookieView, without_leading_dot}
use Rattle.cookie_core.specs.CookieStr.{source_bytes, text_bytes, raw_bytes, Fits}
use Rattle.cookie_core.specs.declared.cookie.Cookie.TheInside.{Inside}
use Rattle.jiff.specs.Words.{IsDurationNanos, signed_nanos}

-- the cookie as contracts see it
abbrev pub cookie_view : Inside → CookieView
cookie_view inside =
    record {
      fields = record {
        name = text_bytes (source_bytes inside.source) inside.name;
        value = text_bytes (source_bytes inside.source) inside.value;
        http_only = inside.http_only;
        secure = inside.secure;
        partitioned = inside.partitioned;
        same_site = inside.same_site;
        path = option_map (text_bytes (source_bytes inside.source)) inside.path;
        domain = option_map without_leading_dot
            (option_map (text_bytes (source_bytes inside.source)) inside.domain);
        max_age = option_map signed_nanos inside.max_age;
        expires = inside.expires;
      };
      raw = record {
        name = raw_bytes inside.source inside.name;
        value = raw_bytes inside.source inside.value;
        path = option_and_then (raw_bytes inside.source) inside.path;
        domain = option_map without_leading_dot
            (option_and_then (raw_bytes inside.source) inside.domain);
      };
    }

-- the source is UTF-8, each text of the cookie fits it, and the age is one that a duration can have
pub record HasFittingTexts (inside : Inside) : Type 0 where
  pub source : IsUtf8 (source_bytes inside.source)
  pub name : Fits (source_bytes inside.source) inside.name
  pub value : Fits (source_bytes inside.source) inside.value
  pub path : IfSome inside.path (Fits (source_bytes inside.source))
  pub domain : IfSome inside.domain (Fits (source_bytes inside.source))
  pub max_age : IfSome inside.max_age (λ age. IsDurationNanos (signed_nanos age))
